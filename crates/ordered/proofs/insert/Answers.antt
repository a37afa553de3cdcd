use Rattle.std.proofs.Common.{drop, ◌++◌, ◌+◌, rules, ap, ◌∙◌}
use Rattle.ordered.specs.Laws.{by_key}
use Rattle.ordered.proofs.Orders.{admitted, lawful_insertion}
use Rattle.ordered.proofs.insert.Goals as goal

pub returns-in_err-at-clause-lawful : goal.returns-in_err-at-clause-lawful
returns-in_err-at-clause-lawful g c =
    let law = g.met.T.Keyed in
    lawful_insertion g.T.Keyed.key g.T.Keyed.le law.reflexive law.antisymmetric law.transitive law.total c.args.x c.args.items.now c.args.items.now c.args.count c.from_residual.result (search rules) (search rules)

pub shift_in-requires : goal.shift_in-requires
shift_in-requires g c =
    let a = admitted (by_key g.T.Keyed.key g.T.Keyed.le) c.args.x c.args.items.now c.args.count c.in_ok-at.at c.in_ok-at.ensures in
    (a.0, a.1)

pub returns : goal.returns
returns g c =
    let law = g.met.T.Keyed in
    let a = admitted (by_key g.T.Keyed.key g.T.Keyed.le) c.args.x c.args.items.now c.args.count c.in_ok-at.at c.in_ok-at.ensures in
    let after = c.shift_in.ensures ∙ ap (λ l. l ++ drop (c.args.count + 1) c.args.items.now) a.2 in
    record {
      answer = c.in_ok-at.ensures;
      after = after;
      lawful = lawful_insertion g.T.Keyed.key g.T.Keyed.le law.reflexive law.antisymmetric law.transitive law.total c.args.x c.args.items.now _ c.args.count _ c.in_ok-at.ensures after;
    }
