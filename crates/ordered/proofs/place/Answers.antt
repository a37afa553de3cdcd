use Rattle.std.proofs.Common.{◌≡◌, true, false, ◌∙◌, rules}
use Rattle.std.proofs.lemmas.Iterator.{YieldsList-from_slice, IsFirst-from_position}
use Rattle.ordered.specs.Laws.{by_key}
use Rattle.ordered.proofs.Scans.{found}
use Rattle.ordered.proofs.place.Goals as goal

pub returns : goal.returns
returns g c =
    let test = by_key g.T.Keyed.key g.T.Keyed.le in
    let x = c.args.x.now in
    c.unwrap_or.ensures ∙ found test x c.args.items.now c.position.result (IsFirst-from_position _ _ c.position.result (λ y. test x y ≡ true) (λ y. test x y ≡ false) c.position.ensures.ran (YieldsList-from_slice c.args.items.now c.iter.ensures.rest) (λ y q k. search rules) (λ y q k. search rules))
