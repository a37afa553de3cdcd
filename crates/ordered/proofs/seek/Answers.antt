use Rattle.std.proofs.Common.{rules}
use Rattle.ordered.specs.Laws.{by_key}
use Rattle.ordered.proofs.Scans.{told_double, told_new}
use Rattle.ordered.proofs.seek.Goals as goal

pub returns-then-is_some_and : goal.returns-then-is_some_and
returns-then-is_some_and g c =
    told_double (by_key g.T.Keyed.key g.T.Keyed.le) c.args.x.now c.args.items.now c.place-at.result c.get.result c.is_some_and.result c.place-at.ensures c.get.ensures.lookup (search rules) c.if-is_some_and.true

pub returns-else-is_some_and : goal.returns-else-is_some_and
returns-else-is_some_and g c =
    told_new (by_key g.T.Keyed.key g.T.Keyed.le) c.args.x.now c.args.items.now c.place-at.result c.get.result c.is_some_and.result c.place-at.ensures c.get.ensures.lookup (search rules) c.if-is_some_and.false
