use Rattle.std.proofs.Common.{min, ap, ◌∙◌}
use Rattle.book.proofs.Scanning.{held_first}
use Rattle.book.proofs.held.held_of.Goals as goal

pub returns : goal.returns
returns c = held_first c.args.rows.now c.args.held c.min.result (c.min.ensures ∙ ap (min c.args.held) c.usable_rows.ensures)
