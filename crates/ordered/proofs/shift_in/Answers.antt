use Rattle.ordered.proofs.Shifts.{shifted}
use Rattle.ordered.proofs.shift_in.Goals as goal

pub returns : goal.returns
returns g c =
    shifted c.args.items.now c.args.at c.args.count c.args.x _ c.requires.0 c.requires.1 c.rotate_right.ensures.after
