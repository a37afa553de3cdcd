use Rattle.game.proofs.Defence.{wins_more}
use Rattle.game.proofs.theorems.more_rounds_do_no_harm.Goals as goal

pub returns : goal.returns
returns c = λ kinds station manual k n pos l w. wins_more kinds station manual k n pos l w
