use Rattle.game.proofs.Deciding.{ascending_closed}
use Rattle.game.proofs.row_set.derivable_rows_ascend.Goals as goal

pub returns : goal.returns
returns c = λ kinds station manual start. c.derivable_rows_are_the_least_closed_set.ensures kinds station manual start (ascending_closed kinds station manual start)
