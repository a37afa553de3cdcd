use Rattle.game.proofs.Deciding.{derivable_least}
use Rattle.game.proofs.row_set.derivable_rows_are_the_least_closed_set.Goals as goal

pub returns : goal.returns
returns g c = λ kinds station manual start closed. derivable_least kinds station manual start g.S.RowSet.has closed
