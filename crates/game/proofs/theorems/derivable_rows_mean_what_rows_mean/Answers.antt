use Rattle.game.proofs.Sound.{means}
use Rattle.game.proofs.theorems.derivable_rows_mean_what_rows_mean.Goals as goal

pub returns : goal.returns
returns c = λ kinds station manual start row d. means kinds station manual start row d
