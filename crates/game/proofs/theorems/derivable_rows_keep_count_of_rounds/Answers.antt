use Rattle.game.proofs.Sound.{means_within}
use Rattle.game.proofs.theorems.derivable_rows_keep_count_of_rounds.Goals as goal

pub returns : goal.returns
returns c = λ kinds station manual start row d. means_within kinds station manual start d
