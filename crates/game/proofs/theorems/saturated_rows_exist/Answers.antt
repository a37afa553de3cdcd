use Rattle.game.proofs.Growing.{saturated}
use Rattle.game.proofs.theorems.saturated_rows_exist.Goals as goal

pub returns : goal.returns
returns c = λ kinds station manual start. saturated kinds station manual start
