use Rattle.game.proofs.Deciding.{decide}
use Rattle.game.proofs.theorems.saturated_rows_decide.Goals as goal

pub returns : goal.returns
returns c = λ kinds station manual start rows all. decide kinds station manual start rows all
