use Rattle.game.proofs.Sound.{refuting_wins}
use Rattle.game.proofs.theorems.refuted_means_attacker_wins.Goals as goal

pub returns : goal.returns
returns c = λ kinds station manual start d. refuting_wins kinds station manual start d
