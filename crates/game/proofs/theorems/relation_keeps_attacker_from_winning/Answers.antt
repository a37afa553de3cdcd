use Rattle.std.proofs.Common.{◌≡◌, true}
use Rattle.game.proofs.Defence.{never_wins}
use Rattle.game.proofs.theorems.relation_keeps_attacker_from_winning.Goals as goal

pub returns : goal.returns
returns c = λ kinds station manual R f pos h w. never_wins kinds station manual (λ pos. R pos ≡ true) f w.0 pos h w.1
