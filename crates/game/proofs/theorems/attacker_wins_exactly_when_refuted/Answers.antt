use Rattle.game.proofs.Deciding.{wins_refuted, refuted_wins}
use Rattle.game.proofs.theorems.attacker_wins_exactly_when_refuted.Goals as goal

pub returns : goal.returns
returns c = λ kinds station manual start rows all. (wins_refuted kinds station manual start rows all, refuted_wins kinds station manual start rows all)
