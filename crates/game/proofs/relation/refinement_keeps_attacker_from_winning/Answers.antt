use Rattle.game.proofs.Defence.{never_wins}
use Rattle.game.proofs.Transitions.{refines_defends}
use Rattle.game.proofs.relation.refinement_keeps_attacker_from_winning.Goals as goal

pub returns : goal.returns
returns g c = λ kinds station manual f pos h w.
    never_wins kinds station manual g.R.Relation.holds (refines_defends kinds station manual g.R.Relation.holds f) w.0 pos h w.1
