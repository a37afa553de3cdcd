use Rattle.game.proofs.Growing.{defended_refines}
use Rattle.game.proofs.Transitions.{refines_defends}
use Rattle.game.proofs.relation.any_refinement_gives_a_yes_or_no_one.Goals as goal

pub returns : goal.returns
returns g c = λ kinds station manual start f h.
    defended_refines kinds station manual start g.R.Relation.holds (refines_defends kinds station manual g.R.Relation.holds f) h
