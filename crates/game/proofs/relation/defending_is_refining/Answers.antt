use Rattle.game.proofs.Transitions.{defends_refines, refines_defends}
use Rattle.game.proofs.relation.defending_is_refining.Goals as goal

pub returns : goal.returns
returns g c = λ kinds station manual. (defends_refines kinds station manual g.R.Relation.holds, refines_defends kinds station manual g.R.Relation.holds)
