use Rattle.std.proofs.Common.{◌≡◌, true}
use Rattle.game.proofs.Transitions.{defends_refines, refines_defends}
use Rattle.game.proofs.theorems.modal_refinement_is_refinement.Goals as goal

pub returns : goal.returns
returns c = λ kinds station manual R. (defends_refines kinds station manual (λ pos. R pos ≡ true), refines_defends kinds station manual (λ pos. R pos ≡ true))
