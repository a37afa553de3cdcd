use Rattle.game.proofs.Deciding.{not_refuted_refines, refuted_wins, refinement_or_win}
use Rattle.game.proofs.theorems.refines_exactly_when_not_refuted.Goals as goal

pub returns : goal.returns
returns c = λ kinds station manual start rows all.
    ((λ f k. refinement_or_win kinds station manual start f (refuted_wins kinds station manual start rows all k)), not_refuted_refines kinds station manual start rows all)
