use Rattle.ordered.specs.Laws.{In}
use Rattle.game.proofs.Deciding.{derivable_closed, derivable_least}
use Rattle.game.proofs.theorems.closed_lists_hold_every_derivable_row.Goals as goal

pub returns : goal.returns
returns c = λ kinds station manual start. (derivable_closed kinds station manual start, λ rows. derivable_least kinds station manual start (λ row. In row rows))
