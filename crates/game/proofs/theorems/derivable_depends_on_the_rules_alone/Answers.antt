use Rattle.game.proofs.Slots.{derivable_there, turned}
use Rattle.game.proofs.theorems.derivable_depends_on_the_rules_alone.Goals as goal

pub returns : goal.returns
returns c = λ kinds station station' manual manual' start ss ms row. (
  derivable_there kinds station station' manual manual' start ss ms row,
  derivable_there kinds station' station manual' manual start (turned station station' ss) (turned manual manual' ms) row,
)
