use Rattle.game.proofs.Testing.{called_for_means, called_for_shown}
use Rattle.game.proofs.theorems.computed_called_for_is_called_for.Goals as goal

pub returns : goal.returns
returns c = λ start rows h. (called_for_means start rows h, called_for_shown start rows h)
