use Rattle.game.proofs.Samples.{pushes}
use Rattle.game.proofs.examples.kinds_tell_what_is_pushed.Goals as goal

pub returns : goal.returns
returns c = pushes
