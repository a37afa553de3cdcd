use Rattle.game.proofs.Samples.{modes}
use Rattle.game.proofs.examples.modes_tell_who_may_play.Goals as goal

pub returns : goal.returns
returns c = modes
