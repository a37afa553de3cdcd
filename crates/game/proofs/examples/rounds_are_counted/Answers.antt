use Rattle.game.proofs.Samples.{counted}
use Rattle.game.proofs.examples.rounds_are_counted.Goals as goal

pub returns : goal.returns
returns c = counted
