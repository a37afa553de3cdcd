use Rattle.game.proofs.Testing.{computed_joins, join_computed}
use Rattle.game.proofs.theorems.computed_joins_are_the_joins.Goals as goal

pub returns : goal.returns
returns c = λ i j k. (computed_joins i j k, join_computed i j k)
