use Rattle.game.proofs.Deciding.{join_members, join_ascends}
use Rattle.game.proofs.theorems.members_of_a_join_are_both_rows.Goals as goal

pub returns : goal.returns
returns c = λ i j k t. (join_members i j k t, join_ascends i j k t)
