use Rattle.game.proofs.Counting.{pigeonhole}
use Rattle.game.proofs.theorems.different_rows_are_no_more_than_the_list.Goals as goal

pub returns : goal.returns
returns c = pigeonhole
