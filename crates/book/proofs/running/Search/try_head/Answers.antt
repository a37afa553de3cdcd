use Rattle.book.proofs.Underway.{steps_then}
use Rattle.book.proofs.Entering.{head_done}
use Rattle.book.proofs.running.Search.try_head.Goals as goal

pub returns : goal.returns
returns g c =
    steps_then c.in_ok-try_side.ensures c.try_side-2.ensures
    (head_done _ _ _ _ _ _ _ _ _ _ _ c.args.head)
