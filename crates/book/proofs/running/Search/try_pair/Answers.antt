use Rattle.book.proofs.Underway.{steps_then}
use Rattle.book.proofs.Closing.{pair_done}
use Rattle.book.proofs.running.Search.try_pair.Goals as goal

pub returns-else-k-j : goal.returns-else-k-j
returns-else-k-j g c =
    steps_then c.in_ok-try_line.ensures c.try_line-else-k-j.ensures
    (pair_done _ _ _ _ _ _ _ _ _ _ _ c.args.k c.args.j c.args.self.now.within)
