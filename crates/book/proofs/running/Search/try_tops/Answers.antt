use Rattle.std.proofs.Common.{sym}
use Rattle.std.proofs.lemmas.Result.{err_from_is_err_and}
use Rattle.game.specs.Members.{row_of}
use Rattle.book.proofs.Underway.{steps_stuck, steps_then, steps_for}
use Rattle.book.proofs.Entering.{members_go_on, members_end}
use Rattle.book.proofs.running.Search.try_tops.Goals as goal

pub returns-in_err-try_top : goal.returns-in_err-try_top
returns-in_err-try_top g c =
    let p = err_from_is_err_and c.from_residual.result c.from_residual.ensures.1 in
    rw (p.1, p.2) (steps_stuck c.loop-m.invariant c.in_err-try_top.ensures)

pub loop-m-preserved : goal.loop-m-preserved
loop-m-preserved g c =
    steps_then c.loop-m.invariant c.in_ok-try_top.ensures
    (members_go_on _ _ _ _ _ c.args.done _ _ _ _ _ c.members-members.result.now c.loop-m.m-index c.top.result c.args.self.now.within c.requires c.loop-m-test.true c.top.ensures)

pub returns : goal.returns
returns g c =
    steps_for c.loop-m.invariant
    (members_end _ _ _ _ _ c.args.done _ _ _ (row_of c.args.row) c.members-members.result.now c.loop-m.m-index (sym c.members-members.ensures) c.loop-m-test.false)
