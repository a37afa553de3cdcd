use Rattle.std.proofs.lemmas.Result.{err_from_is_err_and}
use Rattle.book.proofs.Underway.{steps_stuck, steps_then}
use Rattle.book.proofs.Entering.{side_goes_on}
use Rattle.book.proofs.running.Search.try_side.Goals as goal

pub returns-in_err-try_slot : goal.returns-in_err-try_slot
returns-in_err-try_slot g c =
    let p = err_from_is_err_and c.from_residual.result c.from_residual.ensures.1 in
    rw (p.1, p.2) (steps_stuck c.loop-i.invariant c.in_err-try_slot.ensures)

pub loop-i-preserved : goal.loop-i-preserved
loop-i-preserved g c =
    steps_then c.loop-i.invariant c.in_ok-try_slot.ensures
    (side_goes_on _ _ _ _ _ _ _ _ _ _ c.args.side c.loop-i.i c.args.head)
