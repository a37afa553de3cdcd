use Rattle.std.proofs.Common.{◌+◌, ◌<◌, get_or, refl, arith}
use Rattle.profile.specs.Kinds.{event_kind}
use Rattle.book.specs.Blank.{blank_row}
use Rattle.book.specs.Trying.{pairs_tried, all_tried}
use Rattle.book.specs.Underway.{Aim}
use Rattle.book.proofs.Underway.{steps_then, steps_stuck}
use Rattle.book.proofs.Closing.{RowNext, pairs_go_on, tops_done, row_done, all_done}
use Rattle.book.proofs.running.Search.close.Goals as goal
use Rattle.book.proofs.running.Search.close.Goals.{else-loop-j-test, then-loop-j-test+in_default-try_pair+else-j-k}

all : Aim
all s m h before = all_tried event_kind s m h

pub loop-j-preserved : goal.loop-j-preserved
loop-j-preserved g c =
    steps_then c.loop-j.invariant c.in_default-try_pair.ensures
    (pairs_go_on _ _ _ _ _ _ _ _ _ _ c.loop-k.k c.loop-j.j)

pub loop-k-preserved : goal.loop-k-preserved
loop-k-preserved g c =
    let forth = c.in_default.ensures.stepped.went.forth in
    let below : c.loop-k.k < c.try_tops.new.self.held = omega arith in
    let tops = steps_then {aim = λ s m h before. RowNext event_kind s m h c.loop-k.k} c.loop-k.invariant c.in_default.ensures
    (tops_done _ _ _ _ _ _ _ _ _ _ c.loop-k.k (get_or c.loop-k.self.rows.now c.loop-k.k blank_row) blank_row refl c.loop-k-test.true) in
    let aim : Aim = (λ s m h before. pairs_tried event_kind s m h before c.loop-k.k (c.loop-j.j + 1)) in
    elim c.loop-j-test.branch [
      | else-loop-j-test w ↦ rw w.self-is (steps_then tops c.loop-j.invariant
          (row_done _ _ _ _ _ _ _ _ _ _ c.loop-k.k c.loop-j.j below (omega arith)))
      | then-loop-j-test+in_default-try_pair+else-j-k w ↦
          (let more = steps_then {aim = aim} c.loop-j.invariant w.in_default-try_pair.ensures (pairs_go_on _ _ _ _ _ _ _ _ _ _ c.loop-k.k c.loop-j.j) in
          rw w.self-is (steps_then tops more
          (row_done _ _ _ _ _ _ _ _ _ _ c.loop-k.k (c.loop-j.j + 1) below (omega arith))))
    ]

pub returns-in-Err : goal.returns-in-Err
returns-in-Err g c = steps_stuck c.in_ok-try_head.ensures (steps_stuck {aim = all} c.loop-k.invariant c.in-Err.ensures)

pub returns-in-Err-try_pair : goal.returns-in-Err-try_pair
returns-in-Err-try_pair g c =
    steps_stuck c.in_ok-try_head.ensures
    (steps_stuck {aim = all} c.loop-k.invariant (steps_stuck {aim = all} c.in_default.ensures (steps_stuck {aim = all} c.loop-j.invariant c.in-Err-try_pair.ensures)))

pub returns-after-loop-k : goal.returns-after-loop-k
returns-after-loop-k g c =
    steps_then c.in_ok-try_head.ensures c.loop-k.invariant
    (all_done _ _ _ _ _ _ _ _ _ _ c.loop-k.k c.loop-k-test.false)
