use Rattle.std.proofs.Common.{Ok}
use Rattle.profile.specs.Kinds.{event_kind}
use Rattle.book.specs.Trying.{side_tried}
use Rattle.book.specs.Underway.{Steps}
use Rattle.book.proofs.running.Search.try_side.Given as goal

abbrev pub invariant-loop-i : goal.invariant-loop-i
invariant-loop-i g l = Steps g.S.Profile.rules g.M.Profile.rules l.initial.self (λ s m h before. side_tried event_kind s m h before l.side l.i l.head) (Ok tt) l.self
