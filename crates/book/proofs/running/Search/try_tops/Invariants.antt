use Rattle.std.proofs.Common.{take, Ok}
use Rattle.profile.specs.Kinds.{event_kind}
use Rattle.book.specs.Trying.{members_tried}
use Rattle.book.specs.Underway.{Steps}
use Rattle.book.proofs.running.Search.try_tops.Given as goal

abbrev pub invariant-loop-m : goal.invariant-loop-m
invariant-loop-m g l = Steps g.S.Profile.rules g.M.Profile.rules l.initial.self (λ s m h before. members_tried event_kind s m h before l.done l.members (take l.m-index l.members)) (Ok tt) l.self
