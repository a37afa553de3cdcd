use Rattle.std.proofs.Common.{◌-◌, Ok}
use Rattle.profile.specs.Kinds.{event_kind}
use Rattle.book.specs.Offers.{usable}
use Rattle.book.specs.Trying.{pairs_tried}
use Rattle.book.specs.Underway.{Steps}
use Rattle.book.proofs.Closing.{done_to}
use Rattle.book.proofs.running.Search.close.Given as goal

abbrev pub invariant-loop-j : goal.invariant-loop-j
invariant-loop-j g l = Steps g.S.Profile.rules g.M.Profile.rules l.initial.self (λ s m h before. pairs_tried event_kind s m h before l.k l.j) (Ok tt) l.self

abbrev pub invariant-loop-k : goal.invariant-loop-k
invariant-loop-k g l = Steps g.S.Profile.rules g.M.Profile.rules l.initial.self (λ s m h before. done_to event_kind s m h l.k) (Ok tt) l.self

abbrev pub decreases-loop-k : goal.decreases-loop-k
decreases-loop-k g l = usable l.initial.self.rows.now - l.k
