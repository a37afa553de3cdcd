use Rattle.std.proofs.Common.{◌≡◌, ℕ, ◌<◌, false, get_or}
use Rattle.game.specs.declared.Member.{Member}
use Rattle.game.specs.Members.{top_of}
use Rattle.game.specs.Computed.{is_top}
use Rattle.book.proofs.held.tops_row.Given as goal

abbrev pub invariant-loop-m : goal.invariant-loop-m
invariant-loop-m l = (k : ℕ) (d : Member) → k < l.m-index → is_top l.head (top_of (get_or l.members k d)) ≡ false
