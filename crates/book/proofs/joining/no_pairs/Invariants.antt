use Rattle.std.proofs.Common.{◌≡◌, ℕ, ◌<◌, true, get_or}
use Rattle.game.specs.declared.Member.{Member}
use Rattle.game.specs.Computed.{is_zero}
use Rattle.book.proofs.joining.no_pairs.Given as goal

abbrev pub invariant-loop-m : goal.invariant-loop-m
invariant-loop-m l = (k : ℕ) (d : Member) → k < l.m-index → is_zero (get_or l.members k d).symbols ≡ true
