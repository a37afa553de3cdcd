-- Writing into bytes that a caller lends.
use Rattle.std.specs.Prelude.{◌≡◌, ℕ, ◌+◌, ◌≤◌, cond, List, ◌++◌, length, take, drop, Ok, Err, Result, nat_le}
use Rattle.text.specs.declared.write.TooFewBytes.{TooFewBytes}
use Rattle.text.specs.declared.write.Lent.{Lent}

-- `bs` was put where the next byte goes: written there if it fits, and counted in any case
pub record Puts (was : Lent) (bs : List ℕ) (is : Lent) : Type 0 where
  pub same : is.out.ghost_name ≡ was.out.ghost_name
  pub laid : was.at + length bs ≤ length was.out.now → is.out.now ≡ take was.at was.out.now ++ bs ++ drop (was.at + length bs) was.out.now
  pub ends : is.at ≡ was.at + length bs

-- A whole text is written, and its length told; where fewer bytes are lent than it needs, that is refused.
abbrev pub write_answer : List ℕ → List ℕ → Result ℕ TooFewBytes
write_answer bs lent = cond (nat_le (length bs) (length lent)) (Ok (length bs)) (Err (record {}))

-- the lent bytes afterwards: the text and, past it, what was there; all as it was after a refusal
abbrev pub write_after : List ℕ → List ℕ → List ℕ
write_after bs lent = cond (nat_le (length bs) (length lent)) (bs ++ drop (length bs) lent) lent

-- the number of that refusal
abbrev pub too_few_bytes : ℕ
too_few_bytes = 18
