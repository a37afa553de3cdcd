-- What a draft, and the rows lent to it, are before and after a call.
use Rattle.std.specs.Prelude.{◌≡◌, ℕ, ◌+◌, ◌≤◌, min, max, cond, List, length, drop, Ok, Err, Option, Result, nat_lt, slice_set}
use Rattle.profile.specs.declared.Kind.{Kind}
use Rattle.profile.specs.declared.Rule.{Rule}
use Rattle.game.specs.declared.Head.{Head}
use Rattle.game.specs.declared.Line.{Line}
use Rattle.game.specs.declared.Row.{Row}
use Rattle.game.specs.Members.{AttackRow}
use Rattle.book.specs.declared.Refusal.{Refusal}
use Rattle.book.specs.declared.Refusal.TheVariants.{RowsDoNotFit}
use Rattle.book.specs.declared.state.Draft.{Draft}
use Rattle.book.specs.declared.state.Completed.{Completed}
use Rattle.book.specs.Offers.{usable, held_rows, said, offer, written, says_refuted}
use Rattle.book.specs.Searches.{Settled, Stuck, Grown}
use Rattle.book.specs.declared.calls.Asked.{Asked}
use Rattle.book.specs.declared.calls.Asked.TheVariants as asked
use Rattle.book.specs.declared.calls.Verdict.{Verdict}
use Rattle.book.specs.declared.calls.Verdict.TheVariants as verdict

abbrev pub empty_draft : Head → Draft
empty_draft h = record { start = h; held = 0 }

-- a line offered to a draft
abbrev pub draft_offer : (ℕ → Option Kind) → List (Option Rule) → List (Option Rule) → Draft → List Row → Line → Result AttackRow Refusal
draft_offer kinds of_station of_manual d lent line =
    offer kinds of_station of_manual d.start (nat_lt d.held (usable lent)) (said (held_rows lent d.held)) line

-- what is told of it: the number of the row that is appended, or the refusal
abbrev pub told : Draft → Result AttackRow Refusal → Result ℕ Refusal
told d (Ok row) = Ok d.held
told d (Err why) = Err why

-- the rows and the draft after it: one row more, or all as it was
abbrev pub rows_after : Draft → List Row → Line → Result AttackRow Refusal → List Row
rows_after d lent line (Ok row) = slice_set lent d.held (written row line)
rows_after d lent line (Err why) = lent

abbrev pub draft_after : Draft → Result AttackRow Refusal → Draft
draft_after d (Ok row) = record { start = d.start; held = d.held + 1 }
draft_after d (Err why) = d

-- what a draft and a completed book answer: only a completed one says that the station refines
abbrev pub draft_answer : Draft → List Row → Asked
draft_answer d lent = cond (says_refuted d.start (said (held_rows lent d.held))) asked.Refuted asked.Undecided

abbrev pub verdict_of : Completed → List Row → Verdict
verdict_of d lent = cond (says_refuted d.start (said (held_rows lent d.held))) verdict.Refuted verdict.Refines

module _ (kinds : ℕ → Option Kind) (of_station of_manual : List (Option Rule)) (d : Draft) (was is : List Row) where
  -- What a search leaves, from the rows `was` to the rows `is`, however it ends: rows were appended to the held ones,
  -- each by its own line, and none past the last held one was touched. A number of held rows over those that are usable stays.
  pub record Searched (start : Head) (held : ℕ) : Type 0 where
    pub same_start : start ≡ d.start
    pub grown : Grown kinds of_station of_manual d.start (usable was) (held_rows was d.held) (held_rows is held)
    pub forth : d.held ≤ held
    pub within : held ≤ max d.held (usable was)
    pub long : length is ≡ length was
    pub kept : drop (min held (usable was)) is ≡ drop (min held (usable was)) was

  -- completed: nothing is missing
  pub record Completes (c : Completed) : Type 0 where
    pub left : Searched c.start c.held
    pub settled : Settled kinds of_station of_manual d.start (usable was) (held_rows is c.held)

  -- left off: something is missing that cannot be appended
  pub record LeavesOff (after : Draft) (why : Refusal) : Type 0 where
    pub left : Searched after.start after.held
    pub refusal : why ≡ RowsDoNotFit
    pub stuck : Stuck kinds of_station of_manual d.start (usable was) (held_rows is after.held)

  abbrev pub SearchEnds : Result Completed (Draft × Refusal) → Type 0
  SearchEnds (Ok c) = Completes c
  SearchEnds (Err e) = LeavesOff e.0 e.1
