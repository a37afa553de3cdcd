-- The guarantee over every list of calls.
use Rattle.std.specs.Prelude.{◌≡◌, ℕ, ◌≤◌, Bool, true, false, cond, ◌⊎◌, List, [], ◌∷◌, ◌++◌, map, length, take, drop, Ok, Err, Option, Result, nat_lt}
use Rattle.ordered.specs.Laws.{In}
use Rattle.profile.specs.declared.Kind.{Kind}
use Rattle.profile.specs.declared.Rule.{Rule}
use Rattle.game.specs.declared.Head.{Head}
use Rattle.game.specs.declared.Line.{Line}
use Rattle.game.specs.declared.Line.TheVariants.{Enter as EnterLine, Join as JoinLine}
use Rattle.game.specs.declared.Row.{Row as LentRow}
use Rattle.game.specs.Members.{AttackRow}
use Rattle.game.specs.Systems.{ExactlyWhen}
use Rattle.game.specs.Game.{AttackerWins}
use Rattle.game.specs.Rows.{starts, refuting, Derivable, Fit}
use Rattle.game.specs.Theorems.{Refines, Different}
use Rattle.book.specs.declared.Refusal.{Refusal}
use Rattle.book.specs.declared.Refusal.TheVariants.{RowsDoNotFit, TooManyMembers}
use Rattle.book.specs.declared.run.Call.{Call}
use Rattle.book.specs.declared.run.Call.TheVariants as call
use Rattle.book.specs.declared.run.Answer.{Answer}
use Rattle.book.specs.declared.run.Answer.TheVariants as answer
use Rattle.book.specs.declared.run.Turn.{Turn}
use Rattle.book.specs.declared.run.Book.{Book}
use Rattle.book.specs.Offers.{said, usable, held_rows, offer, written, Built, says_refuted}
use Rattle.book.specs.Searches.{Settled, Stuck, Grown}
use Rattle.book.specs.Turns.{held_of, start_of, is_completed}

-- whether the book is completed after an answer
abbrev pub completed_by : Bool → Answer → Bool
completed_by completed (answer.Row n) = completed
completed_by completed (answer.Refused why) = completed
completed_by completed (answer.Completed n) = true
completed_by completed answer.Refuted = completed
completed_by completed answer.Undecided = completed
completed_by completed answer.Refines = completed
completed_by completed answer.NotOffered = completed

-- how many rows are held, and whether the book is completed, after all of them
abbrev pub held_after : ℕ → List Turn → ℕ
held_after held [] = held
held_after held (t ∷ ts) = held_after t.held ts

abbrev pub completed_after : Bool → List Turn → Bool
completed_after completed [] = completed
completed_after completed (t ∷ ts) = completed_after (completed_by completed t.answer) ts

module _ (kinds : ℕ → Option Kind) (station manual : List (Option Rule)) (start : Head) (room : ℕ) where
  -- an offered line: one row more, and its number is told; or a refusal, and the rows are as before
  abbrev pub LineComesTo : Line → Result AttackRow Refusal → List LentRow → List LentRow → Answer → Type 0
  LineComesTo line (Ok row) before after reply = (reply ≡ answer.Row (length before)) × (after ≡ before ++ written row line ∷ [])
  LineComesTo line (Err why) before after reply = (reply ≡ answer.Refused why) × (after ≡ before)

  -- a search: rows were appended, each by its own line, and nothing is missing; or something is that cannot be appended
  pub record SearchComesTo (before after : List LentRow) (reply : Answer) : Type 0 where
    pub grown : Grown kinds station manual start room before after
    pub ended : ((reply ≡ answer.Completed (length after)) × Settled kinds station manual start room after) ⊎
        ((reply ≡ answer.Refused RowsDoNotFit) × Stuck kinds station manual start room after)

  -- an answer that leaves the rows as they are
  abbrev pub Told : Answer → List LentRow → List LentRow → Answer → Type 0
  Told says before after reply = (reply ≡ says) × (after ≡ before)

  -- What a call on a draft, and on a completed book, comes to: the rows held before it and after it, and the answer.
  abbrev pub DraftCall : Call → List LentRow → List LentRow → Answer → Type 0
  DraftCall (call.Enter side slot state symbol) before after reply =
      LineComesTo (EnterLine side slot state symbol) (offer kinds station manual start (nat_lt (length before) room) (said before) (EnterLine side slot state symbol)) before after reply
  DraftCall (call.Join i j) before after reply =
      LineComesTo (JoinLine i j) (offer kinds station manual start (nat_lt (length before) room) (said before) (JoinLine i j)) before after reply
  DraftCall call.Search before after reply = SearchComesTo before after reply
  DraftCall call.Ask before after reply = Told (cond (says_refuted start (said before)) answer.Refuted answer.Undecided) before after reply
  DraftCall call.Verdict before after reply = Told answer.NotOffered before after reply

  abbrev pub CompletedCall : Call → List LentRow → List LentRow → Answer → Type 0
  CompletedCall (call.Enter side slot state symbol) before after reply = Told answer.NotOffered before after reply
  CompletedCall (call.Join i j) before after reply = Told answer.NotOffered before after reply
  CompletedCall call.Search before after reply = Told answer.NotOffered before after reply
  CompletedCall call.Ask before after reply = Told answer.NotOffered before after reply
  CompletedCall call.Verdict before after reply = Told (cond (says_refuted start (said before)) answer.Refuted answer.Refines) before after reply

  abbrev pub ComesTo : Bool → Call → List LentRow → List LentRow → Answer → Type 0
  ComesTo false c before after reply = DraftCall c before after reply
  ComesTo true c before after reply = CompletedCall c before after reply

  -- What is left where a search was refused: derivable rows that all differ, and every usable row is taken, or a row too wide is one line away.
  pub record LeftOff (before after : List LentRow) : Type 0 where
    pub derivable : (row : AttackRow) → In row (said after) → Derivable kinds station manual start row
    pub different : Different (said after)
    pub prefix : (more : List LentRow) × (after ≡ before ++ more)
    pub missing : (length after ≡ room) ⊎ ((line : Line) × (offer kinds station manual start (nat_lt (length after) room) (said after) line ≡ Err TooManyMembers))

  -- One turn, between the rows held before it and after it; `completed` says whether the book was completed before it.
  pub record TurnKept (completed : Bool) (before after : List LentRow) (t : Turn) : Type 0 where
    pub each_turn_is_its_call : ComesTo completed t.call before after t.answer
    pub counts_are_true : t.held ≡ length after
    pub told_rightly : completed ≡ false → t.call ≡ call.Ask →
        ExactlyWhen (t.answer ≡ answer.Refuted) (In (refuting start) (said after)) × ExactlyWhen (t.answer ≡ answer.Undecided) (In (refuting start) (said after) → ⊥)
    pub refuted_means_attacker_wins : t.answer ≡ answer.Refuted → AttackerWins kinds station manual (starts start)
    pub completes_exactly_when_rows_fit : completed ≡ false → t.call ≡ call.Search → ExactlyWhen (t.answer ≡ answer.Completed t.held) (Fit kinds station manual start room)
    pub holds_just_the_derivable_rows : (n : ℕ) → t.answer ≡ answer.Completed n → (row : AttackRow) → ExactlyWhen (In row (said after)) (Derivable kinds station manual start row)
    pub refines_exactly_when : completed ≡ true → t.call ≡ call.Verdict → ExactlyWhen (t.answer ≡ answer.Refines) (Refines kinds station manual start)
    pub refused_search_leaves : completed ≡ false → t.call ≡ call.Search → t.answer ≡ answer.Refused RowsDoNotFit → LeftOff before after

  -- The turns one after the other. The rows held after a turn are the first of those held at the end.
  module _ (rows : List LentRow) where
    abbrev pub TurnsKept : Bool → ℕ → List Turn → Type 0
    TurnsKept completed held [] = Unit {0}
    TurnsKept completed held (t ∷ ts) =
        TurnKept completed (take held rows) (take t.held rows) t × TurnsKept (completed_by completed t.answer) t.held ts

  -- A book whose rows its own lines make again, and from which nothing is missing if it is completed.
  pub record BookKept (book : Book) (lent : List LentRow) : Type 0 where
    pub same_start : start_of book ≡ start
    pub as_many_usable : usable lent ≡ room
    pub within : held_of book ≤ room
    pub lines_replay : Built kinds station manual start room (held_rows lent (held_of book))
    pub nothing_missing : is_completed book ≡ true → Settled kinds station manual start room (held_rows lent (held_of book))

  -- The guarantee: from a book that holds so many of the rows `was` to a book, over turns whose calls are those that were given.
  pub record Guarantee (completed : Bool) (held : ℕ) (given turns : List Turn) (was : List LentRow) (book : Book) (lent : List LentRow) : Type 0 where
    pub calls_are_those_given : map (λ (t : Turn). t.call) turns ≡ map (λ (t : Turn). t.call) given
    pub each_turn_kept : TurnsKept (held_rows lent (held_of book)) completed held turns
    pub rows_only_grow : held ≤ held_of book
    pub rows_held_before_stay : (more : List LentRow) × (held_rows lent (held_of book) ≡ held_rows was held ++ more)
    pub rows_past_the_held_are_as_they_were : drop (held_of book) lent ≡ drop (held_of book) was
    pub ends_with_the_last : (held_of book ≡ held_after held turns) × (is_completed book ≡ completed_after completed turns)
    pub book_kept : BookKept book lent
