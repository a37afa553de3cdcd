-- The guarantee over every list of calls, told by the calls' own contracts: between two turns stands a book over the rows that
-- are lent, and each turn is its call as the call's contract says.
use Rattle.std.specs.Prelude.{◌≡◌, ℕ, ◌≤◌, Bool, true, false, List, [], ◌∷◌, ◌++◌, map, length, take, drop, Ok, Option}
use Rattle.ordered.specs.Laws.{In}
use Rattle.profile.specs.declared.Kind.{Kind}
use Rattle.profile.specs.declared.Rule.{Rule}
use Rattle.game.specs.declared.Head.{Head}
use Rattle.game.specs.declared.Line.{Line}
use Rattle.game.specs.declared.Row.{Row as LentRow}
use Rattle.game.specs.Members.{AttackRow}
use Rattle.game.specs.Systems.{ExactlyWhen}
use Rattle.game.specs.Game.{AttackerWins}
use Rattle.game.specs.Rows.{starts, refuting, Derivable, Fit}
use Rattle.game.specs.Theorems.{Refines}
use Rattle.book.specs.declared.Refusal.TheVariants.{RowsDoNotFit}
use Rattle.book.specs.declared.state.Draft.{Draft}
use Rattle.book.specs.declared.run.Call.TheVariants as call
use Rattle.book.specs.declared.run.Answer.TheVariants as answer
use Rattle.book.specs.declared.run.Turn.{Turn}
use Rattle.book.specs.declared.run.Book.{Book}
use Rattle.book.specs.declared.run.Book.TheVariants as book
use Rattle.book.specs.Offers.{said, usable, held_rows, lines}
use Rattle.book.specs.Drafts.{empty_draft, draft_offer, rows_after, draft_after}
use Rattle.book.specs.Turns.{held_of, is_completed, Steps}
use Rattle.book.specs.Guarantee.{completed_by, held_after, completed_after, LeftOff, BookKept}

-- the rows that a book holds, of those that are lent
abbrev pub rows_held : Book → List LentRow → List LentRow
rows_held b lent = held_rows lent (held_of b)

-- the book that holds so many rows, completed or not
abbrev pub book_with : Head → Bool → ℕ → Book
book_with start false held = book.Draft (record { start = start; held = held })
book_with start true held = book.Completed (record { start = start; held = held })

-- The lent rows at the time when n of them were held: those are as at the end, and the others as at the beginning.
abbrev pub lent_at : List LentRow → List LentRow → ℕ → List LentRow
lent_at first last n = take n last ++ drop n first

module _ (kinds : ℕ → Option Kind) (station manual : List (Option Rule)) where
  -- Lines offered in order to a draft, each by its own call: every one is accepted, and this is the draft afterwards
  -- and these are the lent rows.
  abbrev pub AllAccepted : Draft → List LentRow → List Line → Draft → List LentRow → Type 0
  AllAccepted d was [] after is = (after ≡ d) × (is ≡ was)
  AllAccepted d was (l ∷ ls) after is =
      (row : AttackRow) × (draft_offer kinds station manual d was l ≡ Ok row) × AllAccepted (draft_after d (Ok row)) (rows_after d was l (Ok row)) ls after is

  -- The lines of rows, offered to a second new book in memory of its own: all are accepted, and it holds as many rows,
  -- in the same order, each alike in all that it carries.
  pub record SecondBook (start : Head) (rows other : List LentRow) : Type 0 where
    pub draft : Draft
    pub lent : List LentRow
    pub all_accepted : AllAccepted (empty_draft start) other (lines rows) draft lent
    pub as_many : draft.held ≡ length rows
    pub the_same_rows : held_rows lent draft.held ≡ rows

module _ (kinds : ℕ → Option Kind) (station manual : List (Option Rule)) (start : Head) (room : ℕ) where
  -- One turn, between the book and the lent rows before it and after it.
  pub record TurnByContract (before : Book) (was : List LentRow) (t : Turn) (after : Book) (is : List LentRow) : Type 0 where
    pub each_turn_is_its_call : Steps kinds station manual before was t.call is after t.answer
    pub counts_are_true : t.held ≡ length (rows_held after is)
    pub rows_only_grow : held_of before ≤ held_of after
    pub ask_tells_refuted_exactly_when_the_rows_held_do : is_completed before ≡ false → t.call ≡ call.Ask →
        ExactlyWhen (t.answer ≡ answer.Refuted) (In (refuting start) (said (rows_held before was))) ×
        ExactlyWhen (t.answer ≡ answer.Undecided) (In (refuting start) (said (rows_held before was)) → ⊥)
    pub refuted_means_attacker_wins : t.answer ≡ answer.Refuted → AttackerWins kinds station manual (starts start)
    pub completes_exactly_when_rows_fit : is_completed before ≡ false → t.call ≡ call.Search →
        ExactlyWhen (t.answer ≡ answer.Completed t.held) (Fit kinds station manual start room)
    pub holds_just_the_derivable_rows : (n : ℕ) → t.answer ≡ answer.Completed n →
        (row : AttackRow) → ExactlyWhen (In row (said (rows_held after is))) (Derivable kinds station manual start row)
    pub verdict_tells_refines_exactly_when_a_relation_holds_the_starts : is_completed before ≡ true → t.call ≡ call.Verdict →
        ExactlyWhen (t.answer ≡ answer.Refines) (Refines kinds station manual start)
    pub refused_search_leaves_different_derivable_rows : is_completed before ≡ false → t.call ≡ call.Search → t.answer ≡ answer.Refused RowsDoNotFit →
        LeftOff kinds station manual start room (rows_held before was) (rows_held after is)

  -- The turns one after the other, from the rows lent first to the same rows at last. Between two turns nobody sees the
  -- lent rows: they are told by those at the end, of which each turn's call leaves the held ones as they are.
  module _ (first last : List LentRow) where
    abbrev pub TurnsByContract : Bool → ℕ → List Turn → Type 0
    TurnsByContract completed held [] = Unit {0}
    TurnsByContract completed held (t ∷ ts) =
        TurnByContract (book_with start completed held) (lent_at first last held) t
        (book_with start (completed_by completed t.answer) t.held) (lent_at first last t.held) ×
        TurnsByContract (completed_by completed t.answer) t.held ts

  -- The guarantee: from a book that holds so many of the rows `was` to a book, over turns whose calls are those that were given.
  pub record GuaranteeByContract (completed : Bool) (held : ℕ) (given turns : List Turn) (was : List LentRow) (b : Book) (lent : List LentRow) : Type 0 where
    pub calls_are_those_given : map (λ (t : Turn). t.call) turns ≡ map (λ (t : Turn). t.call) given
    pub each_turn_kept : TurnsByContract was lent completed held turns
    pub the_book_is_as_the_last_turn_says : b ≡ book_with start (completed_after completed turns) (held_after held turns)
    pub rows_held_before_stay : (more : List LentRow) × (rows_held b lent ≡ held_rows was held ++ more)
    pub rows_past_the_held_are_as_they_were : drop (held_of b) lent ≡ drop (held_of b) was
    pub lines_replay : (other : List LentRow) → usable other ≡ room → SecondBook kinds station manual start (rows_held b lent) other
    pub book_kept : BookKept kinds station manual start room b lent
