-- What a search comes to. The order in which it appends rows is open; this is true of every one, on any rows.
use Rattle.std.specs.Prelude.{◌≡◌, ℕ, ◌⊎◌, List, ◌++◌, length, Ok, Err, Option, Result, nat_lt}
use Rattle.profile.specs.declared.Kind.{Kind}
use Rattle.profile.specs.declared.Rule.{Rule}
use Rattle.game.specs.declared.Head.{Head}
use Rattle.game.specs.declared.Line.{Line}
use Rattle.game.specs.declared.Row.{Row}
use Rattle.game.specs.Members.{AttackRow}
use Rattle.book.specs.declared.Refusal.{Refusal}
use Rattle.book.specs.declared.Refusal.TheVariants.{NoSuchAttack, HeadNotCalledFor, TooManyMembers, RowAlreadyHeld, NoRowFree, RowNotHeld, RowsDoNotJoin, RowsDoNotFit}
use Rattle.book.specs.Offers.{said, offer, replay, lines}

-- an answer by which a line adds nothing, now or with more rows free
abbrev pub Idle : Result AttackRow Refusal → Type 0
Idle (Ok row) = ⊥
Idle (Err NoSuchAttack) = Unit {0}
Idle (Err HeadNotCalledFor) = Unit {0}
Idle (Err TooManyMembers) = ⊥
Idle (Err RowAlreadyHeld) = Unit {0}
Idle (Err NoRowFree) = ⊥
Idle (Err RowNotHeld) = Unit {0}
Idle (Err RowsDoNotJoin) = Unit {0}
Idle (Err RowsDoNotFit) = ⊥

module _ (kinds : ℕ → Option Kind) (station manual : List (Option Rule)) (start : Head) (room : ℕ) where
  -- nothing is missing: whatever line is offered, it adds nothing
  abbrev pub Settled : List Row → Type 0
  Settled rows = (line : Line) → Idle (offer kinds station manual start (nat_lt (length rows) room) (said rows) line)

  -- something is missing that cannot be added: some line makes a row that is too wide, or that finds no row free
  abbrev pub Stuck : List Row → Type 0
  Stuck rows =
      (line : Line) × ((offer kinds station manual start (nat_lt (length rows) room) (said rows) line ≡ Err TooManyMembers) ⊎
      (offer kinds station manual start (nat_lt (length rows) room) (said rows) line ≡ Err NoRowFree))

  -- rows that were appended one by one, each by its own line
  abbrev pub Grown : List Row → List Row → Type 0
  Grown before after = (new : List Row) × (after ≡ before ++ new) × (replay kinds station manual start room (lines new) before ≡ Ok after)
