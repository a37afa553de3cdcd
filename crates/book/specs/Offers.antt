-- What an offered line comes to: the row that it makes, or a refusal.
use Rattle.std.specs.Prelude.{◌≡◌, ℕ, zero, suc, ◌-◌, min, Bool, true, false, cond, ◌&&◌, List, [], ◌∷◌, ◌++◌, map, length, take, replicate, Some, None, Ok, Err, Option, Result, nat_le, nat_lt, slice_index_or}
use Rattle.profile.specs.declared.Kind.{Kind}
use Rattle.profile.specs.declared.Rule.{Rule}
use Rattle.game.specs.declared.Head.{Head}
use Rattle.game.specs.declared.Member.{Member}
use Rattle.game.specs.declared.Pairs.TheVariants.{Zero}
use Rattle.game.specs.declared.Line.{Line}
use Rattle.game.specs.declared.Line.TheVariants.{Enter, Join}
use Rattle.game.specs.declared.Row.{Row}
use Rattle.game.specs.Members.{AttackRow, row_of, member_le}
use Rattle.game.specs.Game.{Side, by_station, by_manual, side_of, is_must}
use Rattle.game.specs.Rows.{entered}
use Rattle.game.specs.Computed.{any_of, head_eq, called_for, joined}
use Rattle.book.specs.declared.Refusal.{Refusal}
use Rattle.book.specs.declared.Refusal.TheVariants.{NoSuchAttack, HeadNotCalledFor, TooManyMembers, RowAlreadyHeld, NoRowFree, RowNotHeld, RowsDoNotJoin}

-- what comes next, unless there is a refusal
abbrev pub and_then : {T U E : Type 0} → Result T E → (T → Result U E) → Result U E
and_then (Ok x) f = f x
and_then (Err e) f = Err e

-- Of the rows that are lent the first 1,024 are usable, and of those the first `held` are held.
abbrev pub usable : List Row → ℕ
usable lent = min 1024 (length lent)

abbrev pub held_rows : List Row → ℕ → List Row
held_rows lent held = take held (take 1024 lent)

-- what rows in memory say, whatever lines made them
abbrev pub said : List Row → List AttackRow
said = map row_of

-- the row with a number, if there is one
abbrev pub row_at : List AttackRow → ℕ → Option AttackRow
row_at [] i = None
row_at (r ∷ rs) zero = Some r
row_at (r ∷ rs) (suc i) = row_at rs i

-- an attack that an enter speaks of: who attacks, by which rule, at which head
pub record Attempt : Type 0 where
  pub side : Side
  pub rule : Rule
  pub head : Head

-- a rule of the station attacks, at a state and a symbol of the manual
abbrev pub by_station_rule : Option Rule → ℕ → ℕ → Option Attempt
by_station_rule None state symbol = None
by_station_rule (Some r) state symbol = Some (record {
  side = by_station;
  rule = r;
  head = record { states = record { station = r.state; manual = state }; symbols = record { station = r.top; manual = symbol } };
})

-- a must rule of the manual attacks, at a state and a symbol of the station; a may rule does not
abbrev pub by_manual_rule : Option Rule → ℕ → ℕ → Option Attempt
by_manual_rule None state symbol = None
by_manual_rule (Some r) state symbol =
    cond (is_must r.mode) (Some (record {
      side = by_manual;
      rule = r;
      head = record { states = record { station = state; manual = r.state }; symbols = record { station = symbol; manual = r.top } };
    })) None

-- the attack from a slot of the side with a number, if there is such a side
abbrev pub by_side : List (Option Rule) → List (Option Rule) → Option Side → ℕ → ℕ → ℕ → Option Attempt
by_side station manual None slot state symbol = None
by_side station manual (Some by_station) slot state symbol = by_station_rule (slice_index_or station slot None) state symbol
by_side station manual (Some by_manual) slot state symbol = by_manual_rule (slice_index_or manual slot None) state symbol

abbrev pub attempt : List (Option Rule) → List (Option Rule) → ℕ → ℕ → ℕ → ℕ → Option Attempt
attempt station manual side slot state symbol = by_side station manual (side_of side) slot state symbol

-- whether two members, and two rows, are the same: a row by head and members
abbrev pub member_eq : Member → Member → Bool
member_eq m n = member_le m n && member_le n m

abbrev pub members_eq : List Member → List Member → Bool
members_eq [] [] = true
members_eq [] (n ∷ ns) = false
members_eq (m ∷ ms) [] = false
members_eq (m ∷ ms) (n ∷ ns) = member_eq m n && members_eq ms ns

abbrev pub row_eq : AttackRow → AttackRow → Bool
row_eq r s = head_eq r.head s.head && members_eq r.members s.members

module _ (kinds : ℕ → Option Kind) (station manual : List (Option Rule)) (start : Head) where
  -- The row of a line, apart from whether it is called for, fits, is new and finds room.
  abbrev pub entered_row : Option Attempt → Result AttackRow Refusal
  entered_row None = Err NoSuchAttack
  entered_row (Some a) = Ok (entered kinds station manual a.side a.rule a.head)

  abbrev pub joined_row : Option AttackRow → Result AttackRow Refusal
  joined_row None = Err RowsDoNotJoin
  joined_row (Some row) = Ok row

  abbrev pub join_of : Option AttackRow → Option AttackRow → Result AttackRow Refusal
  join_of None j = Err RowNotHeld
  join_of (Some i) None = Err RowNotHeld
  join_of (Some i) (Some j) = joined_row (joined i j)

  abbrev pub line_row : List AttackRow → Line → Result AttackRow Refusal
  line_row rows (Enter side slot state symbol) = entered_row (attempt station manual side slot state symbol)
  line_row rows (Join i j) = join_of (row_at rows i) (row_at rows j)

  -- Whether the head of an enter is called for. The numbers of a head are bytes, so a greater one never is.
  abbrev pub attempt_called : List AttackRow → ℕ → ℕ → Option Attempt → Bool
  attempt_called rows state symbol None = true
  attempt_called rows state symbol (Some a) = nat_lt state 256 && (nat_lt symbol 256 && called_for start rows a.head)

  abbrev pub line_called : List AttackRow → Line → Bool
  line_called rows (Enter side slot state symbol) = attempt_called rows state symbol (attempt station manual side slot state symbol)
  line_called rows (Join i j) = true

  -- An offered line, tested in this order: the row that it makes, or which refusal. `free` says whether a usable row is free.
  abbrev pub offer : Bool → List AttackRow → Line → Result AttackRow Refusal
  offer free rows line =
      and_then (line_row rows line) (λ row.
      cond (line_called rows line)
      (cond (nat_le (length row.members) 12)
      (cond (any_of (row_eq row) rows) (Err RowAlreadyHeld)
      (cond free (Ok row) (Err NoRowFree)))
      (Err TooManyMembers))
      (Err HeadNotCalledFor))

-- A row as it is written: twelve places for members, those that are not used all alike, and the line that made it.
abbrev pub blank_member : Member
blank_member = record { states = record { station = 0; manual = 0 }; symbols = Zero }

abbrev pub written : AttackRow → Line → Row
written row line = record {
  head = row.head;
  members = row.members ++ replicate (12 - length row.members) blank_member;
  count = length row.members;
  line = line;
}

-- the lines that made rows
abbrev pub lines : List Row → List Line
lines = map (λ (r : Row). r.line)

module _ (kinds : ℕ → Option Kind) (station manual : List (Option Rule)) (start : Head) (room : ℕ) where
  -- A line offered to rows of which at most `room` are usable: the rows with one more, or a refusal.
  abbrev pub accept : List Row → Line → Result (List Row) Refusal
  accept rows line =
      and_then (offer kinds station manual start (nat_lt (length rows) room) (said rows) line) (λ row. Ok (rows ++ written row line ∷ []))

  -- lines offered one after the other
  abbrev pub replay : List Line → List Row → Result (List Row) Refusal
  replay [] rows = Ok rows
  replay (l ∷ ls) rows = and_then (accept rows l) (replay ls)

  -- The rows of a book: its own lines, offered in order to an empty book, make them again.
  abbrev pub Built : List Row → Type 0
  Built rows = replay (lines rows) [] ≡ Ok rows

-- Whether the rows say that the starts are refuted: one has the head of the starts and no members.
abbrev pub no_members : List Member → Bool
no_members [] = true
no_members (m ∷ ms) = false

abbrev pub refutes : Head → AttackRow → Bool
refutes start row = head_eq row.head start && no_members row.members

abbrev pub says_refuted : Head → List AttackRow → Bool
says_refuted start rows = any_of (refutes start) rows
