-- Rows written with the line that made them, or a refusal.
use Rattle.std.specs.Prelude.{Bool, cond, List, length, Some, None, Ok, Err, Option, Result, nat_le}
use Rattle.game.specs.declared.Head.{Head}
use Rattle.game.specs.declared.Member.{Member}
use Rattle.game.specs.declared.Line.{Line}
use Rattle.game.specs.declared.Row.{Row}
use Rattle.game.specs.Members.{AttackRow, row_of}
use Rattle.game.specs.Computed.{any_of, joined}
use Rattle.book.specs.declared.Refusal.{Refusal}
use Rattle.book.specs.declared.Refusal.TheVariants.{TooManyMembers, RowAlreadyHeld, NoRowFree, RowNotHeld, RowsDoNotJoin}
use Rattle.book.specs.Offers.{row_eq, written}

-- a head before members
abbrev pub headed : Head → Line → Result (List Member) Refusal → Result Row Refusal
headed head line (Ok ms) = Ok (written (record { head = head; members = ms }) line)
headed head line (Err why) = Err why

-- a row, unless it has too many members
abbrev pub fitted_row : AttackRow → Line → Result Row Refusal
fitted_row row line = cond (nat_le (length row.members) 12) (Ok (written row line)) (Err TooManyMembers)

-- the row of a join of two rows that may be there
abbrev pub fitted_if : Option AttackRow → Line → Result Row Refusal
fitted_if None line = Err RowsDoNotJoin
fitted_if (Some row) line = fitted_row row line

abbrev pub fitted_both : Option AttackRow → Option AttackRow → Line → Result Row Refusal
fitted_both None j line = Err RowNotHeld
fitted_both (Some i) None line = Err RowNotHeld
fitted_both (Some i) (Some j) line = fitted_if (joined i j) line

-- a row that was made, unless it is held already or there is no room
abbrev pub new_and_free : Bool → List AttackRow → Result Row Refusal → Result Row Refusal
new_and_free free rows (Ok row) = cond (any_of (row_eq (row_of row)) rows) (Err RowAlreadyHeld) (cond free (Ok row) (Err NoRowFree))
new_and_free free rows (Err why) = Err why
