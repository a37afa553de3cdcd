-- At most twelve members.
use Rattle.std.specs.Prelude.{cond, List, length, Some, None, Ok, Err, Option, Result, nat_le}
use Rattle.game.specs.declared.Member.{Member}
use Rattle.game.specs.Members.{AttackRow}
use Rattle.book.specs.declared.Refusal.{Refusal}
use Rattle.book.specs.declared.Refusal.TheVariants.{TooManyMembers, RowsDoNotJoin}

-- the members of a row, unless they are too many
abbrev pub fitted : List Member → Result (List Member) Refusal
fitted ms = cond (nat_le (length ms) 12) (Ok ms) (Err TooManyMembers)

-- the members of a join, if the rows join
abbrev pub fitted_join : Option AttackRow → Result (List Member) Refusal
fitted_join None = Err RowsDoNotJoin
fitted_join (Some row) = fitted row.members
