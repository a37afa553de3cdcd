-- The number of each refusal.
use Rattle.std.specs.Prelude.{ℕ}
use Rattle.book.specs.declared.Refusal.{Refusal}
use Rattle.book.specs.declared.Refusal.TheVariants.{NoSuchAttack, HeadNotCalledFor, TooManyMembers, RowAlreadyHeld, NoRowFree, RowNotHeld, RowsDoNotJoin, RowsDoNotFit}

abbrev pub refusal_number : Refusal → ℕ
refusal_number NoSuchAttack = 1
refusal_number HeadNotCalledFor = 2
refusal_number TooManyMembers = 3
refusal_number RowAlreadyHeld = 4
refusal_number NoRowFree = 5
refusal_number RowNotHeld = 6
refusal_number RowsDoNotJoin = 7
refusal_number RowsDoNotFit = 8
