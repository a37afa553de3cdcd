-- Elements of lists by their numbers, and rows as they are written.
use Rattle.std.proofs.Common.{◌≡◌, ℕ, zero, suc, ◌-◌, ◌<◌, ◌≤◌, min, List, [], ◌∷◌, ◌++◌, length, get_or, take, replicate, Some, None, Option, sym, refl, ap, ◌∙◌, inl, inr, arith}
use Rattle.std.proofs.lemmas.Option.{none-some, same_Some}
use Rattle.std.proofs.lemmas.List.{take_at, map-append, length-map}
use Rattle.ordered.specs.Laws.{In}
use Rattle.game.specs.declared.Line.{Line}
use Rattle.game.specs.declared.Row.{Row}
use Rattle.game.specs.Members.{AttackRow, row_of}
use Rattle.book.specs.Offers.{said, row_at, written, lines, blank_member}

-- a row that is written is read as itself
pub written_is_read : (row : AttackRow) (line : Line) → length row.members ≤ 12 → row_of (written row line) ≡ row
written_is_read row line h =
    let e : min (length row.members) 12 ≡ length row.members = omega arith in
    let t : take (min (length row.members) 12) (row.members ++ replicate (12 - length row.members) blank_member) ≡ row.members =
    ap (λ (n : ℕ). take n (row.members ++ replicate (12 - length row.members) blank_member)) e ∙
    take_at row.members (replicate (12 - length row.members) blank_member) (length row.members) refl in
    λ i. record { head = row.head; members = t i }

pub said_append : (rows more : List Row) → said (rows ++ more) ≡ said rows ++ said more
said_append rows more = map-append row_of rows more

pub said_length : (rows : List Row) → length (said rows) ≡ length rows
said_length rows = length-map rows row_of

pub lines_append : (rows more : List Row) → lines (rows ++ more) ≡ lines rows ++ lines more
lines_append rows more = map-append (λ (r : Row). r.line) rows more

-- what rows with one more written say
pub said_written : (rows : List Row) (row : AttackRow) (line : Line) → length row.members ≤ 12 → said (rows ++ written row line ∷ []) ≡ said rows ++ row ∷ []
said_written rows row line h =
    said_append rows (written row line ∷ []) ∙ ap (λ (x : AttackRow). said rows ++ x ∷ []) (written_is_read row line h)

-- the row with a number, if there is one
pub row_read : (rows : List Row) (i : ℕ) (d : Row) → i < length rows → row_at (said rows) i ≡ Some (row_of (get_or rows i d))
row_read [] i d h = absurd (omega arith)
row_read (r ∷ rs) zero d h = refl
row_read (r ∷ rs) (suc i) d h = row_read rs i d (omega arith)

pub row_missing : (rows : List Row) (i : ℕ) → length rows ≤ i → row_at (said rows) i ≡ None
row_missing [] i h = refl
row_missing (r ∷ rs) zero h = absurd (omega arith)
row_missing (r ∷ rs) (suc i) h = row_missing rs i (omega arith)

-- the row with a number is among the rows, and every row has a number
pub row_at_is_in : (rows : List AttackRow) (i : ℕ) (row : AttackRow) → row_at rows i ≡ Some row → In row rows
row_at_is_in [] i row e = absurd (none-some row e)
row_at_is_in (r ∷ rs) zero row e = inl (sym (same_Some r row e))
row_at_is_in (r ∷ rs) (suc i) row e = inr (row_at_is_in rs i row e)

pub row_has_number : (rows : List AttackRow) (row : AttackRow) → In row rows → (i : ℕ) × (row_at rows i ≡ Some row)
row_has_number [] row k = absurd k
row_has_number (r ∷ rs) row (inl e) = (zero, ap (λ (x : AttackRow). Some x) (sym e))
row_has_number (r ∷ rs) row (inr k) = let (i, e) = row_has_number rs row k in (suc i, e)

-- the same for slots
pub slot_is_in : {A : Type 0} (slots : List (Option A)) (i : ℕ) (r : A) → get_or slots i None ≡ Some r → In (Some r) slots
slot_is_in [] i r e = absurd (none-some r e)
slot_is_in (s ∷ slots) zero r e = inl (sym e)
slot_is_in (s ∷ slots) (suc i) r e = inr (slot_is_in slots i r e)

pub slot_has_number : {A : Type 0} (slots : List (Option A)) (r : A) → In (Some r) slots → (i : ℕ) × (get_or slots i None ≡ Some r)
slot_has_number [] r k = absurd k
slot_has_number (s ∷ slots) r (inl e) = (zero, sym e)
slot_has_number (s ∷ slots) r (inr k) = let (i, e) = slot_has_number slots r k in (suc i, e)
