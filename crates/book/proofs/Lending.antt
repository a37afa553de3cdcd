-- Lent rows, of which some are held.
use Rattle.std.proofs.Common.{◌≡◌, ℕ, ◌+◌, ◌-◌, ◌<◌, ◌≤◌, min, List, [], ◌∷◌, ◌++◌, length, take, drop, set, sym, ap, ◌∙◌, arith, length-take}
use Rattle.std.proofs.lemmas.List.{take-take, drop-drop, take_more_set, length-take-le, length-set}
use Rattle.game.specs.declared.Row.{Row}
use Rattle.book.specs.Offers.{usable, held_rows}

-- how many rows are held of those that are lent, and one more of them
pub held_long : (lent : List Row) (held : ℕ) → held ≤ usable lent → length (held_rows lent held) ≡ held
held_long lent held h = let n = length-take 1024 lent in length-take-le held (take 1024 lent) (omega arith)

pub held_take : (lent : List Row) (held : ℕ) → held ≤ usable lent → held_rows lent held ≡ take held lent
held_take lent held h = take-take held 1024 lent (omega arith)

pub held_set : (lent : List Row) (held : ℕ) (row : Row) → held < usable lent → held_rows (set lent held row) (held + 1) ≡ held_rows lent held ++ row ∷ []
held_set lent held row h =
    take-take (held + 1) 1024 (set lent held row) (omega arith) ∙ take_more_set lent held row (omega arith) ∙
    ap (λ (x : List Row). x ++ row ∷ []) (sym (take-take held 1024 lent (omega arith)))

pub usable_set : (lent : List Row) (held : ℕ) (row : Row) → usable (set lent held row) ≡ usable lent
usable_set lent held row = ap (λ (n : ℕ). min 1024 n) (length-set lent held row)

-- what lies past a place lies past every later one
pub past_stays : (n m : ℕ) (first was is : List Row) → n ≤ m → drop n was ≡ drop n first → drop m is ≡ drop m was → drop m is ≡ drop m first
past_stays n m first was is le a b =
    let split : n + (m - n) ≡ m = omega arith in
    b ∙ ap (λ (k : ℕ). drop k was) (sym split) ∙ sym (drop-drop (m - n) n was) ∙ ap (drop (m - n)) a ∙ drop-drop (m - n) n first ∙ ap (λ (k : ℕ). drop k first) split
