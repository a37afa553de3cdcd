-- What the rows say, looked through by the library and by a definition; the first of the usable rows.
use Rattle.std.proofs.Common.{◌≡◌, ℕ, ◌-◌, ◌≤◌, min, Bool, ◌||◌, List, [], ◌∷◌, length, take, sym, refl, ap, ◌∙◌, arith, length-take}
use Rattle.std.proofs.lemmas.List.{take-take, take_min}
use Rattle.std.specs.List.{list_any}
use Rattle.game.specs.declared.Row.{Row}
use Rattle.game.specs.Members.{AttackRow, row_of}
use Rattle.game.specs.Computed.{any_of}
use Rattle.book.specs.Offers.{said}

pub any_said : (test : AttackRow → Bool) (rows : List Row) → list_any (λ (r : Row). test (row_of r)) rows ≡ any_of test (said rows)
any_said test [] = refl
any_said test (r ∷ rs) = ap (λ (b : Bool). test (row_of r) || b) (any_said test rs)

-- the first rows of those that are usable
pub held_first : {X : Type 0} (xs : List X) (held k : ℕ) → k ≡ min held (min 1024 (length xs)) → take k xs ≡ take held (take 1024 xs)
held_first xs held k e =
    let few : k ≤ 1024 = omega arith in
    let f : k ≡ min held (length (take 1024 xs)) = simp length-take e in
    sym (take-take k 1024 xs few) ∙ ap (λ (n : ℕ). take n (take 1024 xs)) f ∙ take_min held (take 1024 xs)

pub held_part : {X : Type 0} (xs : List X) (held u k : ℕ) → u ≡ min (length xs) 1024 → k ≡ min held u → take (k - 0) xs ≡ take held (take 1024 xs)
held_part xs held u k e f = held_first xs held (k - 0) (omega arith)
