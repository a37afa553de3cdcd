-- The place where an element belongs, and what insertion at that place comes to.
use Rattle.std.proofs.Common.{◌≡◌, ℕ, suc, ◌<◌, ◌≤◌, Bool, true, false, cond, List, [], ◌∷◌, length, get_or, Some, None, Option, Ok, Err, Bor, sym, refl, ap, ◌∙◌, arith}
use Rattle.std.proofs.lemmas.Bool.{cond-true, cond-false}
use Rattle.std.proofs.lemmas.Iterator.{index_from_first}
use Rattle.std.proofs.Math.Numerals.{suc-eq-add-one}
use Rattle.std.specs.List.{insert, slice_get, AllWithin, HoldsAt}
use Rattle.std.specs.Option.{MatchOption, unwrap_or}
use Rattle.std.specs.Slice.{IsItemAt}
use Rattle.std.proofs.lemmas.Option.{slice_get_read, slice_get_past}
use Rattle.ordered.specs.Insert.{place_of, present, sought, insert_into}

module _ {X : Type 0} (le : X → X → Bool) (x : X) where
  -- the first element that x is at most, or the end
  pub found : (ys : List X) (r : Option ℕ) → MatchOption r (AllWithin (λ y. le x y ≡ false) ys 0 (length ys)) (λ i. (i < length ys) × HoldsAt (λ y. le x y ≡ true) ys i × AllWithin (λ y. le x y ≡ false) ys 0 i) → unwrap_or r (length ys) ≡ place_of le x ys
  found ys r first = sym (index_from_first (place_of le x) (λ y. le x y ≡ true) (λ y. le x y ≡ false) refl (λ y ys on. cond-true (le x y) 0 (suc (place_of le x ys)) on) (λ y ys off. cond-false (le x y) 0 (suc (place_of le x ys)) off ∙ suc-eq-add-one _) ys r first)

  pub place_within : (ys : List X) → place_of le x ys ≤ length ys
  place_within [] = omega arith
  place_within (y ∷ ys) = at (place_within ys) (le x y) where
    at : place_of le x ys ≤ length ys → (b : Bool) → cond b 0 (suc (place_of le x ys)) ≤ length (y ∷ ys)
    at h true = omega arith
    at h false = omega arith

  -- a double is at most x too, and stands at the place
  abbrev double : Option X → Bool
  double None = false
  double (Some y) = le y x

  looked : (ys : List X) → present le x ys ≡ double (slice_get ys (place_of le x ys))
  looked [] = refl
  looked (y ∷ ys) = at (looked ys) (le x y) where
    at : present le x ys ≡ double (slice_get ys (place_of le x ys)) → (b : Bool) → cond b (le y x) (present le x ys) ≡ double (slice_get (y ∷ ys) (cond b 0 (suc (place_of le x ys))))
    at rec true = refl
    at rec false = rec

  -- what a look at the place comes to
  told : (ys : List X) (at : ℕ) (r : Option (Bor X)) (b : Bool) → at ≡ place_of le x ys → IsItemAt ys at r → MatchOption r (b ≡ false) (λ y. b ≡ le y.now x) → cond b (Err at) (Ok at) ≡ sought le x ys
  told ys at r b e item is = rw (e, saw r item is) refl where
    saw : (r : Option (Bor X)) → IsItemAt ys at r → MatchOption r (b ≡ false) (λ y. b ≡ le y.now x) → b ≡ present le x ys
    saw None item is = is ∙ sym (looked ys ∙ ap double (ap (slice_get ys) (sym e) ∙ slice_get_past ys at item.3))
    saw (Some y) item is = is ∙ sym (looked ys ∙ ap double (ap (slice_get ys) (sym e) ∙ slice_get_read ys _ at y.now refl item.3.0 item.1))

  pub told_double : (ys : List X) (at : ℕ) (r : Option (Bor X)) (b : Bool) → at ≡ place_of le x ys → IsItemAt ys at r → MatchOption r (b ≡ false) (λ y. b ≡ le y.now x) → b ≡ true → Err at ≡ sought le x ys
  told_double ys at r b e item is on = sym (cond-true b (Err at) (Ok at) on) ∙ told ys at r b e item is

  pub told_new : (ys : List X) (at : ℕ) (r : Option (Bor X)) (b : Bool) → at ≡ place_of le x ys → IsItemAt ys at r → MatchOption r (b ≡ false) (λ y. b ≡ le y.now x) → b ≡ false → Ok at ≡ sought le x ys
  told_new ys at r b e item is off = sym (cond-false b (Err at) (Ok at) off) ∙ told ys at r b e item is

  -- conversely a double is read at the place
  pub present_there : (ys : List X) (d : X) → present le x ys ≡ true → (place_of le x ys < length ys) × (le x (get_or ys (place_of le x ys) d) ≡ true) × (le (get_or ys (place_of le x ys) d) x ≡ true)
  present_there [] d e = let z : ◌≡◌ {A = ℕ} 0 1 = cc in absurd (omega arith)
  present_there (y ∷ ys) d e = at (present_there ys d) (le x y) refl e where
    at : (present le x ys ≡ true → (place_of le x ys < length ys) × (le x (get_or ys (place_of le x ys) d) ≡ true) × (le (get_or ys (place_of le x ys) d) x ≡ true)) → (b : Bool) → le x y ≡ b → cond b (le y x) (present le x ys) ≡ true → (cond b 0 (suc (place_of le x ys)) < length (y ∷ ys)) × (le x (get_or (y ∷ ys) (cond b 0 (suc (place_of le x ys))) d) ≡ true) × (le (get_or (y ∷ ys) (cond b 0 (suc (place_of le x ys))) d) x ≡ true)
    at rec true on e = (omega arith, on, e)
    at rec false on e = let r = rec e in (omega (arith, r.0), r.1, r.2)

  -- no double: x goes to its place
  pub goes : (ys : List X) → present le x ys ≡ false → insert_into le x ys ≡ insert ys (place_of le x ys) x
  goes [] e = refl
  goes (y ∷ ys) e = at (goes ys) (le x y) e where
    at : (present le x ys ≡ false → insert_into le x ys ≡ insert ys (place_of le x ys) x) → (b : Bool) → cond b (le y x) (present le x ys) ≡ false → cond b (cond (le y x) (y ∷ ys) (x ∷ y ∷ ys)) (y ∷ insert_into le x ys) ≡ insert (y ∷ ys) (cond b 0 (suc (place_of le x ys))) x
    at rec true e = cond-false _ _ _ e
    at rec false e = ap (λ l. y ∷ l) (rec e)
