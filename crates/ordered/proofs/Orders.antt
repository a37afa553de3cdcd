-- The laws of insertion, for a total order of keys.
use Rattle.std.proofs.Common.{◌≡◌, ℕ, ◌+◌, ◌-◌, ◌<◌, ◌≤◌, min, Bool, true, false, cond, ltb, ◌⊎◌, List, [], ◌∷◌, ◌++◌, length, get_or, take, drop, Ok, Err, Result, sym, refl, ap, ◌∙◌, subst, inl, inr, arith}
use Rattle.std.proofs.lemmas.List.{take_at, take_all, drop_at, length-take-le}
use Rattle.std.proofs.lemmas.List.Edits.{length-insert, get_or-insert_at}
use Rattle.std.proofs.lemmas.Bool.{both_ways, and_parts, and_from, not-true, not_from_false, cases_lt, ltb-true, ltb-false}
use Rattle.std.specs.List.{insert}
use Rattle.ordered.specs.declared.Unplaced.{Unplaced}
use Rattle.ordered.specs.declared.Unplaced.TheVariants.{Double, Full}
use Rattle.ordered.specs.Insert.{place_of, present, insert_into, insert_answer, insert_after}
use Rattle.ordered.specs.Laws.{by_key, Before, Ascending, before_all, ascends, In, HasKey, Placed, Doubled, LawfulInsertion}
use Rattle.ordered.proofs.Scans.{place_within, present_there, goes}

-- Where x is new, the elements afterwards are the old ones and x: under any test `le`.
module _ {X : Type 0} (le : X → X → Bool) (x : X) where
  pub in_inserted : (ys : List X) → present le x ys ≡ false → (y : X) → (y ≡ x) ⊎ In y ys → In y (insert_into le x ys)
  in_inserted [] e y (inl h) = inl h
  in_inserted [] e y (inr h) = absurd h
  in_inserted (z ∷ zs) e y h = at (in_inserted zs) (le x z) e h where
    at : (present le x zs ≡ false → (v : X) → (v ≡ x) ⊎ In v zs → In v (insert_into le x zs)) → (b : Bool) → cond b (le z x) (present le x zs) ≡ false → (y ≡ x) ⊎ ((y ≡ z) ⊎ In y zs) → In y (cond b (cond (le z x) (z ∷ zs) (x ∷ z ∷ zs)) (z ∷ insert_into le x zs))
    at rec true off h = subst (λ (b : Bool). In y (cond b (z ∷ zs) (x ∷ z ∷ zs))) (sym off) h
    at rec false off (inl h) = inr (rec off y (inl h))
    at rec false off (inr (inl h)) = inl h
    at rec false off (inr (inr h)) = inr (rec off y (inr h))

  pub in_old_or_new : (ys : List X) → present le x ys ≡ false → (y : X) → In y (insert_into le x ys) → (y ≡ x) ⊎ In y ys
  in_old_or_new [] e y h = h
  in_old_or_new (z ∷ zs) e y h = at (in_old_or_new zs) (le x z) e h where
    at : (present le x zs ≡ false → (v : X) → In v (insert_into le x zs) → (v ≡ x) ⊎ In v zs) → (b : Bool) → cond b (le z x) (present le x zs) ≡ false → In y (cond b (cond (le z x) (z ∷ zs) (x ∷ z ∷ zs)) (z ∷ insert_into le x zs)) → (y ≡ x) ⊎ ((y ≡ z) ⊎ In y zs)
    at rec true off h = subst (λ (b : Bool). In y (cond b (z ∷ zs) (x ∷ z ∷ zs))) off h
    at rec false off (inl h) = inr (inl h)
    at rec false off (inr h) = elim (rec off y h) [ inl a ↦ inl a | inr a ↦ inr (inr a) ]

-- The order itself: transitive and total is enough for ascending lists to stay so.
module _ {X : Type 0} (le : X → X → Bool) (trans : (x y z : X) → le x y ≡ true → le y z ≡ true → le x z ≡ true) (total : (x y : X) → le x y ≡ false → le y x ≡ true) where
  not_above : (x y z : X) → le y x ≡ false → le y z ≡ true → le z x ≡ false
  not_above x y z off on = at (le z x) refl where
    at : (b : Bool) → le z x ≡ b → b ≡ false
    at true e = absurd (both_ways (le y x) off (trans y z x on e))
    at false e = refl

  before_later : (x y : X) (ys : List X) → le x y ≡ true → le y x ≡ false → Before le y ys → Before le x ys
  before_later x y [] on off b = tt
  before_later x y (z ∷ zs) on off b = ((trans x y z on b.0.0, not_above x y z off b.0.0), before_later x y zs on off b.1)

  before_inserted : (x y : X) (ys : List X) → le y x ≡ true → le x y ≡ false → Before le y ys → Before le y (insert_into le x ys)
  before_inserted x y [] on off b = ((on, off), tt)
  before_inserted x y (z ∷ zs) on off b = at (before_inserted x y zs on off b.1) (le x z) (le z x) where
    at : Before le y (insert_into le x zs) → (p q : Bool) → Before le y (cond p (cond q (z ∷ zs) (x ∷ z ∷ zs)) (z ∷ insert_into le x zs))
    at rec true true = b
    at rec true false = ((on, off), b)
    at rec false q = (b.0, rec)

  pub ascending_inserted : (x : X) (ys : List X) → Ascending le ys → Ascending le (insert_into le x ys)
  ascending_inserted x [] a = (tt, tt)
  ascending_inserted x (y ∷ ys) a = at (ascending_inserted x ys a.1) (le x y) (le y x) refl refl where
    at : Ascending le (insert_into le x ys) → (p q : Bool) → le x y ≡ p → le y x ≡ q → Ascending le (cond p (cond q (y ∷ ys) (x ∷ y ∷ ys)) (y ∷ insert_into le x ys))
    at rec true true e f = a
    at rec true false e f = (((e, f), before_later x y ys e f a.0), a)
    at rec false q e f = (before_inserted x y ys (total x y e) e a.0, rec)

-- Ascending is what the test of it says.
module _ {X : Type 0} (le : X → X → Bool) where
  pub before_from_test : (y : X) (ys : List X) → before_all le y ys ≡ true → Before le y ys
  before_from_test y [] e = tt
  before_from_test y (z ∷ zs) e =
      let p = and_parts _ _ e in
      let q = and_parts _ _ p.1 in
      ((p.0, not-true _ q.0), before_from_test y zs q.1)

  pub ascending_from_test : (ys : List X) → ascends le ys ≡ true → Ascending le ys
  ascending_from_test [] e = tt
  ascending_from_test (y ∷ ys) e = let p = and_parts _ _ e in (before_from_test y ys p.0, ascending_from_test ys p.1)

  pub test_from_before : (y : X) (ys : List X) → Before le y ys → before_all le y ys ≡ true
  test_from_before y [] b = refl
  test_from_before y (z ∷ zs) b = and_from _ _ b.0.0 (and_from _ _ (not_from_false _ b.0.1) (test_from_before y zs b.1))

  pub test_from_ascending : (ys : List X) → Ascending le ys → ascends le ys ≡ true
  test_from_ascending [] a = refl
  test_from_ascending (y ∷ ys) a = and_from _ _ (test_from_before y ys a.0) (test_from_ascending ys a.1)

-- Two strictly ascending lists with the same elements are the same list.
module _ {X : Type 0} (le : X → X → Bool) where
  before_in : (y z : X) (zs : List X) → Before le y zs → In z zs → (le y z ≡ true) × (le z y ≡ false)
  before_in y z [] b h = absurd h
  before_in y z (w ∷ ws) b (inl e) = subst (λ (v : X). (le y v ≡ true) × (le v y ≡ false)) (sym e) b.0
  before_in y z (w ∷ ws) b (inr h) = before_in y z ws b.1 h

  -- an element that stands before all is none of them
  not_itself : (y : X) (ys : List X) → Before le y ys → In y ys → ⊥
  not_itself y ys b h = let p = before_in y y ys b h in both_ways (le y y) p.1 p.0

  apart : (y : X) (xs : List X) (x : X) → Before le y xs → In x xs → x ≡ y → ⊥
  apart y xs x b h e = not_itself y xs b (subst (λ (v : X). In v xs) e h)

  smaller : (x y : X) (xs ys : List X) → x ≡ y → Before le x xs → ((z : X) → In z (x ∷ xs) → In z (y ∷ ys)) → (z : X) → In z xs → In z ys
  smaller x y xs ys e b sub z h =
      elim (sub z (inr h)) [ inl f ↦ absurd (apart x xs z b h (f ∙ sym e)) | inr k ↦ k ]

  pub same_elements_same_list : (xs ys : List X) → Ascending le xs → Ascending le ys → ((z : X) → In z xs → In z ys) → ((z : X) → In z ys → In z xs) → xs ≡ ys
  same_elements_same_list [] [] a b f g = refl
  same_elements_same_list [] (y ∷ ys) a b f g = absurd (g y (inl refl))
  same_elements_same_list (x ∷ xs) [] a b f g = absurd (f x (inl refl))
  same_elements_same_list (x ∷ xs) (y ∷ ys) a b f g =
      let e : x ≡ y = elim (f x (inl refl)) [
        | inl e ↦ e
        | inr h ↦ elim (g y (inl refl)) [
          | inl e ↦ sym e
          | inr k ↦ absurd (both_ways (le x y) (before_in y x ys b.0 h).1 (before_in x y xs a.0 k).0)
        ]
      ] in
      ap (λ (v : X). v ∷ xs) e ∙ ap (λ (l : List X). y ∷ l)
      (same_elements_same_list xs ys a.1 b.1 (smaller x y xs ys e a.0 f) (smaller y x ys xs (sym e) b.0 g))

-- The laws of one insertion, from those of the order of keys.
module _ {X K : Type 0} (key : X → K) (le : K → K → Bool) (reflexive : (a : K) → le a a ≡ true) (antisymmetric : (a b : K) → le a b ≡ true → le b a ≡ true → a ≡ b) (transitive : (a b d : K) → le a b ≡ true → le b d ≡ true → le a d ≡ true) (total : (a b : K) → le a b ≡ false → le b a ≡ true) (x : X) where
  pub key_at_double : (ys : List X) → present (by_key key le) x ys ≡ true → Doubled key x ys (place_of (by_key key le) x ys)
  key_at_double ys e =
      let p = present_there (by_key key le) x ys x e in
      record { within = p.0; same_key = antisymmetric _ _ p.2 p.1 }

  -- an element of the key of x is found among ascending ones
  pub key_is_new : (ys : List X) → Ascending (by_key key le) ys → present (by_key key le) x ys ≡ false → HasKey key (key x) ys → ⊥
  key_is_new [] a e h = h
  key_is_new (y ∷ ys) a e h = at (key_is_new ys a.1) (le (key x) (key y)) refl e h where
    later : (zs : List X) → le (key x) (key y) ≡ true → Before (by_key key le) y zs → HasKey key (key x) zs → ⊥
    later [] on b k = k
    later (z ∷ zs) on b (inl k) = both_ways (le (key z) (key y)) b.0.1 (ap (λ (v : K). le v (key y)) (sym k) ∙ on)
    later (z ∷ zs) on b (inr k) = later zs on b.1 k

    at : (present (by_key key le) x ys ≡ false → HasKey key (key x) ys → ⊥) → (b : Bool) → le (key x) (key y) ≡ b → cond b (le (key y) (key x)) (present (by_key key le) x ys) ≡ false → (key x ≡ key y) ⊎ HasKey key (key x) ys → ⊥
    at rec true on off (inl k) = both_ways (le (key y) (key x)) off (ap (λ (v : K). le v (key x)) (sym k) ∙ reflexive (key x))
    at rec true on off (inr k) = later ys on a.0 k
    at rec false on off (inl k) = both_ways (le (key x) (key y)) on (ap (λ (v : K). le (key x) v) (sym k) ∙ reflexive (key x))
    at rec false on off (inr k) = rec off k

  abbrev test : X → X → Bool
  test = by_key key le

  pub placed : (count at : ℕ) (was is : List X) → count < length was → at ≡ place_of test x (take count was) → present test x (take count was) ≡ false → is ≡ insert_into test x (take count was) ++ drop (count + 1) was → Placed key le x (take count was) (take (count + 1) is) at × (drop (count + 1) is ≡ drop (count + 1) was)
  placed count at was is room ea new e =
      let held : List X = take count was in
      let n : length held ≡ count = length-take-le count was (omega arith) in
      let w = place_within test x held in
      let shape : insert_into test x held ≡ insert held at x = goes test x held new ∙ ap (λ (p : ℕ). insert held p x) (sym ea) in
      let long : length (insert_into test x held) ≡ count + 1 = (let l = length-insert held at x (omega arith) in let m = ap length shape in omega arith) in
      let front : take (count + 1) is ≡ insert_into test x held = ap (take (count + 1)) e ∙ take_at (insert_into test x held) (drop (count + 1) was) (count + 1) long in
      let back : drop (count + 1) is ≡ drop (count + 1) was = ap (drop (count + 1)) e ∙ drop_at (insert_into test x held) (drop (count + 1) was) (count + 1) long in
      let fl = ap length front in (
        record {
          by_list_insertion = front;
          stands = ap (λ (l : List X). get_or l at x) (front ∙ shape) ∙ get_or-insert_at held at x x (omega arith);
          within = omega arith;
          longer = omega arith;
          old_and_new = λ y. (
            λ h. subst (λ (l : List X). In y l) (sym front) (in_inserted test x held new y h),
            λ h. in_old_or_new test x held new y (subst (λ (l : List X). In y l) front h),
          );
          ascending = λ a. subst (λ (l : List X). Ascending test l) (sym front) (ascending_inserted test (λ p q r. transitive (key p) (key q) (key r)) (λ p q. total (key p) (key q)) x held a);
          new = λ a. key_is_new held a new;
        },
        back,
      )

  -- the laws of an insertion, from what it answers and leaves
  pub lawful_insertion : (was is : List X) (count : ℕ) (told : Result ℕ Unplaced) → told ≡ insert_answer test x count was → is ≡ insert_after test x count was told → LawfulInsertion key le x count was is told
  lawful_insertion was is count told e after = ways (present test x held) (ltb count (length was)) refl refl e after where
    held : List X
    held = take count was

    ways : (b r : Bool) → present test x held ≡ b → ltb count (length was) ≡ r → told ≡ cond b (Err (Double (place_of test x held))) (cond r (Ok (place_of test x held)) (Err Full)) → is ≡ insert_after test x count was told → LawfulInsertion key le x count was is told
    ways true r p q e after = let kept : is ≡ was = rw e at after in rw e (key_at_double held p, kept)
    ways false true p q e after = let put : is ≡ insert_into test x held ++ drop (count + 1) was = rw e at after in rw e (placed count (place_of test x held) was is (ltb-true count (length was) q) refl p put)
    ways false false p q e after =
        let kept : is ≡ was = rw e at after in
        let full = ltb-false count (length was) q in
        rw e (omega (arith, full), kept, λ a. key_is_new held a p)

-- the elements that are read: the first `count`, or all where there are fewer
pub held_read : {X : Type 0} (was : List X) (count h : ℕ) → h ≡ min count (length was) → take (h - 0) was ≡ take count was
held_read was count h e =
    elim (cases_lt count (length was)) [
      | inl a ↦ (let k : h - 0 ≡ count = omega arith in ap (λ (n : ℕ). take n was) k)
      | inr a ↦ (let k : length was ≤ h - 0 = omega arith in take_all (h - 0) was k ∙ sym (take_all count was a))
    ]

-- where an element is admitted, what its insertion at that place comes to
pub admitted : {X : Type 0} (le : X → X → Bool) (x : X) (was : List X) (count at : ℕ) → Ok at ≡ insert_answer le x count was → (at ≤ count) × (count < length was) × (insert (take count was) at x ≡ insert_into le x (take count was))
admitted {X} le x was count at e = ways (present le x (take count was)) (ltb count (length was)) refl refl e where
  held : List X
  held = take count was

  ways : (b r : Bool) → present le x (take count was) ≡ b → ltb count (length was) ≡ r → Ok at ≡ cond b (Err (Double (place_of le x (take count was)))) (cond r (Ok (place_of le x (take count was))) (Err Full)) → (at ≤ count) × (count < length was) × (insert (take count was) at x ≡ insert_into le x (take count was))
  ways true r p q told = cc
  ways false false p q told = cc
  ways false true p q told =
      let same : at ≡ place_of le x (take count was) = cc in
      let room = ltb-true count (length was) q in
      let w = place_within le x (take count was) in
      let n = length-take-le count was (omega arith) in
      (omega arith, room, ap (λ (p : ℕ). insert (take count was) p x) same ∙ sym (goes le x (take count was) p))
