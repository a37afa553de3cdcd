-- Membership in lists, and what insertion keeps, for any total order of whole elements.
use Rattle.std.proofs.Common.{◌≡◌, Bool, true, cond, ◌⊎◌, List, [], ◌∷◌, ◌++◌, map, sym, refl, ap, subst, inl, inr, ⊎_elim}
use Rattle.std.proofs.lemmas.Bool.{cond_both}
use Rattle.ordered.specs.Insert.{insert_into}
use Rattle.ordered.specs.Laws.{In, Before, Ascending}

module _ {A : Type 0} where
  pub in_front : (x : A) (xs : List A) (last : A) → In x xs → In x (xs ++ last ∷ [])
  in_front x [] last k = absurd k
  in_front x (y ∷ ys) last (inl e) = inl e
  in_front x (y ∷ ys) last (inr k) = inr (in_front x ys last k)

  pub in_last : (xs : List A) (last : A) → In last (xs ++ last ∷ [])
  in_last [] last = inl refl
  in_last (y ∷ ys) last = inr (in_last ys last)

  pub front_or_last : (x : A) (xs : List A) (last : A) → In x (xs ++ last ∷ []) → In x xs ⊎ (x ≡ last)
  front_or_last x [] last (inl e) = inr e
  front_or_last x [] last (inr k) = absurd k
  front_or_last x (y ∷ ys) last (inl e) = inl (inl e)
  front_or_last x (y ∷ ys) last (inr k) = ⊎_elim (λ h. inl (inr h)) (λ e. inr e) (front_or_last x ys last k)

  -- a list that is not empty is a front and a last element
  pub split_last : (x : A) (xs : List A) → (front : List A) × (last : A) × (◌≡◌ {A = List A} (x ∷ xs) (front ++ last ∷ []))
  split_last x [] = ([], x, refl)
  split_last x (y ∷ ys) = let r = split_last y ys in (x ∷ r.0, r.1, ap (λ (l : List A). x ∷ l) r.2)

module _ {A B : Type 0} (f : A → B) where
  pub in_map : (xs : List A) (x : A) → In x xs → In (f x) (map f xs)
  in_map [] x k = absurd k
  in_map (y ∷ ys) x (inl e) = inl (ap f e)
  in_map (y ∷ ys) x (inr k) = inr (in_map ys x k)

  pub from_map : (xs : List A) (y : B) → In y (map f xs) → (x : A) × In x xs × (y ≡ f x)
  from_map [] y k = absurd k
  from_map (x ∷ xs) y (inl e) = (x, inl refl, e)
  from_map (x ∷ xs) y (inr k) = let r = from_map xs y k in (r.0, inr r.1, r.2)

module _ {A : Type 0} (le : A → A → Bool) where
  -- nothing but x comes in, and nothing goes
  pub old_or_new : (x : A) (ys : List A) (z : A) → In z (insert_into le x ys) → (z ≡ x) ⊎ In z ys
  old_or_new x [] z = λ k. k
  old_or_new x (y ∷ ys) z =
      cond_both (le x y) (cond (le y x) (y ∷ ys) (x ∷ y ∷ ys)) (y ∷ insert_into le x ys) (λ l. In z l → (z ≡ x) ⊎ In z (y ∷ ys))
      (λ _. cond_both (le y x) (y ∷ ys) (x ∷ y ∷ ys) (λ l. In z l → (z ≡ x) ⊎ In z (y ∷ ys)) (λ _ k. inr k) (λ _ k. k))
      (λ _ k. ⊎_elim (λ e. inr (inl e)) (λ q. ⊎_elim (λ e. inl e) (λ r. inr (inr r)) (old_or_new x ys z q)) k)

  pub still_in : (x : A) (ys : List A) (z : A) → In z ys → In z (insert_into le x ys)
  still_in x [] z k = absurd k
  still_in x (y ∷ ys) z k =
      cond_both (le x y) (cond (le y x) (y ∷ ys) (x ∷ y ∷ ys)) (y ∷ insert_into le x ys) (λ l. In z l)
      (λ _. cond_both (le y x) (y ∷ ys) (x ∷ y ∷ ys) (λ l. In z l) (λ _. k) (λ _. inr k))
      (λ _. ⊎_elim (λ e. inl e) (λ q. inr (still_in x ys z q)) k)

  pub now_in : ((x y : A) → le x y ≡ true → le y x ≡ true → x ≡ y) → (x : A) (ys : List A) → In x (insert_into le x ys)
  now_in anti x [] = inl refl
  now_in anti x (y ∷ ys) =
      cond_both (le x y) (cond (le y x) (y ∷ ys) (x ∷ y ∷ ys)) (y ∷ insert_into le x ys) (λ l. In x l)
      (λ on. cond_both (le y x) (y ∷ ys) (x ∷ y ∷ ys) (λ l. In x l) (λ back. inl (anti x y on back)) (λ _. inl refl))
      (λ _. inr (now_in anti x ys))

  before_each : (y : A) (zs : List A) → Before le y zs → (z : A) → In z zs → le y z ≡ true
  before_each y [] b z k = absurd k
  before_each y (w ∷ ws) b z (inl e) = subst (λ (v : A). le y v ≡ true) (sym e) b.0.0
  before_each y (w ∷ ws) b z (inr k) = before_each y ws b.1 z k

  before_front : (y : A) (xs : List A) (last : A) → Before le y (xs ++ last ∷ []) → Before le y xs
  before_front y [] last b = tt
  before_front y (x ∷ xs) last b = (b.0, before_front y xs last b.1)

  pub front_ascending : (xs : List A) (last : A) → Ascending le (xs ++ last ∷ []) → Ascending le xs
  front_ascending [] last a = tt
  front_ascending (x ∷ xs) last a = (before_front x xs last a.0, front_ascending xs last a.1)

  pub before_last : (xs : List A) (last : A) → Ascending le (xs ++ last ∷ []) → (x : A) → In x xs → le x last ≡ true
  before_last [] last a x k = absurd k
  before_last (y ∷ ys) last a x (inl e) = subst (λ (v : A). le v last ≡ true) (sym e) (before_each y (ys ++ last ∷ []) a.0 last (in_last ys last))
  before_last (y ∷ ys) last a x (inr k) = before_last ys last a.1 x k
