-- The pigeonhole, and when the derivable rows fit.
use Rattle.std.proofs.Common.{◌≡◌, ℕ, suc, ◌≤◌, List, [], ◌∷◌, length, Option, sym, refl, ap, ◌∙◌, subst, inl, inr, ⊎_elim, arith}
use Rattle.ordered.specs.Laws.{In}
use Rattle.profile.specs.declared.Kind.{Kind}
use Rattle.profile.specs.declared.Rule.{Rule}
use Rattle.game.specs.declared.Head.{Head}
use Rattle.game.specs.Members.{AttackRow}
use Rattle.game.specs.Theorems.{Different, WhatFits}
use Rattle.game.proofs.Deciding.{derivable_least}

-- a list without one of its elements: one shorter, with all the others
without : (x : AttackRow) (ys : List AttackRow) → In x ys →
    (zs : List AttackRow) × (length ys ≡ suc (length zs)) × ((z : AttackRow) → In z ys → (z ≡ x → ⊥) → In z zs)
without x [] k = absurd k
without x (y ∷ ys) (inl e) = (ys, refl, λ z k n. ⊎_elim (λ p. absurd (n (p ∙ sym e))) (λ q. q) k)
without x (y ∷ ys) (inr k) =
    let r = without x ys k in
    (y ∷ r.0, ap suc r.1, λ z l n. ⊎_elim (λ p. inl p) (λ q. inr (r.2 z q n)) l)

pub pigeonhole : (xs ys : List AttackRow) → Different xs → ((z : AttackRow) → In z xs → In z ys) → length xs ≤ length ys
pigeonhole [] ys d f = omega arith
pigeonhole (x ∷ xs) ys d f =
    let (zs, e, g) = without x ys (f x (inl refl)) in
    let l : length xs ≤ length zs = pigeonhole xs zs d.1
    (λ z k. g z (f z (inr k)) (λ same. d.0 (subst (λ (v : AttackRow). In v xs) same k))) in
    omega arith

pub what_fits : (kinds : ℕ → Option Kind) (station manual : List (Option Rule)) (start : Head) (usable : ℕ) → WhatFits kinds station manual start usable
what_fits kinds station manual start usable = record {
  closed_list_fits = λ rows c few narrow. record {
    narrow = λ row d. narrow row (derivable_least kinds station manual start (λ row. In row rows) c row d);
    few = (rows, few, derivable_least kinds station manual start (λ row. In row rows) c);
  };
  wide_row_does_not = λ row d wide fit. let n = fit.narrow row d in omega arith;
  too_many_do_not = λ rows diff each many fit.
      let (list, few, has) = fit.few in
      let n = pigeonhole rows list diff (λ row k. has row (each row k)) in
      omega arith;
}
