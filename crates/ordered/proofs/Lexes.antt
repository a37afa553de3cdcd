-- The lexicographic order is what std's comparison of slices tells, so it has the laws of that one.
use Rattle.std.proofs.Common.{◌≡◌, ℕ, Bool, true, false, cond, ltb, eqb, List, [], ◌∷◌, sym, refl, ap, ◌∙◌}
use Rattle.std.specs.declared.cmp.Ordering.{Ordering}
use Rattle.std.specs.declared.cmp.Ordering.TheVariants.{Less, Equal, Greater}
use Rattle.std.specs.Ordering.{ordering_then, ordering_reverse, is_eq, is_gt, is_le, nat_cmp}
use Rattle.std.specs.Cmp.{tied_itself, upto}
use Rattle.std.specs.Cmp.Lexicographic.{slice_cmp, nat_list_cmp_total, same_text, texts_ties}
use Rattle.ordered.specs.Lex.{lex_le}

step : (a b t : Bool) (r : Ordering) → t ≡ is_le r → cond a true (cond b t false) ≡ is_le (ordering_then (cond a Less (cond b Equal Greater)) r)
step true b t r e = refl
step false true t r e = e
step false false t r e = refl

pub lex_compared : (xs ys : List ℕ) → lex_le xs ys ≡ is_le (slice_cmp nat_cmp xs ys)
lex_compared [] [] = refl
lex_compared [] (y ∷ ys) = refl
lex_compared (x ∷ xs) [] = refl
lex_compared (x ∷ xs) (y ∷ ys) = step (ltb x y) (eqb x y) _ _ (lex_compared xs ys)

pub lex_reflexive : (xs : List ℕ) → lex_le xs xs ≡ true
lex_reflexive xs = lex_compared xs xs ∙ ap is_le (tied_itself nat_list_cmp_total xs)

-- two lists compared the other way round
turned : (xs ys : List ℕ) → lex_le ys xs ≡ is_le (ordering_reverse (slice_cmp nat_cmp xs ys))
turned xs ys = lex_compared ys xs ∙ ap is_le (nat_list_cmp_total.antisymm ys xs)

pub lex_total : (xs ys : List ℕ) → lex_le xs ys ≡ false → lex_le ys xs ≡ true
lex_total xs ys h = turned xs ys ∙ at (slice_cmp nat_cmp xs ys) (sym (lex_compared xs ys) ∙ h) where
  at : (r : Ordering) → is_le r ≡ false → is_le (ordering_reverse r) ≡ true
  at Less e = cc
  at Equal e = refl
  at Greater e = refl

pub lex_antisymmetric : (xs ys : List ℕ) → lex_le xs ys ≡ true → lex_le ys xs ≡ true → xs ≡ ys
lex_antisymmetric xs ys h k = same_text xs ys (sym (texts_ties xs ys ∙ at (slice_cmp nat_cmp xs ys) (sym (lex_compared xs ys) ∙ h) (sym (turned xs ys) ∙ k))) where
  at : (r : Ordering) → is_le r ≡ true → is_le (ordering_reverse r) ≡ true → is_eq r ≡ true
  at Less e f = cc
  at Equal e f = refl
  at Greater e f = cc

pub lex_transitive : (xs ys zs : List ℕ) → lex_le xs ys ≡ true → lex_le ys zs ≡ true → lex_le xs zs ≡ true
lex_transitive xs ys zs h k =
    lex_compared xs zs ∙ back (slice_cmp nat_cmp xs zs) (upto nat_list_cmp_total xs ys zs (there _ (sym (lex_compared xs ys) ∙ h)) (there _ (sym (lex_compared ys zs) ∙ k))) where
      there : (r : Ordering) → is_le r ≡ true → is_gt r ≡ false
      there Less e = refl
      there Equal e = refl
      there Greater e = cc

      back : (r : Ordering) → is_gt r ≡ false → is_le r ≡ true
      back Less e = refl
      back Equal e = refl
      back Greater e = cc
