-- An element written behind others and turned to their front, which moves each of them one place on.
use Rattle.std.proofs.Common.{◌≡◌, ℕ, zero, suc, ◌+◌, ◌-◌, ◌<◌, ◌≤◌, List, [], ◌∷◌, ◌++◌, length, take, drop, set, refl, ap, ◌∙◌, arith}
use Rattle.std.proofs.lemmas.List.{take_more_set, drop-set-lt, take_at, drop_at, length-take-le, length-append}
use Rattle.std.proofs.Math.Numerals.{suc-eq-add-one}
use Rattle.std.specs.List.{insert}
use borrow.Rule.Slice.PartMut.{put_mid, mid_of}

module _ {X : Type 0} where
  -- the last of some elements, turned to their front
  abbrev turned : List X → List X
  turned ys = drop (length ys - 1) ys ++ take (length ys - 1) ys

  turned_in : (es : List X) (at count k : ℕ) (x : X) (ys : List X) → at ≤ count → count < length es → at + k ≡ suc count → ys ≡ turned (mid_of at k (set es count x)) → put_mid at k (set es count x) ys ≡ insert (take count es) at x ++ drop (suc count) es
  turned_in es zero count k x ys h room n turn =
      let same : k ≡ count + 1 = omega arith in
      let next : k ≡ suc count = omega arith in
      let whole : take k (set es count x) ≡ take count es ++ x ∷ [] = ap (λ m. take m (set es count x)) same ∙ take_more_set es count x room in
      let past : drop k (set es count x) ≡ drop (suc count) es = drop-set-lt k es count x (omega arith) ∙ ap (λ m. drop m es) next in
      let front : length (take count es) ≡ count = length-take-le count es (omega arith) in
      let long : length (take count es ++ x ∷ []) - 1 ≡ count = simp length-append (omega arith) in
      let moved : ys ≡ x ∷ take count es = turn ∙ ap turned whole ∙ rw (long, drop_at (take count es) (x ∷ []) count front, take_at (take count es) (x ∷ []) count front) refl in
      rw (moved, past) refl
  turned_in [] (suc at) count k x ys h room n turn = absurd (omega arith)
  turned_in (e ∷ es) (suc at) zero k x ys h room n turn = absurd (omega arith)
  turned_in (e ∷ es) (suc at) (suc count) k x ys h room n turn = ap (λ l. e ∷ l) (turned_in es at count k x ys (omega arith) (omega arith) (omega arith) turn)

  pub shifted : (es : List X) (at count : ℕ) (x : X) (ys : List X) → at ≤ count → count < length es → ys ≡ turned (mid_of at (count + 1 - at) (set es count x)) → put_mid at (count + 1 - at) (set es count x) ys ≡ insert (take count es) at x ++ drop (count + 1) es
  shifted es at count x ys h room turn =
      turned_in es at count (count + 1 - at) x ys h room (omega arith) turn ∙ ap (λ m. insert (take count es) at x ++ drop m es) (suc-eq-add-one count)
