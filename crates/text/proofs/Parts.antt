-- A word is a part of the text that was handed over.
use Rattle.std.proofs.Common.{◌≡◌, ℕ, suc, ◌+◌, ◌-◌, Bool, true, false, cond, leb, List, [], ◌∷◌, length, take, drop, Some, None, Ok, Err, Option, Result, sym, refl, ap, ◌∙◌, subst, inl, inr, arith}
use Rattle.std.proofs.lemmas.List.{drop-drop}
use Rattle.std.proofs.lemmas.Bool.{cond-true, cond-false, cases_Bool}
use Rattle.text.specs.declared.fault.WordCause.{WordCause}
use Rattle.text.specs.declared.fault.Fault.{Fault}
use Rattle.text.specs.declared.fault.WordCause.TheVariants.{WordTooLong}
use Rattle.text.specs.declared.words.Due.{Due}
use Rattle.text.specs.declared.words.Word.{Word}
use Rattle.text.specs.Faults.{word_fault}
use Rattle.text.specs.Words.{is_blank, Rest, Step, Spelled, seen, run_end, front, cut_at, found, next_from, next_word, left_by, left_after, PartOf, BlanksGone, WordIsPart}
use Rattle.text.proofs.Spacing.{Run, run_of}

abbrev left_at : List ℕ → ℕ → Rest
left_at t p = record { bytes = t; at = p }

-- a part of what follows a byte is a part of what begins with it
part_on : (b : ℕ) (t : List ℕ) (p : ℕ) (w : Step Spelled) → PartOf (left_at t (p + 1)) w → PartOf (left_at (b ∷ t) p) w
part_on b t p w h =
    let f = h.from in
    let a = h.after in
    let o : ℕ = w.value.place.offset in
    let e : o - p ≡ suc (o - (p + 1)) = omega arith in
    let g : w.rest.at - p ≡ suc (w.rest.at - (p + 1)) = omega arith in
    record {
      from = omega arith;
      part = h.part ∙ ap (λ n. take (length w.value.bytes) (drop n (b ∷ t))) (sym e);
      after = h.after;
      rest = h.rest ∙ ap (λ n. drop n (b ∷ t)) (sym g);
      whole = λ text e. h.whole text (ap (drop 1) e ∙ drop-drop 1 p text);
    }

part_here : (k : Due) (t : List ℕ) (p n : ℕ) (w : Step Spelled) → Run t p n → (d : Bool) → found (cond d (Ok (front k (n - p) t p)) (Err (word_fault WordTooLong p))) ≡ Ok (Some w) → PartOf (left_at t p) w
part_here k t p n w r false h = cc
part_here k t p n w r true h =
    let whole : ◌≡◌ {A = Step Spelled} (front k (n - p) t p) w = cc in
    let z : p - p ≡ 0 = omega arith in
    let y : (p + (n - p)) - p ≡ n - p = omega arith in
    subst (λ (x : Step Spelled). PartOf (left_at t p) x) whole (record {
      from = omega arith;
      part = sym (ap (λ m. take m t) r.long) ∙ ap (λ m. take (length (take (n - p) t)) (drop m t)) (sym z);
      after = ap (λ m. p + m) (sym r.long);
      rest = ap (λ m. drop m t) (sym y);
      whole = λ text e. (
        sym (ap (λ m. take m t) r.long) ∙ ap (take (length (take (n - p) t))) e,
        ap (drop (n - p)) e ∙ drop-drop (n - p) p text,
      );
    })

part_at : (k : Due) (t : List ℕ) (p : ℕ) (w : Step Spelled) (r : Result ℕ (Fault WordCause)) → run_end t p ≡ r → found (cut_at k t p r) ≡ Ok (Some w) → PartOf (left_at t p) w
part_at k t p w (Err f) e h = cc
part_at k t p w (Ok n) e h = part_here k t p n w (run_of t p n e) (leb (n - p) 16) h

pub part_of_text : (k : Due) (t : List ℕ) (p : ℕ) (w : Step Spelled) → next_from k t p ≡ Ok (Some w) → PartOf (left_at t p) w
part_of_text k [] p w h = cc
part_of_text k (b ∷ t) p w h =
    elim (cases_Bool (is_blank b)) [
      | inl on ↦ part_on b t p w (part_of_text k t (p + 1) w (sym (cond-true _ _ _ on) ∙ h))
      | inr off ↦ part_at k (b ∷ t) p w (run_end (b ∷ t) p) refl (sym (cond-false _ _ _ off) ∙ h)
    ]

pub word_is_part : (k : Due) (r : Result (Option Word) (Fault WordCause)) (s : Rest) (now : Rest) → seen r now ≡ next_word k s → WordIsPart r s now
word_is_part k (Ok None) s now e = tt
word_is_part k (Ok (Some w)) s now e = part_of_text k s.bytes s.at _ (sym e)
word_is_part k (Err f) s now e = tt

-- what the reader has left, by what it was to read
pub left_is : (k : Due) (r : Result (Option Word) (Fault WordCause)) (s : Rest) (now : Rest) → seen r now ≡ next_word k s → BlanksGone r s now → now ≡ left_after k s
left_is k (Ok None) s now e h = h ∙ ap (λ (x : Result (Option (Step Spelled)) (Fault WordCause)). left_by x s) e
left_is k (Ok (Some w)) s now e h = ap (λ (x : Result (Option (Step Spelled)) (Fault WordCause)). left_by x s) e
left_is k (Err f) s now e h = h ∙ ap (λ (x : Result (Option (Step Spelled)) (Fault WordCause)). left_by x s) e
