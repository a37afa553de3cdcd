-- A text is its words: the word layer against the grammar.
use Rattle.std.proofs.Common.{◌≡◌, ℕ, suc, ◌+◌, ◌-◌, ◌≤◌, Bool, true, false, cond, leb, List, [], ◌∷◌, ◌++◌, length, take, drop, Some, None, Ok, Err, Result, sym, refl, ap, ◌∙◌, subst, inl, inr, append_assoc, arith}
use Rattle.std.proofs.lemmas.List.{take_at, drop_at, take-append-drop}
use Rattle.std.proofs.lemmas.Bool.{cond-true, cond-false, cases_Bool, and_parts, and_from, or_cases, or_left, or_right, or_from, eqb-true, eq-eqb, ne_eqb, leb-true, le-leb}
use Rattle.text.specs.declared.fault.WordCause.{WordCause}
use Rattle.text.specs.declared.fault.Fault.{Fault}
use Rattle.text.specs.declared.fault.WordCause.TheVariants.{WordTooLong}
use Rattle.text.specs.declared.words.Due.{Due}
use Rattle.text.specs.Faults.{word_fault}
use Rattle.text.specs.Words.{is_blank, is_visible, Rest, Step, Spelled, run_end, front, cut, cut_at, word_at, found, next_from}
use Rattle.text.specs.Grammar.{Blank, Visible, IsWord, BlankOrEnd, Spaced, ends, blank, word}

-- the tests say what the grammar says
pub blank_from_test : (b : ℕ) → is_blank b ≡ true → Blank b
blank_from_test b h = elim (or_cases _ _ h) [ inl e ↦ inl (eqb-true b 32 e) | inr e ↦ inr (eqb-true b 10 e) ]

pub test_from_blank : (b : ℕ) → Blank b → is_blank b ≡ true
test_from_blank b (inl e) = or_left _ _ (eq-eqb b 32 e)
test_from_blank b (inr e) = or_right _ _ (eq-eqb b 10 e)

visible_not_blank : (b : ℕ) → 33 ≤ b → is_blank b ≡ false
visible_not_blank b h = or_from _ _ (ne_eqb b 32 (λ e. omega arith)) (ne_eqb b 10 (λ e. omega arith))

visible_test : (b : ℕ) → 33 ≤ b → b ≤ 126 → is_visible b ≡ true
visible_test b h k = and_from _ _ (le-leb 33 b h) (le-leb b 126 k)

-- a run of visible bytes before a blank or the end
run_word : (w t : List ℕ) (p : ℕ) → Visible w → BlankOrEnd t → run_end (w ++ t) p ≡ Ok (p + length w)
run_word [] [] p v h = ap Ok (omega arith)
run_word [] (b ∷ t) p v h = cond-true _ _ _ (test_from_blank b h) ∙ ap Ok (omega arith)
run_word (b ∷ w) t p v h =
    cond-false _ _ _ (visible_not_blank b v.0) ∙ cond-true _ _ _ (visible_test b v.0 v.1) ∙ run_word w t (p + 1) v.2 h ∙ ap Ok (omega arith)

-- what is read of a text whose words are known
pub record Next (k : Due) (t : List ℕ) (p : ℕ) (w : List ℕ) (ws : List (List ℕ)) : Type 0 where
  pub step : Step Spelled
  pub is : next_from k t p ≡ Ok (Some step)
  pub bytes : step.value.bytes ≡ w
  pub left : Spaced step.rest.bytes ws

at_word : (k : Due) (p : ℕ) (w t : List ℕ) (ws : List (List ℕ)) → IsWord w → BlankOrEnd t → Spaced t ws → Next k (w ++ t) p w ws
at_word k p [] t ws i h s = absurd (omega (arith, i.some))
at_word k p (b ∷ w) t ws i h s =
    let n : ℕ = length (b ∷ w) in
    let u : List ℕ = (b ∷ w) ++ t in
    let e : (p + n) - p ≡ n = omega arith in
    let run = run_word (b ∷ w) t p i.visible h in
    let cutting : word_at k u p ≡ cut k n u p = ap (cut_at k u p) run ∙ ap (λ m. cut k m u p) e in
    let whole : cut k n u p ≡ Ok (front k n u p) =
    cond-true _ _ _ (le-leb n 16 i.short) in
    record {
      step = front k n u p;
      is = cond-false _ _ _ (visible_not_blank b i.visible.0) ∙ ap found (cutting ∙ whole);
      bytes = take_at (b ∷ w) t n refl;
      left = subst (λ (l : List ℕ). Spaced l ws) (sym (drop_at (b ∷ w) t n refl)) s;
    }

next_blank : {k : Due} {b : ℕ} {t : List ℕ} {p : ℕ} {w : List ℕ} {ws : List (List ℕ)} → Blank b → Next k t (p + 1) w ws → Next k (b ∷ t) p w ws
next_blank {b = b} h n = record { step = n.step; is = cond-true _ _ _ (test_from_blank b h) ∙ n.is; bytes = n.bytes; left = n.left }

pub next_of : (k : Due) (t : List ℕ) (p : ℕ) (w : List ℕ) (ws : List (List ℕ)) → Spaced t (w ∷ ws) → Next k t p w ws
next_of k (b ∷ t) p w ws (blank h s) = next_blank h (next_of k t (p + 1) w ws s)
next_of k u p w ws (word {t = t} e i h s) = subst (λ (l : List ℕ). Next k l p w ws) (sym e) (at_word k p w t ws i h s)

pub none_of : (k : Due) (t : List ℕ) (p : ℕ) → Spaced t [] → next_from k t p ≡ Ok None
none_of k [] p ends = refl
none_of k (b ∷ t) p (blank h s) = cond-true _ _ _ (test_from_blank b h) ∙ none_of k t (p + 1) s

-- and the other way round: what is read is a word of the text
pub record Run (t : List ℕ) (p e : ℕ) : Type 0 where
  pub grows : p ≤ e
  pub long : length (take (e - p) t) ≡ e - p
  pub visible : Visible (take (e - p) t)
  pub after : BlankOrEnd (drop (e - p) t)

run_none : (t : List ℕ) (p e : ℕ) → p ≡ e → BlankOrEnd t → Run t p e
run_none t p e same h =
    let z : e - p ≡ 0 = omega arith in
    record {
      grows = omega arith;
      long = ap (λ n. length (take n t)) z ∙ sym z;
      visible = subst (λ n. Visible (take n t)) (sym z) tt;
      after = subst (λ n. BlankOrEnd (drop n t)) (sym z) h;
    }

run_one : (b : ℕ) (t : List ℕ) (p e : ℕ) → is_visible b ≡ true → Run t (p + 1) e → Run (b ∷ t) p e
run_one b t p e v r =
    let g = r.grows in
    let z : e - p ≡ suc (e - (p + 1)) = omega arith in
    let q = and_parts _ _ v in
    record {
      grows = omega arith;
      long = ap (λ n. length (take n (b ∷ t))) z ∙ ap suc r.long ∙ sym z;
      visible = subst (λ n. Visible (take n (b ∷ t))) (sym z) (leb-true 33 b q.0, leb-true b 126 q.1, r.visible);
      after = subst (λ n. BlankOrEnd (drop n (b ∷ t))) (sym z) r.after;
    }

pub run_of : (t : List ℕ) (p e : ℕ) → run_end t p ≡ Ok e → Run t p e
run_of [] p e h = run_none [] p e (cc) tt
run_of (b ∷ t) p e h =
    elim (cases_Bool (is_blank b)) [
      | inl yes-blank ↦ (let g : ◌≡◌ {A = Result ℕ (Fault WordCause)} (Ok p) (Ok e) = sym (cond-true _ _ _ yes-blank) ∙ h in run_none (b ∷ t) p e (cc) (blank_from_test b yes-blank))
      | inr not-blank ↦ elim (cases_Bool (is_visible b)) [
        | inl seen ↦ run_one b t p e seen (run_of t (p + 1) e (sym (cond-true _ _ _ seen) ∙ sym (cond-false _ _ _ not-blank) ∙ h))
        | inr hidden ↦ (let g = sym (cond-false _ _ _ hidden) ∙ sym (cond-false _ _ _ not-blank) ∙ h in cc)
      ]
    ]

-- taking us from s leaves e: whatever words e has, s has us before them
pub record Takes (s : Rest) (us : List (List ℕ)) (e : Rest) : Type 0 where
  pub gives : (ws : List (List ℕ)) → Spaced e.bytes ws → Spaced s.bytes (us ++ ws)

pub takes_none : (s : Rest) → Takes s [] s
takes_none s = record { gives = λ ws h. h }

pub takes_then : {s m e : Rest} {us vs : List (List ℕ)} → Takes s us m → Takes m vs e → Takes s (us ++ vs) e
takes_then {s} {us = us} {vs = vs} p q = record {
  gives = λ ws h. subst (λ (l : List (List ℕ)). Spaced s.bytes l) (sym (append_assoc us vs ws)) (p.gives (vs ++ ws) (q.gives ws h));
}

pub takes_as : {s e : Rest} {us vs : List (List ℕ)} → us ≡ vs → Takes s us e → Takes s vs e
takes_as {s} {e} same p = subst (λ (l : List (List ℕ)). Takes s l e) same p

cut_word : (k : Due) (b : ℕ) (t : List ℕ) (p n : ℕ) (st : Step Spelled) → Run (b ∷ t) p n → is_blank b ≡ false → 1 ≤ n - p → (d : Bool) → leb (n - p) 16 ≡ d → found (cond d (Ok (front k (n - p) (b ∷ t) p)) (Err (word_fault WordTooLong p))) ≡ Ok (Some st) → (ws : List (List ℕ)) → Spaced st.rest.bytes ws → Spaced (b ∷ t) (st.value.bytes ∷ ws)
cut_word k b t p n st r nb some false short h ws s = cc
cut_word k b t p n st r nb some true short h ws s =
    let whole : ◌≡◌ {A = Step Spelled} (front k (n - p) (b ∷ t) p) st = cc in
    let front : take (n - p) (b ∷ t) ≡ st.value.bytes = ap (λ (x : Step Spelled). x.value.bytes) whole in
    let back : drop (n - p) (b ∷ t) ≡ st.rest.bytes = ap (λ (x : Step Spelled). x.rest.bytes) whole in
    let long = r.long in
    subst (λ (l : List ℕ). Spaced (b ∷ t) (l ∷ ws)) front
    (word (sym (take-append-drop (n - p) (b ∷ t)))
    (record { some = omega arith; short = (let q = leb-true (n - p) 16 short in omega arith); visible = r.visible })
    r.after
    (subst (λ (l : List ℕ). Spaced l ws) (sym back) s))

pub run_some : (b : ℕ) (t : List ℕ) (p n : ℕ) → is_blank b ≡ false → run_end (b ∷ t) p ≡ Ok n → 1 ≤ n - p
run_some b t p n nb h =
    elim (cases_Bool (is_visible b)) [
      | inl seen ↦ (let r = run_of t (p + 1) n (sym (cond-true _ _ _ seen) ∙ sym (cond-false _ _ _ nb) ∙ h) in omega (arith, r.grows))
      | inr hidden ↦ (let g = sym (cond-false _ _ _ hidden) ∙ sym (cond-false _ _ _ nb) ∙ h in cc)
    ]

at_cut : (k : Due) (b : ℕ) (t : List ℕ) (p : ℕ) (st : Step Spelled) → is_blank b ≡ false → (r : Result ℕ (Fault WordCause)) → run_end (b ∷ t) p ≡ r → found (cut_at k (b ∷ t) p r) ≡ Ok (Some st) → (ws : List (List ℕ)) → Spaced st.rest.bytes ws → Spaced (b ∷ t) (st.value.bytes ∷ ws)
at_cut k b t p st nb (Err f) e h ws s = cc
at_cut k b t p st nb (Ok n) e h ws s = cut_word k b t p n st (run_of (b ∷ t) p n e) nb (run_some b t p n nb e) (leb (n - p) 16) refl h ws s

pub word_of : (k : Due) (t : List ℕ) (p : ℕ) (st : Step Spelled) → next_from k t p ≡ Ok (Some st) → (ws : List (List ℕ)) → Spaced st.rest.bytes ws → Spaced t (st.value.bytes ∷ ws)
word_of k [] p st h ws s = cc
word_of k (b ∷ t) p st h ws s =
    elim (cases_Bool (is_blank b)) [
      | inl on ↦ blank (blank_from_test b on) (word_of k t (p + 1) st (sym (cond-true _ _ _ on) ∙ h) ws s)
      | inr off ↦ at_cut k b t p st off (run_end (b ∷ t) p) refl (sym (cond-false _ _ _ off) ∙ h) ws s
    ]

not_none : (r : Result (Step Spelled) (Fault WordCause)) → found r ≡ Ok None → ⊥
not_none (Ok w) h = cc
not_none (Err f) h = cc

pub end_of : (k : Due) (t : List ℕ) (p : ℕ) → next_from k t p ≡ Ok None → Spaced t []
end_of k [] p h = ends
end_of k (b ∷ t) p h =
    elim (cases_Bool (is_blank b)) [
      | inl on ↦ blank (blank_from_test b on) (end_of k t (p + 1) (sym (cond-true _ _ _ on) ∙ h))
      | inr off ↦ absurd (not_none (word_at k (b ∷ t) p) (sym (cond-false _ _ _ off) ∙ h))
    ]
