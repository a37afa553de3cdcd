-- Every fault stands where the text shows its cause.
use Rattle.std.proofs.Common.{◌≡◌, ℕ, zero, suc, ◌+◌, ◌-◌, ◌<◌, ◌≤◌, Bool, true, false, cond, ◌&&◌, leb, ◌⊎◌, List, [], ◌∷◌, ◌++◌, length, get_or, take, drop, is_some, Some, None, Ok, Err, codes, Option, Result, sym, refl, ap, ◌∙◌, subst, inl, inr, arith}
use Rattle.std.specs.Str.{bytes_eq}
use Rattle.std.proofs.lemmas.List.{drop-drop, length-drop, get_or-drop, length-take}
use Rattle.std.proofs.lemmas.Bool.{cond-true, cond-false, cond_both, cases_Bool, and_from, leb-false, le-leb, both_ways}
use Rattle.ordered.specs.Insert.{present, insert_into}
use Rattle.profile.specs.declared.Mode.{Mode}
use Rattle.profile.specs.declared.Mode.TheVariants.{May, Must}
use Rattle.profile.specs.declared.Rule.{Rule}
use Rattle.profile.specs.declared.table.Table.{Table}
use Rattle.profile.specs.Kinds.{event_kind}
use Rattle.profile.specs.Rules.{rule_le}
use Rattle.text.specs.declared.fault.Place.{Place}
use Rattle.text.specs.declared.fault.WordCause.TheVariants.{TextTooLong, ByteNotAllowed}
use Rattle.text.specs.declared.fault.WordCause.{WordCause}
use Rattle.text.specs.declared.fault.Cause.{Cause}
use Rattle.text.specs.declared.fault.Fault.{Fault}
use Rattle.text.specs.declared.fault.Cause.TheVariants.{InWords}
use Rattle.text.specs.declared.words.Due.{Due}
use Rattle.text.specs.declared.words.Due.TheVariants as due
use Rattle.text.specs.Faults.{word_fault}
use Rattle.text.specs.Words.{text_end, is_blank, is_visible, Rest, Step, Spelled, run_end, cut, cut_at, found, next_from, next_word, begun}
use Rattle.text.specs.Sections.{and_then, there, word_due, read_keyword, in_range, plain_number, read_number, nothing_more}
use Rattle.text.specs.ProfileText.{mode_word, event_names, index_of, more_names, read_names, known, read_index, read_mode, read_symbol_if, used_by, read_rule, more_rules, read_rules, read_start, read_body, read_sections, Reading, judged, read_profile, ReadInto}
use Rattle.text.specs.Grammar.{Blank, Visible, BlankOrEnd}
use Rattle.text.specs.Places.{byte_at, Begins, Stands, FaultStands}
use Rattle.text.proofs.Spacing.{Run, run_of, run_some, blank_from_test, test_from_blank}

-- t is what the text has from p on
pub record From (text t : List ℕ) (p : ℕ) : Type 0 where
  pub most : p ≤ length text
  pub part : t ≡ drop p text

first_is : (text t : List ℕ) (b p : ℕ) → From text (b ∷ t) p → (p < length text) × (byte_at text p ≡ b) × From text t (p + 1)
first_is text t b p f =
    let n = length-drop p text in
    let l = ap length f.part in
    let inside : p < length text = omega arith in
    let e : p + 0 ≡ p = omega arith in
    let byte : byte_at text p ≡ b = ap (λ i. get_or text i 0) (sym e) ∙ sym (get_or-drop p text 0 0) ∙ sym (ap (λ (l : List ℕ). get_or l 0 0) f.part) in
    (inside, byte, record { most = omega arith; part = ap (drop 1) f.part ∙ drop-drop 1 p text })

-- a run that meets a byte that is not allowed
run_fault : (text t : List ℕ) (p : ℕ) (f : Fault WordCause) → From text t p → run_end t p ≡ Err f → Stands text (InWords f.cause) f.place.offset
run_fault text [] p f w h = cc
run_fault text (b ∷ t) p f w h =
    let first = first_is text t b p w in
    elim (cases_Bool (is_blank b)) [
      | inl on ↦ (let g = sym (cond-true _ _ _ on) ∙ h in cc)
      | inr off ↦ elim (cases_Bool (is_visible b)) [
        | inl seen ↦ run_fault text t (p + 1) f first.2 (sym (cond-true _ _ _ seen) ∙ sym (cond-false _ _ _ off) ∙ h)
        | inr hidden ↦
            (let g : ◌≡◌ {A = Result ℕ (Fault WordCause)} (Err (word_fault ByteNotAllowed p)) (Err f) = sym (cond-false _ _ _ hidden) ∙ sym (cond-false _ _ _ off) ∙ h in
            let same : word_fault ByteNotAllowed p ≡ f = cc in
            subst (λ (x : Fault WordCause). Stands text (InWords x.cause) x.place.offset) same (
              first.0,
              (λ k. both_ways (is_blank b) off (test_from_blank b (subst Blank first.1 k))),
              λ lo hi. both_ways (is_visible b) hidden (and_from _ _ (le-leb 33 b (subst (λ n. 33 ≤ n) first.1 lo)) (le-leb b 126 (subst (λ n. n ≤ 126) first.1 hi))),
            ))
      ]
    ]

-- what stands before p, where a word may begin
abbrev Ready : List ℕ → List ℕ → ℕ → Type 0
Ready text t p = ((p ≡ 0) ⊎ Blank (byte_at text (p - 1))) ⊎ BlankOrEnd t

-- what is left of a text between two words
pub record Left (text : List ℕ) (s : Rest) : Type 0 where
  pub from : From text s.bytes s.at
  pub ready : Ready text s.bytes s.at

not_blank_ready : (text t : List ℕ) (b p : ℕ) → is_blank b ≡ false → Ready text (b ∷ t) p → (p ≡ 0) ⊎ Blank (byte_at text (p - 1))
not_blank_ready text t b p off (inl h) = h
not_blank_ready text t b p off (inr h) = absurd (both_ways (is_blank b) off (test_from_blank b h))

visible_front : (n m : ℕ) (t : List ℕ) → m ≤ n → Visible (take n t) → Visible (take m t)
visible_front n zero t h v = tt
visible_front zero (suc m) t h v = absurd (omega arith)
visible_front (suc n) (suc m) [] h v = tt
visible_front (suc n) (suc m) (b ∷ t) h v = (v.0, v.1, visible_front n m t (omega arith) v.2)

-- the outcome of a reading: what is left lies between two words and the value is as P says, or a fault stands where it should
abbrev pub Fine : {T : Type 0} → List ℕ → (T → Type 0) → Result (Step T) (Fault Cause) → Type 0
Fine text P (Ok st) = Left text st.rest × P st.value
Fine text P (Err f) = Stands text f.cause f.place.offset

abbrev WordFine : List ℕ → Result (Option (Step Spelled)) (Fault WordCause) → Type 0
WordFine text (Ok None) = Unit {0}
WordFine text (Ok (Some w)) = Left text w.rest × Begins text w.value.place.offset
WordFine text (Err f) = Stands text (InWords f.cause) f.place.offset

cut_fine : (k : Due) (text t : List ℕ) (b p n : ℕ) → From text (b ∷ t) p → (p ≡ 0) ⊎ Blank (byte_at text (p - 1)) → is_blank b ≡ false → run_end (b ∷ t) p ≡ Ok n → Run (b ∷ t) p n → WordFine text (found (cut k (n - p) (b ∷ t) p))
cut_fine k text t b p n f before off e r =
    let first = first_is text t b p f in
    let g = r.grows in
    let long = r.long in
    let whole = ap length f.part ∙ length-drop p text in
    let taken = length-take (n - p) (b ∷ t) in
    let most : n - p ≤ length (b ∷ t) = omega arith in
    let begins : (33 ≤ b) × (b ≤ 126) → Begins text p = λ v. record { inside = first.0; least = subst (λ m. 33 ≤ m) (sym first.1) v.0; most = subst (λ m. m ≤ 126) (sym first.1) v.1; before = before } in
    let some : 1 ≤ n - p = run_some b t p n off e in
    let one : take 1 (b ∷ t) ≡ b ∷ [] = refl in
    let seen : (33 ≤ b) × (b ≤ 126) = (let v = visible_front (n - p) 1 (b ∷ t) some r.visible in (v.0, v.1)) in
    cond_both (leb (n - p) 16) _ _ (λ (x : Result (Step Spelled) (Fault WordCause)). WordFine text (found x))
    (λ short. (record { from = record { most = omega arith; part = ap (drop (n - p)) f.part ∙ drop-drop (n - p) p text }; ready = inr r.after }, begins seen))
    (λ longer.
    (let q = leb-false (n - p) 16 longer in
    let v = visible_front (n - p) 17 (b ∷ t) (omega arith) r.visible in
    (begins seen, (let w = whole in omega arith), subst (λ (l : List ℕ). Visible (take 17 l)) f.part v)))

next_fine : (k : Due) (text t : List ℕ) (p : ℕ) → From text t p → Ready text t p → WordFine text (next_from k t p)
next_fine k text [] p f r = tt
next_fine k text (b ∷ t) p f r =
    let first = first_is text t b p f in
    cond_both (is_blank b) _ _ (WordFine text)
    (λ on. next_fine k text t (p + 1) first.2 (inl (inr (let e : (p + 1) - 1 ≡ p = omega arith in subst (λ i. Blank (byte_at text i)) (sym e) (subst Blank (sym first.1) (blank_from_test b on))))))
    (λ off. at (not_blank_ready text t b p off r) off (run_end (b ∷ t) p) refl) where
      at : (p ≡ 0) ⊎ Blank (byte_at text (p - 1)) → is_blank b ≡ false → (x : Result ℕ (Fault WordCause)) → run_end (b ∷ t) p ≡ x → WordFine text (found (cut_at k (b ∷ t) p x))
      at before off (Ok n) e = cut_fine k text t b p n f before off e (run_of (b ∷ t) p n e)
      at before off (Err g) e = run_fault text (b ∷ t) p g f e

-- one reading after another
pub fine_then : {T U : Type 0} (text : List ℕ) (P : T → Type 0) (Q : U → Type 0) (r : Result (Step T) (Fault Cause)) (f : Step T → Result (Step U) (Fault Cause)) → Fine text P r → ((x : Step T) → Left text x.rest → P x.value → Fine text Q (f x)) → Fine text Q (and_then r f)
fine_then text P Q (Ok x) f h k = k x h.0 h.1
fine_then text P Q (Err e) f h k = h

-- nothing further is known of a value
abbrev Any : {T : Type 0} → T → Type 0
Any x = Unit {0}

module _ (text : List ℕ) where
  abbrev AtWord : Spelled → Type 0
  AtWord w = Begins text w.place.offset

  there_fine : (e : ℕ) (r : Result (Option (Step Spelled)) (Fault WordCause)) → e ≡ length text → WordFine text r → Fine text AtWord (there e r)
  there_fine e (Ok None) whole h = inl whole
  there_fine e (Ok (Some w)) whole h = h
  there_fine e (Err f) whole h = h

  end_is : (s : Rest) → Left text s → text_end s ≡ length text
  end_is s l = let n = ap length l.from.part ∙ length-drop s.at text in let m = l.from.most in omega arith

  word_fine : (k : Due) (s : Rest) → Left text s → Fine text AtWord (word_due k s)
  word_fine k s l = there_fine (text_end s) (next_word k s) (end_is s l) (next_fine k text s.bytes s.at l.from l.ready)

  keyword_fine : (wanted : List ℕ) (s : Rest) → Left text s → Fine text Any (read_keyword wanted s)
  keyword_fine wanted s l =
      fine_then text AtWord Any (word_due due.Keyword s) _ (word_fine due.Keyword s l) (λ w left at.
      cond_both (bytes_eq w.value.bytes wanted) _ _ (Fine text Any) (λ on. (left, tt)) (λ off. inr at))

  range_fine : (lo hi : ℕ) (w : Step Spelled) (o : Option ℕ) → Left text w.rest → AtWord w.value → Fine text Any (in_range lo hi w o)
  range_fine lo hi w None left at = at
  range_fine lo hi w (Some n) left at = cond_both (leb lo n && leb n hi) _ _ (Fine text Any) (λ on. (left, tt)) (λ off. at)

  number_fine : (lo hi : ℕ) (s : Rest) → Left text s → Fine text Any (read_number lo hi s)
  number_fine lo hi s l =
      fine_then text AtWord Any (word_due due.Number s) _ (word_fine due.Number s l) (λ w left at. range_fine lo hi w (plain_number w.value.bytes) left at)

  names_fine : (k : ℕ) (ns : List (List ℕ)) (s : Rest) → Left text s → Fine text Any (more_names k ns s)
  names_fine zero ns s l = (l, tt)
  names_fine (suc k) ns s l =
      fine_then text AtWord Any (word_due due.Name s) _ (word_fine due.Name s l) (λ w left at.
      cond_both (is_some (index_of ns w.value.bytes)) _ _ (Fine text Any) (λ on. at) (λ off. names_fine k (ns ++ w.value.bytes ∷ []) w.rest left))

  section_fine : (heading : List ℕ) (most : ℕ) (s : Rest) → Left text s → Fine text Any (read_names heading most s)
  section_fine heading most s l =
      fine_then text Any Any (read_keyword heading s) _ (keyword_fine heading s l) (λ h left _.
      fine_then text Any Any (read_number 1 most h.rest) _ (number_fine 1 most h.rest left) (λ n left _. names_fine n.value [] n.rest left))

  known_fine : (w : Step Spelled) (o : Option ℕ) → Left text w.rest → AtWord w.value → Fine text Any (known w o)
  known_fine w None left at = at
  known_fine w (Some i) left at = (left, tt)

  index_fine : (ns : List (List ℕ)) (s : Rest) → Left text s → Fine text Any (read_index ns s)
  index_fine ns s l =
      fine_then text AtWord Any (word_due due.Name s) _ (word_fine due.Name s l) (λ w left at. known_fine w (index_of ns w.value.bytes) left at)

  abbrev AtMode : Mode × Place → Type 0
  AtMode m = Begins text m.1.offset

  mode_fine : (s : Rest) → Left text s → Fine text AtMode (read_mode s)
  mode_fine s l =
      fine_then text AtWord AtMode (word_due due.Keyword s) _ (word_fine due.Keyword s l) (λ w left at.
      cond_both (bytes_eq w.value.bytes (mode_word May)) _ _ (Fine text AtMode) (λ on. (left, at)) (λ off.
      cond_both (bytes_eq w.value.bytes (mode_word Must)) _ _ (Fine text AtMode) (λ on. (left, at)) (λ off. inr at)))

  symbol_fine : (b : Bool) (ns : List (List ℕ)) (s : Rest) → Left text s → Fine text Any (read_symbol_if b ns s)
  symbol_fine false ns s l = (l, tt)
  symbol_fine true ns s l = index_fine ns s l

  abbrev AtRule : Rule × Place → Type 0
  AtRule r = Begins text r.1.offset

  rule_fine : (states symbols events : List (List ℕ)) (s : Rest) → Left text s → Fine text AtRule (read_rule states symbols events s)
  rule_fine states symbols events s l =
      fine_then text AtMode AtRule (read_mode s) _ (mode_fine s l) (λ m left at.
      fine_then text Any AtRule (read_index states m.rest) _ (index_fine states m.rest left) (λ state left _.
      fine_then text Any AtRule (read_index symbols state.rest) _ (index_fine symbols state.rest left) (λ top left _.
      fine_then text Any AtRule (read_index events top.rest) _ (index_fine events top.rest left) (λ event left _.
      fine_then text Any AtRule (read_index states event.rest) _ (index_fine states event.rest left) (λ next left _.
      fine_then text Any AtRule (read_symbol_if (leb 1 (used_by (event_kind event.value))) symbols next.rest) _ (symbol_fine (leb 1 (used_by (event_kind event.value))) symbols next.rest left) (λ upper left _.
      fine_then text Any AtRule (read_symbol_if (leb 2 (used_by (event_kind event.value))) symbols upper.rest) _ (symbol_fine (leb 2 (used_by (event_kind event.value))) symbols upper.rest left) (λ lower left _.
      (left, at))))))))

  rules_fine : (states symbols events : List (List ℕ)) (k : ℕ) (rs : List Rule) (s : Rest) → Left text s → Fine text Any (more_rules states symbols events k rs s)
  rules_fine states symbols events zero rs s l = (l, tt)
  rules_fine states symbols events (suc k) rs s l =
      fine_then text AtRule Any (read_rule states symbols events s) _ (rule_fine states symbols events s l) (λ r left at.
      cond_both (present rule_le r.value.0 rs) _ _ (Fine text Any) (λ on. at) (λ off. rules_fine states symbols events k (insert_into rule_le r.value.0 rs) r.rest left))

  rule_section_fine : (states symbols events : List (List ℕ)) (s : Rest) → Left text s → Fine text Any (read_rules states symbols events s)
  rule_section_fine states symbols events s l =
      fine_then text Any Any (read_keyword (codes "rules") s) _ (keyword_fine (codes "rules") s l) (λ h left _.
      fine_then text Any Any (read_number 0 96 h.rest) _ (number_fine 0 96 h.rest left) (λ n left _. rules_fine states symbols events n.value [] n.rest left))

  start_fine : (states symbols : List (List ℕ)) (s : Rest) → Left text s → Fine text Any (read_start states symbols s)
  start_fine states symbols s l =
      fine_then text Any Any (read_keyword (codes "start") s) _ (keyword_fine (codes "start") s l) (λ h left _.
      fine_then text Any Any (read_number 1 1 h.rest) _ (number_fine 1 1 h.rest left) (λ n left _.
      fine_then text Any Any (read_index states n.rest) _ (index_fine states n.rest left) (λ state left _.
      fine_then text Any Any (read_index symbols state.rest) _ (index_fine symbols state.rest left) (λ symbol left _. (left, tt)))))

  -- at the end, a fault stands where it should
  abbrev Told : {T : Type 0} → Result T (Fault Cause) → Type 0
  Told (Ok x) = Unit {0}
  Told (Err f) = Stands text f.cause f.place.offset

  told_then : {T U : Type 0} (P : T → Type 0) (r : Result (Step T) (Fault Cause)) (f : Step T → Result U (Fault Cause)) → Fine text P r → ((x : Step T) → Left text x.rest → Told (f x)) → Told (and_then r f)
  told_then P (Ok x) f h k = k x h.0
  told_then P (Err e) f h k = h

  nothing_told : {U : Type 0} (r : Result (Option (Step Spelled)) (Fault WordCause)) (y : U) → WordFine text r → Told (and_then (nothing_more r) (λ done. Ok y))
  nothing_told (Ok None) y h = tt
  nothing_told (Ok (Some w)) y h = inr h.1
  nothing_told (Err f) y h = h

  body_told : (states symbols events : List (List ℕ)) (s : Rest) → Left text s → Told (read_body states symbols events s)
  body_told states symbols events s l =
      told_then Any (read_rules states symbols events s) _ (rule_section_fine states symbols events s l) (λ rules left.
      told_then Any (read_start states symbols rules.rest) _ (start_fine states symbols rules.rest left) (λ start left.
      nothing_told (next_word due.Keyword start.rest) _ (next_fine due.Keyword text start.rest.bytes start.rest.at left.from left.ready)))

  sections_told : (events : List (List ℕ)) → Told (read_sections events (begun text))
  sections_told events =
      let whole : Left text (begun text) = record { from = record { most = omega arith; part = refl }; ready = inl (inl refl) } in
      told_then Any (read_names (codes "states") 8 (begun text)) _ (section_fine (codes "states") 8 (begun text) whole) (λ states left.
      told_then Any (read_names (codes "symbols") 16 states.rest) _ (section_fine (codes "symbols") 16 states.rest left) (λ symbols left.
      body_told states.value symbols.value events symbols.rest left))

  length_told : (b : Bool) → leb (length text) 20000 ≡ b → (r : Result Reading (Fault Cause)) → Told r → Told (judged (cond b (Ok tt) (Err (word_fault TextTooLong 0))) r)
  length_told true e r h = h
  length_told false e r h = (leb-false (length text) 20000 e, refl)

  profile_told : Told (read_profile text)
  profile_told = length_told (leb (length text) 20000) refl (read_sections event_names (begun text)) (sections_told event_names)

  pub fault_stands : (r : Result (Unit {0}) (Fault Cause)) (was is : Table) → ReadInto text r was is → FaultStands text r
  fault_stands (Ok done) was is h = tt
  fault_stands (Err f) was is h = subst (λ (x : Result Reading (Fault Cause)). Told x) h.0 profile_told
