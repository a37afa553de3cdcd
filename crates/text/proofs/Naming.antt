-- Names against the grammar: a name's number, and the sections of names.
use Rattle.std.proofs.Common.{◌≡◌, ℕ, zero, suc, ◌+◌, ◌-◌, ◌<◌, ◌≤◌, Bool, true, false, cond, not, ◌&&◌, List, [], ◌∷◌, ◌++◌, length, get_or, is_some, Some, None, Ok, Err, decimal, Option, Result, sym, refl, ap, ◌∙◌, subst, inl, inr, append_assoc, arith}
use Rattle.std.specs.Str.{bytes_eq}
use Rattle.std.proofs.lemmas.List.{append-nil}
use Rattle.std.proofs.lemmas.Bool.{cond-true, cond-false, cases_Bool, both_ways, and_parts, not-true}
use Rattle.ordered.specs.Laws.{HasKey}
use Rattle.text.specs.declared.words.Due.TheVariants.{Name}
use Rattle.text.specs.Words.{Rest, Step, Spelled}
use Rattle.text.specs.Sections.{word_due, read_keyword, read_number}
use Rattle.text.specs.ProfileText.{event_names, index_from, index_of, more_names, read_names, known, read_index}
use Rattle.text.specs.Grammar.{Spaced, names_section, name_of, EachNew, NamesDiffer}
use Rattle.text.proofs.Spacing.{Takes, takes_none, takes_then, takes_as}
use Rattle.text.proofs.Dues.{then_ok, then_is, ok_same, same_bytes, bytes_same, Reads, word_reads, word_takes, keyword_takes, keyword_reads, number_takes, number_reads}

-- keys of a list that is grown at its end
module _ {X K : Type 0} (key : X → K) (k : K) where
  pub has_key_left : (xs ys : List X) → HasKey key k xs → HasKey key k (xs ++ ys)
  has_key_left [] ys h = absurd h
  has_key_left (x ∷ xs) ys (inl e) = inl e
  has_key_left (x ∷ xs) ys (inr h) = inr (has_key_left xs ys h)

  pub has_key_last : (xs : List X) (y : X) → k ≡ key y → HasKey key k (xs ++ y ∷ [])
  has_key_last [] y e = inl e
  has_key_last (x ∷ xs) y e = inr (has_key_last xs y e)

-- the identity is the key of a name
abbrev itself : List ℕ → List ℕ
itself n = n

not_before : (before ns : List (List ℕ)) (i : ℕ) → EachNew itself before ns → i < length ns → HasKey itself (get_or ns i []) before → ⊥
not_before before [] i e h k = omega arith
not_before before (n ∷ ns) zero e h k = e.0 k
not_before before (n ∷ ns) (suc i) e h k = not_before (before ++ n ∷ []) ns i e.1 (omega arith) (has_key_left itself (get_or ns i []) before (n ∷ []) k)

-- a name's number is where it stands
pub own_index : (before ns : List (List ℕ)) (j i : ℕ) → EachNew itself before ns → i < length ns → index_from j ns (get_or ns i []) ≡ Some (j + i)
own_index before [] j i e h = absurd (omega arith)
own_index before (n ∷ ns) j zero e h = cond-true _ _ _ (bytes_same n n refl) ∙ ap Some (omega arith)
own_index before (n ∷ ns) j (suc i) e h =
    elim (cases_Bool (bytes_eq n (get_or ns i []))) [
      | inl on ↦ absurd (not_before (before ++ n ∷ []) ns i e.1 (omega arith) (has_key_last itself (get_or ns i []) before n (sym (same_bytes n (get_or ns i []) on))))
      | inr off ↦ cond-false _ _ _ off ∙ own_index (before ++ n ∷ []) ns (j + 1) i e.1 (omega arith) ∙ ap Some (omega arith)
    ]

pub record Found (ns : List (List ℕ)) (x : List ℕ) (j i : ℕ) : Type 0 where
  pub least : j ≤ i
  pub most : i < j + length ns
  pub name : get_or ns (i - j) [] ≡ x

index_found : (ns : List (List ℕ)) (x : List ℕ) (j i : ℕ) → index_from j ns x ≡ Some i → Found ns x j i
index_found [] x j i h = cc
index_found (n ∷ ns) x j i h =
    elim (cases_Bool (bytes_eq n x)) [
      | inl on ↦
          (let g : ◌≡◌ {A = Option ℕ} (Some j) (Some i) = sym (cond-true _ _ _ on) ∙ h in
          let e : j ≡ i = cc in
          let z : i - j ≡ 0 = omega arith in
          record { least = omega arith; most = omega arith; name = ap (λ m. get_or (n ∷ ns) m []) z ∙ same_bytes n x on })
      | inr off ↦
          (let f = index_found ns x (j + 1) i (sym (cond-false _ _ _ off) ∙ h) in
          let l = f.least in
          let z : i - j ≡ suc (i - (j + 1)) = omega arith in
          record { least = omega arith; most = omega (arith, f.most); name = ap (λ m. get_or (n ∷ ns) m []) z ∙ f.name })
    ]

-- a name is found where it is listed
index_absent : (ns : List (List ℕ)) (x : List ℕ) (j : ℕ) → is_some (index_from j ns x) ≡ false → HasKey itself x ns → ⊥
index_absent [] x j h k = k
index_absent (n ∷ ns) x j h k =
    elim (cases_Bool (bytes_eq n x)) [
      | inl on ↦ both_ways (is_some (index_from j (n ∷ ns) x)) h (ap is_some (cond-true _ _ _ on))
      | inr off ↦ elim k [
        | inl e ↦ both_ways (bytes_eq n x) off (bytes_same n x (sym e))
        | inr l ↦ index_absent ns x (j + 1) (ap is_some (sym (cond-false _ _ _ off)) ∙ h) l
      ]
    ]

index_new : (ns : List (List ℕ)) (x : List ℕ) (j : ℕ) → (HasKey itself x ns → ⊥) → is_some (index_from j ns x) ≡ false
index_new [] x j n = refl
index_new (m ∷ ns) x j n =
    elim (cases_Bool (bytes_eq m x)) [
      | inl on ↦ absurd (n (inl (sym (same_bytes m x on))))
      | inr off ↦ ap is_some (cond-false _ _ _ off) ∙ index_new ns x (j + 1) (λ h. n (inr h))
    ]

-- names, one after the other
pub cond_else : {T E : Type 0} (b : Bool) (x : Result T E) (f : E) (y : T) → cond b (Err f) x ≡ Ok y → (b ≡ false) × (x ≡ Ok y)
cond_else true x f y h = cc
cond_else false x f y h = (refl, h)

pub record NamesTaken (k : ℕ) (ns : List (List ℕ)) (s : Rest) (st : Step (List (List ℕ))) : Type 0 where
  pub new : List (List ℕ)
  pub is : st.value ≡ ns ++ new
  pub count : length new ≡ k
  pub differ : EachNew itself ns new
  pub takes : Takes s new st.rest

names_take : (k : ℕ) (ns : List (List ℕ)) (s : Rest) (st : Step (List (List ℕ))) → more_names k ns s ≡ Ok st → NamesTaken k ns s st
names_take zero ns s st h =
    let e = ok_same h in
    record { new = []; is = sym (ap (λ (x : Step (List (List ℕ))). x.value) e) ∙ sym (append-nil ns); count = refl; differ = tt; takes = subst (λ (r : Rest). Takes s [] r) (ap (λ (x : Step (List (List ℕ))). x.rest) e) (takes_none s) }
names_take (suc k) ns s st h =
    let p = then_ok (word_due Name s) _ st h in
    let w : Step Spelled = p.0 in
    let q = cond_else _ _ _ _ p.2 in
    let more = names_take k (ns ++ w.value.bytes ∷ []) w.rest st q.1 in
    record {
      new = w.value.bytes ∷ more.new;
      is = more.is ∙ append_assoc ns (w.value.bytes ∷ []) more.new;
      count = ap suc more.count;
      differ = (index_absent ns w.value.bytes 0 q.0, more.differ);
      takes = takes_then (word_takes Name s w p.1) more.takes;
    }

names_read : (new ns : List (List ℕ)) (s : Rest) (ws : List (List ℕ)) → EachNew itself ns new → Spaced s.bytes (new ++ ws) → Reads (more_names (length new) ns s) (ns ++ new) ws
names_read [] ns s ws e h = record { step = record { value = ns; rest = s }; is = refl; value = sym (append-nil ns); left = h }
names_read (u ∷ new) ns s ws e h =
    let w = word_reads Name s u (new ++ ws) h in
    let more = names_read new (ns ++ u ∷ []) w.step.rest ws e.1 w.left in
    let fresh : is_some (index_of ns w.step.value.bytes) ≡ false = ap (λ (x : List ℕ). is_some (index_of ns x)) w.bytes ∙ index_new ns u 0 e.0 in
    record {
      step = more.step;
      is = then_is _ w.is ∙ cond-false _ _ _ fresh ∙ ap (λ (x : List ℕ). more_names (length new) (ns ++ x ∷ []) w.step.rest) w.bytes ∙ more.is;
      value = more.value ∙ append_assoc ns (u ∷ []) new;
      left = more.left;
    }

pub record SectionTaken (heading : List ℕ) (most : ℕ) (s : Rest) (st : Step (List (List ℕ))) : Type 0 where
  pub some : 1 ≤ length st.value
  pub few : length st.value ≤ most
  pub differ : NamesDiffer st.value
  pub takes : Takes s (names_section heading st.value) st.rest

pub section_takes : (heading : List ℕ) (most : ℕ) (s : Rest) (st : Step (List (List ℕ))) → read_names heading most s ≡ Ok st → SectionTaken heading most s st
section_takes heading most s st e =
    let p = then_ok (read_keyword heading s) _ st e in
    let q = then_ok (read_number 1 most p.0.rest) _ st p.2 in
    let n = number_takes 1 most p.0.rest q.0 q.1 in
    let ns = names_take q.0.value [] q.0.rest st q.2 in
    let same : st.value ≡ ns.new = ns.is in
    let count : length st.value ≡ q.0.value = ap length same ∙ ns.count in
    let least = n.least in
    let limit = n.most in
    let both = takes_then (keyword_takes heading s p.0 p.1) (takes_then n.takes ns.takes) in
    record {
      some = omega arith;
      few = omega arith;
      differ = subst (λ (l : List (List ℕ)). NamesDiffer l) (sym same) ns.differ;
      takes = takes_as (ap (λ m. heading ∷ decimal m ∷ ns.new) (sym count) ∙ ap (λ (l : List (List ℕ)). heading ∷ decimal (length st.value) ∷ l) (sym same)) both;
    }

pub section_reads : (heading : List ℕ) (most : ℕ) (ns : List (List ℕ)) (s : Rest) (ws : List (List ℕ)) → 1 ≤ length ns → length ns ≤ most → most < 10000 → NamesDiffer ns → Spaced s.bytes (names_section heading ns ++ ws) → Reads (read_names heading most s) ns ws
section_reads heading most ns s ws some few small differ h =
    let k = keyword_reads heading s (decimal (length ns) ∷ (ns ++ ws)) h in
    let n = number_reads 1 most (length ns) k.step.rest (ns ++ ws) some few small k.left in
    let m = names_read ns [] n.step.rest ws differ n.left in
    record {
      step = m.step;
      is = then_is _ k.is ∙ then_is _ n.is ∙ ap (λ c. more_names c [] n.step.rest) n.value ∙ m.is;
      value = m.value;
      left = m.left;
    }

-- a name that is looked up
known_some : (w : Step Spelled) (o : Option ℕ) (st : Step ℕ) → known w o ≡ Ok st → (o ≡ Some st.value) × (w.rest ≡ st.rest)
known_some w None st h = cc
known_some w (Some i) st h = let e = ok_same h in (ap (λ (x : Step ℕ). Some x.value) e, ap (λ (x : Step ℕ). x.rest) e)

pub record IndexTaken (ns : List (List ℕ)) (s : Rest) (st : Step ℕ) : Type 0 where
  pub bound : st.value < length ns
  pub takes : Takes s (name_of ns st.value ∷ []) st.rest

pub index_takes : (ns : List (List ℕ)) (s : Rest) (st : Step ℕ) → read_index ns s ≡ Ok st → IndexTaken ns s st
index_takes ns s st e =
    let p = then_ok (word_due Name s) _ st e in
    let w : Step Spelled = p.0 in
    let q = known_some w (index_of ns w.value.bytes) st p.2 in
    let f = index_found ns w.value.bytes 0 st.value q.0 in
    let z : st.value - 0 ≡ st.value = omega arith in
    let spelled : w.value.bytes ≡ name_of ns st.value = sym f.name ∙ ap (λ i. get_or ns i []) z in
    record {
      bound = omega (arith, f.most);
      takes = subst (λ (r : Rest). Takes s (name_of ns st.value ∷ []) r) q.1 (takes_as (ap (λ (l : List ℕ). l ∷ []) spelled) (word_takes Name s w p.1));
    }

pub index_reads : (ns : List (List ℕ)) (i : ℕ) (s : Rest) (ws : List (List ℕ)) → NamesDiffer ns → i < length ns → Spaced s.bytes (name_of ns i ∷ ws) → Reads (read_index ns s) i ws
index_reads ns i s ws differ bound h =
    let w = word_reads Name s (name_of ns i) ws h in
    let o : index_of ns w.step.value.bytes ≡ Some i = ap (index_of ns) w.bytes ∙ own_index [] ns 0 i differ bound ∙ ap Some (omega arith) in
    record {
      step = record { value = i; rest = w.step.rest };
      is = then_is _ w.is ∙ ap (known w.step) o;
      value = refl;
      left = w.left;
    }

-- a test of a whole list of names: each differs from those before it
abbrev pub all_new : List (List ℕ) → List (List ℕ) → Bool
all_new before [] = true
all_new before (n ∷ ns) = not (is_some (index_of before n)) && all_new (before ++ n ∷ []) ns

pub each_new_from_test : (before ns : List (List ℕ)) → all_new before ns ≡ true → EachNew itself before ns
each_new_from_test before [] h = tt
each_new_from_test before (n ∷ ns) h =
    let p = and_parts _ _ h in
    (index_absent before n 0 (not-true _ p.0), each_new_from_test (before ++ n ∷ []) ns p.1)

pub events_differ : NamesDiffer event_names
events_differ = each_new_from_test [] event_names refl
