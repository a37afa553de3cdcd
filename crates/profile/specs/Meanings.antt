-- What the layers and the open profile make of may rules and must rules, slot by slot.
use Rattle.std.proofs.Common.{◌≡◌, ℕ, zero, suc, ◌+◌, ◌<◌, ◌≤◌, Bool, true, false, cond, List, [], ◌∷◌, map, get_or, Some, None, Option, sym, refl, ap, ◌∙◌, subst, inl, inr, arith}
use Rattle.std.proofs.lemmas.Bool.{cases_eq}
use Rattle.std.specs.List.{range_with_len}
use Rattle.profile.specs.declared.event_table.EventTable.{EventTable}
use Rattle.profile.specs.declared.Mode.{Mode}
use Rattle.profile.specs.declared.Mode.TheVariants.{May, Must}
use Rattle.profile.specs.declared.Rule.{Rule}
use Rattle.profile.specs.Rules.{rule_key}
use Rattle.profile.specs.Profiles.{Allows, Demands, SomeSlot, MayRule, MustRule, JustWhen}
use Rattle.profile.specs.Opens.{free_rule, open_slot, open_slots, Free, Opened}
use Rattle.profile.specs.Layers.{bare_rule, bare_slot, bare_slots, Bared, loosen_slot, loosen_slots, Loosened, rename_rule, rename_slot, rename_slots, EventReplaced, SlotReplaced, Renamed}
use Rattle.profile.specs.Layerings.{slot_mapped}

-- from what holds of a slot above and of the slot below it, to what holds of some slot above and of some below
module _ (f : Option Rule → Option Rule) (P Q : Option Rule → Type 0) where
  some_below : ((s : Option Rule) → P (f s) → Q s) → (slots : List (Option Rule)) → SomeSlot P (map f slots) → SomeSlot Q slots
  some_below at [] h = absurd h
  some_below at (s ∷ ss) (inl h) = inl (at s h)
  some_below at (s ∷ ss) (inr h) = inr (some_below at ss h)

  some_above : ((s : Option Rule) → Q s → P (f s)) → (slots : List (Option Rule)) → SomeSlot Q slots → SomeSlot P (map f slots)
  some_above at [] h = absurd h
  some_above at (s ∷ ss) (inl h) = inl (at s h)
  some_above at (s ∷ ss) (inr h) = inr (some_above at ss h)

  some_mapped : ((s : Option Rule) → JustWhen (P (f s)) (Q s)) → (slots : List (Option Rule)) → JustWhen (SomeSlot P (map f slots)) (SomeSlot Q slots)
  some_mapped at slots = (some_below (λ s. (at s).0) slots, some_above (λ s. (at s).1) slots)

-- rules with the same key have the same event
same_event : (s r : Rule) → rule_key s ≡ rule_key r → s.event ≡ r.event
same_event s r e = cc

-- bare
bare_demands : (r : Rule) (s : Option Rule) → JustWhen (Demands r (bare_slot s)) (Demands r s)
bare_demands r None = (λ d. d, λ d. d)
bare_demands r (Some s) = at s.mode refl where
  at : (m : Mode) → s.mode ≡ m → JustWhen (Demands r (bare_rule m s)) (Demands r (Some s))
  at May is = (λ b. absurd b, λ d. cc)
  at Must is = (λ d. d, λ d. d)

bare_allows : (r : Rule) (s : Option Rule) → JustWhen (Allows r (bare_slot s)) (Demands r s)
bare_allows r None = (λ d. d, λ d. d)
bare_allows r (Some s) = at s.mode refl where
  at : (m : Mode) → s.mode ≡ m → JustWhen (Allows r (bare_rule m s)) (Demands r (Some s))
  at May is = (λ b. absurd b, λ d. cc)
  at Must is = (λ a. (is, a), λ d. d.1)

pub bare_means : (slots : List (Option Rule)) → Bared slots (bare_slots slots)
bare_means slots = record {
  must = λ r. some_mapped bare_slot (Demands r) (Demands r) (bare_demands r) slots;
  may = λ r. some_mapped bare_slot (Allows r) (Demands r) (bare_allows r) slots;
}

-- loosen
module _ (events : List Bool) (r : Rule) where
  -- the event of r is not in the set
  abbrev Spared : Type 0
  Spared = get_or events r.event false ≡ false

  loosen_allows : (s : Option Rule) → JustWhen (Allows r (loosen_slot events s)) (Allows r s)
  loosen_allows None = (λ a. a, λ a. a)
  loosen_allows (Some s) = (λ a. a, λ a. a)

  still_must : (b : Bool) (m : Mode) → cond b May m ≡ Must → (b ≡ false) × (m ≡ Must)
  still_must true m e = cc
  still_must false m e = (refl, e)

  loosen_demands : (s : Option Rule) → JustWhen (Demands r (loosen_slot events s)) (Demands r s × Spared)
  loosen_demands None = (λ d. absurd d, λ d. d.0)
  loosen_demands (Some s) = (
    λ d. let p = still_must (get_or events s.event false) s.mode d.0 in
        ((p.1, d.1), ap (λ (e : ℕ). get_or events e false) (sym (same_event s r d.1)) ∙ p.0),
    λ d. (ap (λ (b : Bool). cond b May s.mode) (ap (λ (e : ℕ). get_or events e false) (same_event s r d.0.1) ∙ d.1) ∙ d.0.0, d.0.1),
  )

  some_spared : (slots : List (Option Rule)) → JustWhen (SomeSlot (λ s. Demands r s × Spared) slots) (MustRule slots r × Spared)
  some_spared [] = (λ h. absurd h, λ h. h.0)
  some_spared (s ∷ ss) = let p = some_spared ss in (
    elim [ inl h ↦ (inl h.0, h.1) | inr h ↦ let q = p.0 h in (inr q.0, q.1) ],
    λ h. elim h.0 [ inl d ↦ inl (d, h.1) | inr d ↦ inr (p.1 (d, h.1)) ],
  )

pub loosen_means : (events : List Bool) (slots : List (Option Rule)) → Loosened events slots (loosen_slots events slots)
loosen_means events slots = record {
  may = λ r. some_mapped (loosen_slot events) (Allows r) (Allows r) (loosen_allows events r) slots;
  must = λ r.
      let p = some_mapped (loosen_slot events) (Demands r) (λ s. Demands r s × Spared events r) (loosen_demands events r) slots in
      let q = some_spared events r slots in
      (λ h. q.0 (p.0 h), λ h. p.1 (q.1 h));
}

-- rename
module _ (table : EventTable) where
  -- the rule s in the mode of r
  abbrev in_mode_of : Rule → Rule → Rule
  in_mode_of r s = record { mode = r.mode; state = s.state; top = s.top; event = s.event; next = s.next; upper = s.upper; lower = s.lower }

  key_replaced : (r s : Rule) → rule_key (rename_rule table s) ≡ rule_key r → EventReplaced table (in_mode_of r s) r
  key_replaced r s e = record { mode = refl; state = cc; top = cc; event = cc; next = cc; upper = cc; lower = cc }

  slot_replaced : (s : Option Rule) → SlotReplaced table s (rename_slot table s)
  slot_replaced None = tt
  slot_replaced (Some s) = record { mode = refl; state = refl; top = refl; event = refl; next = refl; upper = refl; lower = refl }

  slots_replaced : (slots : List (Option Rule)) (i : ℕ) → SlotReplaced table (get_or slots i None) (get_or (rename_slots table slots) i None)
  slots_replaced slots i =
      subst (λ (s : Option Rule). SlotReplaced table (get_or slots i None) s) (slot_mapped (rename_slot table) refl slots i (get_or slots i None) refl) (slot_replaced (get_or slots i None))

  may_below : (r : Rule) (slots : List (Option Rule)) → MayRule (rename_slots table slots) r → (s : Rule) × MayRule slots s × EventReplaced table s r
  may_below r [] h = absurd h
  may_below r (None ∷ ss) (inl h) = absurd h
  may_below r (Some s ∷ ss) (inl h) = (in_mode_of r s, inl refl, key_replaced r s h)
  may_below r (s ∷ ss) (inr h) = let p = may_below r ss h in (p.0, inr p.1, p.2)

  must_below : (r : Rule) (slots : List (Option Rule)) → MustRule (rename_slots table slots) r → (s : Rule) × MustRule slots s × EventReplaced table s r
  must_below r [] h = absurd h
  must_below r (None ∷ ss) (inl h) = absurd h
  must_below r (Some s ∷ ss) (inl h) = (in_mode_of r s, inl (h.0, refl), key_replaced r s h.1)
  must_below r (s ∷ ss) (inr h) = let p = must_below r ss h in (p.0, inr p.1, p.2)

  allows_renamed : (r s : Rule) → EventReplaced table s r → (u : Option Rule) → Allows s u → Allows r (rename_slot table u)
  allows_renamed r s e None a = absurd a
  allows_renamed r s e (Some u) a = cc

  demands_renamed : (r s : Rule) → EventReplaced table s r → (u : Option Rule) → Demands s u → Demands r (rename_slot table u)
  demands_renamed r s e None d = absurd d
  demands_renamed r s e (Some u) d = (d.0, cc)

  pub rename_means : (slots : List (Option Rule)) → Renamed table slots (rename_slots table slots)
  rename_means slots = record {
    slot = slots_replaced slots;
    may = λ r. (may_below r slots, λ h. some_above (rename_slot table) (Allows r) (Allows h.0) (allows_renamed r h.0 h.2) slots h.1);
    must = λ r. (must_below r slots, λ h. some_above (rename_slot table) (Demands r) (Demands h.0) (demands_renamed r h.0 h.2) slots h.1);
  }

-- the open profile, over the events from a on
module _ (events : List Bool) (r : Rule) where
  -- an event of the set that r is the rule of
  abbrev Told : ℕ → Type 0
  Told e = (get_or events e false ≡ true) × (rule_key (free_rule e) ≡ rule_key r)

  slot_told : (e : ℕ) → Allows r (open_slot events e) → Told e
  slot_told e a = at (get_or events e false) refl a where
    at : (b : Bool) → get_or events e false ≡ b → Allows r (cond b (Some (free_rule e)) None) → Told e
    at true is h = (is, h)
    at false is h = absurd h

  told_slot : (e : ℕ) → Told e → Allows r (open_slot events e)
  told_slot e t = subst (λ (b : Bool). Allows r (cond b (Some (free_rule e)) None)) (sym t.0) t.1

  not_demanded : (e : ℕ) → Demands r (open_slot events e) → ⊥
  not_demanded e d = at (get_or events e false) d where
    at : (b : Bool) → Demands r (cond b (Some (free_rule e)) None) → ⊥
    at true h = cc
    at false h = h

  may_told : (a n : ℕ) → MayRule (map (open_slot events) (range_with_len a n)) r → (e : ℕ) × (e < a + n) × Told e
  may_told a zero h = absurd h
  may_told a (suc n) (inl h) = (a, omega arith, slot_told a h)
  may_told a (suc n) (inr h) = let p = may_told (a + 1) n h in let m = p.1 in (p.0, omega arith, p.2)

  told_may : (a n e : ℕ) → a ≤ e → e < a + n → Told e → MayRule (map (open_slot events) (range_with_len a n)) r
  told_may a zero e l m t = absurd (omega arith)
  told_may a (suc n) e l m t =
      elim (cases_eq a e) [
        | inl is ↦ inl (told_slot a (subst (λ (v : ℕ). Told v) (sym is) t))
        | inr apart ↦ inr (told_may (a + 1) n e (omega (arith, apart)) (omega arith) t)
      ]

  none_must : (a n : ℕ) → MustRule (map (open_slot events) (range_with_len a n)) r → ⊥
  none_must a zero h = h
  none_must a (suc n) (inl h) = not_demanded a h
  none_must a (suc n) (inr h) = none_must (a + 1) n h

-- a rule is free just when it has the key of the rule of its event, which is in the set
key_free : (events : List Bool) (r : Rule) (e : ℕ) → e < 12 → Told events r e → Free events r
key_free events r e h t =
    let is : e ≡ r.event = cc in
    record { there = subst (λ (v : ℕ). v < 12) is h; event = ap (λ (v : ℕ). get_or events v false) (sym is) ∙ t.0; state = cc; top = cc; next = cc; upper = cc; lower = cc }

free_key : (events : List Bool) (r : Rule) → Free events r → rule_key (free_rule r.event) ≡ rule_key r
free_key events r f = cc

pub open_means : (events : List Bool) → Opened events (open_slots events)
open_means events = record {
  may = λ r. (
    λ h. let p = may_told events r 0 12 h in key_free events r p.0 (let m = p.1 in omega arith) p.2,
    λ f. told_may events r 0 12 r.event (omega arith) (let m = f.there in omega arith) (f.event, free_key events r f),
  );
  must = λ r. none_must events r 0 12;
}
