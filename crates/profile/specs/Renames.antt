-- Tables that rename events: when every event keeps its kind.
use Rattle.std.specs.Prelude.{◌≡◌, ℕ, zero, suc, ◌+◌, ◌<◌, ◌≤◌, Bool, true, false, cond, List, Some, None, Option, ◌≢◌, nat_lt, slice_index, refl}
use Rattle.std.proofs.Common.{arith, sym, ap, ◌∙◌, inl, inr}
use Rattle.std.proofs.lemmas.Bool.{eqb-true, eq-eqb, and_parts, and_from, both_ways, cases_eq, cases_lt, cases_Bool, cond-false, le-ltb, lt-ltb}
use Rattle.std.specs.List.{range_with_len}
use Rattle.profile.specs.declared.Kind.{Kind}
use Rattle.profile.specs.declared.Kind.TheVariants.{Open, Step, Close}
use Rattle.profile.specs.Kinds.{event_kind, symbols_used, same_kind, all_kept, keeps_kinds}
use Rattle.profile.specs.Renaming.{Renames, Breaks}
use Rattle.profile.specs.Rules.{Formed}

-- a kind is known by how many symbols it uses
one_kind : (j k : Kind) → symbols_used j ≡ symbols_used k → j ≡ k
one_kind Open Open e = refl
one_kind Open Step e = cc
one_kind Open Close e = cc
one_kind Step Open e = cc
one_kind Step Step e = refl
one_kind Step Close e = cc
one_kind Close Open e = cc
one_kind Close Step e = cc
one_kind Close Close e = refl

pub same_kind_means : (a b : Option Kind) → same_kind a b ≡ true → a ≡ b
same_kind_means None b e = cc
same_kind_means (Some j) None e = cc
same_kind_means (Some j) (Some k) e = ap Some (one_kind j k (eqb-true _ _ e))

none_differs : (a b : Option Kind) → a ≡ None → same_kind a b ≡ false
none_differs None b e = refl
none_differs (Some k) b e = cc

-- there is no event from 12 on
no_event : (e : ℕ) → 12 ≤ e → event_kind e ≡ None
no_event e h =
    cond-false _ _ _ (le-ltb e 4 (omega arith)) ∙ cond-false _ _ _ (le-ltb e 8 (omega arith)) ∙ cond-false _ _ _ (le-ltb e 12 (omega arith))

pub kept_event : (t e : ℕ) → same_kind (event_kind t) (event_kind e) ≡ true → (t < 12) × (event_kind t ≡ event_kind e)
kept_event t e s = (
  elim (cases_lt t 12) [
    | inl h ↦ h
    | inr h ↦ absurd (both_ways (same_kind (event_kind t) (event_kind e)) (none_differs (event_kind t) (event_kind e) (no_event t h)) s)
  ],
  same_kind_means (event_kind t) (event_kind e) s,
)

-- and there is one below 12
pub event_there : (e : ℕ) → e < 12 → event_kind e ≢ None
event_there e h = at (nat_lt e 4) (nat_lt e 8) (nat_lt e 12) (lt-ltb e 12 h) where
  at : (p q r : Bool) → r ≡ true → cond p (Some Open) (cond q (Some Step) (cond r (Some Close) None)) ≢ None
  at true q r on n = cc
  at false true r on n = cc
  at false false true on n = cc
  at false false false on n = cc

differ : (a b : Option Kind) → (b ≢ None) → same_kind a b ≡ false → a ≢ b
differ a None some off e = some refl
differ a (Some k) some off e =
    both_ways (same_kind a (Some k)) off (ap (λ (x : Option Kind). same_kind x (Some k)) e ∙ eq-eqb (symbols_used k) (symbols_used k) refl)

module _ (kinds : ℕ → Option Kind) (table : List ℕ) where
  pub all_kept_from : (a n : ℕ) → ((k : ℕ) → a ≤ k → k < a + n → same_kind (kinds (slice_index table k)) (kinds k) ≡ true) → all_kept kinds table (range_with_len a n) ≡ true
  all_kept_from a zero h = refl
  all_kept_from a (suc n) h =
      and_from _ _ (h a (omega arith) (omega arith)) (all_kept_from (a + 1) n (λ k l m. h k (omega arith) (omega arith)))

  pub each_kept : (a n : ℕ) → all_kept kinds table (range_with_len a n) ≡ true → (k : ℕ) → a ≤ k → k < a + n → same_kind (kinds (slice_index table k)) (kinds k) ≡ true
  each_kept a zero e k l m = absurd (omega arith)
  each_kept a (suc n) e k l m =
      elim (cases_eq a k) [
        | inl is ↦ ap (λ (v : ℕ). same_kind (kinds (slice_index table v)) (kinds v)) (sym is) ∙ (and_parts _ _ e).0
        | inr apart ↦ each_kept (a + 1) n (and_parts _ _ e).1 k (omega (arith, apart)) (omega arith)
      ]

-- a table is taken where every event keeps its kind, and refused where one does not
pub table_taken : (events : List ℕ) (n : ℕ) → 12 ≤ n → ((k : ℕ) → k < n → same_kind (event_kind (slice_index events k)) (event_kind k) ≡ true) → keeps_kinds event_kind events ≡ true
unfolding keeps_kinds
table_taken events n all kept = all_kept_from event_kind events 0 12 (λ k l m. kept k (omega arith))

pub table_kept : (events : List ℕ) → keeps_kinds event_kind events ≡ true → (e : ℕ) → e < 12 → (slice_index events e < 12) × (event_kind (slice_index events e) ≡ event_kind e)
unfolding keeps_kinds
table_kept events keeps e h = kept_event (slice_index events e) e (each_kept event_kind events 0 12 keeps e (omega arith) (omega arith))

pub refused_kind : (events : List ℕ) (e : ℕ) → e < 12 → same_kind (event_kind (slice_index events e)) (event_kind e) ≡ false → event_kind (slice_index events e) ≢ event_kind e
refused_kind events e h off = differ (event_kind (slice_index events e)) (event_kind e) (event_there e h) off

pub table_broken : (events : List ℕ) (e : ℕ) → e < 12 → same_kind (event_kind (slice_index events e)) (event_kind e) ≡ false → keeps_kinds event_kind events ≡ false
unfolding keeps_kinds
table_broken events e h off =
    elim (cases_Bool (all_kept event_kind events (range_with_len 0 12))) [
      | inl on ↦ absurd (both_ways (same_kind (event_kind (slice_index events e)) (event_kind e)) off (each_kept event_kind events 0 12 on e (omega arith) (omega arith)))
      | inr broken ↦ broken
    ]

-- what is told of a table whose events were all tested, or one of which failed
pub test_judged : (events : List ℕ) (b : Bool) → (b ≡ true → (e : ℕ) → e < 12 → same_kind (event_kind (slice_index events e)) (event_kind e) ≡ true) → (b ≡ false → (e : ℕ) × (e < 12) × (same_kind (event_kind (slice_index events e)) (event_kind e) ≡ false)) → (b ≡ keeps_kinds event_kind events) × (b ≡ true → Renames events) × (b ≡ false → Breaks events)
test_judged events true kept broken =
    let keeps = table_taken events 12 (omega arith) (kept refl) in
    (sym keeps, λ _. table_kept events keeps, λ off. cc)
test_judged events false kept broken = let t = broken refl in (
  sym (table_broken events t.0 t.1 t.2),
  λ on. cc,
  λ _. (t.0, t.1, inr (refused_kind events t.0 t.1 t.2)),
)

-- a rule has a form only where there is its event
pub formed_event : (e upper lower : ℕ) → Formed (event_kind e) upper lower → e < 12
formed_event e upper lower f = elim (cases_lt e 12) [ inl h ↦ h | inr h ↦ absurd (at (event_kind e) (no_event e h) f) ] where
  at : (k : Option Kind) → k ≡ None → Formed k upper lower → ⊥
  at None is g = g
  at (Some k) is g = cc
