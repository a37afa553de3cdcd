-- Rules against the grammar.
use Rattle.std.proofs.Common.{◌≡◌, ℕ, ◌<◌, Bool, true, false, leb, List, [], ◌∷◌, ◌++◌, length, Some, None, Ok, Option, Result, sym, refl, ap, ◌∙◌, subst, inl, inr, append_assoc, arith}
use Rattle.std.specs.Str.{bytes_eq}
use Rattle.std.proofs.lemmas.Bool.{cond-true, cond-false, cases_Bool, cases_lt, le-ltb}
use Rattle.profile.specs.declared.Mode.{Mode}
use Rattle.profile.specs.declared.Mode.TheVariants.{May, Must}
use Rattle.profile.specs.declared.Kind.{Kind}
use Rattle.profile.specs.declared.Kind.TheVariants as kind
use Rattle.profile.specs.declared.Rule.{Rule}
use Rattle.profile.specs.Kinds.{event_kind, symbols_used}
use Rattle.text.specs.declared.fault.Place.{Place}
use Rattle.text.specs.declared.fault.Cause.{Cause}
use Rattle.text.specs.declared.fault.Fault.{Fault}
use Rattle.text.specs.declared.words.Due.TheVariants.{Keyword}
use Rattle.text.specs.Words.{Rest, Step, Spelled}
use Rattle.text.specs.Sections.{word_due}
use Rattle.text.specs.ProfileText.{mode_word, event_names, read_index, read_mode, read_symbol_if, used_by, read_rule}
use Rattle.text.specs.Grammar.{Spaced, name_of, symbols_listed, rule_words, NamesDiffer, SymbolsNamed, Named}
use Rattle.text.proofs.Spacing.{Takes, takes_none, takes_then, takes_as}
use Rattle.text.proofs.Dues.{then_ok, then_is, cond_ok, ok_same, same_bytes, bytes_same, Reads, word_reads, word_takes}
use Rattle.text.proofs.Naming.{index_takes, index_reads, events_differ}
use Rattle.text.proofs.RuleSteps.{kind_there}

-- modes
pub mode_takes : (s : Rest) (st : Step (Mode × Place)) → read_mode s ≡ Ok st → Takes s (mode_word st.value.0 ∷ []) st.rest
mode_takes s st e =
    let p = then_ok (word_due Keyword s) _ st e in
    let w : Step Spelled = p.0 in
    let all : (m : Mode) → w.value.bytes ≡ mode_word m → ◌≡◌ {A = Result (Step (Mode × Place)) (Fault Cause)} (Ok (record { value = (m, w.value.place); rest = w.rest })) (Ok st) → Takes s (mode_word st.value.0 ∷ []) st.rest =
    λ m same h.
    (let f = ok_same h in
    subst (λ (x : Step (Mode × Place)). Takes s (mode_word x.value.0 ∷ []) x.rest) f (takes_as (ap (λ (l : List ℕ). l ∷ []) same) (word_takes Keyword s w p.1))) in
    elim (cases_Bool (bytes_eq w.value.bytes (mode_word May))) [
      | inl on ↦ all May (same_bytes _ _ on) (sym (cond-true _ _ _ on) ∙ p.2)
      | inr off ↦ (let q = cond_ok _ _ _ _ (sym (cond-false _ _ _ off) ∙ p.2) in all Must (same_bytes _ _ q.0) q.1)
    ]

pub record ModeRead (m : Mode) (s : Rest) (ws : List (List ℕ)) : Type 0 where
  pub step : Step (Mode × Place)
  pub is : read_mode s ≡ Ok step
  pub mode : step.value.0 ≡ m
  pub left : Spaced step.rest.bytes ws

pub mode_reads : (m : Mode) (s : Rest) (ws : List (List ℕ)) → Spaced s.bytes (mode_word m ∷ ws) → ModeRead m s ws
mode_reads May s ws h =
    let w = word_reads Keyword s (mode_word May) ws h in
    record {
      step = record { value = (May, w.step.value.place); rest = w.step.rest };
      is = then_is _ w.is ∙ cond-true _ _ _ (bytes_same _ _ w.bytes);
      mode = refl;
      left = w.left;
    }
mode_reads Must s ws h =
    let w = word_reads Keyword s (mode_word Must) ws h in
    let not_may : bytes_eq w.step.value.bytes (mode_word May) ≡ false = ap (λ (l : List ℕ). bytes_eq l (mode_word May)) w.bytes in
    record {
      step = record { value = (Must, w.step.value.place); rest = w.step.rest };
      is = then_is _ w.is ∙ cond-false _ _ _ not_may ∙ cond-true _ _ _ (bytes_same _ _ w.bytes);
      mode = refl;
      left = w.left;
    }

-- symbols that are listed where they are used
abbrev listed_if : Bool → List (List ℕ) → ℕ → List (List ℕ)
listed_if false ns i = []
listed_if true ns i = name_of ns i ∷ []

-- i is the number of one of m symbols where it is used, and 0 where it is not
pub record Used (b : Bool) (m i : ℕ) : Type 0 where
  pub on : b ≡ true → i < m
  pub off : b ≡ false → i ≡ 0

used : (m i : ℕ) → i < m → Used true m i
used m i h = record { on = λ z. h; off = λ z. cc }

unused : (m i : ℕ) → i ≡ 0 → Used false m i
unused m i h = record { on = λ z. cc; off = λ z. h }

pub record SymbolTaken (b : Bool) (ns : List (List ℕ)) (s : Rest) (st : Step ℕ) : Type 0 where
  pub used : Used b (length ns) st.value
  pub takes : Takes s (listed_if b ns st.value) st.rest

symbol_takes : (b : Bool) (ns : List (List ℕ)) (s : Rest) (st : Step ℕ) → read_symbol_if b ns s ≡ Ok st → SymbolTaken b ns s st
symbol_takes false ns s st h =
    let e = ok_same h in
    record {
      used = unused _ _ (sym (ap (λ (x : Step ℕ). x.value) e));
      takes = subst (λ (r : Rest). Takes s [] r) (ap (λ (x : Step ℕ). x.rest) e) (takes_none s);
    }
symbol_takes true ns s st h =
    let i = index_takes ns s st h in
    record { used = used _ _ i.bound; takes = i.takes }

symbol_reads : (b : Bool) (ns : List (List ℕ)) (i : ℕ) (s : Rest) (ws : List (List ℕ)) → NamesDiffer ns → Used b (length ns) i → Spaced s.bytes (listed_if b ns i ++ ws) → Reads (read_symbol_if b ns s) i ws
symbol_reads false ns i s ws differ u h = record { step = record { value = 0; rest = s }; is = refl; value = sym (u.off refl); left = h }
symbol_reads true ns i s ws differ u h = index_reads ns i s ws differ (u.on refl) h

-- the two tests of a kind are the kind's form
listed_is : (ns : List (List ℕ)) (k : Option Kind) (u l : ℕ) → listed_if (leb 1 (used_by k)) ns u ++ listed_if (leb 2 (used_by k)) ns l ≡ symbols_listed ns k u l
listed_is ns None u l = refl
listed_is ns (Some kind.Open) u l = refl
listed_is ns (Some kind.Step) u l = refl
listed_is ns (Some kind.Close) u l = refl

named_from_used : (m : ℕ) (k : Kind) (u l : ℕ) → Used (leb 1 (symbols_used k)) m u → Used (leb 2 (symbols_used k)) m l → SymbolsNamed m (Some k) u l
named_from_used m kind.Open u l a b = (a.on refl, b.on refl)
named_from_used m kind.Step u l a b = (a.on refl, b.off refl)
named_from_used m kind.Close u l a b = (a.off refl, b.off refl)

used_from_named : (m : ℕ) (k : Option Kind) (u l : ℕ) → SymbolsNamed m k u l → Used (leb 1 (used_by k)) m u × Used (leb 2 (used_by k)) m l
used_from_named m None u l h = absurd h
used_from_named m (Some kind.Open) u l h = (used m u h.0, used m l h.1)
used_from_named m (Some kind.Step) u l h = (used m u h.0, unused m l h.1)
used_from_named m (Some kind.Close) u l h = (unused m u h.0, unused m l h.1)

event_there : (m e u l : ℕ) → SymbolsNamed m (event_kind e) u l → e < 12
event_there m e u l h =
    elim (cases_lt e 12) [
      | inl on ↦ on
      | inr off ↦ absurd (subst (λ (k : Option Kind). SymbolsNamed m k u l) (cond-false _ _ _ (le-ltb e 4 (omega arith)) ∙ cond-false _ _ _ (le-ltb e 8 (omega arith)) ∙ cond-false _ _ _ (le-ltb e 12 off)) h)
    ]

-- a rule
pub record RuleTaken (states symbols : List (List ℕ)) (s : Rest) (st : Step (Rule × Place)) : Type 0 where
  pub named : Named (length states) (length symbols) st.value.0
  pub takes : Takes s (rule_words states symbols st.value.0) st.rest

pub rule_takes : (states symbols : List (List ℕ)) (s : Rest) (st : Step (Rule × Place)) → read_rule states symbols event_names s ≡ Ok st → RuleTaken states symbols s st
rule_takes states symbols s st e =
    let m = then_ok (read_mode s) _ st e in
    let state = then_ok (read_index states m.0.rest) _ st m.2 in
    let top = then_ok (read_index symbols state.0.rest) _ st state.2 in
    let event = then_ok (read_index event_names top.0.rest) _ st top.2 in
    let next = then_ok (read_index states event.0.rest) _ st event.2 in
    let k : Option Kind = event_kind event.0.value in
    let upper = then_ok (read_symbol_if (leb 1 (used_by k)) symbols next.0.rest) _ st next.2 in
    let lower = then_ok (read_symbol_if (leb 2 (used_by k)) symbols upper.0.rest) _ st upper.2 in
    let is = ok_same lower.2 in
    let a = index_takes states m.0.rest state.0 state.1 in
    let b = index_takes symbols state.0.rest top.0 top.1 in
    let d = index_takes event_names top.0.rest event.0 event.1 in
    let f = index_takes states event.0.rest next.0 next.1 in
    let u = symbol_takes (leb 1 (used_by k)) symbols next.0.rest upper.0 upper.1 in
    let l = symbol_takes (leb 2 (used_by k)) symbols upper.0.rest lower.0 lower.1 in
    let there = kind_there event.0.value d.bound in
    let n : ℕ = length symbols in
    let form : SymbolsNamed n k upper.0.value lower.0.value =
    subst (λ (o : Option Kind). SymbolsNamed n o upper.0.value lower.0.value) (sym there.1)
    (named_from_used n there.0 upper.0.value lower.0.value
    (subst (λ (o : Option Kind). Used (leb 1 (used_by o)) n upper.0.value) there.1 u.used)
    (subst (λ (o : Option Kind). Used (leb 2 (used_by o)) n lower.0.value) there.1 l.used)) in
    let words = takes_then (mode_takes s m.0 m.1) (takes_then a.takes (takes_then b.takes (takes_then d.takes (takes_then f.takes (takes_as (listed_is symbols k upper.0.value lower.0.value) (takes_then u.takes l.takes)))))) in
    subst (λ (x : Step (Rule × Place)). RuleTaken states symbols s x) is
    (record { named = record { state = a.bound; top = b.bound; next = f.bound; symbols = form }; takes = words })

pub record RuleRead (states symbols : List (List ℕ)) (r : Rule) (s : Rest) (ws : List (List ℕ)) : Type 0 where
  pub step : Step (Rule × Place)
  pub is : read_rule states symbols event_names s ≡ Ok step
  pub rule : step.value.0 ≡ r
  pub left : Spaced step.rest.bytes ws

rule_from_fields : (r : Rule) (mode : Mode) (state top event next upper lower : ℕ) → mode ≡ r.mode → state ≡ r.state → top ≡ r.top → event ≡ r.event → next ≡ r.next → upper ≡ r.upper → lower ≡ r.lower → ◌≡◌ {A = Rule} (record { mode = mode; state = state; top = top; event = event; next = next; upper = upper; lower = lower }) r
rule_from_fields r mode state top event next upper lower em es et ee en eu el = rw (em, es, et, ee, en, eu, el)

pub rule_reads : (states symbols : List (List ℕ)) (r : Rule) (s : Rest) (ws : List (List ℕ)) → NamesDiffer states → NamesDiffer symbols → Named (length states) (length symbols) r → Spaced s.bytes (rule_words states symbols r ++ ws) → RuleRead states symbols r s ws
rule_reads states symbols r s ws ds dx n h =
    let listed : List (List ℕ) = symbols_listed symbols (event_kind r.event) r.upper r.lower in
    let m = mode_reads r.mode s (name_of states r.state ∷ name_of symbols r.top ∷ name_of event_names r.event ∷ name_of states r.next ∷ (listed ++ ws)) h in
    let state = index_reads states r.state m.step.rest (name_of symbols r.top ∷ name_of event_names r.event ∷ name_of states r.next ∷ (listed ++ ws)) ds n.state m.left in
    let top = index_reads symbols r.top state.step.rest (name_of event_names r.event ∷ name_of states r.next ∷ (listed ++ ws)) dx n.top state.left in
    let event = index_reads event_names r.event top.step.rest (name_of states r.next ∷ (listed ++ ws)) events_differ (event_there (length symbols) r.event r.upper r.lower n.symbols) top.left in
    let next = index_reads states r.next event.step.rest (listed ++ ws) ds n.next event.left in
    let k : Option Kind = event_kind event.step.value in
    let same : event_kind r.event ≡ k = ap event_kind (sym event.value) in
    let used = used_from_named (length symbols) k r.upper r.lower (subst (λ (o : Option Kind). SymbolsNamed (length symbols) o r.upper r.lower) same n.symbols) in
    let b1 : Bool = leb 1 (used_by k) in
    let b2 : Bool = leb 2 (used_by k) in
    let parts : listed ++ ws ≡ listed_if b1 symbols r.upper ++ (listed_if b2 symbols r.lower ++ ws) =
    ap (λ (l : List (List ℕ)). l ++ ws) (ap (λ (o : Option Kind). symbols_listed symbols o r.upper r.lower) same ∙ sym (listed_is symbols k r.upper r.lower)) ∙
    append_assoc (listed_if b1 symbols r.upper) (listed_if b2 symbols r.lower) ws in
    let upper = symbol_reads b1 symbols r.upper next.step.rest (listed_if b2 symbols r.lower ++ ws) dx used.0 (subst (λ (l : List (List ℕ)). Spaced next.step.rest.bytes l) parts next.left) in
    let lower = symbol_reads b2 symbols r.lower upper.step.rest ws dx used.1 upper.left in
    record {
      step = record {
        value = (record { mode = m.step.value.0; state = state.step.value; top = top.step.value; event = event.step.value; next = next.step.value; upper = upper.step.value; lower = lower.step.value }, m.step.value.1);
        rest = lower.step.rest;
      };
      is = then_is _ m.is ∙ then_is _ state.is ∙ then_is _ top.is ∙ then_is _ event.is ∙ then_is _ next.is ∙ then_is _ upper.is ∙ then_is _ lower.is;
      rule = rule_from_fields r _ _ _ _ _ _ _ m.mode state.value top.value event.value next.value upper.value lower.value;
      left = lower.left;
    }
