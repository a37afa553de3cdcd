-- One turn of the reading of rules.
use Rattle.std.proofs.Common.{◌≡◌, ℕ, suc, ◌+◌, ◌-◌, ◌<◌, Bool, true, false, cond, ltb, List, length, is_err, Some, None, Ok, Err, Result, sym, refl, ap, ◌∙◌, arith}
use Rattle.std.proofs.lemmas.Bool.{lt-ltb, cond-true, cond-false}
use Rattle.std.proofs.lemmas.List.Edits.{length-insert}
use Rattle.ordered.specs.Insert.{place_of, present, insert_into}
use Rattle.ordered.proofs.Scans.{goes, place_within}
use Rattle.profile.specs.declared.table.calls.NotAdded.{NotAdded}
use Rattle.profile.specs.declared.table.calls.NotAdded.TheVariants.{Double, Full}
use Rattle.profile.specs.declared.Kind.{Kind}
use Rattle.profile.specs.declared.Kind.TheVariants as kind
use Rattle.profile.specs.declared.Rule.{Rule}
use Rattle.profile.specs.Kinds.{event_kind}
use Rattle.profile.specs.Rules.{lawful_rule, rule_le}
use Rattle.profile.specs.Tables.{add_answer, add_after}
use Rattle.text.specs.declared.fault.Place.{Place}
use Rattle.text.specs.declared.fault.Cause.{Cause}
use Rattle.text.specs.declared.fault.Fault.{Fault}
use Rattle.text.specs.declared.fault.ProfileCause.TheVariants.{RuleTwice}
use Rattle.text.specs.Faults.{profile_fault}
use Rattle.text.specs.Words.{Rest, Step}
use Rattle.text.specs.Sections.{and_then}
use Rattle.text.specs.ProfileText.{read_rule, more_rules}

pub kind_there : (e : ℕ) → e < 12 → (k : Kind) × (event_kind e ≡ Some k)
kind_there e h = at (ltb e 4) (ltb e 8) (ltb e 12) (lt-ltb e 12 h) where
  at : (a b d : Bool) → d ≡ true → (k : Kind) × (cond a (Some kind.Open) (cond b (Some kind.Step) (cond d (Some kind.Close) None)) ≡ Some k)
  at true b d t = (kind.Open, refl)
  at false true d t = (kind.Step, refl)
  at false false d t = (kind.Close, ap (λ x. cond x (Some kind.Close) None) t)

-- a lawful rule finds room among fewer than 96, so that only a double is refused
added : (r : Rule) (rs : List Rule) → lawful_rule event_kind r ≡ true → length rs < 96 → add_answer r rs ≡ cond (present rule_le r rs) (Err (Double (place_of rule_le r rs))) (Ok (place_of rule_le r rs))
added r rs law room =
    cond-true _ _ _ law ∙ ap (λ (b : Bool). cond (present rule_le r rs) (Err (Double (place_of rule_le r rs))) (cond b (Ok (place_of rule_le r rs)) (Err Full))) (lt-ltb _ _ room)

refused_twice : (r : Rule) (rs : List Rule) (a : Result ℕ NotAdded) → a ≡ add_answer r rs → lawful_rule event_kind r ≡ true → length rs < 96 → (present rule_le r rs ≡ is_err a)
refused_twice r rs a e law room = at (present rule_le r rs) (e ∙ added r rs law room) where
  at : (b : Bool) → a ≡ cond b (Err (Double (place_of rule_le r rs))) (Ok (place_of rule_le r rs)) → b ≡ is_err a
  at true e = sym (ap is_err e)
  at false e = sym (ap is_err e)

taken_in : (r : Rule) (rs is : List Rule) (a : Result ℕ NotAdded) → a ≡ add_answer r rs → lawful_rule event_kind r ≡ true → length rs < 96 → present rule_le r rs ≡ false → is ≡ add_after r rs a → (is ≡ insert_into rule_le r rs) × (length is ≡ length rs + 1)
taken_in r rs is a e law room new put =
    let ok : a ≡ Ok (place_of rule_le r rs) = e ∙ added r rs law room ∙ cond-false _ _ _ new in
    let same : is ≡ insert_into rule_le r rs = put ∙ ap (add_after r rs) ok in
    (same, ap length (same ∙ goes rule_le r rs new) ∙ length-insert rs (place_of rule_le r rs) r (place_within rule_le r rs))

-- one more rule: i are read of n, rs are those in the table, and s is left
module _ (states symbols events : List (List ℕ)) (n i : ℕ) (rs : List Rule) (s : Rest) (on : i < n) where
  abbrev goes_on : Step (Rule × Place) → Result (Step (List Rule)) (Fault Cause)
  goes_on r =
      cond (present rule_le r.value.0 rs) (Err (profile_fault RuleTwice r.value.1))
      (more_rules states symbols events (n - (i + 1)) (insert_into rule_le r.value.0 rs) r.rest)

  at_rule : (r : Result (Step (Rule × Place)) (Fault Cause)) → r ≡ read_rule states symbols events s → more_rules states symbols events (n - i) rs s ≡ and_then r goes_on
  at_rule r e =
      let k : n - i ≡ suc (n - (i + 1)) = omega arith in
      ap (λ m. more_rules states symbols events m rs s) k ∙ ap (λ (r : Result (Step (Rule × Place)) (Fault Cause)). and_then r goes_on) (sym e)

  pub rule_fault : (f : Fault Cause) → Err f ≡ read_rule states symbols events s → Err f ≡ more_rules states symbols events (n - i) rs s
  rule_fault f e = sym (at_rule _ e)

  -- a is the table's answer
  module _ (w : Step (Rule × Place)) (a : Result ℕ NotAdded) (read : Ok w ≡ read_rule states symbols events s) (told : a ≡ add_answer w.value.0 rs) (law : lawful_rule event_kind w.value.0 ≡ true) (room : length rs < 96) where
    pub rule_twice : (f : Fault Cause) → true ≡ is_err a → f ≡ profile_fault RuleTwice w.value.1 → Err f ≡ more_rules states symbols events (n - i) rs s
    rule_twice f old ef = ap Err ef ∙ sym (at_rule _ read ∙ cond-true _ _ _ (refused_twice w.value.0 rs a told law room ∙ sym old))

    pub rule_more : (is : List Rule) → false ≡ is_err a → is ≡ add_after w.value.0 rs a → (more_rules states symbols events (n - (i + 1)) is w.rest ≡ more_rules states symbols events (n - i) rs s) × (length is ≡ length rs + 1)
    rule_more is new put =
        let fresh = refused_twice w.value.0 rs a told law room ∙ sym new in
        let t = taken_in w.value.0 rs is a told law room fresh put in
        (ap (λ (l : List Rule). more_rules states symbols events (n - (i + 1)) l w.rest) t.0 ∙ sym (at_rule _ read ∙ cond-false _ _ _ fresh), t.1)
