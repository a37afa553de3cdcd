-- What a profile means: a list of slots, each holding one rule or nothing, and a start, which is a state and the
-- symbol that is the whole stack. Whoever asks a profile learns this and nothing else.
use Rattle.std.specs.Prelude.{◌≡◌, ℕ, ◌<◌, ◌≤◌, ◌⊎◌, List, [], ◌∷◌, length, Some, None, Option}
use Rattle.profile.specs.declared.Kind.{Kind}
use Rattle.profile.specs.declared.Mode.TheVariants.{Must}
use Rattle.profile.specs.declared.Rule.{Rule}
use Rattle.profile.specs.Rules.{LawfulRule, rule_key}

-- an empty slot is lawful, another one if its rule is
abbrev pub LawfulSlot : (ℕ → Option Kind) → Option Rule → Type 0
LawfulSlot kinds None = Unit {0}
LawfulSlot kinds (Some r) = LawfulRule kinds r

abbrev pub LawfulSlots : (ℕ → Option Kind) → List (Option Rule) → Type 0
LawfulSlots kinds [] = Unit {0}
LawfulSlots kinds (s ∷ ss) = LawfulSlot kinds s × LawfulSlots kinds ss

-- the law of a profile: at most 96 slots, every rule lawful, the start in range
pub record LawfulProfile (kinds : ℕ → Option Kind) (slots : List (Option Rule)) (start : ℕ × ℕ) : Type 0 where
  pub few : length slots ≤ 96
  pub each : LawfulSlots kinds slots
  pub state : start.0 < 8
  pub symbol : start.1 < 16

-- A slot allows a rule that it holds in either mode, since what must happen also may; it demands one that it holds
-- as must. Rules are compared by all but the mode.
abbrev pub Allows : Rule → Option Rule → Type 0
Allows r None = ⊥
Allows r (Some s) = rule_key s ≡ rule_key r

abbrev pub Demands : Rule → Option Rule → Type 0
Demands r None = ⊥
Demands r (Some s) = (s.mode ≡ Must) × (rule_key s ≡ rule_key r)

-- some slot is so
abbrev pub SomeSlot : (Option Rule → Type 0) → List (Option Rule) → Type 0
SomeSlot P [] = ⊥
SomeSlot P (s ∷ ss) = P s ⊎ SomeSlot P ss

-- the may rules of a profile and its must rules
abbrev pub MayRule : List (Option Rule) → Rule → Type 0
MayRule slots r = SomeSlot (Allows r) slots

abbrev pub MustRule : List (Option Rule) → Rule → Type 0
MustRule slots r = SomeSlot (Demands r) slots

-- each of two statements follows from the other
abbrev pub JustWhen : Type 0 → Type 0 → Type 0
JustWhen A B = (A → B) × (B → A)
