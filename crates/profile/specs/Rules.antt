-- Rules, their law and their order. The kind of an event is a parameter throughout: `kinds` tells it, or nothing
-- where there is no such event.
use Rattle.std.specs.Prelude.{◌≡◌, ℕ, ◌<◌, Bool, true, false, ◌&&◌, List, [], ◌∷◌, Some, None, Option, ◌==◌, nat_lt}
use Rattle.profile.specs.declared.Kind.{Kind}
use Rattle.profile.specs.declared.Kind.TheVariants.{Open, Step, Close}
use Rattle.profile.specs.declared.Rule.{Rule}
use Rattle.ordered.specs.Lex.{lex_le}
use Rattle.ordered.specs.Laws.{by_key, ascends}

-- the symbols that a kind does not use are 0
abbrev pub Form : Kind → ℕ → ℕ → Type 0
Form Open upper lower = Unit {0}
Form Step upper lower = lower ≡ 0
Form Close upper lower = (upper ≡ 0) × (lower ≡ 0)

-- there is such an event, and the symbols have the form of its kind
abbrev pub Formed : Option Kind → ℕ → ℕ → Type 0
Formed None upper lower = ⊥
Formed (Some k) upper lower = Form k upper lower

-- the law of a rule: states below 8, symbols below 16, an event that there is, and its form
pub record LawfulRule (kinds : ℕ → Option Kind) (r : Rule) : Type 0 where
  pub state : r.state < 8
  pub next : r.next < 8
  pub top : r.top < 16
  pub upper : r.upper < 16
  pub lower : r.lower < 16
  pub form : Formed (kinds r.event) r.upper r.lower

-- the same as a test
abbrev pub formed : Option Kind → ℕ → ℕ → Bool
formed None upper lower = false
formed (Some Open) upper lower = true
formed (Some Step) upper lower = lower == 0
formed (Some Close) upper lower = upper == 0 && lower == 0

abbrev pub lawful_rule : (ℕ → Option Kind) → Rule → Bool
lawful_rule kinds r =
    nat_lt r.state 8 && (nat_lt r.next 8 && (nat_lt r.top 16 && (nat_lt r.upper 16 && (nat_lt r.lower 16 && formed (kinds r.event) r.upper r.lower))))

abbrev pub all_lawful : (ℕ → Option Kind) → List Rule → Bool
all_lawful kinds [] = true
all_lawful kinds (r ∷ rs) = lawful_rule kinds r && all_lawful kinds rs

-- what rules are ordered by: state, top, event, next state, upper and lower symbol, not the mode
abbrev pub rule_key : Rule → List ℕ
rule_key r = r.state ∷ r.top ∷ r.event ∷ r.next ∷ r.upper ∷ r.lower ∷ []

abbrev pub rule_le : Rule → Rule → Bool
rule_le = by_key rule_key lex_le

-- strictly ascending, so that no rule is there twice, the mode aside
abbrev pub rules_ascend : List Rule → Bool
rules_ascend = ascends rule_le
