-- Modal transition systems, their refinement, and the system that a list of optional rules induces.
use Rattle.std.specs.Prelude.{◌≡◌, ℕ, List, [], ◌∷◌, ◌++◌, Some, None, Option}
use Rattle.ordered.specs.Laws.{In}
use Rattle.profile.specs.declared.Mode.TheVariants.{Must}
use Rattle.profile.specs.declared.Kind.{Kind}
use Rattle.profile.specs.declared.Kind.TheVariants.{Open, Step, Close}
use Rattle.profile.specs.declared.Rule.{Rule}
use Rattle.profile.specs.Profiles.{MayRule, MustRule}

-- each of two statements gives the other
abbrev pub ExactlyWhen : Type 0 → Type 0 → Type 0
ExactlyWhen A B = (A → B) × (B → A)

-- Processes with may and must transitions by event; what must be possible may be.
pub record ModalSystem : Type 1 where
  pub Process : Type 0
  pub may : Process → ℕ → Process → Type 0
  pub must : Process → ℕ → Process → Type 0
  pub must_within_may : (p : Process) (event : ℕ) (q : Process) → must p event q → may p event q

-- Refinement in its standard form. S is the refining system, T the refined one, R a relation of any propositions.
-- Wherever R holds, T may do whatever S may do, S must do whatever T must do, and R holds again afterwards.
pub record Refinement (S T : ModalSystem) (R : S.Process → T.Process → Type 0) : Type 0 where
  pub may : (p : S.Process) (q : T.Process) → R p q → (event : ℕ) (p' : S.Process) → S.may p event p' →
      (q' : T.Process) × T.may q event q' × R p' q'
  pub must : (p : S.Process) (q : T.Process) → R p q → (event : ℕ) (q' : T.Process) → T.must q event q' →
      (p' : S.Process) × S.must p event p' × R p' q'

-- a configuration of a pushdown system: a state and a stack of symbols, top first
pub record Configuration : Type 0 where
  pub state : ℕ
  pub stack : List ℕ

-- What a rule puts in the place of the top symbol, by the kind of its event: an open rule its upper symbol above
-- its lower one, a step rule its upper symbol, a close rule nothing. An event without a kind, which no lawful
-- rule has, puts nothing.
abbrev pub pushed : Option Kind → Rule → List ℕ
pushed (Some Open) r = r.upper ∷ r.lower ∷ []
pushed (Some Step) r = r.upper ∷ []
pushed (Some Close) r = []
pushed None r = []

-- a rule leads from c to d: state and top of c agree with it, it takes the top off and puts its symbols in its place
abbrev pub Leads : (ℕ → Option Kind) → Rule → Configuration → Configuration → Type 0
Leads kinds r c d =
    (below : List ℕ) × (c ≡ record { state = r.state; stack = r.top ∷ below }) ×
    (d ≡ record { state = r.next; stack = pushed (kinds r.event) r ++ below })

-- the may transitions: those of every rule, since a must rule counts as a may rule
abbrev pub MayTransition : (ℕ → Option Kind) → List (Option Rule) → Configuration → ℕ → Configuration → Type 0
MayTransition kinds slots c event d = (r : Rule) × In (Some r) slots × (r.event ≡ event) × Leads kinds r c d

-- the must transitions: those of the must rules
abbrev pub MustTransition : (ℕ → Option Kind) → List (Option Rule) → Configuration → ℕ → Configuration → Type 0
MustTransition kinds slots c event d = (r : Rule) × In (Some r) slots × (r.event ≡ event) × Leads kinds r c d × (r.mode ≡ Must)

-- the modal transition system that slots induce, where `kinds` tells the kind of each event
abbrev pub induced : (ℕ → Option Kind) → List (Option Rule) → ModalSystem
induced kinds slots = record {
  Process = Configuration;
  may = MayTransition kinds slots;
  must = MustTransition kinds slots;
  must_within_may = λ p event q t. (t.0, t.1, t.2, t.3);
}

-- the same may rules and the same must rules stand in both, in whatever slots and however often
pub record SameRules (slots others : List (Option Rule)) : Type 0 where
  pub may : (r : Rule) → ExactlyWhen (MayRule slots r) (MayRule others r)
  pub must : (r : Rule) → ExactlyWhen (MustRule slots r) (MustRule others r)
