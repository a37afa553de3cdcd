-- The game of refinement between a station and a manual, each a list of optional rules.
use Rattle.std.specs.Prelude.{◌≡◌, ℕ, zero, suc, Bool, true, false, ◌&&◌, List, [], ◌∷◌, ◌++◌, Some, None, Option, ◌==◌}
use mathlib.Core.List.{tail}
use Rattle.ordered.specs.Laws.{In}
use Rattle.profile.specs.declared.Mode.{Mode}
use Rattle.profile.specs.declared.Mode.TheVariants.{May, Must}
use Rattle.profile.specs.declared.Kind.{Kind}
use Rattle.profile.specs.declared.Rule.{Rule}
use Rattle.game.specs.Systems.{Configuration, pushed}

-- a position: where the station is, and where the manual is
pub record Position : Type 0 where
  pub station : Configuration
  pub manual : Configuration

-- who attacks; the other side replies
pub data Side : Type 0 where
  by_station by_manual : Side

-- sides by number, as lines have them: 0 is the station, 1 the manual, and there is no other
abbrev pub side_of : ℕ → Option Side
side_of zero = Some by_station
side_of (suc zero) = Some by_manual
side_of (suc (suc n)) = None

-- of the station's and the manual's, the attacking side's, and the replying side's
abbrev pub of_attacker : {A : Type 0} → Side → A → A → A
of_attacker by_station station manual = station
of_attacker by_manual station manual = manual

abbrev pub of_replier : {A : Type 0} → Side → A → A → A
of_replier by_station station manual = manual
of_replier by_manual station manual = station

abbrev pub is_must : Mode → Bool
is_must May = false
is_must Must = true

-- Which rules are played: any rule in an attack by the station and in the reply to it, must rules alone in an
-- attack by the manual and in the reply to it.
abbrev pub playable : Side → Rule → Bool
playable by_station r = true
playable by_manual r = is_must r.mode

-- whether a rule applies at a state and a stack: both state and top agree; never on an empty stack
abbrev pub matches : Rule → ℕ → List ℕ → Bool
matches r state [] = false
matches r state (top ∷ below) = r.state == state && r.top == top

abbrev pub applies : Rule → Configuration → Bool
applies r c = matches r c.state c.stack

-- where a rule that applies leads
abbrev pub after : (ℕ → Option Kind) → Rule → Configuration → Configuration
after kinds r c = record { state = r.next; stack = pushed (kinds r.event) r ++ tail c.stack }

-- where an attack by rule r and the reply by rule s lead
abbrev pub outcome : (ℕ → Option Kind) → Side → Rule → Rule → Position → Position
outcome kinds by_station r s pos = record { station = after kinds r pos.station; manual = after kinds s pos.manual }
outcome kinds by_manual r s pos = record { station = after kinds s pos.station; manual = after kinds r pos.manual }

-- rule r attacks for a side: it is a rule of that side, may be played there, and applies
abbrev pub Attack : List (Option Rule) → List (Option Rule) → Side → Rule → Position → Type 0
Attack station manual side r pos =
    In (Some r) (of_attacker side station manual) × (playable side r ≡ true) ×
    (applies r (of_attacker side pos.station pos.manual) ≡ true)

-- rule s replies to an attack by rule r: it is a rule of the other side of the same event, may be played, and applies
abbrev pub Reply : List (Option Rule) → List (Option Rule) → Side → Rule → Rule → Position → Type 0
Reply station manual side r s pos =
    In (Some s) (of_replier side station manual) × (playable side s ≡ true) × (s.event ≡ r.event) ×
    (applies s (of_replier side pos.station pos.manual) ≡ true)

module _ (kinds : ℕ → Option Kind) (station manual : List (Option Rule)) where
  -- The attacker wins within k rounds: never within none, and within one more if some attack exists after which
  -- every reply leads to a position where it wins within the rest. It wins too where there is no reply.
  abbrev pub Wins : ℕ → Position → Type 0
  Wins zero pos = ⊥
  Wins (suc k) pos =
      (side : Side) × (r : Rule) × Attack station manual side r pos ×
      ((s : Rule) → Reply station manual side r s pos → Wins k (outcome kinds side r s pos))

  -- the attacker wins: within some number of rounds
  abbrev pub AttackerWins : Position → Type 0
  AttackerWins pos = (k : ℕ) × Wins k pos

  -- a relation of any propositions that the replying side can stay within: wherever it holds, every attack has
  -- a reply that leads to where it holds
  abbrev pub Defends : (Position → Type 0) → Type 0
  Defends R =
      (pos : Position) → R pos → (side : Side) (r : Rule) → Attack station manual side r pos →
      (s : Rule) × Reply station manual side r s pos × R (outcome kinds side r s pos)

  -- a modal refinement relation says yes or no to every position
  abbrev pub ModalRefinement : (Position → Bool) → Type 0
  ModalRefinement R = Defends (λ pos. R pos ≡ true)
