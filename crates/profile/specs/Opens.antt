-- The open profile of a set of events: 12 slots, and slot e holds, if e is in the set, a may rule for e with all
-- else 0.
use Rattle.std.specs.Prelude.{◌≡◌, ℕ, ◌<◌, Bool, true, false, cond, List, map, get_or, Some, None, Option, slice_index_or}
use Rattle.std.specs.List.{range_with_len}
use Rattle.profile.specs.declared.Mode.TheVariants.{May}
use Rattle.profile.specs.declared.Rule.{Rule}
use Rattle.profile.specs.Profiles.{MayRule, MustRule, JustWhen}

-- an event may happen in state 0 on symbol 0 and leads back there
abbrev pub free_rule : ℕ → Rule
free_rule e = record { mode = May; state = 0; top = 0; event = e; next = 0; upper = 0; lower = 0 }

abbrev pub open_slot : List Bool → ℕ → Option Rule
open_slot events e = cond (slice_index_or events e false) (Some (free_rule e)) None

abbrev pub open_slots : List Bool → List (Option Rule)
open_slots events = map (open_slot events) (range_with_len 0 12)

abbrev pub open_start : ℕ × ℕ
open_start = (0, 0)

-- a rule for an event in the set, with all else 0, the mode aside
pub record Free (events : List Bool) (r : Rule) : Type 0 where
  pub there : r.event < 12
  pub event : get_or events r.event false ≡ true
  pub state : r.state ≡ 0
  pub top : r.top ≡ 0
  pub next : r.next ≡ 0
  pub upper : r.upper ≡ 0
  pub lower : r.lower ≡ 0

-- What it comes to: the may rules are those of the events in the set, and there are no must rules.
pub record Opened (events : List Bool) (slots : List (Option Rule)) : Type 0 where
  pub may : (r : Rule) → JustWhen (MayRule slots r) (Free events r)
  pub must : (r : Rule) → MustRule slots r → ⊥
