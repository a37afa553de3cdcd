-- The slots of the open profile, and its law.
use Rattle.std.specs.Prelude.{◌≡◌, ℕ, zero, suc, ◌+◌, ◌<◌, ◌≤◌, Bool, true, false, cond, List, map, Some, None, Option, ◌≢◌, slice_index_or, refl}
use Rattle.std.proofs.Common.{arith, sym, ap, ◌∙◌}
use Rattle.std.proofs.lemmas.List.{get_or_past}
use Rattle.std.proofs.lemmas.List.FromFn.{get_or-map-range_with_len}
use Rattle.std.specs.List.{range_with_len}
use Rattle.profile.specs.declared.Kind.{Kind}
use Rattle.profile.specs.declared.Kind.TheVariants.{Open, Step, Close}
use Rattle.profile.specs.Rules.{Formed}
use Rattle.profile.specs.Kinds.{event_kind}
use Rattle.profile.specs.Profiles.{LawfulSlot, LawfulSlots, LawfulProfile}
use Rattle.profile.specs.Renames.{event_there}
use Rattle.profile.specs.Opens.{free_rule, open_slot, open_slots, open_start}

-- slot i is told by mark i, and from 12 on there is none
pub open_told : (events : List Bool) (i : ℕ) (b : Bool) → i < 12 → b ≡ slice_index_or events i false → cond b (Some (free_rule i)) None ≡ slice_index_or (open_slots events) i None
open_told events i b h e =
    ap (λ (b : Bool). cond b (Some (free_rule i)) None) e ∙ sym (get_or-map-range_with_len (open_slot events) 0 12 i i None h (omega arith))

pub open_outside : (events : List Bool) (i : ℕ) → 12 ≤ i → None ≡ slice_index_or (open_slots events) i None
open_outside events i h = sym (get_or_past (open_slots events) i None h)

-- a rule whose symbols are all 0 has the form of any kind
zero_formed : (k : Option Kind) → (k ≢ None) → Formed k 0 0
zero_formed None there = there refl
zero_formed (Some Open) there = tt
zero_formed (Some Step) there = refl
zero_formed (Some Close) there = (refl, refl)

free_lawful : (events : List Bool) (e : ℕ) → e < 12 → LawfulSlot event_kind (open_slot events e)
free_lawful events e h = at (slice_index_or events e false) where
  at : (b : Bool) → LawfulSlot event_kind (cond b (Some (free_rule e)) None)
  at true = record { state = omega arith; next = omega arith; top = omega arith; upper = omega arith; lower = omega arith; form = zero_formed (event_kind e) (event_there e h) }
  at false = tt

lawful_from : (events : List Bool) (a n : ℕ) → a + n ≤ 12 → LawfulSlots event_kind (map (open_slot events) (range_with_len a n))
lawful_from events a zero h = tt
lawful_from events a (suc n) h = (free_lawful events a (omega arith), lawful_from events (a + 1) n (omega arith))

pub open_lawful : (events : List Bool) → LawfulSlots event_kind (open_slots events)
open_lawful events = lawful_from events 0 12 (omega arith)

pub open_profile_lawful : (events : List Bool) → LawfulProfile event_kind (open_slots events) open_start
open_profile_lawful events = record { few = omega arith; each = open_lawful events; state = omega arith; symbol = omega arith }
