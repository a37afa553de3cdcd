-- What each layer makes of a slot of the profile below, and what that makes of its may rules and its must rules.
use Rattle.std.specs.Prelude.{◌≡◌, ℕ, Bool, false, cond, List, map, Some, None, Option, slice_index, slice_index_or}
use Rattle.profile.specs.declared.event_table.EventTable.{EventTable}
use Rattle.profile.specs.declared.Mode.{Mode}
use Rattle.profile.specs.declared.Mode.TheVariants.{May, Must}
use Rattle.profile.specs.declared.Rule.{Rule}
use Rattle.profile.specs.Profiles.{MayRule, MustRule, JustWhen}

-- bare: a may rule goes, a must rule stays
abbrev pub bare_rule : Mode → Rule → Option Rule
bare_rule May r = None
bare_rule Must r = Some r

abbrev pub bare_slot : Option Rule → Option Rule
bare_slot None = None
bare_slot (Some r) = bare_rule r.mode r

abbrev pub bare_slots : List (Option Rule) → List (Option Rule)
bare_slots = map bare_slot

-- loosen: a rule whose event is in the set becomes a may rule
abbrev pub loosen_rule : List Bool → Rule → Rule
loosen_rule events r =
    record { mode = cond (slice_index_or events r.event false) May r.mode; state = r.state; top = r.top; event = r.event; next = r.next; upper = r.upper; lower = r.lower }

abbrev pub loosen_slot : List Bool → Option Rule → Option Rule
loosen_slot events None = None
loosen_slot events (Some r) = Some (loosen_rule events r)

abbrev pub loosen_slots : List Bool → List (Option Rule) → List (Option Rule)
loosen_slots events = map (loosen_slot events)

-- rename: the event is replaced by what the table has for it, all else stays
abbrev pub rename_rule : EventTable → Rule → Rule
rename_rule table r =
    record { mode = r.mode; state = r.state; top = r.top; event = slice_index table.events r.event; next = r.next; upper = r.upper; lower = r.lower }

abbrev pub rename_slot : EventTable → Option Rule → Option Rule
rename_slot table None = None
rename_slot table (Some r) = Some (rename_rule table r)

abbrev pub rename_slots : EventTable → List (Option Rule) → List (Option Rule)
rename_slots table = map (rename_slot table)

-- What the layers come to, from the slots below to those above. Bare: the must rules are those below, and no others
-- are may rules.
pub record Bared (below above : List (Option Rule)) : Type 0 where
  pub must : (r : Rule) → JustWhen (MustRule above r) (MustRule below r)
  pub may : (r : Rule) → JustWhen (MayRule above r) (MustRule below r)

-- Loosen: the may rules are those below, the must rules those below whose event is not in the set.
pub record Loosened (events : List Bool) (below above : List (Option Rule)) : Type 0 where
  pub may : (r : Rule) → JustWhen (MayRule above r) (MayRule below r)
  pub must : (r : Rule) → JustWhen (MustRule above r) (MustRule below r × (slice_index_or events r.event false ≡ false))

-- a rule with its event replaced by what the table has for it, all else kept
pub record EventReplaced (table : EventTable) (old new : Rule) : Type 0 where
  pub mode : new.mode ≡ old.mode
  pub state : new.state ≡ old.state
  pub top : new.top ≡ old.top
  pub event : new.event ≡ slice_index table.events old.event
  pub next : new.next ≡ old.next
  pub upper : new.upper ≡ old.upper
  pub lower : new.lower ≡ old.lower

-- the same of slots: an empty one stays empty, and no other one is empty
abbrev pub SlotReplaced : EventTable → Option Rule → Option Rule → Type 0
SlotReplaced table None None = Unit {0}
SlotReplaced table None (Some new) = ⊥
SlotReplaced table (Some old) None = ⊥
SlotReplaced table (Some old) (Some new) = EventReplaced table old new

-- Rename: the may rules are those below with the event replaced, and so are the must rules, slot by slot.
pub record Renamed (table : EventTable) (below above : List (Option Rule)) : Type 0 where
  pub slot : (i : ℕ) → SlotReplaced table (slice_index_or below i None) (slice_index_or above i None)
  pub may : (r : Rule) → JustWhen (MayRule above r) ((s : Rule) × MayRule below s × EventReplaced table s r)
  pub must : (r : Rule) → JustWhen (MustRule above r) ((s : Rule) × MustRule below s × EventReplaced table s r)
