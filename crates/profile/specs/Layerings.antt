-- What holds of any layer that works slot by slot, and of each of the three.
use Rattle.std.specs.Prelude.{◌≡◌, ℕ, Bool, List, [], ◌∷◌, map, get_or, Some, None, Option, slice_index_or}
use Rattle.std.proofs.Common.{sym, ap, ◌∙◌}
use Rattle.std.proofs.lemmas.List.{length-map}
use Rattle.std.proofs.Math.ListN.{get_or-map}
use Rattle.profile.specs.declared.Kind.{Kind}
use Rattle.profile.specs.declared.event_table.EventTable.{EventTable}
use Rattle.profile.specs.declared.Mode.{Mode}
use Rattle.profile.specs.declared.Mode.TheVariants.{May, Must}
use Rattle.profile.specs.declared.Rule.{Rule}
use Rattle.profile.specs.Rules.{LawfulRule}
use Rattle.profile.specs.Profiles.{LawfulSlot, LawfulSlots, LawfulProfile}
use Rattle.profile.specs.Kinds.{event_kind}
use Rattle.profile.specs.Layers.{bare_rule, bare_slot, loosen_slot, rename_slot}
use Rattle.profile.specs.Renames.{table_kept, formed_event}

pub slot_mapped : (f : Option Rule → Option Rule) → f None ≡ None → (slots : List (Option Rule)) (i : ℕ) (s : Option Rule) → s ≡ slice_index_or slots i None → f s ≡ slice_index_or (map f slots) i None
slot_mapped f empty slots i s is =
    ap f is ∙ sym (get_or-map f slots i None) ∙ ap (λ (d : Option Rule). get_or (map f slots) i d) empty

module _ (kinds : ℕ → Option Kind) where
  lawful_mapped : (f : Option Rule → Option Rule) → ((s : Option Rule) → LawfulSlot kinds s → LawfulSlot kinds (f s)) → (slots : List (Option Rule)) → LawfulSlots kinds slots → LawfulSlots kinds (map f slots)
  lawful_mapped f keeps [] law = tt
  lawful_mapped f keeps (s ∷ ss) law = (keeps s law.0, lawful_mapped f keeps ss law.1)

  pub layer_lawful : (f : Option Rule → Option Rule) → ((s : Option Rule) → LawfulSlot kinds s → LawfulSlot kinds (f s)) → (slots : List (Option Rule)) (start : ℕ × ℕ) → LawfulProfile kinds slots start → LawfulProfile kinds (map f slots) start
  layer_lawful f keeps slots start law =
      record { few = simp length-map law.few; each = lawful_mapped f keeps slots law.each; state = law.state; symbol = law.symbol }

  bare_rule_keeps : (m : Mode) (r : Rule) → LawfulRule kinds r → LawfulSlot kinds (bare_rule m r)
  bare_rule_keeps May r law = tt
  bare_rule_keeps Must r law = law

  pub bare_keeps : (s : Option Rule) → LawfulSlot kinds s → LawfulSlot kinds (bare_slot s)
  bare_keeps None law = tt
  bare_keeps (Some r) law = bare_rule_keeps r.mode r law

  pub loosen_keeps : (events : List Bool) (s : Option Rule) → LawfulSlot kinds s → LawfulSlot kinds (loosen_slot events s)
  loosen_keeps events None law = tt
  loosen_keeps events (Some r) law =
      record { state = law.state; next = law.next; top = law.top; upper = law.upper; lower = law.lower; form = law.form }

pub rename_keeps : (table : EventTable) (s : Option Rule) → LawfulSlot event_kind s → LawfulSlot event_kind (rename_slot table s)
rename_keeps table None law = tt
rename_keeps table (Some r) law =
    record { state = law.state; next = law.next; top = law.top; upper = law.upper; lower = law.lower; form = rw (table_kept table.events table.keeps r.event (formed_event r.event r.upper r.lower law.form)).1 law.form }
