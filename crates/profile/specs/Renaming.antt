-- Tables that rename events, and their refusal.
use Rattle.std.specs.Prelude.{◌≡◌, ℕ, ◌<◌, cond, ◌⊎◌, List, Ok, Err, Result, ◌≢◌, slice_index}
use Rattle.profile.specs.declared.event_table.EventTable.{EventTable}
use Rattle.profile.specs.declared.event_table.calls.NotRenaming.{NotRenaming}
use Rattle.profile.specs.Kinds.{event_kind, keeps_kinds}

-- the number of the refusal
abbrev pub renaming_refusal : NotRenaming → ℕ
renaming_refusal why = 9

-- what making a table tells: what the events become, or the refusal
abbrev pub renaming_told : Result EventTable NotRenaming → Result (List ℕ) NotRenaming
renaming_told (Ok t) = Ok t.events
renaming_told (Err why) = Err why

abbrev pub renaming_answer : List ℕ → Result (List ℕ) NotRenaming
renaming_answer events = cond (keeps_kinds event_kind events) (Ok events) (Err (record {}))

-- Each of the 12 events becomes one of the 12, of the same kind.
abbrev pub Renames : List ℕ → Type 0
Renames events = (e : ℕ) → e < 12 → (slice_index events e < 12) × (event_kind (slice_index events e) ≡ event_kind e)

-- Some event becomes one over 11 or one of another kind.
abbrev pub Breaks : List ℕ → Type 0
Breaks events =
    (e : ℕ) × (e < 12) × ((11 < slice_index events e) ⊎ (event_kind (slice_index events e) ≢ event_kind e))

-- A table is taken if it renames, and refused because it breaks a kind.
abbrev pub RenamingJudged : List ℕ → Result EventTable NotRenaming → Type 0
RenamingJudged events (Ok t) = Renames events
RenamingJudged events (Err why) = Breaks events
