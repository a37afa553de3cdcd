-- What is told of a profile text: its reading, slot by slot, or its fault.
use Rattle.std.specs.Prelude.{ℕ, ◌+◌, Bool, true, false, List, [], ◌∷◌, ◌++◌, Ok, Err, codes, decimal, Result, nat_le, slice_index_or}
use Rattle.profile.specs.declared.Rule.{Rule}
use Rattle.profile.specs.Kinds.{event_kind}
use Rattle.text.specs.declared.fault.Cause.{Cause}
use Rattle.text.specs.declared.fault.Fault.{Fault}
use Rattle.text.specs.declared.fault.Place.{Place}
use Rattle.text.specs.Faults.{cause_number, cause_layer}
use Rattle.text.specs.ProfileText.{mode_word, event_names, used_by, Reading, read_profile}

-- the end of a line
abbrev pub line_end : List ℕ
line_end = 10 ∷ []

-- a blank and a word; a blank and a number
abbrev pub shown_word : List ℕ → List ℕ
shown_word w = 32 ∷ w

abbrev pub shown_number : ℕ → List ℕ
shown_number n = 32 ∷ decimal n

-- a symbol where the rule lists one
abbrev pub shown_symbol_if : Bool → ℕ → List ℕ
shown_symbol_if false x = []
shown_symbol_if true x = shown_number x

abbrev pub event_name : ℕ → List ℕ
event_name e = slice_index_or event_names e []

-- slot N MODE STATE TOP EVENT NEW, and the symbols that the rule lists
abbrev pub slot_line : ℕ → Rule → List ℕ
slot_line i r =
    codes "slot" ++ shown_number i ++ shown_word (mode_word r.mode) ++ shown_number r.state ++ shown_number r.top ++
    shown_word (event_name r.event) ++ shown_number r.next ++
    shown_symbol_if (nat_le 1 (used_by (event_kind r.event))) r.upper ++ shown_symbol_if (nat_le 2 (used_by (event_kind r.event))) r.lower ++ line_end

-- a line for each slot, from slot i on
abbrev pub slot_lines : ℕ → List Rule → List ℕ
slot_lines i [] = []
slot_lines i (r ∷ rs) = slot_line i r ++ slot_lines (i + 1) rs

abbrev pub start_line : ℕ × ℕ → List ℕ
start_line s = codes "start" ++ shown_number s.0 ++ shown_number s.1 ++ line_end

-- how a place is shown
abbrev pub shown_place : Place → List ℕ
shown_place p = codes " place" ++ shown_number p.offset

-- refusal N layer L place P
abbrev pub refusal_line : Fault Cause → List ℕ
refusal_line f =
    codes "refusal" ++ shown_number (cause_number f.cause) ++ codes " layer" ++ shown_number (cause_layer f.cause) ++ shown_place f.place ++ line_end

abbrev pub accepted_lines : Reading → List ℕ
accepted_lines p = codes "accepted" ++ line_end ++ slot_lines 0 p.rules ++ start_line p.start

abbrev pub report_of : Result Reading (Fault Cause) → List ℕ
report_of (Ok p) = accepted_lines p
report_of (Err f) = refusal_line f

-- all that is told of a text
abbrev pub lint_bytes : List ℕ → List ℕ
lint_bytes text = report_of (read_profile text)
