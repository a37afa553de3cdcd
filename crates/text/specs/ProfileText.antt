-- Profile texts: four sections, which list states, symbols and rules and name the start.
use Rattle.std.specs.Prelude.{◌≡◌, ℕ, zero, suc, ◌+◌, Bool, true, false, cond, List, [], ◌∷◌, ◌++◌, map, is_some, Some, None, Ok, Err, codes, Option, Result, nat_le}
use Rattle.std.specs.Borrow.{Bor}
use Rattle.std.specs.Str.{bytes_eq}
use Rattle.ordered.specs.Insert.{present, insert_into}
use Rattle.profile.specs.declared.Mode.{Mode}
use Rattle.profile.specs.declared.Mode.TheVariants.{May, Must}
use Rattle.profile.specs.declared.Kind.{Kind}
use Rattle.profile.specs.declared.Rule.{Rule}
use Rattle.profile.specs.declared.table.Table.{Table}
use Rattle.profile.specs.Kinds.{event_kind, symbols_used}
use Rattle.profile.specs.Rules.{rule_le}
use Rattle.profile.specs.Tables.{table_rules, table_start}
use Rattle.text.specs.declared.fault.Place.{Place}
use Rattle.text.specs.declared.fault.WordCause.{WordCause}
use Rattle.text.specs.declared.fault.Cause.{Cause}
use Rattle.text.specs.declared.fault.Fault.{Fault}
use Rattle.text.specs.declared.fault.SectionCause.TheVariants.{WordNotDue}
use Rattle.text.specs.declared.fault.ProfileCause.TheVariants.{NameUnknown, NameTwice, RuleTwice}
use Rattle.text.specs.declared.words.Due.TheVariants.{Keyword, Name}
use Rattle.arrayvec.specs.ArrayVec.{ArrayVec}
use Rattle.text.specs.Faults.{word_fault_in, section_fault, profile_fault}
use Rattle.text.specs.Words.{Rest, Step, Spelled, begun, length_judged}
use Rattle.text.specs.Sections.{and_then, word_due, read_keyword, read_number, read_end}

-- the word for each mode
abbrev pub mode_word : Mode → List ℕ
mode_word May = codes "may"
mode_word Must = codes "must"

-- the names of the events, from event 0 on
abbrev pub event_names : List (List ℕ)
event_names =
    codes "trigger" ∷ codes "calib" ∷ codes "upload" ∷ codes "service" ∷
    codes "sample" ∷ codes "gap" ∷ codes "resend" ∷ codes "clock" ∷
    codes "end" ∷ codes "caldone" ∷ codes "sent" ∷ codes "leave" ∷ []

-- The number of a name is its position in the list, counted from i.
abbrev pub index_from : ℕ → List (List ℕ) → List ℕ → Option ℕ
index_from i [] x = None
index_from i (n ∷ ns) x = cond (bytes_eq n x) (Some i) (index_from (i + 1) ns x)

abbrev pub index_of : List (List ℕ) → List ℕ → Option ℕ
index_of = index_from 0

-- k more names after some, none of them twice
abbrev pub more_names : ℕ → List (List ℕ) → Rest → Result (Step (List (List ℕ))) (Fault Cause)
more_names zero ns s = Ok (record { value = ns; rest = s })
more_names (suc k) ns s =
    and_then (word_due Name s) (λ w.
    cond (is_some (index_of ns w.value.bytes)) (Err (profile_fault NameTwice w.value.place))
    (more_names k (ns ++ w.value.bytes ∷ []) w.rest))

-- a section of names: its heading, a count from 1, and that many names
abbrev pub read_names : List ℕ → ℕ → Rest → Result (Step (List (List ℕ))) (Fault Cause)
read_names heading most s =
    and_then (read_keyword heading s) (λ h.
    and_then (read_number 1 most h.rest) (λ n.
    more_names n.value [] n.rest))

-- the names of a profile's states and of its symbols
pub record NameLists : Type 0 where
  pub states : List (List ℕ)
  pub symbols : List (List ℕ)

-- a name of a list is due: its number
abbrev pub known : Step Spelled → Option ℕ → Result (Step ℕ) (Fault Cause)
known w None = Err (profile_fault NameUnknown w.value.place)
known w (Some i) = Ok (record { value = i; rest = w.rest })

abbrev pub read_index : List (List ℕ) → Rest → Result (Step ℕ) (Fault Cause)
read_index ns s = and_then (word_due Name s) (λ w. known w (index_of ns w.value.bytes))

-- a mode is due: which, and where it stands
abbrev pub read_mode : Rest → Result (Step (Mode × Place)) (Fault Cause)
read_mode s =
    and_then (word_due Keyword s) (λ w.
    cond (bytes_eq w.value.bytes (mode_word May)) (Ok (record { value = (May, w.value.place); rest = w.rest }))
    (cond (bytes_eq w.value.bytes (mode_word Must)) (Ok (record { value = (Must, w.value.place); rest = w.rest }))
    (Err (section_fault WordNotDue w.value.place))))

-- a symbol is due where the kind of the rule's event uses it; one that is not used is 0
abbrev pub read_symbol_if : Bool → List (List ℕ) → Rest → Result (Step ℕ) (Fault Cause)
read_symbol_if false ns s = Ok (record { value = 0; rest = s })
read_symbol_if true ns s = read_index ns s

-- how many symbols a rule for an event lists
abbrev pub used_by : Option Kind → ℕ
used_by None = 0
used_by (Some k) = symbols_used k

-- a rule, with the place of its first word
abbrev pub read_rule : List (List ℕ) → List (List ℕ) → List (List ℕ) → Rest → Result (Step (Rule × Place)) (Fault Cause)
read_rule states symbols events s =
    and_then (read_mode s) (λ m.
    and_then (read_index states m.rest) (λ state.
    and_then (read_index symbols state.rest) (λ top.
    and_then (read_index events top.rest) (λ event.
    and_then (read_index states event.rest) (λ next.
    and_then (read_symbol_if (nat_le 1 (used_by (event_kind event.value))) symbols next.rest) (λ upper.
    and_then (read_symbol_if (nat_le 2 (used_by (event_kind event.value))) symbols upper.rest) (λ lower.
    Ok (record {
      value = (record { mode = m.value.0; state = state.value; top = top.value; event = event.value; next = next.value; upper = upper.value; lower = lower.value }, m.value.1);
      rest = lower.rest;
    }))))))))

-- k more rules among some that are there, none of them twice, the mode aside
abbrev pub more_rules : List (List ℕ) → List (List ℕ) → List (List ℕ) → ℕ → List Rule → Rest → Result (Step (List Rule)) (Fault Cause)
more_rules states symbols events zero rs s = Ok (record { value = rs; rest = s })
more_rules states symbols events (suc k) rs s =
    and_then (read_rule states symbols events s) (λ r.
    cond (present rule_le r.value.0 rs) (Err (profile_fault RuleTwice r.value.1))
    (more_rules states symbols events k (insert_into rule_le r.value.0 rs) r.rest))

abbrev pub read_rules : List (List ℕ) → List (List ℕ) → List (List ℕ) → Rest → Result (Step (List Rule)) (Fault Cause)
read_rules states symbols events s =
    and_then (read_keyword (codes "rules") s) (λ h.
    and_then (read_number 0 96 h.rest) (λ n.
    more_rules states symbols events n.value [] n.rest))

-- the start: a state and a symbol
abbrev pub read_start : List (List ℕ) → List (List ℕ) → Rest → Result (Step (ℕ × ℕ)) (Fault Cause)
read_start states symbols s =
    and_then (read_keyword (codes "start") s) (λ h.
    and_then (read_number 1 1 h.rest) (λ n.
    and_then (read_index states n.rest) (λ state.
    and_then (read_index symbols state.rest) (λ symbol.
    Ok (record { value = (state.value, symbol.value); rest = symbol.rest })))))

-- what a profile text says: rules in ascending order and a start
pub record Reading : Type 0 where
  pub rules : List Rule
  pub start : ℕ × ℕ

-- the rules, the start, and nothing after them
abbrev pub read_body : List (List ℕ) → List (List ℕ) → List (List ℕ) → Rest → Result Reading (Fault Cause)
read_body states symbols events s =
    and_then (read_rules states symbols events s) (λ rules.
    and_then (read_start states symbols rules.rest) (λ start.
    and_then (read_end start.rest) (λ _.
    Ok (record { rules = rules.value; start = start.value }))))

-- all four sections
abbrev pub read_sections : List (List ℕ) → Rest → Result Reading (Fault Cause)
read_sections events s =
    and_then (read_names (codes "states") 8 s) (λ states.
    and_then (read_names (codes "symbols") 16 states.rest) (λ symbols.
    read_body states.value symbols.value events symbols.rest))

-- the length is judged before any word
abbrev pub judged : {T : Type 0} → Result (Unit {0}) (Fault WordCause) → Result T (Fault Cause) → Result T (Fault Cause)
judged (Ok _) r = r
judged (Err f) r = Err (word_fault_in f)

-- The reading of a profile text: what it says, or its fault.
abbrev pub read_profile : List ℕ → Result Reading (Fault Cause)
read_profile t = judged (length_judged t) (read_sections event_names (begun t))

-- the same of what the code holds
abbrev pub texts : List (Bor (List ℕ)) → List (List ℕ)
texts = map (λ (r : Bor (List ℕ)). r.now)

abbrev pub named : Result (ArrayVec (Bor (List ℕ))) (Fault Cause) → Rest → Result (Step (List (List ℕ))) (Fault Cause)
named (Ok ns) r = Ok (record { value = texts ns.items; rest = r })
named (Err f) r = Err f

abbrev pub table_listed : Result Table (Fault Cause) → Rest → Result (Step (List Rule)) (Fault Cause)
table_listed (Ok t) r = Ok (record { value = table_rules t; rest = r })
table_listed (Err f) r = Err f

abbrev pub reading_of : Table → Reading
reading_of t = record { rules = table_rules t; start = table_start t }

abbrev pub read_as : Result Table (Fault Cause) → Result Reading (Fault Cause)
read_as (Ok t) = Ok (reading_of t)
read_as (Err f) = Err f

-- A text read into a table: it then holds what the text says, and after a fault what it held before.
abbrev pub ReadInto : List ℕ → Result (Unit {0}) (Fault Cause) → Table → Table → Type 0
ReadInto text (Ok done) was is = read_profile text ≡ Ok (reading_of is)
ReadInto text (Err f) was is = (read_profile text ≡ Err f) × (is ≡ was)
