-- The table profile.
use Rattle.std.specs.Prelude.{ℕ, ◌<◌, ◌≤◌, cond, ◌&&◌, List, length, Ok, Err, Result, nat_lt}
use Rattle.ordered.specs.declared.Unplaced.{Unplaced}
use Rattle.ordered.specs.declared.Unplaced.TheVariants as Placing
use Rattle.ordered.specs.Insert.{place_of, present, insert_into}
use Rattle.profile.specs.declared.Rule.{Rule}
use Rattle.profile.specs.declared.table.Table.{Table}
use Rattle.profile.specs.declared.table.calls.NotAdded.{NotAdded}
use Rattle.profile.specs.declared.table.calls.NotAdded.TheVariants.{Unlawful, Double, Full}
use Rattle.profile.specs.declared.table.calls.OutOfRange.{OutOfRange}
use Rattle.ordered.specs.Laws.{In, Ascending}
use Rattle.profile.specs.Kinds.{event_kind}
use Rattle.profile.specs.Rules.{lawful_rule, LawfulRule, rule_le}

-- the rules of a table, in their order, and its start: a state and the symbol on the stack
abbrev pub table_rules : Table → List Rule
table_rules t = t.rules

abbrev pub table_start : Table → ℕ × ℕ
table_start t = t.start

-- why a rule was not placed, as a table tells it
abbrev pub not_added : Unplaced → NotAdded
not_added (Placing.Double slot) = Double slot
not_added Placing.Full = Full

-- what adding a rule to the rules of a table answers: its slot, or why it was not added
abbrev pub add_answer : Rule → List Rule → Result ℕ NotAdded
add_answer r rs =
    cond (lawful_rule event_kind r)
    (cond (present rule_le r rs) (Err (Double (place_of rule_le r rs)))
    (cond (nat_lt (length rs) 96) (Ok (place_of rule_le r rs)) (Err Full)))
    (Err Unlawful)

-- the rules afterwards
abbrev pub add_after : Rule → List Rule → Result ℕ NotAdded → List Rule
add_after r rs (Ok at) = insert_into rule_le r rs
add_after r rs (Err why) = rs

-- a start is a state below 8 and a symbol below 16; another one is refused
abbrev pub start_answer : ℕ → ℕ → Result (Unit {0}) OutOfRange
start_answer state symbol = cond (nat_lt state 8 && nat_lt symbol 16) (Ok tt) (Err (record {}))

-- the start afterwards
abbrev pub start_after : ℕ → ℕ → ℕ × ℕ → Result (Unit {0}) OutOfRange → ℕ × ℕ
start_after state symbol was (Ok done) = (state, symbol)
start_after state symbol was (Err why) = was

-- What every table keeps: at most 96 rules, each lawful, strictly ascending, and a start in range.
pub record LawfulTable (rules : List Rule) (start : ℕ × ℕ) : Type 0 where
  pub few : length rules ≤ 96
  pub lawful : (r : Rule) → In r rules → LawfulRule event_kind r
  pub ascending : Ascending rule_le rules
  pub state : start.0 < 8
  pub symbol : start.1 < 16
