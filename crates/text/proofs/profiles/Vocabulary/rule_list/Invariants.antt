use Rattle.std.proofs.Common.{◌≡◌, ◌-◌, [], length}
use Rattle.profile.specs.Tables.{table_rules}
use Rattle.text.specs.ProfileText.{event_names, more_rules}
use Rattle.text.proofs.profiles.Vocabulary.rule_list.Given as goal

abbrev pub invariant-loop : goal.invariant-loop
invariant-loop l =
    (more_rules l.self.states l.self.symbols event_names (l.n - l.counter) (table_rules l.table) l.reader ≡
    more_rules l.self.states l.self.symbols event_names l.n [] l.initial.reader) × (length (table_rules l.table) ≡ l.counter)
