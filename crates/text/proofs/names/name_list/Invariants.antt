use Rattle.std.proofs.Common.{◌≡◌, ◌-◌, [], length}
use Rattle.text.specs.ProfileText.{texts, more_names}
use Rattle.text.proofs.names.name_list.Given as goal

abbrev pub invariant-loop : goal.invariant-loop
invariant-loop g l = (more_names (l.n - l.counter) (texts l.names.items) l.reader ≡ more_names l.n [] l.initial.reader) × (length l.names.items ≡ l.counter)
