use Rattle.std.proofs.Common.{◌+◌, ◌*◌, ◌≤◌, take}
use Rattle.text.specs.Writing.{Puts}
use Rattle.text.specs.Report.{slot_lines}
use Rattle.text.proofs.report.TableTold.tell.Given as goal

abbrev pub invariant-loop-number : goal.invariant-loop-number
invariant-loop-number l = record {
  written : Puts l.initial.lent (slot_lines 0 (take l.number l.rule-items)) l.lent;
  bound : l.lent.at ≤ l.initial.lent.at + 200 * l.number;
}
