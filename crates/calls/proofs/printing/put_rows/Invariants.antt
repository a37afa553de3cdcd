use Rattle.std.proofs.Common.{◌≡◌, ◌++◌, drop, string_bytes}
use Rattle.calls.specs.Printing.{lines_text}
use Rattle.calls.proofs.printing.put_rows.Given as goal

abbrev pub invariant-loop-row : goal.invariant-loop-row
invariant-loop-row l = string_bytes l.out ++ lines_text (drop l.row-index l.rows) ≡ string_bytes l.initial.out ++ lines_text l.rows
