use Rattle.std.proofs.Common.{string_bytes}
use Rattle.calls.proofs.Printed.{row_more, row_all}
use Rattle.calls.proofs.printing.put_rows.Goals as goal

pub loop-row-preserved : goal.loop-row-preserved
loop-row-preserved c = row_more c.args.rows.now c.loop-row.row-index _ (string_bytes c.loop-row.out) (string_bytes c.writeln-in-loop-row.new.self) _ c.loop-row-test.true c.in_ok-writeln-2.ensures.bytes c.loop-row.invariant

pub returns : goal.returns
returns c = row_all c.args.rows.now c.loop-row.row-index (string_bytes c.args.out.now) (string_bytes c.writeln.new.self) (string_bytes c.loop-row.out) c.loop-row-test.false c.in_ok-writeln.ensures.bytes c.loop-row.invariant
