use Rattle.std.proofs.Common.{length, vec_items}
use Rattle.calls.proofs.CallSteps.{SoFar}
use Rattle.calls.proofs.reading.call_list.Given as goal

abbrev pub invariant-loop-turns : goal.invariant-loop-turns
invariant-loop-turns l = SoFar l.initial.reader (vec_items l.turns) l.reader

abbrev pub decreases-loop-turns : goal.decreases-loop-turns
decreases-loop-turns l = length l.reader.bytes
