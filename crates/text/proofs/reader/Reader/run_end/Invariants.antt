use Rattle.std.proofs.Common.{◌≡◌, ◌+◌, ◌≤◌, length}
use Rattle.text.specs.Words.{run_end, text_end}
use Rattle.text.proofs.reader.Reader.run_end.Given as goal

abbrev pub invariant-loop-rest : goal.invariant-loop-rest
invariant-loop-rest l = (run_end l.rest l.end ≡ run_end l.self.bytes l.self.at) × (l.end + length l.rest ≡ text_end l.self) × (l.self.at ≤ l.end)

abbrev pub decreases-loop-rest : goal.decreases-loop-rest
decreases-loop-rest l = length l.rest
