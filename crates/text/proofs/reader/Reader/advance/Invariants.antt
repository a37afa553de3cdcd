use Rattle.std.proofs.Common.{◌≡◌, length}
use Rattle.text.specs.Words.{next_word, skipped, text_end}
use Rattle.text.proofs.reader.Reader.advance.Given as goal

abbrev pub invariant-loop-self : goal.invariant-loop-self
invariant-loop-self l = (next_word l.due l.self ≡ next_word l.due l.initial.self) × (text_end l.self ≡ text_end l.initial.self) × (skipped l.self ≡ skipped l.initial.self)

abbrev pub decreases-loop-self : goal.decreases-loop-self
decreases-loop-self l = length l.self.bytes
