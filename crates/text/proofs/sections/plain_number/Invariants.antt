use Rattle.std.proofs.Common.{◌≡◌, ◌^◌, ◌<◌, drop}
use Rattle.text.specs.Sections.{digits_after}
use Rattle.text.proofs.sections.plain_number.Given as goal

abbrev pub invariant-loop-b : goal.invariant-loop-b
invariant-loop-b l = (digits_after (drop l.b-index l.bytes) l.n ≡ digits_after l.bytes 0) × (l.n < 10 ^ l.b-index)
