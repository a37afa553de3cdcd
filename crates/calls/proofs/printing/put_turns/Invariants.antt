use Rattle.std.proofs.Common.{◌≡◌, ◌++◌, drop, string_bytes}
use Rattle.calls.specs.Printing.{turns_text}
use Rattle.calls.proofs.printing.put_turns.Given as goal

abbrev pub invariant-loop-turn : goal.invariant-loop-turn
invariant-loop-turn l = string_bytes l.out ++ turns_text (drop l.turn-index l.turns) ≡ string_bytes l.initial.out ++ turns_text l.turns
