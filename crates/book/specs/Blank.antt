-- The row and the turn whose numbers are all zero.
use Rattle.std.specs.Prelude.{[]}
use Rattle.game.specs.declared.Row.{Row}
use Rattle.game.specs.declared.Line.TheVariants.{Enter}
use Rattle.book.specs.declared.run.Call.TheVariants as call
use Rattle.book.specs.declared.run.Answer.TheVariants as answer
use Rattle.book.specs.declared.run.Turn.{Turn}

abbrev pub blank_row : Row
blank_row = record {
  head = record { states = record { station = 0; manual = 0 }; symbols = record { station = 0; manual = 0 } };
  members = [];
  count = 0;
  line = Enter 0 0 0 0;
}

abbrev pub blank_turn : Turn
blank_turn = record { call = call.Enter 0 0 0 0; answer = answer.Row 0; held = 0 }
