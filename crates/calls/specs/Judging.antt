-- What is printed for three texts: the station's profile, the manual's, and the calls.
use Rattle.std.specs.Prelude.{◌≡◌, ℕ, false, List, ◌++◌, map, replicate, Some, Ok, Err, codes, Option, Result}
use Rattle.profile.specs.declared.Rule.{Rule}
use Rattle.profile.specs.Kinds.{event_kind}
use Rattle.text.specs.declared.fault.Cause.{Cause}
use Rattle.text.specs.declared.fault.Fault.{Fault}
use Rattle.text.specs.ProfileText.{Reading, read_profile}
use Rattle.text.specs.Report.{line_end, refusal_line}
use Rattle.game.specs.declared.Row.{Row}
use Rattle.game.specs.Members.{blank_row}
use Rattle.game.specs.Rows.{head_of_starts}
use Rattle.book.specs.declared.run.Call.{Call}
use Rattle.book.specs.declared.run.Turn.{Turn}
use Rattle.book.specs.declared.run.Book.{Book}
use Rattle.book.specs.Offers.{usable, held_rows}
use Rattle.book.specs.Turns.{to_be_made, held_of}
use Rattle.book.specs.Guarantee.{Guarantee}
use Rattle.book.specs.ByContract.{GuaranteeByContract}
use Rattle.calls.specs.Calls.{read_calls}
use Rattle.calls.specs.Printing.{turns_text, rows_text}

-- the slots of a profile: each holds a rule
abbrev pub slots_of : Reading → List (Option Rule)
slots_of p = map Some p.rules

-- the rows that are lent
abbrev pub lent_rows : ℕ → List Row
lent_rows n = replicate n blank_row

-- what is guaranteed of turns that were given to a new book over some rows: the turns, the book and the rows afterwards
abbrev pub Guaranteed : Reading → Reading → List Turn → List Turn → List Row → Book → List Row → Type 0
Guaranteed station manual given turns was book rows =
    Guarantee event_kind (slots_of station) (slots_of manual) (head_of_starts station.start manual.start) (usable was) false 0 given turns was book rows ×
    GuaranteeByContract event_kind (slots_of station) (slots_of manual) (head_of_starts station.start manual.start) (usable was) false 0 given turns was book rows

-- The calls were made on a new book over blank rows, the guarantee holds of what came of them, and the bytes tell
-- the answers and the held rows.
pub record Ran (station manual : Reading) (lend : ℕ) (calls : List Call) (bytes : List ℕ) : Type 0 where
  pub turns : List Turn
  pub book : Book
  pub rows : List Row
  pub guarantee : Guaranteed station manual (map to_be_made calls) turns (lent_rows lend) book rows
  pub told : bytes ≡ turns_text turns ++ rows_text (held_rows rows (held_of book))

-- a refused text: which it is, and its fault
abbrev pub refused_text : List ℕ → Fault Cause → List ℕ
refused_text which f = which ++ line_end ++ refusal_line f

abbrev pub CallsTold : Reading → Reading → Result (ℕ × List Call) (Fault Cause) → List ℕ → Type 0
CallsTold station manual (Ok script) bytes = Ran station manual script.0 script.1 bytes
CallsTold station manual (Err f) bytes = bytes ≡ refused_text (codes "calls") f

abbrev pub ManualTold : Reading → Result Reading (Fault Cause) → List ℕ → List ℕ → Type 0
ManualTold station (Ok manual) calls bytes = CallsTold station manual (read_calls calls) bytes
ManualTold station (Err f) calls bytes = bytes ≡ refused_text (codes "manual") f

abbrev pub StationTold : Result Reading (Fault Cause) → List ℕ → List ℕ → List ℕ → Type 0
StationTold (Ok station) manual calls bytes = ManualTold station (read_profile manual) calls bytes
StationTold (Err f) manual calls bytes = bytes ≡ refused_text (codes "station") f

-- The first refused text is told with its fault and nothing else; where none is refused, the calls are made.
abbrev pub Told : List ℕ → List ℕ → List ℕ → List ℕ → Type 0
Told station manual calls bytes = StationTold (read_profile station) manual calls bytes
