-- Where a fault stands, in the words of someone who looks at the text.
use Rattle.std.specs.Prelude.{◌≡◌, ℕ, ◌+◌, ◌-◌, ◌<◌, ◌≤◌, ◌⊎◌, List, length, take, drop, Ok, Err, Result, slice_index}
use Rattle.text.specs.declared.fault.WordCause.TheVariants.{TextTooLong, ByteNotAllowed, WordTooLong}
use Rattle.text.specs.declared.fault.SectionCause.TheVariants.{WordNotDue, NumberNotDue}
use Rattle.text.specs.declared.fault.Cause.{Cause}
use Rattle.text.specs.declared.fault.Cause.TheVariants.{InWords, InSections, InProfile}
use Rattle.text.specs.declared.fault.Fault.{Fault}
use Rattle.text.specs.Grammar.{Blank, Visible}

-- the byte at an offset
abbrev pub byte_at : List ℕ → ℕ → ℕ
byte_at text o = slice_index text o

-- a word begins here: a visible byte, and before it a blank or nothing
pub record Begins (text : List ℕ) (o : ℕ) : Type 0 where
  pub inside : o < length text
  pub least : 33 ≤ byte_at text o
  pub most : byte_at text o ≤ 126
  pub before : (o ≡ 0) ⊎ Blank (byte_at text (o - 1))

-- What the text shows at the place of a fault, by its cause.
abbrev pub Stands : List ℕ → Cause → ℕ → Type 0
-- too long a text: its first place
Stands text (InWords TextTooLong) o = (20000 < length text) × (o ≡ 0)
-- a byte that is not allowed: a byte that is neither blank nor visible
Stands text (InWords ByteNotAllowed) o = (o < length text) × (Blank (byte_at text o) → ⊥) × (33 ≤ byte_at text o → byte_at text o ≤ 126 → ⊥)
-- too long a word: a word begins here and has seventeen visible bytes at least
Stands text (InWords WordTooLong) o = Begins text o × (o + 17 ≤ length text) × Visible (take 17 (drop o text))
-- another word is due: the end of the text, or a word begins here
Stands text (InSections WordNotDue) o = (o ≡ length text) ⊎ Begins text o
-- every other fault is about a word
Stands text (InSections NumberNotDue) o = Begins text o
Stands text (InProfile c) o = Begins text o

abbrev pub FaultStands : List ℕ → Result (Unit {0}) (Fault Cause) → Type 0
FaultStands text (Ok done) = Unit {0}
FaultStands text (Err f) = Stands text f.cause f.place.offset
