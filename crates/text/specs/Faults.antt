-- Faults: the number and the layer of each cause.
use Rattle.std.specs.Prelude.{ℕ}
use Rattle.text.specs.declared.fault.Place.{Place}
use Rattle.text.specs.declared.fault.WordCause.{WordCause}
use Rattle.text.specs.declared.fault.WordCause.TheVariants.{TextTooLong, ByteNotAllowed, WordTooLong}
use Rattle.text.specs.declared.fault.SectionCause.{SectionCause}
use Rattle.text.specs.declared.fault.SectionCause.TheVariants.{WordNotDue, NumberNotDue}
use Rattle.text.specs.declared.fault.ProfileCause.{ProfileCause}
use Rattle.text.specs.declared.fault.ProfileCause.TheVariants.{NameUnknown, NameTwice, RuleTwice}
use Rattle.text.specs.declared.fault.Cause.{Cause}
use Rattle.text.specs.declared.fault.Cause.TheVariants.{InWords, InSections, InProfile}
use Rattle.text.specs.declared.fault.Fault.{Fault}

abbrev pub cause_number : Cause → ℕ
cause_number (InWords TextTooLong) = 10
cause_number (InWords ByteNotAllowed) = 11
cause_number (InWords WordTooLong) = 12
cause_number (InSections WordNotDue) = 13
cause_number (InSections NumberNotDue) = 14
cause_number (InProfile NameUnknown) = 15
cause_number (InProfile NameTwice) = 16
cause_number (InProfile RuleTwice) = 17

abbrev pub cause_layer : Cause → ℕ
cause_layer (InWords c) = 1
cause_layer (InSections c) = 2
cause_layer (InProfile c) = 3

-- the place of the byte at an offset
abbrev pub place_at : ℕ → Place
place_at offset = record { offset = offset }

abbrev pub word_fault : WordCause → ℕ → Fault WordCause
word_fault c offset = record { cause = c; place = place_at offset }

-- a fault of the words, as a fault of the text
abbrev pub word_fault_in : Fault WordCause → Fault Cause
word_fault_in f = record { cause = InWords f.cause; place = f.place }

abbrev pub section_fault : SectionCause → Place → Fault Cause
section_fault c p = record { cause = InSections c; place = p }

abbrev pub profile_fault : ProfileCause → Place → Fault Cause
profile_fault c p = record { cause = InProfile c; place = p }
