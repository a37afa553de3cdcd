-- Sections: the words that are due, one after the other.
use Rattle.std.specs.Prelude.{ℕ, ◌+◌, ◌-◌, ◌*◌, Bool, cond, ◌&&◌, List, [], ◌∷◌, length, Some, None, Ok, Err, Option, Result, ◌==◌, nat_le, slice_index}
use Rattle.std.specs.Str.{bytes_eq}
use Rattle.text.specs.declared.fault.WordCause.{WordCause}
use Rattle.text.specs.declared.fault.Cause.{Cause}
use Rattle.text.specs.declared.fault.Fault.{Fault}
use Rattle.text.specs.declared.fault.SectionCause.TheVariants.{WordNotDue, NumberNotDue}
use Rattle.text.specs.declared.words.Due.{Due}
use Rattle.text.specs.declared.words.Due.TheVariants.{Keyword, Number}
use Rattle.text.specs.Faults.{place_at, word_fault_in, section_fault}
use Rattle.text.specs.Words.{Rest, Step, Spelled, text_end, next_word}

-- what comes next, unless there is a fault
abbrev pub and_then : {T U E : Type 0} → Result T E → (T → Result U E) → Result U E
and_then (Ok x) f = f x
and_then (Err e) f = Err e

-- a value that the code read, with what its reader has left
abbrev pub stepped : {T E : Type 0} → Result T E → Rest → Result (Step T) E
stepped (Ok x) r = Ok (record { value = x; rest = r })
stepped (Err f) r = Err f

-- A word is due: the text must not end here.
abbrev pub there : ℕ → Result (Option (Step Spelled)) (Fault WordCause) → Result (Step Spelled) (Fault Cause)
there e (Ok None) = Err (section_fault WordNotDue (place_at e))
there e (Ok (Some w)) = Ok w
there e (Err f) = Err (word_fault_in f)

abbrev pub word_due : Due → Rest → Result (Step Spelled) (Fault Cause)
word_due k s = there (text_end s) (next_word k s)

-- A certain keyword is due.
abbrev pub read_keyword : List ℕ → Rest → Result (Step (Unit {0})) (Fault Cause)
read_keyword wanted s =
    and_then (word_due Keyword s) (λ w.
    cond (bytes_eq w.value.bytes wanted) (Ok (record { value = tt; rest = w.rest })) (Err (section_fault WordNotDue w.value.place)))

-- a decimal digit
abbrev pub is_digit : ℕ → Bool
is_digit b = nat_le 48 b && nat_le b 57

-- n with further digits after it
abbrev pub digits_after : List ℕ → ℕ → Option ℕ
digits_after [] n = Some n
digits_after (b ∷ bs) n = cond (is_digit b) (digits_after bs (n * 10 + (b - 48))) None

-- A plain number has one to four digits, and no 0 in front of another.
abbrev pub plain_number : List ℕ → Option ℕ
plain_number bs =
    cond (nat_le 1 (length bs) && nat_le (length bs) 4)
    (cond (nat_le 2 (length bs) && slice_index bs 0 == 48) None (digits_after bs 0)) None

-- A plain number from lo to hi is due.
abbrev pub in_range : ℕ → ℕ → Step Spelled → Option ℕ → Result (Step ℕ) (Fault Cause)
in_range lo hi w None = Err (section_fault NumberNotDue w.value.place)
in_range lo hi w (Some n) =
    cond (nat_le lo n && nat_le n hi) (Ok (record { value = n; rest = w.rest })) (Err (section_fault NumberNotDue w.value.place))

abbrev pub read_number : ℕ → ℕ → Rest → Result (Step ℕ) (Fault Cause)
read_number lo hi s = and_then (word_due Number s) (λ w. in_range lo hi w (plain_number w.value.bytes))

-- No further word is due.
abbrev pub nothing_more : Result (Option (Step Spelled)) (Fault WordCause) → Result (Unit {0}) (Fault Cause)
nothing_more (Ok None) = Ok tt
nothing_more (Ok (Some w)) = Err (section_fault WordNotDue w.value.place)
nothing_more (Err f) = Err (word_fault_in f)

abbrev pub read_end : Rest → Result (Unit {0}) (Fault Cause)
read_end s = nothing_more (next_word Keyword s)
