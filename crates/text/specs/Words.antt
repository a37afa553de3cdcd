-- Words: how a text is taken apart, byte by byte.
use Rattle.std.specs.Prelude.{◌≡◌, ℕ, ◌+◌, ◌-◌, ◌≤◌, Bool, cond, ◌&&◌, ◌||◌, List, [], ◌∷◌, length, take, drop, Some, None, Ok, Err, Option, Result, ◌==◌, nat_le}
use Rattle.text.specs.declared.fault.Place.{Place}
use Rattle.text.specs.declared.fault.WordCause.{WordCause}
use Rattle.text.specs.declared.fault.Fault.{Fault}
use Rattle.text.specs.declared.fault.WordCause.TheVariants.{TextTooLong, ByteNotAllowed, WordTooLong}
use Rattle.text.specs.declared.words.Due.{Due}
use Rattle.text.specs.declared.words.Word.{Word}
use Rattle.text.specs.declared.words.Word.TheVariants.{Keyword, Number, Name}
use Rattle.text.specs.declared.words.Due.TheVariants as due
use Rattle.text.specs.Faults.{place_at, word_fault}

-- a blank and a line feed stand between words
abbrev pub is_blank : ℕ → Bool
is_blank b = b == 32 || b == 10

-- the bytes that words are made of
abbrev pub is_visible : ℕ → Bool
is_visible b = nat_le 33 b && nat_le b 126

-- what is left of a text: its bytes, and the offset of the first of them
pub record Rest : Type 0 where
  pub bytes : List ℕ
  pub at : ℕ

-- where the text ends
abbrev pub text_end : Rest → ℕ
text_end s = s.at + length s.bytes

-- something that was read, and what is left after it
pub record Step (T : Type 0) : Type 0 where
  pub value : T
  pub rest : Rest

-- a word: what was due where it stands, its bytes, and its place
pub record Spelled : Type 0 where
  pub kind : Due
  pub bytes : List ℕ
  pub place : Place

-- The offset where the run of bytes that are not blank ends. Each byte of it is looked at: the first one that is
-- not visible is a fault at its own place.
abbrev pub run_end : List ℕ → ℕ → Result ℕ (Fault WordCause)
run_end [] p = Ok p
run_end (b ∷ bs) p = cond (is_blank b) (Ok p) (cond (is_visible b) (run_end bs (p + 1)) (Err (word_fault ByteNotAllowed p)))

-- the run of n bytes at the front, and what is left after it
abbrev pub front : Due → ℕ → List ℕ → ℕ → Step Spelled
front k n t p = record { value = record { kind = k; bytes = take n t; place = place_at p }; rest = record { bytes = drop n t; at = p + n } }

-- that run is a word if it has at most 16 bytes; else that is a fault at its first byte
abbrev pub cut : Due → ℕ → List ℕ → ℕ → Result (Step Spelled) (Fault WordCause)
cut k n t p = cond (nat_le n 16) (Ok (front k n t p)) (Err (word_fault WordTooLong p))

abbrev pub cut_at : Due → List ℕ → ℕ → Result ℕ (Fault WordCause) → Result (Step Spelled) (Fault WordCause)
cut_at k t p (Ok e) = cut k (e - p) t p
cut_at k t p (Err f) = Err f

abbrev pub word_at : Due → List ℕ → ℕ → Result (Step Spelled) (Fault WordCause)
word_at k t p = cut_at k t p (run_end t p)

abbrev pub found : Result (Step Spelled) (Fault WordCause) → Result (Option (Step Spelled)) (Fault WordCause)
found (Ok w) = Ok (Some w)
found (Err f) = Err f

-- The next word, which begins at the first byte that is not blank, or nothing where only blanks are left.
abbrev pub next_from : Due → List ℕ → ℕ → Result (Option (Step Spelled)) (Fault WordCause)
next_from k [] p = Ok None
next_from k (b ∷ bs) p = cond (is_blank b) (next_from k bs (p + 1)) (found (word_at k (b ∷ bs) p))

abbrev pub next_word : Due → Rest → Result (Option (Step Spelled)) (Fault WordCause)
next_word k s = next_from k s.bytes s.at

-- what is left once blanks are skipped
abbrev pub skipped_from : List ℕ → ℕ → Rest
skipped_from [] p = record { bytes = []; at = p }
skipped_from (b ∷ bs) p = cond (is_blank b) (skipped_from bs (p + 1)) (record { bytes = b ∷ bs; at = p })

abbrev pub skipped : Rest → Rest
skipped s = skipped_from s.bytes s.at

-- what is left after that: all that follows the word, or all but the blanks where no word was taken
abbrev pub left_by : Result (Option (Step Spelled)) (Fault WordCause) → Rest → Rest
left_by (Ok None) s = skipped s
left_by (Ok (Some w)) s = w.rest
left_by (Err f) s = skipped s

abbrev pub left_after : Due → Rest → Rest
left_after k s = left_by (next_word k s) s

-- a reader has gone on by what was due: it has that left, and its text ends where it did
abbrev pub GoesOn : Due → Rest → Rest → Type 0
GoesOn k was is = (is ≡ left_after k was) × (text_end is ≡ text_end was)

-- A word is the part of the text that begins at its place, and what is left begins right after it.
pub record PartOf (s : Rest) (w : Step Spelled) : Type 0 where
  pub from : s.at ≤ w.value.place.offset
  pub part : w.value.bytes ≡ take (length w.value.bytes) (drop (w.value.place.offset - s.at) s.bytes)
  pub after : w.rest.at ≡ w.value.place.offset + length w.value.bytes
  pub rest : w.rest.bytes ≡ drop (w.rest.at - s.at) s.bytes
  -- of the whole text, where s is what it has from its offset on
  pub whole : (text : List ℕ) → s.bytes ≡ drop s.at text →
      (w.value.bytes ≡ take (length w.value.bytes) (drop w.value.place.offset text)) × (w.rest.bytes ≡ drop w.rest.at text)

-- a text of over 20,000 bytes is not read at all
abbrev pub length_judged : List ℕ → Result (Unit {0}) (Fault WordCause)
length_judged t = cond (nat_le (length t) 20000) (Ok tt) (Err (word_fault TextTooLong 0))

-- the whole text is left at first
abbrev pub begun : List ℕ → Rest
begun t = record { bytes = t; at = 0 }

-- the same of the words that the code holds, which borrow their bytes from the text
abbrev pub spelled : Word → Spelled
spelled (Keyword bs p) = record { kind = due.Keyword; bytes = bs.now; place = p }
spelled (Number bs p) = record { kind = due.Number; bytes = bs.now; place = p }
spelled (Name bs p) = record { kind = due.Name; bytes = bs.now; place = p }

abbrev pub taken : {E : Type 0} → Result Word E → Rest → Result (Step Spelled) E
taken (Ok w) r = Ok (record { value = spelled w; rest = r })
taken (Err f) r = Err f

abbrev pub seen : Result (Option Word) (Fault WordCause) → Rest → Result (Option (Step Spelled)) (Fault WordCause)
seen (Ok None) r = Ok None
seen (Ok (Some w)) r = Ok (Some (record { value = spelled w; rest = r }))
seen (Err f) r = Err f

-- where there is no word, only the blanks are gone
abbrev pub BlanksGone : Result (Option Word) (Fault WordCause) → Rest → Rest → Type 0
BlanksGone (Ok None) s r = r ≡ skipped s
BlanksGone (Ok (Some w)) s r = Unit {0}
BlanksGone (Err f) s r = r ≡ skipped s

abbrev pub WordIsPart : Result (Option Word) (Fault WordCause) → Rest → Rest → Type 0
WordIsPart (Ok None) s r = Unit {0}
WordIsPart (Ok (Some w)) s r = PartOf s (record { value = spelled w; rest = r })
WordIsPart (Err f) s r = Unit {0}
