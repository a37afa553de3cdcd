-- The grammar of texts of calls in its own words: which texts say what. A text is its words with blanks between them,
-- and the words spell out how many rows are lent and the calls, one after the other.
use Rattle.std.specs.Prelude.{◌≡◌, ℕ, ◌≤◌, List, [], ◌∷◌, ◌++◌, length, Ok, Err, vec_items, codes, decimal, Result}
use Rattle.text.specs.Grammar.{Spaced}
use Rattle.book.specs.declared.run.Call.{Call}
use Rattle.book.specs.declared.run.Call.TheVariants as call
use Rattle.calls.specs.declared.reading.Script.{Script}
use Rattle.calls.specs.declared.reading.Unread.{Unread}
use Rattle.calls.specs.declared.reading.Unread.TheVariants.{Refused, NoMemory}
use Rattle.calls.specs.Calls.{calls_of}

-- the words of a call
abbrev pub call_words : Call → List (List ℕ)
call_words (call.Enter side slot state symbol) = codes "enter" ∷ decimal side ∷ decimal slot ∷ decimal state ∷ decimal symbol ∷ []
call_words (call.Join i j) = codes "join" ∷ decimal i ∷ decimal j ∷ []
call_words call.Search = codes "search" ∷ []
call_words call.Ask = codes "ask" ∷ []
call_words call.Verdict = codes "verdict" ∷ []

abbrev pub calls_words : List Call → List (List ℕ)
calls_words [] = []
calls_words (c ∷ cs) = call_words c ++ calls_words cs

-- every number of a call is at most 9999
abbrev pub Small : Call → Type 0
Small (call.Enter side slot state symbol) = (side ≤ 9999) × (slot ≤ 9999) × (state ≤ 9999) × (symbol ≤ 9999)
Small (call.Join i j) = (i ≤ 9999) × (j ≤ 9999)
Small call.Search = Unit {0}
Small call.Ask = Unit {0}
Small call.Verdict = Unit {0}

abbrev pub AllSmall : List Call → Type 0
AllSmall [] = Unit {0}
AllSmall (c ∷ cs) = Small c × AllSmall cs

-- This text says to lend so many rows and to make these calls: at most 20,000 bytes, whose words are these.
pub record SaysCalls (text : List ℕ) (lend : ℕ) (calls : List Call) : Type 0 where
  pub short : length text ≤ 20000
  pub spelled : Spaced text (codes "lend" ∷ decimal lend ∷ calls_words calls)
  pub few : lend ≤ 1024
  pub small : AllSmall calls

-- What a reading comes to, by the grammar: an accepted text says what was read, a refused one says nothing.
abbrev pub CallsJudged : List ℕ → Result Script Unread → Type 0
CallsJudged text (Ok script) = SaysCalls text script.lend (calls_of (vec_items script.turns))
CallsJudged text (Err (Refused f)) = (lend : ℕ) (calls : List Call) → SaysCalls text lend calls → ⊥
CallsJudged text (Err NoMemory) = Unit {0}

-- The text has one reading at most.
abbrev pub SaysOne : List ℕ → Type 0
SaysOne text = (lend more : ℕ) (calls others : List Call) → SaysCalls text lend calls → SaysCalls text more others → (lend ≡ more) × (calls ≡ others)
