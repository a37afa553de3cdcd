-- The grammar of profile texts in its own words: which texts say what. Nothing here reads a text from left to right;
-- a text is its words with blanks between them, and the words spell out lists of names, rules and a start.
use Rattle.std.specs.Prelude.{◌≡◌, ℕ, ◌<◌, ◌≤◌, ◌⊎◌, List, [], ◌∷◌, ◌++◌, length, Some, None, Ok, Err, codes, decimal, Option, Result, slice_index_or}
use Rattle.ordered.specs.Laws.{In, HasKey, Ascending}
use Rattle.profile.specs.declared.Kind.{Kind}
use Rattle.profile.specs.declared.Kind.TheVariants.{Open, Step, Close}
use Rattle.profile.specs.declared.Rule.{Rule}
use Rattle.profile.specs.declared.table.Table.{Table}
use Rattle.profile.specs.Kinds.{event_kind}
use Rattle.profile.specs.Rules.{rule_key, rule_le}
use Rattle.text.specs.declared.fault.Cause.{Cause}
use Rattle.text.specs.declared.fault.Fault.{Fault}
use Rattle.text.specs.ProfileText.{mode_word, event_names, Reading, reading_of}

-- a blank or a line feed
abbrev pub Blank : ℕ → Type 0
Blank b = (b ≡ 32) ⊎ (b ≡ 10)

abbrev pub Visible : List ℕ → Type 0
Visible [] = Unit {0}
Visible (b ∷ bs) = (33 ≤ b) × (b ≤ 126) × Visible bs

-- a word: 1 to 16 visible bytes
pub record IsWord (w : List ℕ) : Type 0 where
  pub some : 1 ≤ length w
  pub short : length w ≤ 16
  pub visible : Visible w

abbrev pub BlankOrEnd : List ℕ → Type 0
BlankOrEnd [] = Unit {0}
BlankOrEnd (b ∷ bs) = Blank b

-- a text is some words, with blanks around them and at least one between two
pub data Spaced : List ℕ → List (List ℕ) → Type 0 where
  ends : Spaced [] []
  blank : {b : ℕ} {t : List ℕ} {ws : List (List ℕ)} → Blank b → Spaced t ws → Spaced (b ∷ t) ws
  word : {w t u : List ℕ} {ws : List (List ℕ)} → u ≡ w ++ t → IsWord w → BlankOrEnd t → Spaced t ws → Spaced u (w ∷ ws)

-- a section of names: its heading, how many they are, and the names
abbrev pub names_section : List ℕ → List (List ℕ) → List (List ℕ)
names_section heading ns = heading ∷ decimal (length ns) ∷ ns

-- the name with a number
abbrev pub name_of : List (List ℕ) → ℕ → List ℕ
name_of ns i = slice_index_or ns i []

-- the symbols that a rule lists: both for an open rule, the upper one for a step rule, none for a close rule
abbrev pub symbols_listed : List (List ℕ) → Option Kind → ℕ → ℕ → List (List ℕ)
symbols_listed symbols None upper lower = []
symbols_listed symbols (Some Open) upper lower = name_of symbols upper ∷ name_of symbols lower ∷ []
symbols_listed symbols (Some Step) upper lower = name_of symbols upper ∷ []
symbols_listed symbols (Some Close) upper lower = []

-- the words of a rule
abbrev pub rule_words : List (List ℕ) → List (List ℕ) → Rule → List (List ℕ)
rule_words states symbols r =
    mode_word r.mode ∷ name_of states r.state ∷ name_of symbols r.top ∷ name_of event_names r.event ∷ name_of states r.next ∷
    symbols_listed symbols (event_kind r.event) r.upper r.lower

abbrev pub rules_words : List (List ℕ) → List (List ℕ) → List Rule → List (List ℕ)
rules_words states symbols [] = []
rules_words states symbols (r ∷ rs) = rule_words states symbols r ++ rules_words states symbols rs

-- all words of a profile text
abbrev pub profile_words : List (List ℕ) → List (List ℕ) → List Rule → ℕ × ℕ → List (List ℕ)
profile_words states symbols listed start =
    names_section (codes "states") states ++ (names_section (codes "symbols") symbols ++
    ((codes "rules" ∷ decimal (length listed) ∷ rules_words states symbols listed) ++
    (codes "start" ∷ decimal 1 ∷ name_of states start.0 ∷ name_of symbols start.1 ∷ [])))

-- the symbols of a rule are among m ones where its kind uses them, and 0 where it does not
abbrev pub SymbolsNamed : ℕ → Option Kind → ℕ → ℕ → Type 0
SymbolsNamed m None upper lower = ⊥
SymbolsNamed m (Some Open) upper lower = (upper < m) × (lower < m)
SymbolsNamed m (Some Step) upper lower = (upper < m) × (lower ≡ 0)
SymbolsNamed m (Some Close) upper lower = (upper ≡ 0) × (lower ≡ 0)

-- a rule over n states and m symbols: every number is the number of a name
pub record Named (n m : ℕ) (r : Rule) : Type 0 where
  pub state : r.state < n
  pub top : r.top < m
  pub next : r.next < n
  pub symbols : SymbolsNamed m (event_kind r.event) r.upper r.lower

abbrev pub AllNamed : ℕ → ℕ → List Rule → Type 0
AllNamed n m [] = Unit {0}
AllNamed n m (r ∷ rs) = Named n m r × AllNamed n m rs

-- no element has the key of one before it
abbrev pub EachNew : {X K : Type 0} → (X → K) → List X → List X → Type 0
EachNew key before [] = Unit {0}
EachNew key before (x ∷ xs) = (HasKey key (key x) before → ⊥) × EachNew key (before ++ x ∷ []) xs

abbrev pub NamesDiffer : List (List ℕ) → Type 0
NamesDiffer = EachNew (λ (n : List ℕ). n) []

-- rules differ where they do so in more than the mode
abbrev pub RulesDiffer : List Rule → Type 0
RulesDiffer = EachNew rule_key []

-- This text says this profile: at most 20,000 bytes, whose words are the sections of these states, these symbols,
-- these rules and this start. The profile holds just the listed rules, in ascending order.
pub record Says (text : List ℕ) (p : Reading) : Type 0 where
  pub states : List (List ℕ)
  pub symbols : List (List ℕ)
  pub listed : List Rule
  pub short : length text ≤ 20000
  pub spelled : Spaced text (profile_words states symbols listed p.start)
  pub some_states : 1 ≤ length states
  pub few_states : length states ≤ 8
  pub states_differ : NamesDiffer states
  pub some_symbols : 1 ≤ length symbols
  pub few_symbols : length symbols ≤ 16
  pub symbols_differ : NamesDiffer symbols
  pub few_rules : length listed ≤ 96
  pub rules_named : AllNamed (length states) (length symbols) listed
  pub rules_differ : RulesDiffer listed
  pub start_state : p.start.0 < length states
  pub start_symbol : p.start.1 < length symbols
  pub ascending : Ascending rule_le p.rules
  pub just_listed : (r : Rule) → (In r p.rules → In r listed) × (In r listed → In r p.rules)

-- What a reading into a table comes to, by the grammar: an accepted text says what the table then holds and nothing
-- else, a refused one says nothing.
abbrev pub Judged : List ℕ → Result (Unit {0}) (Fault Cause) → Table → Type 0
Judged text (Ok done) t = Says text (reading_of t) × ((p : Reading) → Says text p → p ≡ reading_of t)
Judged text (Err f) t = (p : Reading) → Says text p → ⊥

-- The grammar has one reading at most for each text.
abbrev pub OneReading : Type 0
OneReading = (text : List ℕ) (p q : Reading) → Says text p → Says text q → p ≡ q
