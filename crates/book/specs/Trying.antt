-- What a search has tried so far.
use Rattle.std.specs.Prelude.{◌≡◌, ℕ, ◌<◌, ◌≤◌, Bool, true, false, List, length, take, drop, Some, Ok, Err, Option, Result}
use Rattle.ordered.specs.Laws.{In}
use Rattle.profile.specs.declared.Kind.{Kind}
use Rattle.profile.specs.declared.Rule.{Rule}
use Rattle.game.specs.declared.Head.{Head}
use Rattle.game.specs.declared.Member.{Member}
use Rattle.game.specs.declared.Line.{Line}
use Rattle.game.specs.declared.Line.TheVariants.{Enter, Join}
use Rattle.game.specs.declared.Row.{Row}
use Rattle.game.specs.Members.{AttackRow, top_of}
use Rattle.game.specs.Computed.{called_for}
use Rattle.book.specs.declared.Refusal.{Refusal}
use Rattle.book.specs.declared.Refusal.TheVariants.{NoSuchAttack, HeadNotCalledFor, TooManyMembers, RowAlreadyHeld, NoRowFree, RowNotHeld, RowsDoNotJoin, RowsDoNotFit}
use Rattle.book.specs.declared.reply.Side.{Side}
use Rattle.book.specs.declared.search.Unfit.{Unfit}
use Rattle.book.specs.Offers.{said, row_at, Attempt, attempt, line_row, line_called}
use Rattle.book.specs.Sides.{side_number}
use Rattle.book.specs.Searches.{Grown, Stuck}

module _ (kinds : ℕ → Option Kind) (station manual : List (Option Rule)) (start : Head) where
  -- a line was tried: the row that it makes, if it makes one, is held
  abbrev pub Tried : List AttackRow → Line → Type 0
  Tried rows line = (row : AttackRow) → line_row kinds station manual start rows line ≡ Ok row → In row rows

  -- every enter at a head was tried
  abbrev pub HeadTried : List AttackRow → Head → Type 0
  HeadTried rows h =
      (side slot state symbol : ℕ) (a : Attempt) → attempt station manual side slot state symbol ≡ Some a → a.head ≡ h →
      Tried rows (Enter side slot state symbol)

  -- every enter from a slot of a side at a head was tried, and from the slots below a number
  abbrev pub SlotTried : List AttackRow → Side → ℕ → Head → Type 0
  SlotTried rows side slot h =
      (state symbol : ℕ) (a : Attempt) → attempt station manual (side_number side) slot state symbol ≡ Some a → a.head ≡ h →
      Tried rows (Enter (side_number side) slot state symbol)

  abbrev pub SideTried : List AttackRow → Side → ℕ → Head → Type 0
  SideTried rows side below h = (slot : ℕ) → slot < below → SlotTried rows side slot h

  -- every enter at the top of one of some members was tried
  abbrev pub MembersTried : List AttackRow → List Member → Type 0
  MembersTried rows ms = (m : Member) → In m ms → (h : Head) → top_of m ≡ Some h → HeadTried rows h

  -- every enter at the top of a member of a row was tried
  abbrev pub TopsTried : List AttackRow → AttackRow → Type 0
  TopsTried rows row = MembersTried rows row.members

  -- the rows below k are done with: the enters at the tops of their members, and the joins of two of them, were tried
  pub record DoneBelow (rows : List AttackRow) (k : ℕ) : Type 0 where
    pub tops : (i : ℕ) → i < k → (row : AttackRow) → row_at rows i ≡ Some row → TopsTried rows row
    pub joins : (i : ℕ) → i < k → (j : ℕ) → j < k → Tried rows (Join i j)

  -- so were the enters at the head of the starts
  abbrev pub Known : List AttackRow → ℕ → Type 0
  Known rows k = HeadTried rows start × DoneBelow rows k

  -- From n held rows in `was` to m in `is`: rows were appended one by one, and those past the m-th are as they were.
  pub record Went (room n : ℕ) (was : List Row) (m : ℕ) (is : List Row) : Type 0 where
    pub grown : Grown kinds station manual start room (take n was) (take m is)
    pub forth : n ≤ m
    pub within : m ≤ room
    pub long : length is ≡ length was
    pub kept : drop m is ≡ drop m was

-- a refusal that says that a row is missing and cannot be appended
abbrev pub stuck_by : Refusal → Bool
stuck_by NoSuchAttack = false
stuck_by HeadNotCalledFor = false
stuck_by TooManyMembers = true
stuck_by RowAlreadyHeld = false
stuck_by NoRowFree = true
stuck_by RowNotHeld = false
stuck_by RowsDoNotJoin = false
stuck_by RowsDoNotFit = false

module _ (kinds : ℕ → Option Kind) (station manual : List (Option Rule)) (start : Head) where
  -- A part of the search, from n rows in `was`: it went on to m rows and did what it is for, or it got stuck at m rows.
  pub record WentOn (room n : ℕ) (was : List Row) (done : List AttackRow → Type 0) (m : ℕ) (is : List Row) : Type 0 where
    pub went : Went kinds station manual start room n was m is
    pub goal : done (said (take m is))

  pub record GotStuck (room n : ℕ) (was : List Row) (m : ℕ) (is : List Row) : Type 0 where
    pub went : Went kinds station manual start room n was m is
    pub stuck : Stuck kinds station manual start room (take m is)

  abbrev pub Stepped : ℕ → ℕ → List Row → (List AttackRow → Type 0) → Result (Unit {0}) Unfit → ℕ → List Row → Type 0
  Stepped room n was done (Ok done_so) m is = WentOn room n was done m is
  Stepped room n was done (Err unfit) m is = GotStuck room n was m is

  -- what the parts of the search are for: a line that is called for is tried
  abbrev pub line_tried : List AttackRow → Line → List AttackRow → Type 0
  line_tried before line rows = line_called kinds station manual start before line ≡ true → Tried kinds station manual start rows line

  -- a head that is called for is entered in every way
  abbrev pub head_tried : List AttackRow → Head → List AttackRow → Type 0
  head_tried before h rows = called_for start before h ≡ true → HeadTried kinds station manual start rows h

  -- from one slot of a side, and from the slots below a number
  abbrev pub slot_tried : List AttackRow → Side → ℕ → Head → List AttackRow → Type 0
  slot_tried before side slot h rows = called_for start before h ≡ true → SlotTried kinds station manual start rows side slot h

  abbrev pub side_tried : List AttackRow → Side → ℕ → Head → List AttackRow → Type 0
  side_tried before side below h rows = called_for start before h ≡ true → SideTried kinds station manual start rows side below h

  -- a head that may have been entered already, for one of the rows below `done`, and a top if there is one
  abbrev pub new_tried : List AttackRow → ℕ → Head → List AttackRow → Type 0
  new_tried before done h rows = called_for start before h ≡ true → Known kinds station manual start before done → HeadTried kinds station manual start rows h

  abbrev pub top_tried : List AttackRow → ℕ → Option Head → List AttackRow → Type 0
  top_tried before done top rows = (h : Head) → top ≡ Some h → new_tried before done h rows

  -- the tops of some of the members `all` of a row that is held, and of all
  abbrev pub members_tried : List AttackRow → ℕ → List Member → List Member → List AttackRow → Type 0
  members_tried before done all ms rows =
      Known kinds station manual start before done → (row : AttackRow) → row.members ≡ all → In row before → MembersTried kinds station manual start rows ms

  abbrev pub tops_tried : List AttackRow → ℕ → AttackRow → List AttackRow → Type 0
  tops_tried before done row rows = Known kinds station manual start before done → In row before → TopsTried kinds station manual start rows row

  -- the joins of a row with the rows below a number, both ways round
  abbrev pub pair_tried : List AttackRow → ℕ → ℕ → List AttackRow → Type 0
  pair_tried before k j rows =
      k < length before → j < length before → Tried kinds station manual start rows (Join k j) × Tried kinds station manual start rows (Join j k)

  abbrev pub pairs_tried : List AttackRow → ℕ → ℕ → List AttackRow → Type 0
  pairs_tried before k below rows = (j : ℕ) → j < below → pair_tried before k j rows

  -- everything was tried: the enters at the head of the starts, and all that the rows give rise to
  abbrev pub all_tried : List AttackRow → Type 0
  all_tried rows = Known kinds station manual start rows (length rows)
