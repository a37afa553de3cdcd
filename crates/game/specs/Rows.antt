-- Attack rows: the row of an attack, the row of a join, and the rows that are derivable.
use Rattle.std.specs.Prelude.{◌≡◌, ℕ, ◌+◌, ◌≤◌, Bool, cond, ◌&&◌, ◌⊎◌, List, [], ◌∷◌, ◌++◌, map, length, Some, None, Option, ◌==◌}
use Rattle.ordered.specs.Insert.{insert_into}
use Rattle.ordered.specs.Laws.{In}
use Rattle.profile.specs.declared.Kind.{Kind}
use Rattle.profile.specs.declared.Kind.TheVariants.{Open, Step, Close}
use Rattle.profile.specs.declared.Rule.{Rule}
use Rattle.game.specs.declared.Head.{Head}
use Rattle.game.specs.declared.Pairs.{Pairs}
use Rattle.game.specs.declared.Pairs.TheVariants.{Zero, One, Two}
use Rattle.game.specs.declared.Member.{Member}
use Rattle.game.specs.Members.{AttackRow, top_of, below_top, member_le}
use Rattle.game.specs.Game.{Position, Side, by_station, by_manual, of_replier, playable, Attack, Wins, AttackerWins}

-- the station's, and the manual's, symbols of pairs above a stack
abbrev pub station_on : Pairs → List ℕ → List ℕ
station_on Zero below = below
station_on (One p) below = p.station ∷ below
station_on (Two upper lower) below = upper.station ∷ lower.station ∷ below

abbrev pub manual_on : Pairs → List ℕ → List ℕ
manual_on Zero below = below
manual_on (One p) below = p.manual ∷ below
manual_on (Two upper lower) below = upper.manual ∷ lower.manual ∷ below

-- the position that a member is on stacks a and b below
abbrev pub member_on : Member → List ℕ → List ℕ → Position
member_on m a b = record {
  station = record { state = m.states.station; stack = station_on m.symbols a };
  manual = record { state = m.states.manual; stack = manual_on m.symbols b };
}

-- the position that a head is on stacks a and b below
abbrev pub head_on : Head → List ℕ → List ℕ → Position
head_on h a b = record {
  station = record { state = h.states.station; stack = h.symbols.station ∷ a };
  manual = record { state = h.states.manual; stack = h.symbols.manual ∷ b };
}

-- the head of two starts, each a state and a symbol: the station's first
abbrev pub head_of_starts : ℕ × ℕ → ℕ × ℕ → Head
head_of_starts station manual = record {
  states = record { station = station.0; manual = manual.0 };
  symbols = record { station = station.1; manual = manual.1 };
}

-- the starts: the head of the two starts, with nothing below
abbrev pub starts : Head → Position
starts start = head_on start [] []

module _ (kinds : ℕ → Option Kind) (station manual : List (Option Rule)) where
  -- What a row means: on any stacks below, if the attacker wins from every member, it wins from the head.
  abbrev pub Means : AttackRow → Type 0
  Means row =
      (a b : List ℕ) → ((m : Member) → In m row.members → AttackerWins kinds station manual (member_on m a b)) →
      AttackerWins kinds station manual (head_on row.head a b)

  -- the same with rounds: from every member within k, from the head within k + n
  abbrev pub MeansWithin : ℕ → AttackRow → Type 0
  MeansWithin n row =
      (k : ℕ) (a b : List ℕ) → ((m : Member) → In m row.members → Wins kinds station manual k (member_on m a b)) →
      Wins kinds station manual (k + n) (head_on row.head a b)

-- Enter. The pairs that a station's rule r and a manual's rule s put, by the kind of their event.
abbrev pub pushed_pairs : Option Kind → Rule → Rule → Pairs
pushed_pairs (Some Open) r s = Two (record { station = r.upper; manual = s.upper }) (record { station = r.lower; manual = s.lower })
pushed_pairs (Some Step) r s = One (record { station = r.upper; manual = s.upper })
pushed_pairs (Some Close) r s = Zero
pushed_pairs None r s = Zero

-- the member that an attack by r and the reply s lead to, the station first whoever attacks
abbrev pub leads_to : (ℕ → Option Kind) → Side → Rule → Rule → Member
leads_to kinds by_station r s = record {
  states = record { station = r.next; manual = s.next };
  symbols = pushed_pairs (kinds r.event) r s;
}
leads_to kinds by_manual r s = record {
  states = record { station = s.next; manual = r.next };
  symbols = pushed_pairs (kinds r.event) s r;
}

-- whether s is a reply to an attack by r at the head h
abbrev pub answers : Side → Rule → Head → Rule → Bool
answers side r h s =
    playable side s && (s.event == r.event &&
    (s.state == of_replier side h.states.station h.states.manual &&
    (s.top == of_replier side h.symbols.station h.symbols.manual)))

-- slot by slot, what the rules that pass a test make, inserted among members
abbrev pub gathered : (Rule → Bool) → (Rule → Member) → List (Option Rule) → List Member → List Member
gathered test make [] ms = ms
gathered test make (None ∷ slots) ms = gathered test make slots ms
gathered test make (Some s ∷ slots) ms = gathered test make slots (cond (test s) (insert_into member_le (make s) ms) ms)

-- the row of an enter: the rule r attacks at the head h, and the members are what every reply leads to
abbrev pub entered : (ℕ → Option Kind) → List (Option Rule) → List (Option Rule) → Side → Rule → Head → AttackRow
entered kinds station manual side r h = record {
  head = h;
  members = gathered (answers side r h) (leads_to kinds side r) (of_replier side station manual) [];
}

-- Join. Whether no member has a pair.
abbrev pub Pairless : List Member → Type 0
Pairless ms = (m : Member) → In m ms → m.symbols ≡ Zero

-- a member with other pairs
abbrev pub with_pairs : Pairs → Member → Member
with_pairs pairs m = record { states = m.states; symbols = pairs }

-- members inserted among members
abbrev pub put_in : List Member → List Member → List Member
put_in [] ms = ms
put_in (x ∷ xs) ms = put_in xs (insert_into member_le x ms)

-- Row k joins rows i and j: the last member of i has a pair, its top is the head of j, no member of j has a pair,
-- and it is replaced by the members of j, each with the lower pair if there was one.
pub record Joins (i j k : AttackRow) : Type 0 where
  pub front : List Member
  pub last : Member
  pub members : i.members ≡ front ++ last ∷ []
  pub top : top_of last ≡ Some j.head
  pub pairless : Pairless j.members
  pub gives : k ≡ record { head = i.head; members = put_in (map (with_pairs (below_top last.symbols)) j.members) front }

-- A head is called for by a set of rows: it is the head of the starts, or the top of a member of a row of the set.
abbrev pub CalledFor : Head → (AttackRow → Type 0) → Head → Type 0
CalledFor start S h =
    (h ≡ start) ⊎ ((row : AttackRow) × S row × (m : Member) × In m row.members × (top_of m ≡ Some h))

module _ (kinds : ℕ → Option Kind) (station manual : List (Option Rule)) (start : Head) where
  -- a set of rows is closed: it has every enter on a head that it calls for, and every join within it
  pub record Closed (S : AttackRow → Type 0) : Type 0 where
    pub enters : (h : Head) (side : Side) (r : Rule) → CalledFor start S h → Attack station manual side r (head_on h [] []) →
        S (entered kinds station manual side r h)
    pub joins : (i j k : AttackRow) → S i → S j → Joins i j k → S k

  -- The derivable rows: the least closed set of rows, of any width.
  pub data Derivable : AttackRow → Type 0 where
    enter_start : (side : Side) (r : Rule) → Attack station manual side r (starts start) →
        Derivable (entered kinds station manual side r start)
    enter_top : (row : AttackRow) (m : Member) (h : Head) (side : Side) (r : Rule) → Derivable row → In m row.members →
        top_of m ≡ Some h → Attack station manual side r (head_on h [] []) → Derivable (entered kinds station manual side r h)
    join : (i j k : AttackRow) → Derivable i → Derivable j → Joins i j k → Derivable k

  -- the rounds that a derivation adds: one for each enter
  abbrev pub rounds : {row : AttackRow} → Derivable row → ℕ
  rounds (enter_start side r t) = 1
  rounds (enter_top row m h side r d q e t) = 1
  rounds (join i j k d e t) = rounds d + rounds e

  -- the derivable rows all fit: none has over 12 members, and no more than the usable rows hold them all
  pub record Fit (usable : ℕ) : Type 0 where
    pub narrow : (row : AttackRow) → Derivable row → length row.members ≤ 12
    pub few : (rows : List AttackRow) × (length rows ≤ usable) × ((row : AttackRow) → Derivable row → In row rows)

-- the row that refutes: the head of the starts, without members
abbrev pub refuting : Head → AttackRow
refuting start = record { head = start; members = [] }
