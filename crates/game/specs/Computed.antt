-- Called for and join, computed: what a program can test and make.
use Rattle.std.specs.Prelude.{Bool, true, false, cond, ◌&&◌, ◌||◌, List, [], ◌∷◌, map, Some, None, Option, ◌==◌}
use Rattle.game.specs.declared.Pair.{Pair}
use Rattle.game.specs.declared.Head.{Head}
use Rattle.game.specs.declared.Pairs.{Pairs}
use Rattle.game.specs.declared.Pairs.TheVariants.{Zero, One, Two}
use Rattle.game.specs.declared.Member.{Member}
use Rattle.game.specs.Members.{AttackRow, top_of, below_top}
use Rattle.game.specs.Rows.{with_pairs, put_in}

-- whether some, and whether every, element passes a test
abbrev pub any_of : {A : Type 0} → (A → Bool) → List A → Bool
any_of test [] = false
any_of test (x ∷ xs) = test x || any_of test xs

abbrev pub all_of : {A : Type 0} → (A → Bool) → List A → Bool
all_of test [] = true
all_of test (x ∷ xs) = test x && all_of test xs

abbrev pub pair_eq : Pair → Pair → Bool
pair_eq p q = p.station == q.station && p.manual == q.manual

abbrev pub head_eq : Head → Head → Bool
head_eq h k = pair_eq h.states k.states && pair_eq h.symbols k.symbols

-- whether there is a top, and it is h
abbrev pub is_top : Head → Option Head → Bool
is_top h None = false
is_top h (Some k) = head_eq k h

-- whether h is the top of a member of a row
abbrev pub tops_row : Head → AttackRow → Bool
tops_row h row = any_of (λ m. is_top h (top_of m)) row.members

-- whether a list of rows calls for h: the head of the starts, or the top of a member of a row
abbrev pub called_for : Head → List AttackRow → Head → Bool
called_for start rows h = head_eq start h || any_of (tops_row h) rows

abbrev pub is_zero : Pairs → Bool
is_zero Zero = true
is_zero (One p) = false
is_zero (Two upper lower) = false

-- whether no member has a pair
abbrev pub pairless : List Member → Bool
pairless ms = all_of (λ m. is_zero m.symbols) ms

-- the front and the last of the list m ∷ ms
abbrev pub front_of : Member → List Member → List Member
front_of m [] = []
front_of m (n ∷ ns) = m ∷ front_of n ns

abbrev pub last_of : Member → List Member → Member
last_of m [] = m
last_of m (n ∷ ns) = last_of n ns

-- the join at the last member of a row of the head h, if it fits row j
abbrev pub joined_last : Head → List Member → Member → AttackRow → Option AttackRow
joined_last h front last j =
    cond (is_top j.head (top_of last) && pairless j.members)
    (Some (record { head = h; members = put_in (map (with_pairs (below_top last.symbols)) j.members) front }))
    None

abbrev pub joined_members : Head → List Member → AttackRow → Option AttackRow
joined_members h [] j = None
joined_members h (m ∷ ms) j = joined_last h (front_of m ms) (last_of m ms) j

-- the row that joins i and j, if they fit
abbrev pub joined : AttackRow → AttackRow → Option AttackRow
joined i j = joined_members i.head i.members j
