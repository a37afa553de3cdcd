-- Heads, members and their order, and what a row that lies in memory is read as.
use Rattle.std.specs.Prelude.{ℕ, min, Bool, List, [], ◌∷◌, take, replicate, Some, None, Option}
use Rattle.ordered.specs.Lex.{lex_le}
use Rattle.game.specs.declared.Pair.{Pair}
use Rattle.game.specs.declared.Head.{Head}
use Rattle.game.specs.declared.Pairs.{Pairs}
use Rattle.game.specs.declared.Pairs.TheVariants.{Zero, One, Two}
use Rattle.game.specs.declared.Member.{Member}
use Rattle.game.specs.declared.Line.TheVariants.{Enter}
use Rattle.game.specs.declared.Row.{Row}

-- the head that states and the upper pair form, if there is a pair
abbrev pub top_under : Pair → Pairs → Option Head
top_under states Zero = None
top_under states (One p) = Some (record { states = states; symbols = p })
top_under states (Two upper lower) = Some (record { states = states; symbols = upper })

-- the top of a member
abbrev pub top_of : Member → Option Head
top_of m = top_under m.states m.symbols

-- the pairs under the upper one: the lower pair, if there was one
abbrev pub below_top : Pairs → Pairs
below_top Zero = Zero
below_top (One p) = Zero
below_top (Two upper lower) = One lower

abbrev pub pair_count : Pairs → ℕ
pair_count Zero = 0
pair_count (One p) = 1
pair_count (Two upper lower) = 2

-- upper pair, lower pair, the station's symbol first; 0 where there is none
abbrev pub symbol_numbers : Pairs → List ℕ
symbol_numbers Zero = 0 ∷ 0 ∷ 0 ∷ 0 ∷ []
symbol_numbers (One p) = p.station ∷ p.manual ∷ 0 ∷ 0 ∷ []
symbol_numbers (Two upper lower) = upper.station ∷ upper.manual ∷ lower.station ∷ lower.manual ∷ []

-- what members are ordered by: number of pairs, station state, manual state, upper pair, lower pair
abbrev pub member_numbers : Member → List ℕ
member_numbers m = pair_count m.symbols ∷ m.states.station ∷ m.states.manual ∷ symbol_numbers m.symbols

-- the order on members
abbrev pub member_le : Member → Member → Bool
member_le m n = lex_le (member_numbers m) (member_numbers n)

-- An attack row, without bound: a head and the members. It says: on any stacks below, if the attacker wins
-- from every member, it wins from the head.
pub record AttackRow : Type 0 where
  pub head : Head
  pub members : List Member

-- the members of a row in memory: a count over 12 is read as 12
abbrev pub members_of : Row → List Member
members_of r = take (min r.count 12) r.members

-- The row that a row in memory holds. Two rows in memory are the same row when these are equal, whatever lines made them.
abbrev pub row_of : Row → AttackRow
row_of r = record { head = r.head; members = members_of r }

-- what stands in the places of a row that hold no member
abbrev pub blank_member : Member
blank_member = record { states = record { station = 0; manual = 0 }; symbols = Zero }

-- a row in memory before anything is written there
abbrev pub blank_row : Row
blank_row = record {
  head = record { states = record { station = 0; manual = 0 }; symbols = record { station = 0; manual = 0 } };
  members = replicate 12 blank_member;
  count = 0;
  line = Enter 0 0 0 0;
}
