-- What an offered line comes to, in the words of the rules: for each answer, what was the case. This stands above the
-- definition that computes the answer.
use Rattle.std.specs.Prelude.{◌≡◌, ℕ, ◌<◌, ◌≤◌, Bool, true, false, ◌⊎◌, List, [], ◌∷◌, length, is_ok, Some, None, Ok, Err, Option, Result, slice_index_or}
use Rattle.ordered.specs.Laws.{In}
use Rattle.profile.specs.declared.Mode.TheVariants.{May, Must}
use Rattle.profile.specs.declared.Kind.{Kind}
use Rattle.profile.specs.declared.Rule.{Rule}
use Rattle.game.specs.declared.Head.{Head}
use Rattle.game.specs.declared.Pairs.TheVariants.{Zero, One, Two}
use Rattle.game.specs.declared.Line.{Line}
use Rattle.game.specs.declared.Line.TheVariants.{Enter, Join}
use Rattle.game.specs.Members.{AttackRow}
use Rattle.game.specs.Systems.{ExactlyWhen}
use Rattle.game.specs.Game.{Side, by_station, by_manual, side_of, of_attacker, playable}
use Rattle.game.specs.Rows.{entered, Joins, CalledFor}
use Rattle.game.specs.Examples.{kinds, head, member, pair, row, stay, origin}
use Rattle.book.specs.declared.Refusal.{Refusal}
use Rattle.book.specs.declared.Refusal.TheVariants.{NoSuchAttack, HeadNotCalledFor, TooManyMembers, RowAlreadyHeld, NoRowFree, RowNotHeld, RowsDoNotJoin, RowsDoNotFit}
use Rattle.book.specs.Offers.{row_at, offer}

-- the head of an attack by a rule of one side, at a state and a symbol of the other: the station first
abbrev pub head_of_attack : Side → Rule → ℕ → ℕ → Head
head_of_attack by_station r state symbol =
    record { states = record { station = r.state; manual = state }; symbols = record { station = r.top; manual = symbol } }
head_of_attack by_manual r state symbol =
    record { states = record { station = state; manual = r.state }; symbols = record { station = symbol; manual = r.top } }

module _ (kinds : ℕ → Option Kind) (station manual : List (Option Rule)) (start : Head) (rows : List AttackRow) where
  -- The line makes this row. An enter: there is a side of that number, its slot holds a rule that may attack, and the
  -- members are what the replies lead to. A join: both rows are held, and this is their join.
  abbrev pub Makes : Line → AttackRow → Type 0
  Makes (Enter side slot state symbol) made =
      (by : Side) × (r : Rule) × (side_of side ≡ Some by) × (slice_index_or (of_attacker by station manual) slot None ≡ Some r) × (playable by r ≡ true) ×
      (made ≡ entered kinds station manual by r (head_of_attack by r state symbol))
  Makes (Join i j) made = (first : AttackRow) × (second : AttackRow) × (row_at rows i ≡ Some first) × (row_at rows j ≡ Some second) × Joins first second made

  -- The head of an enter's row is called for. A number that is no byte is in no head.
  abbrev pub Called : Line → AttackRow → Type 0
  Called (Enter side slot state symbol) made = (state < 256) × (symbol < 256) × CalledFor start (λ r. In r rows) made.head
  Called (Join i j) made = Unit {0}

  -- no row is made, whatever row it be
  abbrev pub MakesNothing : Line → Type 0
  MakesNothing line = (made : AttackRow) → Makes line made → ⊥

  abbrev pub IsEnter : Line → Type 0
  IsEnter (Enter side slot state symbol) = Unit {0}
  IsEnter (Join i j) = ⊥

  abbrev pub RowMissing : Line → Type 0
  RowMissing (Enter side slot state symbol) = ⊥
  RowMissing (Join i j) = (length rows ≤ i) ⊎ (length rows ≤ j)

  abbrev pub RowsThere : Line → Type 0
  RowsThere (Enter side slot state symbol) = ⊥
  RowsThere (Join i j) = (i < length rows) × (j < length rows)

  -- What was the case, by the answer. `free` says whether a usable row is free.
  abbrev pub Ruled : Bool → Line → Result AttackRow Refusal → Type 0
  Ruled free line (Ok made) = Makes line made × Called line made × (length made.members ≤ 12) × (In made rows → ⊥) × (free ≡ true)
  Ruled free line (Err NoSuchAttack) = IsEnter line × MakesNothing line
  Ruled free line (Err HeadNotCalledFor) = (made : AttackRow) × Makes line made × (Called line made → ⊥)
  Ruled free line (Err TooManyMembers) = (made : AttackRow) × Makes line made × Called line made × (12 < length made.members)
  Ruled free line (Err RowAlreadyHeld) = (made : AttackRow) × Makes line made × Called line made × (length made.members ≤ 12) × In made rows
  Ruled free line (Err NoRowFree) =
      (made : AttackRow) × Makes line made × Called line made × (length made.members ≤ 12) × (In made rows → ⊥) × (free ≡ false)
  Ruled free line (Err RowNotHeld) = RowMissing line
  Ruled free line (Err RowsDoNotJoin) = RowsThere line × MakesNothing line
  Ruled free line (Err RowsDoNotFit) = ⊥

-- Whatever is offered to whatever rows, over any two lists of optional rules, the answer is the one that the rules give: they
-- give this one, and no other.
abbrev pub OffersFollowTheRules : Type 0
OffersFollowTheRules =
    (kinds : ℕ → Option Kind) (station manual : List (Option Rule)) (start : Head) (free : Bool) (rows : List AttackRow) (line : Line) (answer : Result AttackRow Refusal) →
    ExactlyWhen (offer kinds station manual start free rows line ≡ answer) (Ruled kinds station manual start rows free line answer)

-- twelve and thirteen replies to the staying rule, each to a state of its own
abbrev pub step_to : ℕ → Option Rule
step_to n = Some (record { mode = May; state = 0; top = 0; event = 1; next = n; upper = 0; lower = 0 })

abbrev pub twelve_replies : List (Option Rule)
twelve_replies =
    step_to 0 ∷ step_to 1 ∷ step_to 2 ∷ step_to 3 ∷ step_to 4 ∷ step_to 5 ∷ step_to 6 ∷ step_to 7 ∷ step_to 8 ∷ step_to 9 ∷ step_to 10 ∷ step_to 11 ∷ []

abbrev pub thirteen : List (Option Rule)
thirteen = step_to 12 ∷ twelve_replies

-- a must rule of the manual in state 2 on symbol 3
abbrev pub demand : List (Option Rule)
demand = Some (record { mode = Must; state = 2; top = 3; event = 1; next = 4; upper = 5; lower = 0 }) ∷ []

-- a row that refutes the origin, one whose last member has two pairs, and one that fits there
abbrev pub refuting_row : AttackRow
refuting_row = row origin []

abbrev pub opened : AttackRow
opened = row origin (member 1 1 (Two (pair 2 3) (pair 4 5)) ∷ [])

abbrev pub closing : AttackRow
closing = row (head 1 1 2 3) (member 6 7 Zero ∷ [])

-- their join; and thirteen members that close
abbrev pub the_join : AttackRow
the_join = row origin (member 6 7 (One (pair 4 5)) ∷ [])

abbrev pub closing_wide : AttackRow
closing_wide =
    row (head 1 1 2 3)
    (member 0 0 Zero ∷ member 0 1 Zero ∷ member 0 2 Zero ∷ member 0 3 Zero ∷ member 0 4 Zero ∷ member 0 5 Zero ∷ member 0 6 Zero ∷ member 0 7 Zero ∷
    member 1 0 Zero ∷ member 1 1 Zero ∷ member 1 2 Zero ∷ member 1 3 Zero ∷ member 1 4 Zero ∷ [])

-- Worked examples: each answer, both sides of the bounds, and the order of the tests.
pub record OffersByExample : Type 0 where
  pub the_station_attacks : offer kinds (stay May) [] origin true [] (Enter 0 0 0 0) ≡ Ok refuting_row
  pub the_manual_attacks_by_must : offer kinds [] (stay Must) origin true [] (Enter 1 0 0 0) ≡ Ok refuting_row
  pub the_station_stands_first_in_the_head : offer kinds [] demand (head 6 2 7 3) true [] (Enter 1 0 6 7) ≡ Ok (row (head 6 2 7 3) [])
  pub not_by_may : offer kinds [] (stay May) origin true [] (Enter 1 0 0 0) ≡ Err NoSuchAttack
  pub no_third_side : offer kinds (stay Must) (stay Must) origin true [] (Enter 2 0 0 0) ≡ Err NoSuchAttack
  pub no_slot_past_the_end : offer kinds (stay Must) [] origin true [] (Enter 0 1 0 0) ≡ Err NoSuchAttack
  pub no_empty_slot : offer kinds (None ∷ []) [] origin true [] (Enter 0 0 0 0) ≡ Err NoSuchAttack
  pub no_attack_before_no_head : offer kinds (stay Must) [] origin true [] (Enter 0 1 9 9) ≡ Err NoSuchAttack
  pub not_at_another_head : offer kinds (stay May) [] origin true [] (Enter 0 0 1 0) ≡ Err HeadNotCalledFor
  pub at_the_top_of_a_member : offer kinds (stay May) [] (head 9 9 9 9) true (row (head 9 9 9 9) (member 0 1 (One (pair 0 3)) ∷ []) ∷ []) (Enter 0 0 1 3) ≡ Ok (row (head 0 1 0 3) [])
  pub not_at_a_number_over_a_byte : offer kinds (stay May) [] (head 0 256 0 0) true [] (Enter 0 0 256 0) ≡ Err HeadNotCalledFor
  pub nor_at_such_a_symbol : offer kinds (stay May) [] (head 0 0 0 256) true [] (Enter 0 0 0 256) ≡ Err HeadNotCalledFor
  pub with_twelve_members : is_ok (offer kinds (stay May) twelve_replies origin true [] (Enter 0 0 0 0)) ≡ true
  pub not_with_thirteen_members : offer kinds (stay May) thirteen origin false [] (Enter 0 0 0 0) ≡ Err TooManyMembers
  pub head_before_width : offer kinds (stay May) thirteen (head 7 0 0 0) true [] (Enter 0 0 0 0) ≡ Err HeadNotCalledFor
  pub head_before_twice : offer kinds (stay May) [] (head 7 0 0 0) true (refuting_row ∷ []) (Enter 0 0 0 0) ≡ Err HeadNotCalledFor
  pub not_twice : offer kinds (stay May) [] origin true (refuting_row ∷ []) (Enter 0 0 0 0) ≡ Err RowAlreadyHeld
  pub twice_before_no_room : offer kinds (stay May) [] origin false (refuting_row ∷ []) (Enter 0 0 0 0) ≡ Err RowAlreadyHeld
  pub not_without_room : offer kinds (stay May) [] origin false [] (Enter 0 0 0 0) ≡ Err NoRowFree
  pub no_first_row : offer kinds [] [] origin true (opened ∷ []) (Join 1 0) ≡ Err RowNotHeld
  pub no_second_row : offer kinds [] [] origin true (opened ∷ []) (Join 0 1) ≡ Err RowNotHeld
  pub a_join_keeps_the_lower_pair : offer kinds [] [] origin true (opened ∷ closing ∷ []) (Join 0 1) ≡ Ok the_join
  pub rows_have_their_numbers : offer kinds [] [] origin true (closing ∷ refuting_row ∷ closing ∷ opened ∷ []) (Join 3 2) ≡ Ok the_join
  pub no_join_of_thirteen_members : offer kinds [] [] origin false (opened ∷ closing_wide ∷ []) (Join 0 1) ≡ Err TooManyMembers
  pub no_join_twice : offer kinds [] [] origin false (opened ∷ closing ∷ the_join ∷ []) (Join 0 1) ≡ Err RowAlreadyHeld
  pub no_join_without_room : offer kinds [] [] origin false (opened ∷ closing ∷ []) (Join 0 1) ≡ Err NoRowFree
  pub not_at_another_top : offer kinds [] [] origin true (opened ∷ row (head 1 1 2 2) (member 6 7 Zero ∷ []) ∷ []) (Join 0 1) ≡ Err RowsDoNotJoin
  pub not_with_a_pair_in_the_second : offer kinds [] [] origin true (opened ∷ row (head 1 1 2 3) (member 6 7 (One (pair 0 0)) ∷ []) ∷ []) (Join 0 1) ≡ Err RowsDoNotJoin
  pub not_the_other_way_round : offer kinds [] [] origin true (opened ∷ closing ∷ []) (Join 1 0) ≡ Err RowsDoNotJoin
  pub not_without_members : offer kinds [] [] origin true (refuting_row ∷ []) (Join 0 0) ≡ Err RowsDoNotJoin
