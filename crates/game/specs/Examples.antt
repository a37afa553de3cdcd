-- Worked examples on each side of every rule of the game. The theorems would stay true of a wrong game; these would not.
use Rattle.std.specs.Prelude.{◌≡◌, ℕ, true, false, cond, List, [], ◌∷◌, Some, None, Option, ◌==◌}
use Rattle.ordered.specs.Laws.{ascends}
use Rattle.profile.specs.declared.Mode.{Mode}
use Rattle.profile.specs.declared.Mode.TheVariants.{May, Must}
use Rattle.profile.specs.declared.Kind.{Kind}
use Rattle.profile.specs.declared.Kind.TheVariants.{Open, Step, Close}
use Rattle.profile.specs.declared.Rule.{Rule}
use Rattle.game.specs.declared.Pair.{Pair}
use Rattle.game.specs.declared.Head.{Head}
use Rattle.game.specs.declared.Pairs.{Pairs}
use Rattle.game.specs.declared.Pairs.TheVariants.{Zero, One, Two}
use Rattle.game.specs.declared.Member.{Member}
use Rattle.game.specs.Members.{AttackRow, top_of, member_le}
use Rattle.game.specs.Systems.{Configuration, induced}
use Rattle.game.specs.Game.{Position, Side, by_station, by_manual, side_of, applies, after, Attack, Reply, Wins}
use Rattle.game.specs.Rows.{head_of_starts, starts, leads_to, entered, Derivable, rounds, refuting}
use Rattle.game.specs.Computed.{called_for, joined}
use Rattle.game.specs.Theorems.{Refines}

-- event 0 opens, 1 steps, 2 closes, and there is no other
abbrev pub kinds : ℕ → Option Kind
kinds e = cond (e == 0) (Some Open) (cond (e == 1) (Some Step) (cond (e == 2) (Some Close) None))

abbrev pub at : ℕ → List ℕ → Configuration
at state stack = record { state = state; stack = stack }

-- states, then symbols, the station's first
abbrev pub head : ℕ → ℕ → ℕ → ℕ → Head
head p q x y = record { states = record { station = p; manual = q }; symbols = record { station = x; manual = y } }

abbrev pub member : ℕ → ℕ → Pairs → Member
member p q pairs = record { states = record { station = p; manual = q }; symbols = pairs }

abbrev pub pair : ℕ → ℕ → Pair
pair x y = record { station = x; manual = y }

abbrev pub row : Head → List Member → AttackRow
row h ms = record { head = h; members = ms }

-- in state 3 with 5 on top, to state 4 with 6, or 6 above 7, in its place
abbrev pub moving : ℕ → Rule
moving event = record { mode = May; state = 3; top = 5; event = event; next = 4; upper = 6; lower = 7 }

-- a step that stays in state 0 on symbol 0
abbrev pub staying : Mode → Rule
staying mode = record { mode = mode; state = 0; top = 0; event = 1; next = 0; upper = 0; lower = 0 }

abbrev pub origin : Head
origin = head 0 0 0 0

-- one slot with the staying rule
abbrev pub stay : Mode → List (Option Rule)
stay mode = Some (staying mode) ∷ []

-- A rule takes the top off and puts, by the kind of its event, its upper symbol above its lower one, its upper symbol,
-- or nothing in its place.
pub record KindsTellWhatIsPushed : Type 0 where
  pub open_puts_upper_above_lower : after kinds (moving 0) (at 3 (5 ∷ 9 ∷ [])) ≡ at 4 (6 ∷ 7 ∷ 9 ∷ [])
  pub step_puts_upper : after kinds (moving 1) (at 3 (5 ∷ 9 ∷ [])) ≡ at 4 (6 ∷ 9 ∷ [])
  pub close_puts_nothing : after kinds (moving 2) (at 3 (5 ∷ 9 ∷ [])) ≡ at 4 (9 ∷ [])
  pub open_transition : (induced kinds (Some (moving 0) ∷ [])).may (at 3 (5 ∷ 9 ∷ [])) 0 (at 4 (6 ∷ 7 ∷ 9 ∷ []))
  pub step_transition : (induced kinds (Some (moving 1) ∷ [])).may (at 3 (5 ∷ 9 ∷ [])) 1 (at 4 (6 ∷ 9 ∷ []))
  pub close_transition : (induced kinds (Some (moving 2) ∷ [])).may (at 3 (5 ∷ 9 ∷ [])) 2 (at 4 (9 ∷ []))
  pub applies_where_state_and_top_agree : applies (moving 0) (at 3 (5 ∷ [])) ≡ true
  pub not_in_another_state : applies (moving 0) (at 2 (5 ∷ [])) ≡ false
  pub not_on_another_top : applies (moving 0) (at 3 (6 ∷ 5 ∷ [])) ≡ false
  pub open_leaves_two_pairs : leads_to kinds by_station (moving 0) (moving 0) ≡ member 4 4 (Two (pair 6 6) (pair 7 7))
  pub step_leaves_one_pair : leads_to kinds by_station (moving 1) (moving 1) ≡ member 4 4 (One (pair 6 6))
  pub close_leaves_none : leads_to kinds by_station (moving 2) (moving 2) ≡ member 4 4 Zero

-- What may rules and must rules count for, in attack and in reply.
pub record ModesTellWhoMayPlay : Type 0 where
  pub may_reply_to_must_attack_does_not_count : entered kinds (stay May) (stay Must) by_manual (staying Must) origin ≡ row origin []
  pub must_reply_to_must_attack_counts :
      entered kinds (stay Must) (stay Must) by_manual (staying Must) origin ≡ row origin (member 0 0 (One (pair 0 0)) ∷ [])
  pub must_rule_answers_as_may :
      entered kinds (stay May) (stay Must) by_station (staying May) origin ≡ row origin (member 0 0 (One (pair 0 0)) ∷ [])
  pub may_rule_answers_may :
      entered kinds (stay Must) (stay May) by_station (staying Must) origin ≡ row origin (member 0 0 (One (pair 0 0)) ∷ [])
  pub may_rule_of_station_attacks : Attack (stay May) [] by_station (staying May) (starts origin)
  pub must_rule_of_station_attacks : Attack (stay Must) [] by_station (staying Must) (starts origin)
  pub must_rule_of_manual_attacks : Attack [] (stay Must) by_manual (staying Must) (starts origin)
  pub may_rule_of_manual_does_not_attack : (r : Rule) → Attack [] (stay May) by_manual r (starts origin) → ⊥
  pub another_event_does_not_answer : entered kinds (Some (moving 0) ∷ []) (Some (moving 1) ∷ []) by_station (moving 0) (head 3 3 5 5) ≡ row (head 3 3 5 5) []
  pub may_does_not_refine_must : Derivable kinds (stay May) (stay Must) origin (refuting origin)
  pub nothing_does_not_refine_must : Derivable kinds [] (stay Must) origin (refuting origin)
  pub may_does_not_refine_nothing : Derivable kinds (stay May) [] origin (refuting origin)
  pub nothing_refines_may : Refines kinds [] (stay May) origin
  pub must_refines_may : Refines kinds (stay Must) (stay May) origin

-- in state 1 on symbol 2, to state 7 on 8; and in state 3 on symbol 4, to state 5 on 6
abbrev pub station_step : Rule
station_step = record { mode = Must; state = 1; top = 2; event = 1; next = 7; upper = 8; lower = 0 }

abbrev pub manual_step : Rule
manual_step = record { mode = Must; state = 3; top = 4; event = 1; next = 5; upper = 6; lower = 0 }

-- Whoever attacks, heads and members have the station first.
pub record HeadsHaveTheStationFirst : Type 0 where
  pub side_0 : side_of 0 ≡ Some by_station
  pub side_1 : side_of 1 ≡ Some by_manual
  pub no_side_2 : side_of 2 ≡ None
  pub starts_side_by_side : head_of_starts (1, 2) (3, 4) ≡ head 1 3 2 4
  pub station_attacks_at : Attack (Some station_step ∷ []) (Some manual_step ∷ []) by_station station_step (starts (head 1 3 2 4))
  pub manual_attacks_at : Attack (Some station_step ∷ []) (Some manual_step ∷ []) by_manual manual_step (starts (head 1 3 2 4))
  pub manual_does_not_attack_swapped : Attack (Some station_step ∷ []) (Some manual_step ∷ []) by_manual manual_step (starts (head 3 1 4 2)) → ⊥
  pub row_of_station : entered kinds (Some station_step ∷ []) (Some manual_step ∷ []) by_station station_step (head 1 3 2 4) ≡ row (head 1 3 2 4) (member 7 5 (One (pair 8 6)) ∷ [])
  pub row_of_manual : entered kinds (Some station_step ∷ []) (Some manual_step ∷ []) by_manual manual_step (head 1 3 2 4) ≡ row (head 1 3 2 4) (member 7 5 (One (pair 8 6)) ∷ [])

-- Empty slots and empty stacks give nothing, whatever else is there.
pub record NothingComesOfNothing : Type 0 where
  pub empty_slot_does_not_answer : entered kinds (stay May) (None ∷ []) by_station (staying May) origin ≡ row origin []
  pub empty_slot_beside_a_rule : entered kinds (stay May) (None ∷ Some (staying May) ∷ None ∷ []) by_station (staying May) origin ≡ entered kinds (stay May) (stay May) by_station (staying May) origin
  pub empty_slots_do_not_attack : (side : Side) (r : Rule) (pos : Position) → Attack (None ∷ []) (None ∷ []) side r pos → ⊥
  pub empty_slots_have_no_transition : (c d : Configuration) (event : ℕ) → (induced kinds (None ∷ [])).may c event d → ⊥
  pub empty_stack_has_no_transition : (kinds : ℕ → Option Kind) (slots : List (Option Rule)) (state event : ℕ) (d : Configuration) → (induced kinds slots).may (at state []) event d → ⊥
  pub no_attack_on_empty_stacks : (station manual : List (Option Rule)) (side : Side) (r : Rule) (p q : ℕ) →
      Attack station manual side r (record { station = at p []; manual = at q [] }) → ⊥
  pub no_reply_of_the_station_on_an_empty_stack : (station manual : List (Option Rule)) (r s : Rule) (c : Configuration) (p : ℕ) →
      Reply station manual by_manual r s (record { station = at p []; manual = c }) → ⊥
  pub no_reply_on_an_empty_stack : (station manual : List (Option Rule)) (r s : Rule) (c : Configuration) (q : ℕ) →
      Reply station manual by_station r s (record { station = c; manual = at q [] }) → ⊥

-- two members without pairs
abbrev pub returning : List Member
returning = member 3 3 Zero ∷ member 4 4 Zero ∷ []

-- A join replaces the last member, at its upper pair, and keeps its lower pair.
pub record JoinsKeepTheLowerPair : Type 0 where
  pub two_pairs :
      joined (row origin (member 7 7 Zero ∷ member 0 0 (Two (pair 1 1) (pair 2 9)) ∷ [])) (row (head 0 0 1 1) returning)
      ≡ Some (row origin (member 7 7 Zero ∷ member 3 3 (One (pair 2 9)) ∷ member 4 4 (One (pair 2 9)) ∷ []))
  pub one_pair :
      joined (row origin (member 7 7 Zero ∷ member 0 0 (One (pair 1 1)) ∷ [])) (row (head 0 0 1 1) returning)
      ≡ Some (row origin (member 3 3 Zero ∷ member 4 4 Zero ∷ member 7 7 Zero ∷ []))
  pub no_members_left : joined (row origin (member 0 0 (One (pair 1 1)) ∷ [])) (row (head 0 0 1 1) []) ≡ Some (row origin [])
  pub the_same_member_once :
      joined (row origin (member 3 3 Zero ∷ member 0 0 (One (pair 1 1)) ∷ [])) (row (head 0 0 1 1) returning)
      ≡ Some (row origin returning)
  pub not_at_another_head : joined (row origin (member 0 0 (One (pair 1 1)) ∷ [])) (row (head 0 0 1 2) []) ≡ None
  pub not_at_a_member_before_the_last :
      joined (row origin (member 0 0 (One (pair 1 1)) ∷ member 0 0 (One (pair 1 2)) ∷ [])) (row (head 0 0 1 1) []) ≡ None
  pub not_where_the_second_has_a_pair : joined (row origin (member 0 0 (One (pair 1 1)) ∷ [])) (row (head 0 0 1 1) (member 0 0 (One (pair 1 1)) ∷ [])) ≡ None
  pub not_where_the_last_has_no_pair : joined (row origin (member 0 0 Zero ∷ [])) (row origin []) ≡ None
  pub not_where_there_is_no_member : joined (row origin []) (row origin []) ≡ None

-- Members are ordered by number of pairs, station state, manual state, upper pair, lower pair, the station's symbol first.
pub record MembersAreInThisOrder : Type 0 where
  pub pairs_first : ascends member_le (member 7 7 Zero ∷ member 6 6 (One (pair 9 9)) ∷ member 5 5 (Two (pair 0 0) (pair 0 0)) ∷ []) ≡ true
  pub then_the_station_state : ascends member_le (member 0 7 (One (pair 9 9)) ∷ member 1 6 (One (pair 0 0)) ∷ []) ≡ true
  pub then_the_manual_state : ascends member_le (member 0 6 (One (pair 9 9)) ∷ member 0 7 (One (pair 0 0)) ∷ []) ≡ true
  pub then_the_upper_pair :
      ascends member_le (member 0 0 (Two (pair 0 9) (pair 9 9)) ∷ member 0 0 (Two (pair 1 0) (pair 0 9)) ∷ member 0 0 (Two (pair 1 1) (pair 0 0)) ∷ []) ≡ true
  pub then_the_lower_pair :
      ascends member_le (member 0 0 (Two (pair 1 1) (pair 0 9)) ∷ member 0 0 (Two (pair 1 1) (pair 1 0)) ∷ member 0 0 (Two (pair 1 1) (pair 1 1)) ∷ []) ≡ true
  pub not_twice : ascends member_le (member 0 0 Zero ∷ member 0 0 Zero ∷ []) ≡ false

-- The head of the starts is called for by no rows at all, and else the tops of members alone.
pub record HeadsAreCalledFor : Type 0 where
  pub start : called_for origin [] origin ≡ true
  pub no_other : called_for origin [] (head 0 0 1 1) ≡ false
  pub upper_pair : called_for origin (row origin (member 0 0 (Two (pair 1 2) (pair 3 4)) ∷ []) ∷ []) (head 0 0 1 2) ≡ true
  pub not_the_lower_pair : called_for origin (row origin (member 0 0 (Two (pair 1 2) (pair 3 4)) ∷ []) ∷ []) (head 0 0 3 4) ≡ false
  pub not_the_head_of_a_row : called_for origin (row (head 0 0 1 1) [] ∷ []) (head 0 0 1 1) ≡ false
  pub no_top_without_a_pair : top_of (member 0 0 Zero) ≡ None

-- the station opens a window, and closes it again; the manual only opens one
abbrev pub opening : Rule
opening = record { mode = May; state = 0; top = 0; event = 0; next = 0; upper = 1; lower = 0 }

abbrev pub closing : Rule
closing = record { mode = May; state = 0; top = 1; event = 2; next = 0; upper = 0; lower = 0 }

abbrev pub both : List (Option Rule)
both = Some opening ∷ Some closing ∷ []

abbrev pub opening_only : List (Option Rule)
opening_only = Some opening ∷ []

-- The attacker wins where there is no reply, and each round counts.
pub record RoundsAreCounted : Type 0 where
  pub never_within_none : (station manual : List (Option Rule)) (pos : Position) → Wins kinds station manual 0 pos → ⊥
  pub within_one_where_no_reply : Wins kinds (stay May) [] 1 (starts origin)
  pub within_two : Wins kinds both opening_only 2 (starts origin)
  pub not_within_one : Wins kinds both opening_only 1 (starts origin) → ⊥
  pub derived_with_two_rounds : (d : Derivable kinds both opening_only origin (refuting origin)) × (rounds kinds both opening_only origin d ≡ 2)
