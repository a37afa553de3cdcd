-- What is proved of the game and the rows, each statement for any kinds of events, any two lists of optional rules
-- and any head of the starts.
use Rattle.std.specs.Prelude.{◌≡◌, ℕ, ◌<◌, ◌≤◌, Bool, true, ◌⊎◌, List, [], ◌∷◌, map, length, Some, Option}
use Rattle.ordered.specs.Laws.{In, Ascending}
use Rattle.profile.specs.declared.Kind.{Kind}
use Rattle.profile.specs.declared.Rule.{Rule}
use Rattle.game.specs.declared.Head.{Head}
use Rattle.game.specs.declared.Member.{Member}
use Rattle.game.specs.Members.{AttackRow, below_top, member_le}
use Rattle.game.specs.Systems.{ExactlyWhen, Configuration, Refinement, induced, SameRules}
use Rattle.game.specs.Game.{Position, Side, by_station, by_manual, after, outcome, Attack, Reply, Wins, AttackerWins, Defends, ModalRefinement}
use Rattle.game.specs.Rows.{member_on, head_on, starts, leads_to, entered, with_pairs, Joins, CalledFor, Closed, Derivable, rounds, Means, MeansWithin, Fit, refuting}
use Rattle.game.specs.Computed.{called_for, joined}

-- some modal refinement relation, yes or no at every position, holds the starts
abbrev pub Refines : (ℕ → Option Kind) → List (Option Rule) → List (Option Rule) → Head → Type 0
Refines kinds station manual start =
    (R : Position → Bool) × ModalRefinement kinds station manual R × (R (starts start) ≡ true)

-- Attacks and replies are exactly the transitions that the clauses of refinement speak of.
pub record PlaysAreTransitions (kinds : ℕ → Option Kind) (station manual : List (Option Rule)) : Type 0 where
  pub station_attacks : (pos : Position) (event : ℕ) (to : Configuration) →
      ExactlyWhen ((r : Rule) × Attack station manual by_station r pos × (r.event ≡ event) × (after kinds r pos.station ≡ to))
      ((induced kinds station).may pos.station event to)
  pub manual_replies : (pos : Position) (r : Rule) (to : Configuration) →
      ExactlyWhen ((s : Rule) × Reply station manual by_station r s pos × (after kinds s pos.manual ≡ to))
      ((induced kinds manual).may pos.manual r.event to)
  pub manual_attacks : (pos : Position) (event : ℕ) (to : Configuration) →
      ExactlyWhen ((r : Rule) × Attack station manual by_manual r pos × (r.event ≡ event) × (after kinds r pos.manual ≡ to))
      ((induced kinds manual).must pos.manual event to)
  pub station_replies : (pos : Position) (r : Rule) (to : Configuration) →
      ExactlyWhen ((s : Rule) × Reply station manual by_manual r s pos × (after kinds s pos.station ≡ to))
      ((induced kinds station).must pos.station r.event to)

-- The same, of any two lists of optional rules.
abbrev pub AttacksAndRepliesAreTheTransitions : Type 0
AttacksAndRepliesAreTheTransitions =
    (kinds : ℕ → Option Kind) (station manual : List (Option Rule)) → PlaysAreTransitions kinds station manual

-- A modal refinement relation of the game is a refinement between the two induced systems, and the other way round.
abbrev pub ModalRefinementIsRefinement : Type 0
ModalRefinementIsRefinement =
    (kinds : ℕ → Option Kind) (station manual : List (Option Rule)) (R : Position → Bool) →
    ExactlyWhen (ModalRefinement kinds station manual R)
    (Refinement (induced kinds station) (induced kinds manual) (λ c d. R (record { station = c; manual = d }) ≡ true))

-- The same for a relation of any propositions: that every attack from where it holds has a reply to where it holds is
-- the same as that it is a refinement between the two induced systems.
abbrev pub DefendingIsRefining : (Position → Type 0) → Type 0
DefendingIsRefining holds =
    (kinds : ℕ → Option Kind) (station manual : List (Option Rule)) →
    ExactlyWhen (Defends kinds station manual holds)
    (Refinement (induced kinds station) (induced kinds manual) (λ c d. holds (record { station = c; manual = d })))

-- Where a refinement holds, the attacker does not win.
abbrev pub RefinementKeepsAttackerFromWinning : (Position → Type 0) → Type 0
RefinementKeepsAttackerFromWinning holds =
    (kinds : ℕ → Option Kind) (station manual : List (Option Rule)) →
    Refinement (induced kinds station) (induced kinds manual) (λ c d. holds (record { station = c; manual = d })) →
    (pos : Position) → holds pos → AttackerWins kinds station manual pos → ⊥

-- A refinement of any propositions that holds the starts gives a modal refinement relation, yes or no at every
-- position, that holds them.
abbrev pub AnyRefinementGivesAYesOrNoOne : (Position → Type 0) → Type 0
AnyRefinementGivesAYesOrNoOne holds =
    (kinds : ℕ → Option Kind) (station manual : List (Option Rule)) (start : Head) →
    Refinement (induced kinds station) (induced kinds manual) (λ c d. holds (record { station = c; manual = d })) →
    holds (starts start) → Refines kinds station manual start

-- Every list of optional rules refines itself, related where the configurations are the same; so from equal starts a
-- modal refinement relation holds them.
abbrev pub EveryProfileRefinesItself : Type 0
EveryProfileRefinesItself =
    (kinds : ℕ → Option Kind) (slots : List (Option Rule)) →
    Refinement (induced kinds slots) (induced kinds slots) (λ c d. c ≡ d) ×
    ((state symbol : ℕ) → Refines kinds slots slots
    (record { states = record { station = state; manual = state }; symbols = record { station = symbol; manual = symbol } }))

-- From every member within k rounds means from the head within k + n, where n counts the enters of the derivation.
abbrev pub DerivableRowsKeepCountOfRounds : Type 0
DerivableRowsKeepCountOfRounds =
    (kinds : ℕ → Option Kind) (station manual : List (Option Rule)) (start : Head) (row : AttackRow)
    (d : Derivable kinds station manual start row) → MeansWithin kinds station manual (rounds kinds station manual start d) row

-- On any stacks below, if the attacker wins from every member of a derivable row, it wins from the head.
abbrev pub DerivableRowsMeanWhatRowsMean : Type 0
DerivableRowsMeanWhatRowsMean =
    (kinds : ℕ → Option Kind) (station manual : List (Option Rule)) (start : Head) (row : AttackRow) →
    Derivable kinds station manual start row → Means kinds station manual row

-- A derivable row of the starts' head without members means that the attacker wins from the starts.
abbrev pub RefutedMeansAttackerWins : Type 0
RefutedMeansAttackerWins =
    (kinds : ℕ → Option Kind) (station manual : List (Option Rule)) (start : Head) →
    Derivable kinds station manual start (refuting start) → AttackerWins kinds station manual (starts start)

-- Where a modal refinement relation says yes, the attacker does not win.
abbrev pub RelationKeepsAttackerFromWinning : Type 0
RelationKeepsAttackerFromWinning =
    (kinds : ℕ → Option Kind) (station manual : List (Option Rule)) (R : Position → Bool) → ModalRefinement kinds station manual R →
    (pos : Position) → R pos ≡ true → AttackerWins kinds station manual pos → ⊥

-- Winning within k rounds is winning within any greater number.
abbrev pub MoreRoundsDoNoHarm : Type 0
MoreRoundsDoNoHarm =
    (kinds : ℕ → Option Kind) (station manual : List (Option Rule)) (k n : ℕ) (pos : Position) → k ≤ n →
    Wins kinds station manual k pos → Wins kinds station manual n pos

-- The derivable rows are closed, and a list that is closed contains every one of them.
abbrev pub ClosedListsHoldEveryDerivableRow : Type 0
ClosedListsHoldEveryDerivableRow =
    (kinds : ℕ → Option Kind) (station manual : List (Option Rule)) (start : Head) →
    Closed kinds station manual start (Derivable kinds station manual start) ×
    ((rows : List AttackRow) → Closed kinds station manual start (λ row. In row rows) →
    (row : AttackRow) → Derivable kinds station manual start row → In row rows)

-- The same for a set of rows by any propositions: where it is closed, it contains every derivable row.
abbrev pub DerivableRowsAreTheLeastClosedSet : (AttackRow → Type 0) → Type 0
DerivableRowsAreTheLeastClosedSet has =
    (kinds : ℕ → Option Kind) (station manual : List (Option Rule)) (start : Head) → Closed kinds station manual start has →
    (row : AttackRow) → Derivable kinds station manual start row → has row

-- rows that are all derivable, and that are closed: no derivable row is missing
pub record Saturated (kinds : ℕ → Option Kind) (station manual : List (Option Rule)) (start : Head) (rows : List AttackRow) : Type 0 where
  pub derivable : (row : AttackRow) → In row rows → Derivable kinds station manual start row
  pub closed : Closed kinds station manual start (λ row. In row rows)

-- Of such rows: the station refines the manual exactly when the refuting row is not among them.
abbrev pub RefinesExactlyWhenNotRefuted : Type 0
RefinesExactlyWhenNotRefuted =
    (kinds : ℕ → Option Kind) (station manual : List (Option Rule)) (start : Head) (rows : List AttackRow) →
    Saturated kinds station manual start rows →
    ExactlyWhen (Refines kinds station manual start) (In (refuting start) rows → ⊥)

-- Of such rows: the attacker wins from the starts exactly when the refuting row is among them.
abbrev pub AttackerWinsExactlyWhenRefuted : Type 0
AttackerWinsExactlyWhenRefuted =
    (kinds : ℕ → Option Kind) (station manual : List (Option Rule)) (start : Head) (rows : List AttackRow) →
    Saturated kinds station manual start rows →
    ExactlyWhen (AttackerWins kinds station manual (starts start)) (In (refuting start) rows)

-- Such rows decide: the refuting row is among them and the attacker wins, or it is not and the station refines the manual.
abbrev pub SaturatedRowsDecide : Type 0
SaturatedRowsDecide =
    (kinds : ℕ → Option Kind) (station manual : List (Option Rule)) (start : Head) (rows : List AttackRow) →
    Saturated kinds station manual start rows →
    (In (refuting start) rows × AttackerWins kinds station manual (starts start) × (Refines kinds station manual start → ⊥)) ⊎
    ((In (refuting start) rows → ⊥) × Refines kinds station manual start × (AttackerWins kinds station manual (starts start) → ⊥))

-- There are such rows, for every two lists of optional rules and every head.
abbrev pub SaturatedRowsExist : Type 0
SaturatedRowsExist =
    (kinds : ℕ → Option Kind) (station manual : List (Option Rule)) (start : Head) →
    (rows : List AttackRow) × Saturated kinds station manual start rows

-- So one of the two is always the case.
abbrev pub AttackerWinsOrStationRefines : Type 0
AttackerWinsOrStationRefines =
    (kinds : ℕ → Option Kind) (station manual : List (Option Rule)) (start : Head) →
    (AttackerWins kinds station manual (starts start) × (Refines kinds station manual start → ⊥)) ⊎
    (Refines kinds station manual start × (AttackerWins kinds station manual (starts start) → ⊥))

-- The members of an enter's row are exactly what the replies lead to, strictly ascending; and that is where the
-- replies lead on any stacks below.
abbrev pub MembersOfAnEnterAreWhatRepliesLeadTo : Type 0
MembersOfAnEnterAreWhatRepliesLeadTo =
    (kinds : ℕ → Option Kind) (station manual : List (Option Rule)) (side : Side) (r : Rule) (h : Head) →
    ((m : Member) → ExactlyWhen (In m (entered kinds station manual side r h).members)
    ((s : Rule) × Reply station manual side r s (head_on h [] []) × (m ≡ leads_to kinds side r s))) ×
    Ascending member_le (entered kinds station manual side r h).members ×
    ((s : Rule) (a b : List ℕ) → Reply station manual side r s (head_on h a b) →
    outcome kinds side r s (head_on h a b) ≡ member_on (leads_to kinds side r s) a b)

-- The members of a join's row are the first row's but the last, and the second row's, each with the lower pair of
-- the last if there was one; strictly ascending where the first row's are.
abbrev pub MembersOfAJoinAreBothRows : Type 0
MembersOfAJoinAreBothRows =
    (i j k : AttackRow) (t : Joins i j k) →
    ((m : Member) → ExactlyWhen (In m k.members) (In m t.front ⊎ In m (map (with_pairs (below_top t.last.symbols)) j.members))) ×
    (Ascending member_le i.members → Ascending member_le k.members)

-- The members of every derivable row are strictly ascending.
abbrev pub DerivableRowsAscend : Type 0
DerivableRowsAscend =
    (kinds : ℕ → Option Kind) (station manual : List (Option Rule)) (start : Head) (row : AttackRow) →
    Derivable kinds station manual start row → Ascending member_le row.members

-- Two strictly ascending lists with the same members are equal.
abbrev pub SameMembersSameList : Type 0
SameMembersSameList =
    (ms ns : List Member) → Ascending member_le ms → Ascending member_le ns → ((m : Member) → ExactlyWhen (In m ms) (In m ns)) → ms ≡ ns

-- What is derivable depends only on which may rules and which must rules there are, and on the starts.
abbrev pub DerivableDependsOnTheRulesAlone : Type 0
DerivableDependsOnTheRulesAlone =
    (kinds : ℕ → Option Kind) (station station' manual manual' : List (Option Rule)) (start : Head) →
    SameRules station station' → SameRules manual manual' → (row : AttackRow) →
    ExactlyWhen (Derivable kinds station manual start row) (Derivable kinds station' manual' start row)

-- no row stands twice in a list
abbrev pub Different : List AttackRow → Type 0
Different [] = Unit {0}
Different (row ∷ rows) = (In row rows → ⊥) × Different rows

-- Pairwise different rows that all occur in a list are no more than the list is long.
abbrev pub DifferentRowsAreNoMoreThanTheList : Type 0
DifferentRowsAreNoMoreThanTheList =
    (rows list : List AttackRow) → Different rows → ((row : AttackRow) → In row rows → In row list) → length rows ≤ length list

-- When the derivable rows fit: a narrow closed list that is short enough shows it; a wide derivable row, or more
-- different derivable rows than usable, show that they do not.
pub record WhatFits (kinds : ℕ → Option Kind) (station manual : List (Option Rule)) (start : Head) (usable : ℕ) : Type 0 where
  pub closed_list_fits : (rows : List AttackRow) → Closed kinds station manual start (λ row. In row rows) → length rows ≤ usable →
      ((row : AttackRow) → In row rows → length row.members ≤ 12) → Fit kinds station manual start usable
  pub wide_row_does_not : (row : AttackRow) → Derivable kinds station manual start row → 12 < length row.members → Fit kinds station manual start usable → ⊥
  pub too_many_do_not : (rows : List AttackRow) → Different rows → ((row : AttackRow) → In row rows → Derivable kinds station manual start row) →
      usable < length rows → Fit kinds station manual start usable → ⊥

abbrev pub RowsFitByWidthAndNumber : Type 0
RowsFitByWidthAndNumber =
    (kinds : ℕ → Option Kind) (station manual : List (Option Rule)) (start : Head) (usable : ℕ) → WhatFits kinds station manual start usable

-- The computed join and the computed test of a called-for head are the join and called for.
abbrev pub ComputedJoinsAreTheJoins : Type 0
ComputedJoinsAreTheJoins = (i j k : AttackRow) → ExactlyWhen (joined i j ≡ Some k) (Joins i j k)

abbrev pub ComputedCalledForIsCalledFor : Type 0
ComputedCalledForIsCalledFor =
    (start : Head) (rows : List AttackRow) (h : Head) → ExactlyWhen (called_for start rows h ≡ true) (CalledFor start (λ row. In row rows) h)
