-- What a search decides where the rows held are this book's own: its lines make them again, over the same profiles.
use Rattle.std.specs.Prelude.{◌≡◌, ℕ, List, Ok, Err, Option, Result}
use Rattle.ordered.specs.Laws.{In}
use Rattle.profile.specs.declared.Kind.{Kind}
use Rattle.profile.specs.declared.Rule.{Rule}
use Rattle.game.specs.declared.Row.{Row}
use Rattle.game.specs.Members.{AttackRow}
use Rattle.game.specs.Systems.{ExactlyWhen}
use Rattle.game.specs.Rows.{Derivable, Fit}
use Rattle.game.specs.Theorems.{Refines}
use Rattle.book.specs.declared.Refusal.{Refusal}
use Rattle.book.specs.declared.state.Draft.{Draft}
use Rattle.book.specs.declared.state.Completed.{Completed}
use Rattle.book.specs.declared.calls.Verdict.TheVariants as verdict
use Rattle.book.specs.Offers.{usable, held_rows, said, Built}
use Rattle.book.specs.Drafts.{verdict_of}
use Rattle.book.specs.Guarantee.{LeftOff}

module _ (kinds : ℕ → Option Kind) (of_station of_manual : List (Option Rule)) (d : Draft) (was : List Row) where
  abbrev pub OwnRows : Type 0
  OwnRows = Built kinds of_station of_manual d.start (usable was) (held_rows was d.held)

  -- The derivable rows fit, the completed book holds just these, and a verdict on them tells refines exactly when a modal
  -- refinement relation holds the starts.
  pub record CompletesRightly (is : List Row) (c : Completed) : Type 0 where
    pub rows_fit : Fit kinds of_station of_manual d.start (usable was)
    pub holds_just_the_derivable_rows : (row : AttackRow) →
        ExactlyWhen (In row (said (held_rows is c.held))) (Derivable kinds of_station of_manual d.start row)
    pub verdict_tells_refines_exactly_when_a_relation_holds_the_starts :
        ExactlyWhen (verdict_of c is ≡ verdict.Refines) (Refines kinds of_station of_manual d.start)

  -- The derivable rows do not fit, and this is left of them.
  pub record RefusesRightly (is : List Row) (after : Draft) : Type 0 where
    pub rows_do_not_fit : Fit kinds of_station of_manual d.start (usable was) → ⊥
    pub left : LeftOff kinds of_station of_manual d.start (usable was) (held_rows was d.held) (held_rows is after.held)

  abbrev pub DecidesRightly : List Row → Result Completed (Draft × Refusal) → Type 0
  DecidesRightly is (Ok c) = CompletesRightly is c
  DecidesRightly is (Err e) = RefusesRightly is e.0
