-- A search over rows of this book decides.
use Rattle.std.proofs.Common.{◌≡◌, ℕ, Bool, true, false, cond, List, Ok, Err, Option, Result, sym, refl, ap, ◌∙◌, subst}
use Rattle.profile.specs.declared.Kind.{Kind}
use Rattle.profile.specs.declared.Rule.{Rule}
use Rattle.profile.specs.Profiles.{LawfulProfile}
use Rattle.game.specs.declared.Head.{Head}
use Rattle.game.specs.declared.Row.{Row}
use Rattle.game.specs.Rows.{head_of_starts}
use Rattle.book.specs.declared.Refusal.{Refusal}
use Rattle.book.specs.declared.state.Draft.{Draft}
use Rattle.book.specs.declared.state.Completed.{Completed}
use Rattle.book.specs.declared.calls.Verdict.TheVariants as verdict
use Rattle.book.specs.Offers.{usable, held_rows, said, says_refuted}
use Rattle.book.specs.Drafts.{SearchEnds}
use Rattle.book.specs.Deciding.{OwnRows, DecidesRightly}
use Rattle.book.proofs.Ranges.{SmallHead}
use Rattle.book.proofs.Replays.{built_grown, built_sound}
use Rattle.book.proofs.Endings.{stuck_does_not_fit, settled_fits, settled_has_the_derivable, settled_refines}
use Rattle.book.proofs.Keeping.{what_is_missing}
use Rattle.book.proofs.Walking.{starts_small}

refines_off : (b : Bool) → cond b verdict.Refuted verdict.Refines ≡ verdict.Refines → b ≡ false
refines_off true e = cc
refines_off false e = refl

module _ (kinds : ℕ → Option Kind) (station manual : List (Option Rule)) (o p : ℕ × ℕ) (lawful_station : LawfulProfile kinds station o) (lawful_manual : LawfulProfile kinds manual p)
    (d : Draft) (was is : List Row) (start_is : d.start ≡ head_of_starts o p) (own : OwnRows kinds station manual d was) where
  pub decides : (r : Result Completed (Draft × Refusal)) → SearchEnds kinds station manual d was is r → DecidesRightly kinds station manual d was is r
  decides (Ok c) s =
      let small = subst (λ (h : Head). SmallHead h) (sym start_is) (starts_small kinds station manual o p lawful_station lawful_manual) in
      let after = held_rows is c.held in
      let built = built_grown kinds station manual d.start (usable was) (held_rows was d.held) after own s.left.grown in
      let refines = settled_refines kinds station manual d.start (usable was) after built lawful_station.each lawful_manual.each small s.settled in
      let same : says_refuted c.start (said after) ≡ says_refuted d.start (said after) = ap (λ (h : Head). says_refuted h (said after)) s.left.same_start in
      record {
        rows_fit = settled_fits kinds station manual d.start (usable was) after built lawful_station.each lawful_manual.each small s.settled;
        holds_just_the_derivable_rows = settled_has_the_derivable kinds station manual d.start (usable was) after built lawful_station.each lawful_manual.each small s.settled;
        verdict_tells_refines_exactly_when_a_relation_holds_the_starts = (
          (λ e. refines.1 (sym same ∙ refines_off (says_refuted c.start (said after)) e)),
          (λ r. ap (λ (b : Bool). cond b verdict.Refuted verdict.Refines) (same ∙ refines.0 r)),
        );
      }
  decides (Err e) s =
      let after = held_rows is e.0.held in
      let built = built_grown kinds station manual d.start (usable was) (held_rows was d.held) after own s.left.grown in
      let sound = built_sound kinds station manual d.start (usable was) after built in
      record {
        rows_do_not_fit = stuck_does_not_fit kinds station manual d.start (usable was) after built s.stuck;
        left = record {
          derivable = sound.derivable;
          different = sound.different;
          prefix = (s.left.grown.0, s.left.grown.1);
          missing = what_is_missing kinds station manual d.start (usable was) after built s.stuck;
        };
      }
