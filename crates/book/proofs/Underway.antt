-- One step of a search under way after another.
use Rattle.std.proofs.Common.{List, take, Ok, Err, Option, Result, ◌∙◌, subst}
use Rattle.profile.specs.declared.Rule.{Rule}
use Rattle.profile.specs.Kinds.{event_kind}
use Rattle.book.specs.declared.search.Unfit.{Unfit}
use Rattle.book.specs.declared.running.Search.{Search}
use Rattle.book.specs.Offers.{usable, said}
use Rattle.book.specs.Trying.{Stepped}
use Rattle.book.specs.Underway.{Aim, Steps}
use Rattle.book.proofs.Trials.{stuck_then}

-- a step from one search to another, by the sides of a third
abbrev pub Led : {S M : Type 0} → (S → List (Option Rule)) → (M → List (Option Rule)) → Search S M → Search S M → Aim → Result (Unit {0}) Unfit → Search S M → Type 0
Led station manual by was aim r is =
    let s = station by.sides.now.station.now in
    let m = manual by.sides.now.manual.now in
    Stepped event_kind s m by.sides.now.start (usable was.rows.now) was.held was.rows.now (aim s m by.sides.now.start (said (take was.held was.rows.now))) r is.held is.rows.now

module _ {S M : Type 0} {station : S → List (Option Rule)} {manual : M → List (Option Rule)} where
  -- one step after the other is a step, where it does what that one is for
  pub steps_then : {was mid is : Search S M} {first second aim : Aim} {r t : Result (Unit {0}) Unfit} → Steps station manual was first r mid → Steps station manual mid second t is →
      (Led station manual was was first r mid → Led station manual was mid second t is → Led station manual was was aim t is) → Steps station manual was aim t is
  steps_then {was} {mid} {is} {first} {second} {aim} {r} {t} a b both = record {
    same_sides = b.same_sides ∙ a.same_sides;
    same_rows = b.same_rows ∙ a.same_rows;
    stepped = both a.stepped
        (subst (λ x. (let s = station x.now.station.now in let m = manual x.now.manual.now in
        Stepped event_kind s m x.now.start (usable mid.rows.now) mid.held mid.rows.now (second s m x.now.start (said (take mid.held mid.rows.now))) t is.held is.rows.now)) a.same_sides b.stepped);
  }

  -- a step that got stuck, after one that did not
  pub steps_stuck : {was mid is : Search S M} {first second aim : Aim} {unfit : Unfit} → Steps station manual was first (Ok tt) mid → Steps station manual mid second (Err unfit) is → Steps station manual was aim (Err unfit) is
  steps_stuck a b = steps_then a b (stuck_then _ _ _ _ _ _ _ _ _ _ _)

  -- a step does what another is for
  pub steps_for : {was is : Search S M} {first aim : Aim} {r : Result (Unit {0}) Unfit} → Steps station manual was first r is → (Led station manual was was first r is → Led station manual was was aim r is) → Steps station manual was aim r is
  steps_for a f = record { same_sides = a.same_sides; same_rows = a.same_rows; stepped = f a.stepped }
