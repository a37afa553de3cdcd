-- What a step of a search comes to, as a search under way goes from one value to another.
use Rattle.std.specs.Prelude.{◌≡◌, List, take, Ok, Option, Result, nat_lt}
use Rattle.profile.specs.declared.Rule.{Rule}
use Rattle.profile.specs.Kinds.{event_kind}
use Rattle.game.specs.declared.Head.{Head}
use Rattle.game.specs.declared.Line.{Line}
use Rattle.game.specs.declared.Row.{Row}
use Rattle.game.specs.Members.{AttackRow}
use Rattle.book.specs.declared.Refusal.{Refusal}
use Rattle.book.specs.declared.search.Unfit.{Unfit}
use Rattle.book.specs.declared.running.Search.{Search}
use Rattle.book.specs.Offers.{and_then, usable, held_rows, said, offer, written}
use Rattle.book.specs.Trying.{Stepped}

-- a line that is offered to the held rows of a search: the row that it makes, to be written, or why it makes none
abbrev pub offered : {S M : Type 0} → (S → List (Option Rule)) → (M → List (Option Rule)) → Search S M → Line → Result Row Refusal
offered station manual search line =
    and_then (offer event_kind (station search.sides.now.station.now) (manual search.sides.now.manual.now) search.sides.now.start (nat_lt search.held (usable search.rows.now)) (said (held_rows search.rows.now search.held)) line)
    (λ row. Ok (written row line))

-- what a step is for, by the slots of both sides, the head of the starts and the rows that were held
abbrev pub Aim : Type 1
Aim = List (Option Rule) → List (Option Rule) → Head → List AttackRow → List AttackRow → Type 0

-- A step keeps the sides and the lent rows, and it did what it is for, or it got stuck.
pub record Steps {S M : Type 0} (station : S → List (Option Rule)) (manual : M → List (Option Rule)) (was : Search S M) (aim : Aim) (r : Result (Unit {0}) Unfit) (is : Search S M) : Type 0 where
  pub same_sides : is.sides ≡ was.sides
  pub same_rows : is.rows.ghost_name ≡ was.rows.ghost_name
  pub stepped :
      let s = station was.sides.now.station.now in
      let m = manual was.sides.now.manual.now in
      Stepped event_kind s m was.sides.now.start (usable was.rows.now) was.held was.rows.now (aim s m was.sides.now.start (said (take was.held was.rows.now))) r is.held is.rows.now
