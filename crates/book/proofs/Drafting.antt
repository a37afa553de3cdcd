-- What a draft and the lent rows are after an offered line.
use Rattle.std.proofs.Common.{◌≡◌, ℕ, ◌+◌, ◌<◌, Bool, ltb, List, set, Ok, Err, Option, Result, sym, refl, ap, ◌∙◌}
use Rattle.std.proofs.lemmas.Bool.{ltb-true}
use Rattle.profile.specs.declared.Kind.{Kind}
use Rattle.profile.specs.declared.Rule.{Rule}
use Rattle.game.specs.declared.Line.{Line}
use Rattle.game.specs.declared.Row.{Row}
use Rattle.game.specs.Members.{AttackRow}
use Rattle.book.specs.declared.Refusal.{Refusal}
use Rattle.book.specs.declared.state.Draft.{Draft}
use Rattle.book.specs.Offers.{and_then, usable, held_rows, said, offer, written}
use Rattle.book.specs.Drafts.{draft_offer, told, rows_after, draft_after}
use Rattle.book.proofs.Tested.{taken}

-- a line that is taken made a row, and found one free
pub from_ok : (line : Line) (r : Result AttackRow Refusal) (w : Row) → Ok w ≡ and_then r (λ (x : AttackRow). Ok (written x line)) →
    (row : AttackRow) × (r ≡ Ok row) × (w ≡ written row line)
from_ok line (Ok x) w e = (x, refl, (cc))
from_ok line (Err why) w e = cc

pub from_err : (line : Line) (r : Result AttackRow Refusal) (why : Refusal) → Err why ≡ and_then r (λ (x : AttackRow). Ok (written x line)) → r ≡ Err why
from_err line (Ok x) why e = cc
from_err line (Err y) why e = cc

module _ (kinds : ℕ → Option Kind) (station manual : List (Option Rule)) where
  module _ (d : Draft) (lent : List Row) (line : Line) (free : Bool) (held : List Row) (free_is : free ≡ ltb d.held (usable lent)) (held_are : held ≡ held_rows lent d.held) where
    abbrev offered : Result AttackRow Refusal
    offered = draft_offer kinds station manual d lent line

    read : (out : Result Row Refusal) → out ≡ and_then (offer kinds station manual d.start free (said held) line) (λ (x : AttackRow). Ok (written x line)) →
        out ≡ and_then offered (λ (x : AttackRow). Ok (written x line))
    read out e = e ∙ (λ i. and_then (offer kinds station manual d.start (free_is i) (said (held_are i)) line) (λ (x : AttackRow). Ok (written x line)))

    module _ (w : Row) (made : Ok w ≡ and_then (offer kinds station manual d.start free (said held) line) (λ (x : AttackRow). Ok (written x line))) where
      row_is : (row : AttackRow) × (offered ≡ Ok row) × (w ≡ written row line)
      row_is = from_ok line offered w (read (Ok w) made)

      pub finds_room : d.held < usable lent
      finds_room =
          ltb-true d.held (usable lent) (taken kinds station manual d.start (ltb d.held (usable lent)) (said (held_rows lent d.held)) line row_is.0 row_is.1).found_free

      -- the number is told, and the draft holds one row more
      pub accepted : (n : ℕ) (is : List Row) (after : Draft) → n ≡ d.held → is ≡ set lent d.held w → after ≡ record { start = d.start; held = d.held + 1 } →
          (Ok n ≡ told d offered) × (is ≡ rows_after d lent line offered) × (after ≡ draft_after d offered)
      accepted n is after e f g = (
        ap (λ (k : ℕ). Ok k) e ∙ sym (ap (told d) row_is.1),
        f ∙ ap (set lent d.held) row_is.2 ∙ sym (ap (rows_after d lent line) row_is.1),
        g ∙ sym (ap (draft_after d) row_is.1),
      )

    -- the refusal is told, and all is as it was
    pub refused : (why : Refusal) → Err why ≡ and_then (offer kinds station manual d.start free (said held) line) (λ (x : AttackRow). Ok (written x line)) →
        (Err why ≡ told d offered) × (lent ≡ rows_after d lent line offered) × (d ≡ draft_after d offered)
    refused why made =
        let e = from_err line offered why (read (Err why) made) in
        (sym (ap (told d) e), sym (ap (rows_after d lent line) e), sym (ap (draft_after d) e))
