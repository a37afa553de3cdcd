-- The lines of a book, offered to a second one in memory of its own.
use Rattle.std.proofs.Common.{◌≡◌, ℕ, ◌+◌, ◌≤◌, ltb, List, [], ◌∷◌, length, set, Ok, Err, Option, Result, sym, refl, ap, ◌∙◌, arith}
use Rattle.std.proofs.lemmas.Bool.{ltb-true}
use Rattle.profile.specs.declared.Kind.{Kind}
use Rattle.profile.specs.declared.Rule.{Rule}
use Rattle.game.specs.declared.Head.{Head}
use Rattle.game.specs.declared.Line.{Line}
use Rattle.game.specs.declared.Row.{Row}
use Rattle.book.specs.declared.Refusal.{Refusal}
use Rattle.book.specs.declared.state.Draft.{Draft}
use Rattle.book.specs.Offers.{and_then, usable, held_rows, said, offer, written, lines, accept, replay, Built}
use Rattle.book.specs.Drafts.{empty_draft, draft_offer}
use Rattle.book.specs.ByContract.{AllAccepted, SecondBook}
use Rattle.book.proofs.Lending.{held_long, held_set, usable_set}
use Rattle.book.proofs.Tested.{ok_same, taken}
use Rattle.book.proofs.Replays.{accepted}

module _ (kinds : ℕ → Option Kind) (station manual : List (Option Rule)) (start : Head) (room : ℕ) where
  -- a draft and its lent rows after all lines were accepted
  pub record Copied (d : Draft) (was : List Row) (ls : List Line) (rows : List Row) : Type 0 where
    pub draft : Draft
    pub lent : List Row
    pub all_accepted : AllAccepted kinds station manual d was ls draft lent
    pub as_many : draft.held ≡ length rows
    pub the_same_rows : held_rows lent draft.held ≡ rows

  -- lines that make rows from those held are all accepted, and then those rows are held
  pub copies : (ls : List Line) (d : Draft) (was rows : List Row) → d.start ≡ start → usable was ≡ room → d.held ≤ room →
      replay kinds station manual start room ls (held_rows was d.held) ≡ Ok rows → Copied d was ls rows
  copies [] d was rows s u h e =
      let same = ok_same (held_rows was d.held) rows e in
      record {
        draft = d;
        lent = was;
        all_accepted = (refl, refl);
        as_many = sym (held_long was d.held (omega arith)) ∙ ap length same;
        the_same_rows = same;
      }
  copies (l ∷ ls) d was rows s u h e = at (copies ls) (accept kinds station manual start room (held_rows was d.held) l) refl e
    where
      at : ((d : Draft) (was rows : List Row) → d.start ≡ start → usable was ≡ room → d.held ≤ room →
          replay kinds station manual start room ls (held_rows was d.held) ≡ Ok rows → Copied d was ls rows) →
          (x : Result (List Row) Refusal) → accept kinds station manual start room (held_rows was d.held) l ≡ x →
          and_then x (replay kinds station manual start room ls) ≡ Ok rows → Copied d was (l ∷ ls) rows
      at rec (Ok more) k f =
          let (row, o, is) = accepted kinds station manual start room (held_rows was d.held) more l k in
          let long = held_long was d.held (omega arith) in
          let offered : draft_offer kinds station manual d was l ≡ Ok row =
          (λ i. offer kinds station manual (s i) (ltb (sym long i) (u i)) (said (held_rows was d.held)) l) ∙ o in
          let free = ltb-true d.held (usable was) (taken kinds station manual d.start (ltb d.held (usable was)) (said (held_rows was d.held)) l row offered).found_free in
          let next = rec (record { start = d.start; held = d.held + 1 }) (set was d.held (written row l)) rows s (usable_set was d.held (written row l) ∙ u) (omega arith)
          (ap (replay kinds station manual start room ls) (held_set was d.held (written row l) free ∙ sym is) ∙ f) in
          record {
            draft = next.draft;
            lent = next.lent;
            all_accepted = (row, offered, next.all_accepted);
            as_many = next.as_many;
            the_same_rows = next.the_same_rows;
          }
      at rec (Err why) k f = cc

  pub second_book : (rows other : List Row) → Built kinds station manual start room rows → usable other ≡ room → SecondBook kinds station manual start rows other
  second_book rows other built u =
      let c = copies (lines rows) (empty_draft start) other rows refl u (omega arith) built in
      record { draft = c.draft; lent = c.lent; all_accepted = c.all_accepted; as_many = c.as_many; the_same_rows = c.the_same_rows }
