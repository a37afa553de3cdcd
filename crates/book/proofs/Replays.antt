-- Lines offered one after the other, and what is true of the rows that they build.
use Rattle.std.proofs.Common.{◌≡◌, ℕ, ◌≤◌, true, ltb, List, [], ◌∷◌, ◌++◌, length, Ok, Err, Option, Result, sym, refl, ap, ◌∙◌, subst, inl, inr, ⊎_elim, arith}
use Rattle.std.proofs.lemmas.Bool.{ltb-true}
use Rattle.std.proofs.lemmas.List.{append-nil, append_assoc, length-append}
use Rattle.ordered.specs.Laws.{In}
use Rattle.profile.specs.declared.Kind.{Kind}
use Rattle.profile.specs.declared.Rule.{Rule}
use Rattle.game.specs.declared.Head.{Head}
use Rattle.game.specs.declared.Line.{Line}
use Rattle.game.specs.declared.Row.{Row}
use Rattle.game.specs.Members.{AttackRow}
use Rattle.game.specs.Game.{AttackerWins}
use Rattle.game.specs.Rows.{starts, Derivable}
use Rattle.game.specs.Theorems.{Different}
use Rattle.game.proofs.Sets.{front_or_last}
use Rattle.game.proofs.Sound.{refuting_wins}
use Rattle.book.specs.declared.Refusal.{Refusal}
use Rattle.book.specs.Offers.{and_then, said, offer, written, lines, accept, replay, Built, says_refuted}
use Rattle.book.specs.Searches.{Grown}
use Rattle.book.proofs.Equals.{says_refuted_means}
use Rattle.book.proofs.Numbers.{lines_append, said_written}
use Rattle.book.proofs.Tested.{ok_same, line_is_derivable, taken}

pub different_with_last : (rows : List AttackRow) (row : AttackRow) → Different rows → (In row rows → ⊥) → Different (rows ++ row ∷ [])
different_with_last [] row d n = (λ k. k, tt)
different_with_last (r ∷ rs) row d n =
    (λ k. ⊎_elim (λ q. d.0 q) (λ e. n (inl (sym e))) (front_or_last r rs row k), different_with_last rs row d.1 (λ k. n (inr k)))

module _ (kinds : ℕ → Option Kind) (station manual : List (Option Rule)) (start : Head) (room : ℕ) where
  -- an accepted line: the row that it made, at the end
  pub accepted : (rows after : List Row) (line : Line) → accept kinds station manual start room rows line ≡ Ok after →
      (row : AttackRow) × (offer kinds station manual start (ltb (length rows) room) (said rows) line ≡ Ok row) × (after ≡ rows ++ written row line ∷ [])
  accepted rows after line = at (offer kinds station manual start (ltb (length rows) room) (said rows) line)
    where
      at : (x : Result AttackRow Refusal) → ◌≡◌ {A = Result (List Row) Refusal} (and_then x (λ row. Ok (rows ++ written row line ∷ []))) (Ok after) →
          (row : AttackRow) × (x ≡ Ok row) × (after ≡ rows ++ written row line ∷ [])
      at (Ok row) e = (row, refl, sym (ok_same (rows ++ written row line ∷ []) after e))
      at (Err why) e = cc

  pub accept_shown : (rows : List Row) (line : Line) (row : AttackRow) → offer kinds station manual start (ltb (length rows) room) (said rows) line ≡ Ok row →
      accept kinds station manual start room rows line ≡ Ok (rows ++ written row line ∷ [])
  accept_shown rows line row e = ap (λ (x : Result AttackRow Refusal). and_then x (λ row. Ok (rows ++ written row line ∷ []))) e

  pub replay_append : (ls ms : List Line) (rows : List Row) →
      replay kinds station manual start room (ls ++ ms) rows ≡ and_then (replay kinds station manual start room ls rows) (replay kinds station manual start room ms)
  replay_append [] ms rows = refl
  replay_append (l ∷ ls) ms rows = at (replay_append ls ms) (accept kinds station manual start room rows l)
    where
      at : ((more : List Row) → replay kinds station manual start room (ls ++ ms) more ≡ and_then (replay kinds station manual start room ls more) (replay kinds station manual start room ms)) →
          (x : Result (List Row) Refusal) →
          and_then x (replay kinds station manual start room (ls ++ ms)) ≡ and_then (and_then x (replay kinds station manual start room ls)) (replay kinds station manual start room ms)
      at rec (Ok more) = rec more
      at rec (Err why) = refl

  -- rows from rows by their own lines
  pub grown_none : (rows : List Row) → Grown kinds station manual start room rows rows
  grown_none rows = ([], sym (append-nil rows), refl)

  pub grown_by_line : (rows after : List Row) (line : Line) → accept kinds station manual start room rows line ≡ Ok after → Grown kinds station manual start room rows after
  grown_by_line rows after line e =
      let (row, o, is) = accepted rows after line e in
      (written row line ∷ [], is, ap (λ (x : Result (List Row) Refusal). and_then x (replay kinds station manual start room [])) e)

  pub grown_on : (rows more most : List Row) → Grown kinds station manual start room rows more → Grown kinds station manual start room more most →
      Grown kinds station manual start room rows most
  grown_on rows more most (new, is, by) (newer, is', by') = (
    new ++ newer,
    is' ∙ ap (λ (x : List Row). x ++ newer) is ∙ append_assoc rows new newer,
    ap (λ (x : List Line). replay kinds station manual start room x rows) (lines_append new newer) ∙
        replay_append (lines new) (lines newer) rows ∙
        ap (λ (x : Result (List Row) Refusal). and_then x (replay kinds station manual start room (lines newer))) by ∙
        by',
  )

  -- the rows of a book, grown, are the rows of a book
  pub built_none : Built kinds station manual start room []
  built_none = refl

  pub built_grown : (rows after : List Row) → Built kinds station manual start room rows → Grown kinds station manual start room rows after →
      Built kinds station manual start room after
  built_grown rows after built (new, is, by) =
      ap (λ (x : List Row). replay kinds station manual start room (lines x) []) is ∙
      ap (λ (x : List Line). replay kinds station manual start room x []) (lines_append rows new) ∙
      replay_append (lines rows) (lines new) [] ∙
      ap (λ (x : Result (List Row) Refusal). and_then x (replay kinds station manual start room (lines new))) built ∙
      by

  pub built_accepted : (rows after : List Row) (line : Line) → Built kinds station manual start room rows → accept kinds station manual start room rows line ≡ Ok after →
      Built kinds station manual start room after
  built_accepted rows after line built e = built_grown rows after built (grown_by_line rows after line e)

  -- what each accepted line keeps is true after all of them
  module _ (P : List Row → Type 0) (kept : (rows after : List Row) (line : Line) → P rows → accept kinds station manual start room rows line ≡ Ok after → P after) where
    pub replay_keeps : (ls : List Line) (rows after : List Row) → P rows → replay kinds station manual start room ls rows ≡ Ok after → P after
    replay_keeps [] rows after p e = subst P (ok_same rows after e) p
    replay_keeps (l ∷ ls) rows after p e = at (replay_keeps ls) (accept kinds station manual start room rows l) refl e
      where
        at : ((more end : List Row) → P more → replay kinds station manual start room ls more ≡ Ok end → P end) →
            (x : Result (List Row) Refusal) → accept kinds station manual start room rows l ≡ x → and_then x (replay kinds station manual start room ls) ≡ Ok after → P after
        at rec (Ok more) k f = rec more after (kept rows more l p k) f
        at rec (Err why) k f = cc

    pub built_keeps : P [] → (rows : List Row) → Built kinds station manual start room rows → P rows
    built_keeps p rows built = replay_keeps (lines rows) [] rows p built

    pub grown_keeps : (rows after : List Row) → P rows → Grown kinds station manual start room rows after → P after
    grown_keeps rows after p (new, is, by) = replay_keeps (lines new) rows after p by

  -- what is true of the rows of every book
  pub record SoundRows (rows : List Row) : Type 0 where
    pub derivable : (row : AttackRow) → In row (said rows) → Derivable kinds station manual start row
    pub different : Different (said rows)
    pub narrow : (row : AttackRow) → In row (said rows) → length row.members ≤ 12
    pub few : length rows ≤ room

  sound_none : SoundRows []
  sound_none = record { derivable = λ row k. absurd k; different = tt; narrow = λ row k. absurd k; few = omega arith }

  pub sound_accepted : (rows after : List Row) (line : Line) → SoundRows rows → accept kinds station manual start room rows line ≡ Ok after → SoundRows after
  sound_accepted rows after line s e =
      let (row, o, is) = accepted rows after line e in
      let t = taken kinds station manual start (ltb (length rows) room) (said rows) line row o in
      let d = line_is_derivable kinds station manual start (said rows) s.derivable row line t.made t.called in
      let w = said_written rows row line t.narrow in
      let f = ltb-true (length rows) room t.found_free in
      subst (λ (x : List Row). SoundRows x) (sym is) (record {
        derivable = λ x k.
            ⊎_elim (λ q. s.derivable x q) (λ p. subst (λ (y : AttackRow). Derivable kinds station manual start y) (sym p) d)
            (front_or_last x (said rows) row (subst (λ (l : List AttackRow). In x l) w k));
        different = subst (λ (l : List AttackRow). Different l) (sym w) (different_with_last (said rows) row s.different t.new);
        narrow = λ x k.
            ⊎_elim (λ q. s.narrow x q) (λ p. subst (λ (y : AttackRow). length y.members ≤ 12) (sym p) t.narrow)
            (front_or_last x (said rows) row (subst (λ (l : List AttackRow). In x l) w k));
        few = simp length-append (omega arith);
      })

  pub built_sound : (rows : List Row) → Built kinds station manual start room rows → SoundRows rows
  built_sound = built_keeps SoundRows sound_accepted sound_none

  -- rows that say that the starts are refuted: the attacker wins
  pub built_refuted_wins : (rows : List Row) → Built kinds station manual start room rows → says_refuted start (said rows) ≡ true → AttackerWins kinds station manual (starts start)
  built_refuted_wins rows built e =
      refuting_wins kinds station manual start ((built_sound rows built).derivable _ (says_refuted_means start (said rows) e))
