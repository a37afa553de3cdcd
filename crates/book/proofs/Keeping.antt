-- What a turn comes to keeps the guarantee.
use Rattle.std.proofs.Common.{◌≡◌, ℕ, Bool, true, false, cond, ltb, ◌⊎◌, List, length, Ok, Err, Option, Result, sym, refl, ap, ◌∙◌, subst, inl, inr, arith}
use Rattle.std.proofs.lemmas.Bool.{cases_Bool, ltb-false}
use Rattle.ordered.specs.Laws.{In}
use Rattle.profile.specs.declared.Kind.{Kind}
use Rattle.profile.specs.declared.Rule.{Rule}
use Rattle.profile.specs.Profiles.{LawfulSlots}
use Rattle.game.specs.declared.Head.{Head}
use Rattle.game.specs.declared.Line.{Line}
use Rattle.game.specs.declared.Row.{Row as LentRow}
use Rattle.game.specs.Members.{AttackRow}
use Rattle.game.specs.Systems.{ExactlyWhen}
use Rattle.game.specs.Game.{AttackerWins}
use Rattle.game.specs.Rows.{starts, refuting, Fit}
use Rattle.game.specs.Theorems.{Refines}
use Rattle.book.specs.declared.Refusal.{Refusal}
use Rattle.book.specs.declared.Refusal.TheVariants.{RowsDoNotFit, TooManyMembers}
use Rattle.book.specs.declared.run.Call.{Call}
use Rattle.book.specs.declared.run.Call.TheVariants as call
use Rattle.book.specs.declared.run.Answer.{Answer}
use Rattle.book.specs.declared.run.Answer.TheVariants as answer
use Rattle.book.specs.declared.run.Turn.{Turn}
use Rattle.book.specs.Offers.{said, offer, Built, says_refuted}
use Rattle.book.specs.Searches.{Settled, Stuck, Grown}
use Rattle.book.specs.Guarantee.{LineComesTo, SearchComesTo, DraftCall, CompletedCall, ComesTo, LeftOff, TurnKept}
use Rattle.book.proofs.Equals.{says_refuted_means, says_refuted_shown, says_not_refuted_means}
use Rattle.book.proofs.Tested.{left_out}
use Rattle.book.proofs.Ranges.{SmallHead}
use Rattle.book.proofs.Replays.{built_grown, built_sound, built_refuted_wins}
use Rattle.book.proofs.Endings.{stuck_does_not_fit, settled_fits, settled_has_the_derivable, settled_refines}

-- answers that differ
refuted_on : (b : Bool) (other : Answer) → (other ≡ answer.Refuted → ⊥) → cond b answer.Refuted other ≡ answer.Refuted → b ≡ true
refuted_on true other n e = refl
refuted_on false other n e = absurd (n e)

other_on : (b : Bool) (other : Answer) → (answer.Refuted ≡ other → ⊥) → cond b answer.Refuted other ≡ other → b ≡ false
other_on true other n e = absurd (n e)
other_on false other n e = refl

undecided_is_not : answer.Undecided ≡ answer.Refuted → ⊥
undecided_is_not e = cc

refines_is_not : answer.Refines ≡ answer.Refuted → ⊥
refines_is_not e = cc

module _ (kinds : ℕ → Option Kind) (station manual : List (Option Rule)) (start : Head) (room : ℕ) where
  line_not_refuted : (line : Line) (o : Result AttackRow Refusal) (before after : List LentRow) (reply : Answer) → LineComesTo kinds station manual start room line o before after reply → reply ≡ answer.Refuted → ⊥
  line_not_refuted line (Ok row) before after reply w e = let f = w.0 in cc
  line_not_refuted line (Err why) before after reply w e = let f = w.0 in cc

  line_not_completed : (line : Line) (o : Result AttackRow Refusal) (before after : List LentRow) (reply : Answer) (n : ℕ) → LineComesTo kinds station manual start room line o before after reply → reply ≡ answer.Completed n → ⊥
  line_not_completed line (Ok row) before after reply n w e = let f = w.0 in cc
  line_not_completed line (Err why) before after reply n w e = let f = w.0 in cc

  not_completed : (b : Bool) (other reply : Answer) (n : ℕ) → (other ≡ answer.Completed n → ⊥) → reply ≡ cond b answer.Refuted other → reply ≡ answer.Completed n → ⊥
  not_completed true other reply n differ e f = cc
  not_completed false other reply n differ e f = differ (sym e ∙ f)

  -- an answer that tells refuted: the attacker wins
  refuted_wins : (completed : Bool) (c : Call) (before after : List LentRow) (reply : Answer) → ComesTo kinds station manual start room completed c before after reply → Built kinds station manual start room before →
      reply ≡ answer.Refuted → AttackerWins kinds station manual (starts start)
  refuted_wins false (call.Enter side slot state symbol) before after reply w built e = absurd (line_not_refuted _ _ before after reply w e)
  refuted_wins false (call.Join i j) before after reply w built e = absurd (line_not_refuted _ _ before after reply w e)
  refuted_wins false call.Search before after reply w built e = elim w.ended [
    | inl p ↦ (let f = p.0 in cc)
    | inr p ↦ (let f = p.0 in cc)
  ]
  refuted_wins false call.Ask before after reply w built e =
      built_refuted_wins kinds station manual start room before built (refuted_on (says_refuted start (said before)) answer.Undecided undecided_is_not (sym w.0 ∙ e))
  refuted_wins false call.Verdict before after reply w built e = let f = w.0 in cc
  refuted_wins true (call.Enter side slot state symbol) before after reply w built e = let f = w.0 in cc
  refuted_wins true (call.Join i j) before after reply w built e = let f = w.0 in cc
  refuted_wins true call.Search before after reply w built e = let f = w.0 in cc
  refuted_wins true call.Ask before after reply w built e = let f = w.0 in cc
  refuted_wins true call.Verdict before after reply w built e =
      built_refuted_wins kinds station manual start room before built (refuted_on (says_refuted start (said before)) answer.Refines refines_is_not (sym w.0 ∙ e))

  -- an answer that tells completed: nothing is missing
  completed_settled : (completed : Bool) (c : Call) (before after : List LentRow) (reply : Answer) (n : ℕ) → ComesTo kinds station manual start room completed c before after reply →
      reply ≡ answer.Completed n → Grown kinds station manual start room before after × Settled kinds station manual start room after
  completed_settled false (call.Enter side slot state symbol) before after reply n w e = absurd (line_not_completed _ _ before after reply n w e)
  completed_settled false (call.Join i j) before after reply n w e = absurd (line_not_completed _ _ before after reply n w e)
  completed_settled false call.Search before after reply n w e = elim w.ended [
    | inl p ↦ (w.grown, p.1)
    | inr p ↦ (let f = p.0 in cc)
  ]
  completed_settled false call.Ask before after reply n w e = absurd (not_completed (says_refuted start (said before)) answer.Undecided reply n (λ f. cc) w.0 e)
  completed_settled false call.Verdict before after reply n w e = let f = w.0 in cc
  completed_settled true (call.Enter side slot state symbol) before after reply n w e = let f = w.0 in cc
  completed_settled true (call.Join i j) before after reply n w e = let f = w.0 in cc
  completed_settled true call.Search before after reply n w e = let f = w.0 in cc
  completed_settled true call.Ask before after reply n w e = let f = w.0 in cc
  completed_settled true call.Verdict before after reply n w e = absurd (not_completed (says_refuted start (said before)) answer.Refines reply n (λ f. cc) w.0 e)

  -- every usable row is taken, or a row too wide is one line away
  pub what_is_missing : (rows : List LentRow) → Built kinds station manual start room rows → Stuck kinds station manual start room rows →
      (length rows ≡ room) ⊎ ((line : Line) × (offer kinds station manual start (ltb (length rows) room) (said rows) line ≡ Err TooManyMembers))
  what_is_missing rows built (line, inl e) = inr (line, e)
  what_is_missing rows built (line, inr e) =
      let few = (built_sound kinds station manual start room rows built).few in
      let (row, w) = left_out kinds station manual start (ltb (length rows) room) (said rows) line e in
      let full = ltb-false (length rows) room w.none_free in
      inl (omega arith)

  module _ (lawful_station : LawfulSlots kinds station) (lawful_manual : LawfulSlots kinds manual) (small : SmallHead start) where
    pub turn_kept : (completed : Bool) (before after : List LentRow) (t : Turn) → ComesTo kinds station manual start room completed t.call before after t.answer → t.held ≡ length after →
        Built kinds station manual start room before → (completed ≡ true → Settled kinds station manual start room before) → TurnKept kinds station manual start room completed before after t
    turn_kept completed before after t w counts built settled = record {
      each_turn_is_its_call = w;
      counts_are_true = counts;
      told_rightly = λ off asks. told (draft_call off call.Ask asks);
      refuted_means_attacker_wins = refuted_wins completed t.call before after t.answer w built;
      completes_exactly_when_rows_fit = λ off searches. fits (draft_call off call.Search searches);
      holds_just_the_derivable_rows = λ n e row.
          (let g = completed_settled completed t.call before after t.answer n w e in
          settled_has_the_derivable kinds station manual start room after (built_grown kinds station manual start room before after built g.0) lawful_station lawful_manual small g.1 row);
      refines_exactly_when = λ on asks. refines (settled on)
          (subst (λ (x : Call). CompletedCall kinds station manual start room x before after t.answer) asks
          (subst (λ (b : Bool). ComesTo kinds station manual start room b t.call before after t.answer) on w));
      refused_search_leaves = λ off searches. leaves (draft_call off call.Search searches);
    } where
      draft_call : completed ≡ false → (c : Call) → t.call ≡ c → DraftCall kinds station manual start room c before after t.answer
      draft_call off c e =
          subst (λ (x : Call). DraftCall kinds station manual start room x before after t.answer) e
          (subst (λ (b : Bool). ComesTo kinds station manual start room b t.call before after t.answer) off w)

      told : DraftCall kinds station manual start room call.Ask before after t.answer →
          ExactlyWhen (t.answer ≡ answer.Refuted) (In (refuting start) (said after)) × ExactlyWhen (t.answer ≡ answer.Undecided) (In (refuting start) (said after) → ⊥)
      told v =
          let there = λ (k : In (refuting start) (said before)). subst (λ (l : List LentRow). In (refuting start) (said l)) (sym v.1) k in
          let back = λ (k : In (refuting start) (said after)). subst (λ (l : List LentRow). In (refuting start) (said l)) v.1 k in (
            (
              (λ e. there (says_refuted_means start (said before) (refuted_on (says_refuted start (said before)) answer.Undecided undecided_is_not (sym v.0 ∙ e)))),
              (λ k. v.0 ∙ ap (λ (b : Bool). cond b answer.Refuted answer.Undecided) (says_refuted_shown start (said before) (back k))),
            ),
            (
              (λ e k. says_not_refuted_means start (said before) (other_on (says_refuted start (said before)) answer.Undecided (λ f. undecided_is_not (sym f)) (sym v.0 ∙ e)) (back k)),
              (λ none. elim (cases_Bool (says_refuted start (said before))) [
                | inl on ↦ absurd (none (there (says_refuted_means start (said before) on)))
                | inr off ↦ v.0 ∙ ap (λ (b : Bool). cond b answer.Refuted answer.Undecided) off
              ]),
            ),
          )

      fits : SearchComesTo kinds station manual start room before after t.answer → ExactlyWhen (t.answer ≡ answer.Completed t.held) (Fit kinds station manual start room)
      fits v =
          let built_after = built_grown kinds station manual start room before after built v.grown in (
            (λ e. elim v.ended [
              | inl p ↦ settled_fits kinds station manual start room after built_after lawful_station lawful_manual small p.1
              | inr p ↦ (let f = p.0 in cc)
            ]),
            (λ fit. elim v.ended [
              | inl p ↦ p.0 ∙ ap (λ (n : ℕ). answer.Completed n) (sym counts)
              | inr p ↦ absurd (stuck_does_not_fit kinds station manual start room after built_after p.1 fit)
            ]),
          )

      refines : Settled kinds station manual start room before → CompletedCall kinds station manual start room call.Verdict before after t.answer → ExactlyWhen (t.answer ≡ answer.Refines) (Refines kinds station manual start)
      refines s v =
          let decides = settled_refines kinds station manual start room before built lawful_station lawful_manual small s in (
            (λ e. decides.1 (other_on (says_refuted start (said before)) answer.Refines (λ f. refines_is_not (sym f)) (sym v.0 ∙ e))),
            (λ r. v.0 ∙ ap (λ (b : Bool). cond b answer.Refuted answer.Refines) (decides.0 r)),
          )

      leaves : SearchComesTo kinds station manual start room before after t.answer → t.answer ≡ answer.Refused RowsDoNotFit → LeftOff kinds station manual start room before after
      leaves v e =
          let built_after = built_grown kinds station manual start room before after built v.grown in
          let sound = built_sound kinds station manual start room after built_after in
          elim v.ended [
            | inl p ↦ (let f = p.0 in cc)
            | inr p ↦ record {
              derivable = sound.derivable;
              different = sound.different;
              prefix = (v.grown.0, v.grown.1);
              missing = what_is_missing after built_after p.1;
            }
          ]
