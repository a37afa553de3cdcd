-- The worked examples, by computing and by the few cases there are.
use Rattle.std.proofs.Common.{◌≡◌, true, ◌⊎◌, [], ◌∷◌, Some, sym, refl, ap, ◌∙◌, subst, inl, inr, ⊎_elim}
use Rattle.std.proofs.lemmas.Option.{same_Some}
use Rattle.std.proofs.lemmas.Bool.{false≢true}
use Rattle.ordered.specs.Laws.{In}
use Rattle.profile.specs.declared.Mode.TheVariants.{May, Must}
use Rattle.profile.specs.declared.Rule.{Rule}
use Rattle.game.specs.declared.Pairs.TheVariants.{Two}
use Rattle.game.specs.Members.{AttackRow}
use Rattle.game.specs.Systems.{Configuration}
use Rattle.game.specs.Game.{Position, Side, by_station, by_manual, playable, applies, after, outcome, Attack, Reply, Wins}
use Rattle.game.specs.Rows.{head_on, starts, Derivable, enter_start, enter_top, join, refuting}
use Rattle.game.specs.Examples.{kinds, at, head, member, pair, row, moving, staying, stay, origin, opening, closing, both, opening_only, KindsTellWhatIsPushed, ModesTellWhoMayPlay, RoundsAreCounted}
use Rattle.game.proofs.Testing.{computed_joins}
use Rattle.game.proofs.Growing.{defended_refines}

-- the only slot, and an empty one
only : (r s : Rule) → In (Some r) (Some s ∷ []) → r ≡ s
only r s (inl e) = same_Some r s e
only r s (inr k) = absurd k

pub pushes : KindsTellWhatIsPushed
pushes = record {
  open_puts_upper_above_lower = refl;
  step_puts_upper = refl;
  close_puts_nothing = refl;
  open_transition = (moving 0, inl refl, refl, (9 ∷ [], refl, refl));
  step_transition = (moving 1, inl refl, refl, (9 ∷ [], refl, refl));
  close_transition = (moving 2, inl refl, refl, (9 ∷ [], refl, refl));
  applies_where_state_and_top_agree = refl;
  not_in_another_state = refl;
  not_on_another_top = refl;
  open_leaves_two_pairs = refl;
  step_leaves_one_pair = refl;
  close_leaves_none = refl;
}

may_of_manual : (r : Rule) (pos : Position) → Attack [] (stay May) by_manual r pos → ⊥
may_of_manual r pos t = false≢true (subst (λ (x : Rule). playable by_manual x ≡ true) (only r (staying May) t.0) t.1)

never : (pos : Position) (side : Side) (r : Rule) → Attack [] (stay May) side r pos → ⊥
never pos by_station r t = t.0
never pos by_manual r t = may_of_manual r pos t

-- in the same configuration, a may rule answers the must rule that attacks
same_stays : (pos : Position) → pos.station ≡ pos.manual → (side : Side) (r : Rule) → Attack (stay Must) (stay May) side r pos →
    (s : Rule) × Reply (stay Must) (stay May) side r s pos × ((outcome kinds side r s pos).station ≡ (outcome kinds side r s pos).manual)
same_stays pos e by_station r t =
    let same : r ≡ staying Must = only r (staying Must) t.0 in (
      staying May,
      (inl refl, refl, ap (λ (x : Rule). x.event) (sym same), subst (λ (c : Configuration). applies (staying May) c ≡ true) e (subst (λ (x : Rule). applies x pos.station ≡ true) same t.2)),
      ap (λ (x : Rule). after kinds x pos.station) same ∙ ap (λ (c : Configuration). after kinds (staying May) c) e,
    )
same_stays pos e by_manual r t = absurd (false≢true (subst (λ (x : Rule). playable by_manual x ≡ true) (only r (staying May) t.0) t.1))

pub modes : ModesTellWhoMayPlay
modes = record {
  may_reply_to_must_attack_does_not_count = refl;
  must_reply_to_must_attack_counts = refl;
  must_rule_answers_as_may = refl;
  may_rule_answers_may = refl;
  may_rule_of_station_attacks = (inl refl, refl, refl);
  must_rule_of_station_attacks = (inl refl, refl, refl);
  must_rule_of_manual_attacks = (inl refl, refl, refl);
  may_rule_of_manual_does_not_attack = λ r t. may_of_manual r (starts origin) t;
  another_event_does_not_answer = refl;
  may_does_not_refine_must = enter_start by_manual (staying Must) (inl refl, refl, refl);
  nothing_does_not_refine_must = enter_start by_manual (staying Must) (inl refl, refl, refl);
  may_does_not_refine_nothing = enter_start by_station (staying May) (inl refl, refl, refl);
  nothing_refines_may = ((λ pos. true), (λ pos e side r t. absurd (never pos side r t)), refl);
  must_refines_may = defended_refines kinds (stay Must) (stay May) origin (λ pos. pos.station ≡ pos.manual) same_stays refl;
}

-- opening, then closing where the manual cannot
abbrev opened : AttackRow
opened = row origin (member 0 0 (Two (pair 1 1) (pair 0 0)) ∷ [])

abbrev opens : Derivable kinds both opening_only origin opened
opens = enter_start by_station opening (inl refl, refl, refl)

abbrev closes : Derivable kinds both opening_only origin (row (head 0 0 1 1) [])
closes =
    enter_top opened (member 0 0 (Two (pair 1 1) (pair 0 0))) (head 0 0 1 1) by_station closing opens (inl refl) refl (inr (inl refl), refl, refl)

abbrev refuted : Derivable kinds both opening_only origin (refuting origin)
refuted = join opened (row (head 0 0 1 1) []) (refuting origin) opens closes (computed_joins opened (row (head 0 0 1 1) []) (refuting origin) refl)

-- who replies where the window is open
no_reply : (s : Rule) (pos : Position) → pos.manual ≡ at 0 (1 ∷ 0 ∷ []) → Reply both opening_only by_station closing s pos → ⊥
no_reply s pos e t =
    false≢true (subst (λ (c : Configuration). applies opening c ≡ true) e
    (subst (λ (x : Rule). applies x pos.manual ≡ true) (only s opening t.0) t.3))

one_of_both : (r : Rule) → In (Some r) both → (r ≡ opening) ⊎ (r ≡ closing)
one_of_both r (inl e) = inl (same_Some r opening e)
one_of_both r (inr (inl e)) = inr (same_Some r closing e)
one_of_both r (inr (inr k)) = absurd k

not_in_one : Wins kinds both opening_only 1 (starts origin) → ⊥
not_in_one (by_station, r, t, next) =
    ⊎_elim
    (λ e. next opening (inl refl, refl, ap (λ (x : Rule). x.event) (sym e), refl))
    (λ e. false≢true (subst (λ (x : Rule). applies x (at 0 (0 ∷ [])) ≡ true) e t.2))
    (one_of_both r t.0)
not_in_one (by_manual, r, t, next) =
    false≢true (subst (λ (x : Rule). playable by_manual x ≡ true) (only r opening t.0) t.1)

pub counted : RoundsAreCounted
counted = record {
  never_within_none = λ station manual pos w. w;
  within_one_where_no_reply = (by_station, staying May, (inl refl, refl, refl), λ s q. absurd q.0);
  within_two = (
    by_station,
    opening,
    (inl refl, refl, refl),
    (λ s q. subst (λ (x : Rule). Wins kinds both opening_only 1 (record { station = at 0 (1 ∷ 0 ∷ []); manual = after kinds x (at 0 (0 ∷ [])) })) (sym (only s opening q.0))
        (by_station, closing, (inr (inl refl), refl, refl), λ u v. absurd (no_reply u (head_on (head 0 0 1 1) (0 ∷ []) (0 ∷ [])) refl v))),
  );
  not_within_one = not_in_one;
  derived_with_two_rounds = (refuted, refl);
}
