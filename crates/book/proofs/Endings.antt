-- How a search ends: nothing is missing and the rows decide, or something is missing and the rows do not fit.
use Rattle.std.proofs.Common.{◌≡◌, ℕ, ◌<◌, true, false, ◌&&◌, eqb, ltb, List, [], ◌∷◌, length, Some, None, Option, sym, refl, ap, ◌∙◌, subst, inl, inr, ⊎_elim, arith}
use Rattle.std.proofs.lemmas.Bool.{and_parts, and_from, eqb-true, lt-ltb, ltb-false, cases_Bool, cond-true}
use Rattle.ordered.specs.Laws.{In}
use Rattle.profile.specs.declared.Kind.{Kind}
use Rattle.profile.specs.declared.Rule.{Rule}
use Rattle.profile.specs.Profiles.{LawfulSlots}
use Rattle.game.specs.declared.Head.{Head}
use Rattle.game.specs.declared.Line.TheVariants.{Enter, Join}
use Rattle.game.specs.declared.Row.{Row}
use Rattle.game.specs.Members.{AttackRow}
use Rattle.game.specs.Systems.{ExactlyWhen}
use Rattle.game.specs.Game.{Side, by_station, by_manual, of_replier, is_must, Attack, AttackerWins}
use Rattle.game.specs.Rows.{head_on, starts, entered, Joins, CalledFor, Closed, Derivable, Fit}
use Rattle.game.specs.Computed.{called_for}
use Rattle.game.specs.Theorems.{Refines, Saturated}
use Rattle.game.proofs.Testing.{called_for_shown, join_computed}
use Rattle.game.proofs.Deciding.{derivable_least, refinement_or_win, refuted_wins, not_refuted_refines, wins_refuted}
use Rattle.game.proofs.Counting.{what_fits}
use Rattle.book.specs.Offers.{said, row_at, Attempt, by_station_rule, by_manual_rule, attempt, entered_row, joined_row, join_of, attempt_called, Built, says_refuted}
use Rattle.book.specs.Searches.{Settled, Stuck}
use Rattle.book.proofs.Equals.{says_refuted_means, says_refuted_shown, says_not_refuted_means}
use Rattle.book.proofs.Numbers.{said_length, row_has_number, slot_has_number}
use Rattle.book.proofs.Tested.{line_is_derivable, too_wide, left_out, idle_is_held}
use Rattle.book.proofs.Replays.{built_sound}
use Rattle.book.proofs.Ranges.{SmallHead, called_for_small, derivable_small}

-- the number of a side, and the attempt that is an attack
abbrev pub side_number : Side → ℕ
side_number by_station = 0
side_number by_manual = 1

abbrev attempted : Side → Rule → Head → Attempt
attempted side r h = record { side = side; rule = r; head = h }

module _ (station manual : List (Option Rule)) where
  -- every attack at a head stands in some slot
  pub attack_is_attempted : (side : Side) (r : Rule) (h : Head) → Attack station manual side r (head_on h [] []) →
      (slot : ℕ) × (attempt station manual (side_number side) slot (of_replier side h.states.station h.states.manual)
      (of_replier side h.symbols.station h.symbols.manual) ≡ Some (record { side = side; rule = r; head = h }))
  attack_is_attempted by_station r h t =
      let (slot, e) = slot_has_number station r t.0 in
      let (p, q) = and_parts (eqb r.state h.states.station) (eqb r.top h.symbols.station) t.2 in
      let u = eqb-true r.state h.states.station p in
      let v = eqb-true r.top h.symbols.station q in (
        slot,
        ap (λ (x : Option Rule). by_station_rule x h.states.manual h.symbols.manual) e ∙
            (λ i. Some (attempted by_station r
            (record { states = record { station = u i; manual = h.states.manual }; symbols = record { station = v i; manual = h.symbols.manual } }))),
      )
  attack_is_attempted by_manual r h t =
      let (slot, e) = slot_has_number manual r t.0 in
      let (p, q) = and_parts (eqb r.state h.states.manual) (eqb r.top h.symbols.manual) t.2 in
      let u = eqb-true r.state h.states.manual p in
      let v = eqb-true r.top h.symbols.manual q in (
        slot,
        ap (λ (x : Option Rule). by_manual_rule x h.states.station h.symbols.station) e ∙
            cond-true (is_must r.mode) (Some (attempted by_manual r
            (record { states = record { station = h.states.station; manual = r.state }; symbols = record { station = h.symbols.station; manual = r.top } }))) None t.1 ∙
            (λ i. Some (attempted by_manual r
            (record { states = record { station = h.states.station; manual = u i }; symbols = record { station = h.symbols.station; manual = v i } }))),
      )

replier_small : (side : Side) (a b n : ℕ) → a < n → b < n → of_replier side a b < n
replier_small by_station a b n p q = q
replier_small by_manual a b n p q = p

module _ (kinds : ℕ → Option Kind) (station manual : List (Option Rule)) (start : Head) (room : ℕ) (rows : List Row) (built : Built kinds station manual start room rows) where
  -- something is missing that cannot be added: the derivable rows do not fit
  pub stuck_does_not_fit : Stuck kinds station manual start room rows → Fit kinds station manual start room → ⊥
  stuck_does_not_fit (line, inl e) fit =
      let s = built_sound kinds station manual start room rows built in
      let (row, w) = too_wide kinds station manual start (ltb (length rows) room) (said rows) line e in
      (what_fits kinds station manual start room).wide_row_does_not row
      (line_is_derivable kinds station manual start (said rows) s.derivable row line w.made w.called) w.wide fit
  stuck_does_not_fit (line, inr e) fit =
      let s = built_sound kinds station manual start room rows built in
      let (row, w) = left_out kinds station manual start (ltb (length rows) room) (said rows) line e in
      let d = line_is_derivable kinds station manual start (said rows) s.derivable row line w.made w.called in
      let full = ltb-false (length rows) room w.none_free in
      let same = said_length rows in
      (what_fits kinds station manual start room).too_many_do_not (row ∷ said rows) (w.new, s.different)
      (λ x k. ⊎_elim (λ p. subst (λ (y : AttackRow). Derivable kinds station manual start y) (sym p) d) (λ q. s.derivable x q) k)
      (omega arith) fit

  module _ (lawful_station : LawfulSlots kinds station) (lawful_manual : LawfulSlots kinds manual) (small_start : SmallHead start)
      (settled : Settled kinds station manual start room rows) where
    settled_enters : (h : Head) (side : Side) (r : Rule) → CalledFor start (λ row. In row (said rows)) h → Attack station manual side r (head_on h [] []) →
        In (entered kinds station manual side r h) (said rows)
    settled_enters h side r c t =
        let s = built_sound kinds station manual start room rows built in
        let small = called_for_small kinds station manual start lawful_station lawful_manual small_start (λ row. In row (said rows))
        (λ row k. derivable_small kinds station manual start lawful_station lawful_manual small_start row (s.derivable row k)) h c in
        let state = of_replier side h.states.station h.states.manual in
        let symbol = of_replier side h.symbols.station h.symbols.manual in
        let (slot, e) = attack_is_attempted station manual side r h t in
        let p = replier_small side h.states.station h.states.manual 8 small.0.0 small.0.1 in
        let q = replier_small side h.symbols.station h.symbols.manual 16 small.1.0 small.1.1 in
        let line = Enter (side_number side) slot state symbol in
        idle_is_held kinds station manual start (ltb (length rows) room) (said rows) line (entered kinds station manual side r h)
        (ap (λ (x : Option Attempt). entered_row kinds station manual start x) e)
        (ap (λ (x : Option Attempt). attempt_called kinds station manual start (said rows) state symbol x) e ∙
        and_from (ltb state 256) (ltb symbol 256 && called_for start (said rows) h) (lt-ltb state 256 (omega arith))
        (and_from (ltb symbol 256) (called_for start (said rows) h) (lt-ltb symbol 256 (omega arith)) (called_for_shown start (said rows) h c)))
        (settled line)

    settled_joins : (i j k : AttackRow) → In i (said rows) → In j (said rows) → Joins i j k → In k (said rows)
    settled_joins i j k a b t =
        let (m, e) = row_has_number (said rows) i a in
        let (n, f) = row_has_number (said rows) j b in
        idle_is_held kinds station manual start (ltb (length rows) room) (said rows) (Join m n) k
        (ap (λ (x : Option AttackRow). join_of kinds station manual start x (row_at (said rows) n)) e ∙
        ap (λ (x : Option AttackRow). join_of kinds station manual start (Some i) x) f ∙
        ap (λ (x : Option AttackRow). joined_row kinds station manual start x) (join_computed i j k t))
        refl (settled (Join m n))

    -- nothing is missing: the rows are closed, so they are the derivable ones
    pub settled_closed : Closed kinds station manual start (λ row. In row (said rows))
    settled_closed = record { enters = settled_enters; joins = settled_joins }

    pub settled_saturated : Saturated kinds station manual start (said rows)
    settled_saturated = record { derivable = (built_sound kinds station manual start room rows built).derivable; closed = settled_closed }

    pub settled_has_the_derivable : (row : AttackRow) → ExactlyWhen (In row (said rows)) (Derivable kinds station manual start row)
    settled_has_the_derivable row = (
      (built_sound kinds station manual start room rows built).derivable row,
      derivable_least kinds station manual start (λ x. In x (said rows)) settled_closed row,
    )

    pub settled_fits : Fit kinds station manual start room
    settled_fits =
        let s = built_sound kinds station manual start room rows built in
        let few = s.few in
        let same = said_length rows in
        (what_fits kinds station manual start room).closed_list_fits (said rows) settled_closed (omega arith) s.narrow

    -- and they decide
    pub settled_refines : ExactlyWhen (Refines kinds station manual start) (says_refuted start (said rows) ≡ false)
    settled_refines = (
      (λ f. ⊎_elim
          (λ on. absurd (refinement_or_win kinds station manual start f
          (refuted_wins kinds station manual start (said rows) settled_saturated (says_refuted_means start (said rows) on))))
          (λ off. off) (cases_Bool (says_refuted start (said rows)))),
      (λ off. not_refuted_refines kinds station manual start (said rows) settled_saturated (says_not_refuted_means start (said rows) off)),
    )

    pub settled_attacker_wins : ExactlyWhen (AttackerWins kinds station manual (starts start)) (says_refuted start (said rows) ≡ true)
    settled_attacker_wins = (
      (λ w. says_refuted_shown start (said rows) (wins_refuted kinds station manual start (said rows) settled_saturated w)),
      (λ on. refuted_wins kinds station manual start (said rows) settled_saturated (says_refuted_means start (said rows) on)),
    )
