-- The answer to an offered line is the one that the rules give.
use Rattle.std.proofs.Common.{◌≡◌, ℕ, zero, suc, ◌<◌, ◌≤◌, Bool, true, false, cond, ◌&&◌, ltb, leb, ◌⊎◌, List, [], ◌∷◌, length, get_or, Some, None, Ok, Err, Option, Result, sym, refl, ap, ◌∙◌, subst, inl, inr, ⊎_elim, suc-le-suc, zero-le, arith}
use Rattle.std.proofs.lemmas.Option.{none-some}
use Rattle.std.proofs.lemmas.Bool.{and_from, and_parts, both_ways, cases_Bool, ltb-true, lt-ltb, leb-true, leb-false, le-leb, cond-true}
use Rattle.ordered.specs.Laws.{In}
use Rattle.profile.specs.declared.Kind.{Kind}
use Rattle.profile.specs.declared.Rule.{Rule}
use Rattle.game.specs.declared.Head.{Head}
use Rattle.game.specs.declared.Line.{Line}
use Rattle.game.specs.declared.Line.TheVariants.{Enter, Join}
use Rattle.game.specs.Members.{AttackRow}
use Rattle.game.specs.Systems.{ExactlyWhen}
use Rattle.game.specs.Game.{Side, by_station, by_manual, side_of, of_attacker, playable, is_must}
use Rattle.game.specs.Rows.{entered, CalledFor}
use Rattle.game.specs.Computed.{any_of, called_for, joined}
use Rattle.game.proofs.Testing.{called_for_means, called_for_shown, join_computed, computed_joins}
use Rattle.book.specs.declared.Refusal.{Refusal}
use Rattle.book.specs.declared.Refusal.TheVariants.{NoSuchAttack, HeadNotCalledFor, TooManyMembers, RowAlreadyHeld, NoRowFree, RowNotHeld, RowsDoNotJoin, RowsDoNotFit}
use Rattle.book.specs.Offers.{and_then, row_at, Attempt, by_station_rule, by_manual_rule, by_side, attempt, row_eq, entered_row, joined_row, join_of, line_row, attempt_called, line_called, offer}
use Rattle.book.specs.Rulings.{head_of_attack, Makes, Called, MakesNothing, IsEnter, RowMissing, RowsThere, Ruled}
use Rattle.book.proofs.Equals.{any_same_means, any_same_shown, none_same_means}
use Rattle.book.proofs.Tested.{err_is_not_ok}

-- a number that no row has, and one that a row has
no_such_row : (rows : List AttackRow) (i : ℕ) → row_at rows i ≡ None → length rows ≤ i
no_such_row [] i e = zero-le
no_such_row (r ∷ rs) zero e = absurd (none-some r (sym e))
no_such_row (r ∷ rs) (suc i) e = suc-le-suc (no_such_row rs i e)

such_a_row : (rows : List AttackRow) (i : ℕ) (row : AttackRow) → row_at rows i ≡ Some row → i < length rows
such_a_row [] i row e = absurd (none-some row e)
such_a_row (r ∷ rs) zero row e = suc-le-suc zero-le
such_a_row (r ∷ rs) (suc i) row e = suc-le-suc (such_a_row rs i row e)

module _ (kinds : ℕ → Option Kind) (station manual : List (Option Rule)) (start : Head) (rows : List AttackRow) where
  -- the attempt of an attack
  tried_by : (by : Side) (r : Rule) (slot state symbol : ℕ) → get_or (of_attacker by station manual) slot None ≡ Some r → playable by r ≡ true →
      by_side station manual (Some by) slot state symbol ≡ Some (record { side = by; rule = r; head = head_of_attack by r state symbol })
  tried_by by_station r slot state symbol e p = ap (λ (x : Option Rule). by_station_rule x state symbol) e
  tried_by by_manual r slot state symbol e p =
      ap (λ (x : Option Rule). by_manual_rule x state symbol) e ∙
      cond-true (is_must r.mode) (Some (record { side = by_manual; rule = r; head = head_of_attack by_manual r state symbol })) None p

  -- a line that makes a row by the rules makes it by the computation
  makes_computed : (line : Line) (made : AttackRow) → Makes kinds station manual start rows line made → line_row kinds station manual start rows line ≡ Ok made
  makes_computed (Enter side slot state symbol) made (by, r, s, e, p, m) =
      ap (λ (x : Option Side). entered_row kinds station manual start (by_side station manual x slot state symbol)) s ∙
      ap (λ (x : Option Attempt). entered_row kinds station manual start x) (tried_by by r slot state symbol e p) ∙
      ap (λ (x : AttackRow). Ok x) (sym m)
  makes_computed (Join i j) made (first, second, p, q, t) =
      ap (λ (x : Option AttackRow). join_of kinds station manual start x (row_at rows j)) p ∙
      ap (λ (x : Option AttackRow). join_of kinds station manual start (Some first) x) q ∙
      ap (λ (x : Option AttackRow). joined_row kinds station manual start x) (join_computed first second made t)

  nothing_made : (line : Line) (why : Refusal) → line_row kinds station manual start rows line ≡ Err why → MakesNothing kinds station manual start rows line
  nothing_made line why e made m = err_is_not_ok why made (sym e ∙ makes_computed line made m)

  -- the tests of a row, one after the other
  module _ (free : Bool) (line : Line) (made : AttackRow) (m : Makes kinds station manual start rows line made) where
    by_tests : (called narrow held : Bool) → (called ≡ true → Called kinds station manual start rows line made) → (called ≡ false → Called kinds station manual start rows line made → ⊥) →
        (narrow ≡ true → length made.members ≤ 12) → (narrow ≡ false → 12 < length made.members) → (held ≡ true → In made rows) → (held ≡ false → In made rows → ⊥) →
        Ruled kinds station manual start rows free line
        (cond called (cond narrow (cond held (Err RowAlreadyHeld) (cond free (Ok made) (Err NoRowFree))) (Err TooManyMembers)) (Err HeadNotCalledFor))
    by_tests true true true c c' n n' h h' = (made, m, c refl, n refl, h refl)
    by_tests true true false c c' n n' h h' = at free refl
      where
        at : (b : Bool) → free ≡ b → Ruled kinds station manual start rows free line (cond b (Ok made) (Err NoRowFree))
        at true e = (m, c refl, n refl, h' refl, e)
        at false e = (made, m, c refl, n refl, h' refl, e)
    by_tests true false held c c' n n' h h' = (made, m, c refl, n' refl)
    by_tests false narrow held c c' n n' h h' = (made, m, c' refl)

    pub tested_so : (line_called kinds station manual start rows line ≡ true → Called kinds station manual start rows line made) →
        (Called kinds station manual start rows line made → line_called kinds station manual start rows line ≡ true) →
        Ruled kinds station manual start rows free line
        (cond (line_called kinds station manual start rows line) (cond (leb (length made.members) 12) (cond (any_of (row_eq made) rows) (Err RowAlreadyHeld) (cond free (Ok made) (Err NoRowFree))) (Err TooManyMembers)) (Err HeadNotCalledFor))
    tested_so there back =
        by_tests (line_called kinds station manual start rows line) (leb (length made.members) 12) (any_of (row_eq made) rows)
        there (λ off k. both_ways (line_called kinds station manual start rows line) off (back k))
        (λ on. leb-true (length made.members) 12 on) (λ off. leb-false (length made.members) 12 off)
        (λ on. any_same_means made rows on) (λ off. none_same_means made rows off)

  -- an enter by its attempt
  module _ (free : Bool) (side slot state symbol : ℕ) where
    abbrev tests_of : AttackRow → Result AttackRow Refusal
    tests_of made =
        cond (line_called kinds station manual start rows (Enter side slot state symbol))
        (cond (leb (length made.members) 12) (cond (any_of (row_eq made) rows) (Err RowAlreadyHeld) (cond free (Ok made) (Err NoRowFree))) (Err TooManyMembers)) (Err HeadNotCalledFor)

    an_attack : (by : Side) (r : Rule) → side_of side ≡ Some by → get_or (of_attacker by station manual) slot None ≡ Some r → playable by r ≡ true →
        Ruled kinds station manual start rows free (Enter side slot state symbol) (tests_of (entered kinds station manual by r (head_of_attack by r state symbol)))
    an_attack by r s e p =
        let h = head_of_attack by r state symbol in
        let t : attempt station manual side slot state symbol ≡ Some (record { side = by; rule = r; head = h }) =
        ap (λ (x : Option Side). by_side station manual x slot state symbol) s ∙ tried_by by r slot state symbol e p in
        let c : line_called kinds station manual start rows (Enter side slot state symbol) ≡ (ltb state 256 && (ltb symbol 256 && called_for start rows h)) =
        ap (λ (x : Option Attempt). attempt_called kinds station manual start rows state symbol x) t in
        tested_so free (Enter side slot state symbol) (entered kinds station manual by r h) (by, r, s, e, p, refl)
        (λ on.
        (let (a, b) = and_parts (ltb state 256) (ltb symbol 256 && called_for start rows h) (sym c ∙ on) in
        let (b, d) = and_parts (ltb symbol 256) (called_for start rows h) b in
        (ltb-true state 256 a, ltb-true symbol 256 b, called_for_means start rows h d)))
        (λ k. c ∙
        and_from (ltb state 256) (ltb symbol 256 && called_for start rows h) (lt-ltb state 256 k.0)
        (and_from (ltb symbol 256) (called_for start rows h) (lt-ltb symbol 256 k.1) (called_for_shown start rows h k.2)))

    no_attack : line_row kinds station manual start rows (Enter side slot state symbol) ≡ Err NoSuchAttack → Ruled kinds station manual start rows free (Enter side slot state symbol) (Err NoSuchAttack)
    no_attack e = (tt, nothing_made (Enter side slot state symbol) NoSuchAttack e)

    enter_ruled : Ruled kinds station manual start rows free (Enter side slot state symbol) (offer kinds station manual start free rows (Enter side slot state symbol))
    enter_ruled = at (side_of side) refl
      where
        ruled_by : Option Attempt → Type 0
        ruled_by x = Ruled kinds station manual start rows free (Enter side slot state symbol) (and_then (entered_row kinds station manual start x) tests_of)

        station_slot : side_of side ≡ Some by_station → (x : Option Rule) → get_or station slot None ≡ x → ruled_by (by_station_rule x state symbol)
        station_slot s None e = no_attack
            (ap (λ (x : Option Side). entered_row kinds station manual start (by_side station manual x slot state symbol)) s ∙
            ap (λ (x : Option Rule). entered_row kinds station manual start (by_station_rule x state symbol)) e)
        station_slot s (Some r) e = an_attack by_station r s e refl

        must_slot : side_of side ≡ Some by_manual → (r : Rule) → get_or manual slot None ≡ Some r → (b : Bool) → is_must r.mode ≡ b →
            ruled_by (cond b (Some (record { side = by_manual; rule = r; head = head_of_attack by_manual r state symbol })) None)
        must_slot s r e true m = an_attack by_manual r s e m
        must_slot s r e false m = no_attack
            (ap (λ (x : Option Side). entered_row kinds station manual start (by_side station manual x slot state symbol)) s ∙
            ap (λ (x : Option Rule). entered_row kinds station manual start (by_manual_rule x state symbol)) e ∙
            ap (λ (b : Bool). entered_row kinds station manual start (cond b (Some (record { side = by_manual; rule = r; head = head_of_attack by_manual r state symbol })) None)) m)

        manual_slot : side_of side ≡ Some by_manual → (x : Option Rule) → get_or manual slot None ≡ x → ruled_by (by_manual_rule x state symbol)
        manual_slot s None e = no_attack
            (ap (λ (x : Option Side). entered_row kinds station manual start (by_side station manual x slot state symbol)) s ∙
            ap (λ (x : Option Rule). entered_row kinds station manual start (by_manual_rule x state symbol)) e)
        manual_slot s (Some r) e = must_slot s r e (is_must r.mode) refl

        at : (x : Option Side) → side_of side ≡ x → ruled_by (by_side station manual x slot state symbol)
        at None s = no_attack (ap (λ (x : Option Side). entered_row kinds station manual start (by_side station manual x slot state symbol)) s)
        at (Some by_station) s = station_slot s (get_or station slot None) refl
        at (Some by_manual) s = manual_slot s (get_or manual slot None) refl

  -- a join by its rows
  module _ (free : Bool) (i j : ℕ) where
    abbrev join_tests : AttackRow → Result AttackRow Refusal
    join_tests made = cond (leb (length made.members) 12) (cond (any_of (row_eq made) rows) (Err RowAlreadyHeld) (cond free (Ok made) (Err NoRowFree))) (Err TooManyMembers)

    both_there : (first second : AttackRow) → row_at rows i ≡ Some first → row_at rows j ≡ Some second → (x : Option AttackRow) → joined first second ≡ x →
        Ruled kinds station manual start rows free (Join i j) (and_then (joined_row kinds station manual start x) join_tests)
    both_there first second p q None t = (
      (such_a_row rows i first p, such_a_row rows j second q),
      nothing_made (Join i j) RowsDoNotJoin
          (ap (λ (x : Option AttackRow). join_of kinds station manual start x (row_at rows j)) p ∙
          ap (λ (x : Option AttackRow). join_of kinds station manual start (Some first) x) q ∙
          ap (λ (x : Option AttackRow). joined_row kinds station manual start x) t),
    )
    both_there first second p q (Some made) t =
        tested_so free (Join i j) made (first, second, p, q, computed_joins first second made t) (λ on. tt) (λ k. refl)

    join_ruled : (x y : Option AttackRow) → row_at rows i ≡ x → row_at rows j ≡ y → Ruled kinds station manual start rows free (Join i j) (and_then (join_of kinds station manual start x y) join_tests)
    join_ruled None y p q = inl (no_such_row rows i p)
    join_ruled (Some first) None p q = inr (no_such_row rows j q)
    join_ruled (Some first) (Some second) p q = both_there first second p q (joined first second) refl

  pub ruled : (free : Bool) (line : Line) → Ruled kinds station manual start rows free line (offer kinds station manual start free rows line)
  ruled free (Enter side slot state symbol) = enter_ruled free side slot state symbol
  ruled free (Join i j) = join_ruled free i j (row_at rows i) (row_at rows j) refl refl

  -- Only one answer: what the rules say of an answer makes the computation come to it.
  module _ (free : Bool) (line : Line) where
    abbrev tests_on : AttackRow → Result AttackRow Refusal
    tests_on made =
        cond (line_called kinds station manual start rows line)
        (cond (leb (length made.members) 12) (cond (any_of (row_eq made) rows) (Err RowAlreadyHeld) (cond free (Ok made) (Err NoRowFree))) (Err TooManyMembers)) (Err HeadNotCalledFor)

    offered_made : (made : AttackRow) → Makes kinds station manual start rows line made → offer kinds station manual start free rows line ≡ tests_on made
    offered_made made m = ap (λ (x : Result AttackRow Refusal). and_then x tests_on) (makes_computed line made m)

    by_cases : (made : AttackRow) (called narrow held room : Bool) → line_called kinds station manual start rows line ≡ called → leb (length made.members) 12 ≡ narrow → any_of (row_eq made) rows ≡ held → free ≡ room →
        tests_on made ≡ cond called (cond narrow (cond held (Err RowAlreadyHeld) (cond room (Ok made) (Err NoRowFree))) (Err TooManyMembers)) (Err HeadNotCalledFor)
    by_cases made called narrow held room c n h f =
        λ i. cond (c i) (cond (n i) (cond (h i) (Err RowAlreadyHeld) (cond (f i) (Ok made) (Err NoRowFree))) (Err TooManyMembers)) (Err HeadNotCalledFor)

    not_held : (made : AttackRow) → (In made rows → ⊥) → any_of (row_eq made) rows ≡ false
    not_held made new = elim (cases_Bool (any_of (row_eq made) rows)) [ inl on ↦ absurd (new (any_same_means made rows on)) | inr off ↦ off ]

    narrow_so : (made : AttackRow) → length made.members ≤ 12 → leb (length made.members) 12 ≡ true
    narrow_so made n = le-leb (length made.members) 12 n

    wide_so : (made : AttackRow) → 12 < length made.members → leb (length made.members) 12 ≡ false
    wide_so made w = elim (cases_Bool (leb (length made.members) 12)) [ inl on ↦ absurd (let le = leb-true (length made.members) 12 on in omega arith) | inr off ↦ off ]

  called_so : (line : Line) (made : AttackRow) → Makes kinds station manual start rows line made → Called kinds station manual start rows line made → line_called kinds station manual start rows line ≡ true
  called_so (Enter side slot state symbol) made (by, r, s, e, p, m) k =
      let h = head_of_attack by r state symbol in
      ap (λ (x : Option Side). attempt_called kinds station manual start rows state symbol (by_side station manual x slot state symbol)) s ∙
      ap (λ (x : Option Attempt). attempt_called kinds station manual start rows state symbol x) (tried_by by r slot state symbol e p) ∙
      and_from (ltb state 256) (ltb symbol 256 && called_for start rows h) (lt-ltb state 256 k.0)
      (and_from (ltb symbol 256) (called_for start rows h) (lt-ltb symbol 256 k.1)
      (called_for_shown start rows h (subst (λ (x : AttackRow). CalledFor start (λ r. In r rows) x.head) m k.2)))
  called_so (Join i j) made m k = refl

  called_back : (line : Line) (made : AttackRow) → Makes kinds station manual start rows line made → line_called kinds station manual start rows line ≡ true → Called kinds station manual start rows line made
  called_back (Enter side slot state symbol) made (by, r, s, e, p, m) on =
      let h = head_of_attack by r state symbol in
      let c : attempt_called kinds station manual start rows state symbol (attempt station manual side slot state symbol) ≡ (ltb state 256 && (ltb symbol 256 && called_for start rows h)) =
      ap (λ (x : Option Side). attempt_called kinds station manual start rows state symbol (by_side station manual x slot state symbol)) s ∙
      ap (λ (x : Option Attempt). attempt_called kinds station manual start rows state symbol x) (tried_by by r slot state symbol e p) in
      let (a, b) = and_parts (ltb state 256) (ltb symbol 256 && called_for start rows h) (sym c ∙ on) in
      let (b, d) = and_parts (ltb symbol 256) (called_for start rows h) b in
      (ltb-true state 256 a, ltb-true symbol 256 b, subst (λ (x : AttackRow). CalledFor start (λ r. In r rows) x.head) (sym m) (called_for_means start rows h d))
  called_back (Join i j) made m on = tt

  -- where no row is made, the answer says why
  abbrev WhyNone : Line → Refusal → Type 0
  WhyNone line why = (free : Bool) → offer kinds station manual start free rows line ≡ Err why

  no_enter : (side slot state symbol : ℕ) → MakesNothing kinds station manual start rows (Enter side slot state symbol) → WhyNone (Enter side slot state symbol) NoSuchAttack
  no_enter side slot state symbol none free = at (offer kinds station manual start free rows (Enter side slot state symbol)) (ruled free (Enter side slot state symbol))
    where
      at : (x : Result AttackRow Refusal) → Ruled kinds station manual start rows free (Enter side slot state symbol) x → x ≡ Err NoSuchAttack
      at (Ok made) k = absurd (none made k.0)
      at (Err NoSuchAttack) k = refl
      at (Err HeadNotCalledFor) k = absurd (none k.0 k.1)
      at (Err TooManyMembers) k = absurd (none k.0 k.1)
      at (Err RowAlreadyHeld) k = absurd (none k.0 k.1)
      at (Err NoRowFree) k = absurd (none k.0 k.1)
      at (Err RowNotHeld) k = absurd k
      at (Err RowsDoNotJoin) k = absurd k.0
      at (Err RowsDoNotFit) k = absurd k

  no_row_there : (i j : ℕ) → (length rows ≤ i) ⊎ (length rows ≤ j) → (made : AttackRow) → Makes kinds station manual start rows (Join i j) made → ⊥
  no_row_there i j (inl l) made (first, second, p, q, t) = let h = such_a_row rows i first p in omega arith
  no_row_there i j (inr l) made (first, second, p, q, t) = let h = such_a_row rows j second q in omega arith

  no_join : (i j : ℕ) → (length rows ≤ i) ⊎ (length rows ≤ j) → WhyNone (Join i j) RowNotHeld
  no_join i j missing free = at (offer kinds station manual start free rows (Join i j)) (ruled free (Join i j))
    where
      none : (made : AttackRow) → Makes kinds station manual start rows (Join i j) made → ⊥
      none = no_row_there i j missing

      at : (x : Result AttackRow Refusal) → Ruled kinds station manual start rows free (Join i j) x → x ≡ Err RowNotHeld
      at (Ok made) k = absurd (none made k.0)
      at (Err NoSuchAttack) k = absurd k.0
      at (Err HeadNotCalledFor) k = absurd (none k.0 k.1)
      at (Err TooManyMembers) k = absurd (none k.0 k.1)
      at (Err RowAlreadyHeld) k = absurd (none k.0 k.1)
      at (Err NoRowFree) k = absurd (none k.0 k.1)
      at (Err RowNotHeld) k = refl
      at (Err RowsDoNotJoin) k = absurd (⊎_elim (λ l. (let h = k.0.0 in omega arith)) (λ l. (let h = k.0.1 in omega arith)) missing)
      at (Err RowsDoNotFit) k = absurd k

  not_joined : (i j : ℕ) → (i < length rows) × (j < length rows) → MakesNothing kinds station manual start rows (Join i j) → WhyNone (Join i j) RowsDoNotJoin
  not_joined i j there none free = at (offer kinds station manual start free rows (Join i j)) (ruled free (Join i j))
    where
      at : (x : Result AttackRow Refusal) → Ruled kinds station manual start rows free (Join i j) x → x ≡ Err RowsDoNotJoin
      at (Ok made) k = absurd (none made k.0)
      at (Err NoSuchAttack) k = absurd k.0
      at (Err HeadNotCalledFor) k = absurd (none k.0 k.1)
      at (Err TooManyMembers) k = absurd (none k.0 k.1)
      at (Err RowAlreadyHeld) k = absurd (none k.0 k.1)
      at (Err NoRowFree) k = absurd (none k.0 k.1)
      at (Err RowNotHeld) k = absurd (⊎_elim (λ l. (let h = there.0 in omega arith)) (λ l. (let h = there.1 in omega arith)) k)
      at (Err RowsDoNotJoin) k = refl
      at (Err RowsDoNotFit) k = absurd k

  none_at : (line : Line) → (MakesNothing kinds station manual start rows line) → IsEnter kinds station manual start rows line → WhyNone line NoSuchAttack
  none_at (Enter side slot state symbol) none is = no_enter side slot state symbol none
  none_at (Join i j) none is = absurd is

  missing_at : (line : Line) → RowMissing kinds station manual start rows line → WhyNone line RowNotHeld
  missing_at (Enter side slot state symbol) m = absurd m
  missing_at (Join i j) m = no_join i j m

  unjoined_at : (line : Line) → RowsThere kinds station manual start rows line → MakesNothing kinds station manual start rows line → WhyNone line RowsDoNotJoin
  unjoined_at (Enter side slot state symbol) t none = absurd t
  unjoined_at (Join i j) t none = not_joined i j t none

  pub ruled_only : (free : Bool) (line : Line) (answer : Result AttackRow Refusal) → Ruled kinds station manual start rows free line answer → offer kinds station manual start free rows line ≡ answer
  ruled_only free line (Ok made) (m, c, n, new, f) =
      offered_made free line made m ∙ by_cases free line made true true false true (called_so line made m c) (narrow_so free line made n) (not_held free line made new) f
  ruled_only free line (Err NoSuchAttack) (is, none) = none_at line none is free
  ruled_only free line (Err HeadNotCalledFor) (made, m, not) =
      offered_made free line made m ∙ (elim (cases_Bool (line_called kinds station manual start rows line)) [
        | inl on ↦ absurd (not (called_back line made m on))
        | inr off ↦ by_cases free line made false (leb (length made.members) 12) (any_of (row_eq made) rows) free off refl refl refl
      ])
  ruled_only free line (Err TooManyMembers) (made, m, c, w) =
      offered_made free line made m ∙ by_cases free line made true false (any_of (row_eq made) rows) free (called_so line made m c) (wide_so free line made w) refl refl
  ruled_only free line (Err RowAlreadyHeld) (made, m, c, n, k) =
      offered_made free line made m ∙ by_cases free line made true true true free (called_so line made m c) (narrow_so free line made n) (any_same_shown made rows k) refl
  ruled_only free line (Err NoRowFree) (made, m, c, n, new, f) =
      offered_made free line made m ∙ by_cases free line made true true false false (called_so line made m c) (narrow_so free line made n) (not_held free line made new) f
  ruled_only free line (Err RowNotHeld) missing = missing_at line missing free
  ruled_only free line (Err RowsDoNotJoin) (there, none) = unjoined_at line there none free
  ruled_only free line (Err RowsDoNotFit) k = absurd k

  pub follows : (free : Bool) (line : Line) (answer : Result AttackRow Refusal) → ExactlyWhen (offer kinds station manual start free rows line ≡ answer) (Ruled kinds station manual start rows free line answer)
  follows free line answer = ((λ e. subst (λ (x : Result AttackRow Refusal). Ruled kinds station manual start rows free line x) e (ruled free line)), ruled_only free line answer)
