-- What each answer to an offered line tells of the line and of the row that it makes.
use Rattle.std.proofs.Common.{◌≡◌, ℕ, zero, suc, ◌<◌, ◌≤◌, Bool, true, false, cond, ◌&&◌, ltb, leb, ◌⊎◌, List, [], length, get_or, Some, None, Ok, Err, Option, Result, sym, refl, subst, inl, inr}
use Rattle.std.proofs.lemmas.Option.{none-some, same_Some}
use Rattle.std.proofs.lemmas.Bool.{and_parts, and_from, eq-eqb, leb-true, leb-false, false≢true}
use Rattle.ordered.specs.Laws.{In}
use Rattle.profile.specs.declared.Kind.{Kind}
use Rattle.profile.specs.declared.Rule.{Rule}
use Rattle.game.specs.declared.Head.{Head}
use Rattle.game.specs.declared.Line.{Line}
use Rattle.game.specs.declared.Line.TheVariants.{Enter, Join}
use Rattle.game.specs.Members.{AttackRow}
use Rattle.game.specs.Game.{by_manual, is_must, Attack}
use Rattle.game.specs.Rows.{head_on, entered, CalledFor, Derivable}
use Rattle.game.specs.Computed.{any_of, called_for, joined}
use Rattle.game.proofs.Testing.{called_for_means, computed_joins}
use Rattle.game.proofs.Deciding.{derivable_closed}
use Rattle.book.specs.declared.Refusal.{Refusal}
use Rattle.book.specs.declared.Refusal.TheVariants.{NoSuchAttack, HeadNotCalledFor, TooManyMembers, RowAlreadyHeld, NoRowFree, RowNotHeld, RowsDoNotJoin}
use Rattle.book.specs.Offers.{and_then, row_at, Attempt, by_station_rule, by_manual_rule, attempt, row_eq, entered_row, joined_row, join_of, line_row, attempt_called, line_called, offer}
use Rattle.book.specs.Searches.{Idle}
use Rattle.book.proofs.Equals.{any_same_means, none_same_means}
pub use Rattle.book.proofs.Inserting.{ok_same}
use Rattle.book.proofs.Numbers.{row_at_is_in, slot_is_in}

-- results that are equal, and results that cannot be
pub err_is_not_ok : {T E : Type 0} (x : E) (y : T) → ◌≡◌ {A = Result T E} (Err x) (Ok y) → ⊥
err_is_not_ok x y e = cc

err_same : {T E : Type 0} (x y : E) → ◌≡◌ {A = Result T E} (Err y) (Err x) → x ≡ y
err_same x y e = cc

-- a line that makes no row has one of three refusals
abbrev pub NoRow : Refusal → Type 0
NoRow e = (e ≡ NoSuchAttack) ⊎ ((e ≡ RowNotHeld) ⊎ (e ≡ RowsDoNotJoin))

not_for_width : NoRow TooManyMembers → ⊥
not_for_width (inl e) = cc
not_for_width (inr (inl e)) = cc
not_for_width (inr (inr e)) = cc

not_for_room : NoRow NoRowFree → ⊥
not_for_room (inl e) = cc
not_for_room (inr (inl e)) = cc
not_for_room (inr (inr e)) = cc

-- the four tests of a row, one after the other
abbrev tests : Bool → Bool → Bool → Bool → AttackRow → Result AttackRow Refusal
tests called narrow held free row =
    cond called (cond narrow (cond held (Err RowAlreadyHeld) (cond free (Ok row) (Err NoRowFree))) (Err TooManyMembers)) (Err HeadNotCalledFor)

tests_ok : (a b c d : Bool) (row out : AttackRow) → tests a b c d row ≡ Ok out → (a ≡ true) × (b ≡ true) × (c ≡ false) × (d ≡ true) × (row ≡ out)
tests_ok true true true d row out e = cc
tests_ok true true false true row out e = (refl, refl, refl, refl, ok_same row out e)
tests_ok true true false false row out e = cc
tests_ok true false c d row out e = cc
tests_ok false b c d row out e = cc

tests_wide : (a b c d : Bool) (row : AttackRow) → tests a b c d row ≡ Err TooManyMembers → (a ≡ true) × (b ≡ false)
tests_wide true true true d row e = cc
tests_wide true true false true row e = cc
tests_wide true true false false row e = cc
tests_wide true false c d row e = (refl, refl)
tests_wide false b c d row e = cc

tests_full : (a b c d : Bool) (row : AttackRow) → tests a b c d row ≡ Err NoRowFree → (a ≡ true) × (b ≡ true) × (c ≡ false) × (d ≡ false)
tests_full true true true d row e = cc
tests_full true true false true row e = cc
tests_full true true false false row e = (refl, refl, refl, refl)
tests_full true false c d row e = cc
tests_full false b c d row e = cc

tests_idle : (a b c d : Bool) (row : AttackRow) → Idle (tests a b c d row) → a ≡ true → c ≡ true
tests_idle true true true d row i e = refl
tests_idle true true false true row i e = absurd i
tests_idle true true false false row i e = absurd i
tests_idle true false c d row i e = absurd i
tests_idle false b c d row i e = absurd (false≢true e)

-- an attempt is an attack at its head
abbrev Attacks : List (Option Rule) → List (Option Rule) → Attempt → Type 0
Attacks station manual a = Attack station manual a.side a.rule (head_on a.head [] [])

module _ (station manual : List (Option Rule)) (slot state symbol : ℕ) (a : Attempt) where
  station_attempt_attacks : (x : Option Rule) → get_or station slot None ≡ x → by_station_rule x state symbol ≡ Some a → Attacks station manual a
  station_attempt_attacks None k e = absurd (none-some a e)
  station_attempt_attacks (Some r) k e =
      subst (λ (b : Attempt). Attacks station manual b) (same_Some _ a e)
      (slot_is_in station slot r k, refl, and_from _ _ (eq-eqb r.state r.state refl) (eq-eqb r.top r.top refl))

  manual_attempt_attacks : (x : Option Rule) → get_or manual slot None ≡ x → by_manual_rule x state symbol ≡ Some a → Attacks station manual a
  manual_attempt_attacks None k e = absurd (none-some a e)
  manual_attempt_attacks (Some r) k e = at (is_must r.mode) refl e
    where
      at : (b : Bool) → is_must r.mode ≡ b → cond b (Some (record {
        side = by_manual;
        rule = r;
        head = record { states = record { station = state; manual = r.state }; symbols = record { station = symbol; manual = r.top } };
      })) None ≡ Some a → Attacks station manual a
      at true m f =
          subst (λ (b : Attempt). Attacks station manual b) (same_Some _ a f)
          (slot_is_in manual slot r k, m, and_from _ _ (eq-eqb r.state r.state refl) (eq-eqb r.top r.top refl))
      at false m f = absurd (none-some a f)

  pub attempt_attacks : (side : ℕ) → attempt station manual side slot state symbol ≡ Some a → Attack station manual a.side a.rule (head_on a.head [] [])
  attempt_attacks zero e = station_attempt_attacks (get_or station slot None) refl e
  attempt_attacks (suc zero) e = manual_attempt_attacks (get_or manual slot None) refl e
  attempt_attacks (suc (suc n)) e = absurd (none-some a e)

pub called_for_more : (start : Head) (S T : AttackRow → Type 0) (h : Head) → ((row : AttackRow) → S row → T row) → CalledFor start S h → CalledFor start T h
called_for_more start S T h f (inl e) = inl e
called_for_more start S T h f (inr (row, s, m, k, e)) = inr (row, f row s, m, k, e)

module _ (kinds : ℕ → Option Kind) (station manual : List (Option Rule)) (start : Head) where
  -- a line that makes a row, and that is called for, makes a derivable one out of derivable ones
  module _ (rows : List AttackRow) (each : (row : AttackRow) → In row rows → Derivable kinds station manual start row) (out : AttackRow) where
    enter_is_derivable : (side slot state symbol : ℕ) (t : Option Attempt) → attempt station manual side slot state symbol ≡ t →
        entered_row kinds station manual start t ≡ Ok out → attempt_called kinds station manual start rows state symbol t ≡ true → Derivable kinds station manual start out
    enter_is_derivable side slot state symbol None k e c = cc
    enter_is_derivable side slot state symbol (Some a) k e c =
        let (p, q) = and_parts (ltb state 256) (ltb symbol 256 && called_for start rows a.head) c in
        let (u, v) = and_parts (ltb symbol 256) (called_for start rows a.head) q in
        subst (λ (x : AttackRow). Derivable kinds station manual start x) (ok_same (entered kinds station manual a.side a.rule a.head) out e)
        ((derivable_closed kinds station manual start).enters a.head a.side a.rule
        (called_for_more start (λ row. In row rows) (Derivable kinds station manual start) a.head each (called_for_means start rows a.head v))
        (attempt_attacks station manual slot state symbol a side k))

    joined_is_derivable : (i j : AttackRow) → In i rows → In j rows → (t : Option AttackRow) → joined i j ≡ t → joined_row kinds station manual start t ≡ Ok out → Derivable kinds station manual start out
    joined_is_derivable i j k l None m e = cc
    joined_is_derivable i j k l (Some row) m e =
        subst (λ (x : AttackRow). Derivable kinds station manual start x) (ok_same row out e)
        ((derivable_closed kinds station manual start).joins i j row (each i k) (each j l) (computed_joins i j row m))

    join_is_derivable : (i j : ℕ) (x y : Option AttackRow) → row_at rows i ≡ x → row_at rows j ≡ y → join_of kinds station manual start x y ≡ Ok out → Derivable kinds station manual start out
    join_is_derivable i j None y p q e = cc
    join_is_derivable i j (Some x) None p q e = cc
    join_is_derivable i j (Some x) (Some y) p q e =
        joined_is_derivable x y (row_at_is_in rows i x p) (row_at_is_in rows j y q) (joined x y) refl e

    pub line_is_derivable : (line : Line) → line_row kinds station manual start rows line ≡ Ok out → line_called kinds station manual start rows line ≡ true →
        Derivable kinds station manual start out
    line_is_derivable (Enter side slot state symbol) e c = enter_is_derivable side slot state symbol (attempt station manual side slot state symbol) refl e c
    line_is_derivable (Join i j) e c = join_is_derivable i j (row_at rows i) (row_at rows j) refl refl e

  module _ (rows : List AttackRow) (why : Refusal) where
    no_enter : (t : Option Attempt) → entered_row kinds station manual start t ≡ Err why → NoRow why
    no_enter None e = inl (err_same why NoSuchAttack e)
    no_enter (Some a) e = cc

    not_joined : (t : Option AttackRow) → joined_row kinds station manual start t ≡ Err why → NoRow why
    not_joined None e = inr (inr (err_same why RowsDoNotJoin e))
    not_joined (Some row) e = cc

    no_join : (x y : Option AttackRow) → join_of kinds station manual start x y ≡ Err why → NoRow why
    no_join None y e = inr (inl (err_same why RowNotHeld e))
    no_join (Some i) None e = inr (inl (err_same why RowNotHeld e))
    no_join (Some i) (Some j) e = not_joined (joined i j) e

    pub no_row_why : (line : Line) → line_row kinds station manual start rows line ≡ Err why → NoRow why
    no_row_why (Enter side slot state symbol) e = no_enter (attempt station manual side slot state symbol) e
    no_row_why (Join i j) e = no_join (row_at rows i) (row_at rows j) e

  module _ (free : Bool) (rows : List AttackRow) where
    -- what is known of a line that is taken
    pub record Taken (line : Line) (row : AttackRow) : Type 0 where
      pub made : line_row kinds station manual start rows line ≡ Ok row
      pub called : line_called kinds station manual start rows line ≡ true
      pub narrow : length row.members ≤ 12
      pub new : In row rows → ⊥
      pub found_free : free ≡ true

    abbrev tested : Line → AttackRow → Result AttackRow Refusal
    tested line row = tests (line_called kinds station manual start rows line) (leb (length row.members) 12) (any_of (row_eq row) rows) free row

    pub taken : (line : Line) (row : AttackRow) → offer kinds station manual start free rows line ≡ Ok row → Taken line row
    taken line row = at (line_row kinds station manual start rows line) refl
      where
        at : (x : Result AttackRow Refusal) → line_row kinds station manual start rows line ≡ x → and_then x (tested line) ≡ Ok row → Taken line row
        at (Err why) k e = cc
        at (Ok out) k e =
            let (a, b, c, d, s) = tests_ok (line_called kinds station manual start rows line) (leb (length out.members) 12) (any_of (row_eq out) rows) free out row e in
            subst (λ (x : AttackRow). Taken line x) s (record {
              made = k;
              called = a;
              narrow = leb-true (length out.members) 12 b;
              new = none_same_means out rows c;
              found_free = d;
            })

    -- of a line that is refused for its width, and of one that is refused for want of room
    pub record TooWide (line : Line) (row : AttackRow) : Type 0 where
      pub made : line_row kinds station manual start rows line ≡ Ok row
      pub called : line_called kinds station manual start rows line ≡ true
      pub wide : 12 < length row.members

    pub record LeftOut (line : Line) (row : AttackRow) : Type 0 where
      pub made : line_row kinds station manual start rows line ≡ Ok row
      pub called : line_called kinds station manual start rows line ≡ true
      pub narrow : length row.members ≤ 12
      pub new : In row rows → ⊥
      pub none_free : free ≡ false

    pub too_wide : (line : Line) → offer kinds station manual start free rows line ≡ Err TooManyMembers → (row : AttackRow) × TooWide line row
    too_wide line = at (line_row kinds station manual start rows line) refl
      where
        at : (x : Result AttackRow Refusal) → line_row kinds station manual start rows line ≡ x → and_then x (tested line) ≡ Err TooManyMembers → (row : AttackRow) × TooWide line row
        at (Err why) k e = absurd (not_for_width (subst (λ (x : Refusal). NoRow x) (sym (err_same TooManyMembers why e)) (no_row_why rows why line k)))
        at (Ok out) k e =
            let (a, b) = tests_wide (line_called kinds station manual start rows line) (leb (length out.members) 12) (any_of (row_eq out) rows) free out e in
            (out, record { made = k; called = a; wide = leb-false (length out.members) 12 b })

    pub left_out : (line : Line) → offer kinds station manual start free rows line ≡ Err NoRowFree → (row : AttackRow) × LeftOut line row
    left_out line = at (line_row kinds station manual start rows line) refl
      where
        at : (x : Result AttackRow Refusal) → line_row kinds station manual start rows line ≡ x → and_then x (tested line) ≡ Err NoRowFree → (row : AttackRow) × LeftOut line row
        at (Err why) k e = absurd (not_for_room (subst (λ (x : Refusal). NoRow x) (sym (err_same NoRowFree why e)) (no_row_why rows why line k)))
        at (Ok out) k e =
            let (a, b, c, d) = tests_full (line_called kinds station manual start rows line) (leb (length out.members) 12) (any_of (row_eq out) rows) free out e in
            (out, record { made = k; called = a; narrow = leb-true (length out.members) 12 b; new = none_same_means out rows c; none_free = d })

    -- a line that makes a row, is called for and adds nothing: the row is there
    pub idle_is_held : (line : Line) (row : AttackRow) → line_row kinds station manual start rows line ≡ Ok row → line_called kinds station manual start rows line ≡ true →
        Idle (offer kinds station manual start free rows line) → In row rows
    idle_is_held line row k c i =
        any_same_means row rows (tests_idle (line_called kinds station manual start rows line) (leb (length row.members) 12) (any_of (row_eq row) rows) free row
        (subst (λ (x : Result AttackRow Refusal). Idle (and_then x (tested line))) k i) c)
