-- The search: what was tried stays tried as rows are appended, and when all is tried nothing is missing.
use Rattle.std.proofs.Common.{◌≡◌, ℕ, zero, suc, ◌+◌, ◌<◌, ◌≤◌, min, Bool, true, false, cond, ltb, leb, List, [], ◌∷◌, ◌++◌, length, take, set, Some, None, Ok, Err, Option, Result, sym, refl, ap, ◌∙◌, subst, inl, inr, arith}
use Rattle.std.proofs.lemmas.List.{take_more_set, drop-set-lt, length-take, length-set}
use Rattle.std.proofs.lemmas.Bool.{cond-true, and_parts, le-leb, cases_lt}
use Rattle.ordered.specs.Laws.{In}
use Rattle.profile.specs.declared.Kind.{Kind}
use Rattle.profile.specs.declared.Rule.{Rule}
use Rattle.game.specs.declared.Head.{Head}
use Rattle.game.specs.declared.Line.{Line}
use Rattle.game.specs.declared.Line.TheVariants.{Enter, Join}
use Rattle.game.specs.declared.Row.{Row}
use Rattle.game.specs.Members.{AttackRow}
use Rattle.game.specs.Computed.{any_of, called_for, joined}
use Rattle.game.proofs.Testing.{called_for_means}
use Rattle.book.specs.declared.Refusal.{Refusal}
use Rattle.book.specs.declared.Refusal.TheVariants.{HeadNotCalledFor, TooManyMembers, RowAlreadyHeld, NoRowFree}
use Rattle.book.specs.Offers.{and_then, said, row_at, Attempt, attempt, row_eq, line_row, attempt_called, entered_row, join_of, joined_row, offer, written}
use Rattle.book.specs.Searches.{Idle, Settled, Grown}
use Rattle.book.specs.Trying.{Tried, HeadTried, TopsTried, DoneBelow, Went}
use Rattle.book.proofs.Equals.{any_same_shown}
use Rattle.book.proofs.Numbers.{said_append, row_has_number}
use Rattle.book.proofs.Lending.{past_stays}
use Rattle.book.proofs.Replays.{accept_shown, grown_none, grown_by_line, grown_on}

-- lists that begin alike
pub in_front : {X : Type 0} (x : X) (xs ys : List X) → In x xs → In x (xs ++ ys)
in_front x [] ys h = absurd h
in_front x (y ∷ xs) ys (inl e) = inl e
in_front x (y ∷ xs) ys (inr h) = inr (in_front x xs ys h)

pub row_at_inside : (rows : List AttackRow) (i : ℕ) (row : AttackRow) → row_at rows i ≡ Some row → i < length rows
row_at_inside [] i row e = cc
row_at_inside (r ∷ rs) zero row e = omega arith
row_at_inside (r ∷ rs) (suc i) row e = let h = row_at_inside rs i row e in omega arith

pub row_at_front : (rows more : List AttackRow) (i : ℕ) → i < length rows → row_at (rows ++ more) i ≡ row_at rows i
row_at_front [] more i h = absurd (omega arith)
row_at_front (r ∷ rs) more zero h = refl
row_at_front (r ∷ rs) more (suc i) h = row_at_front rs more i (omega arith)

-- a row that is read from memory has at most 12 members
narrow_read : (rows : List Row) (row : AttackRow) → In row (said rows) → length row.members ≤ 12
narrow_read [] row h = absurd h
narrow_read (r ∷ rs) row (inl e) =
    let n = length-take (min r.count 12) r.members in
    let m = ap (λ (x : AttackRow). length x.members) e in
    omega arith
narrow_read (r ∷ rs) row (inr h) = narrow_read rs row h

module _ (kinds : ℕ → Option Kind) (station manual : List (Option Rule)) (start : Head) where
  -- a line whose rows are held makes the same row whatever is appended
  abbrev pub CitesHeld : List AttackRow → Line → Type 0
  CitesHeld rows (Enter side slot state symbol) = Unit {0}
  CitesHeld rows (Join i j) = (i < length rows) × (j < length rows)

  pub same_row_made : (rows more : List AttackRow) (line : Line) → CitesHeld rows line → line_row kinds station manual start (rows ++ more) line ≡ line_row kinds station manual start rows line
  same_row_made rows more (Enter side slot state symbol) c = refl
  same_row_made rows more (Join i j) c =
      ap (λ (x : Option AttackRow). join_of kinds station manual start x (row_at (rows ++ more) j)) (row_at_front rows more i c.0) ∙
      ap (λ (x : Option AttackRow). join_of kinds station manual start (row_at rows i) x) (row_at_front rows more j c.1)

  pub tried_more : (rows more : List AttackRow) (line : Line) → CitesHeld rows line → Tried kinds station manual start rows line → Tried kinds station manual start (rows ++ more) line
  tried_more rows more line c t row e = in_front row rows more (t row (sym (same_row_made rows more line c) ∙ e))

  pub head_tried_more : (rows more : List AttackRow) (h : Head) → HeadTried kinds station manual start rows h → HeadTried kinds station manual start (rows ++ more) h
  head_tried_more rows more h t side slot state symbol a e f = tried_more rows more (Enter side slot state symbol) tt (t side slot state symbol a e f)

  pub tops_tried_more : (rows more : List AttackRow) (row : AttackRow) → TopsTried kinds station manual start rows row → TopsTried kinds station manual start (rows ++ more) row
  tops_tried_more rows more row t m k h e = head_tried_more rows more h (t m k h e)

  pub done_more : (rows more : List AttackRow) (k : ℕ) → k ≤ length rows → DoneBelow kinds station manual start rows k → DoneBelow kinds station manual start (rows ++ more) k
  done_more rows more k le d = record {
    tops = λ i h row e. tops_tried_more rows more row (d.tops i h row (sym (row_at_front rows more i (omega arith)) ∙ e));
    joins = λ i h j g. tried_more rows more (Join i j) (omega arith, omega arith) (d.joins i h j g);
  }

  -- one row more is done with
  pub done_next : (rows : List AttackRow) (k : ℕ) → DoneBelow kinds station manual start rows k →
      ((row : AttackRow) → row_at rows k ≡ Some row → TopsTried kinds station manual start rows row) →
      ((j : ℕ) → j < k + 1 → Tried kinds station manual start rows (Join k j) × Tried kinds station manual start rows (Join j k)) →
      DoneBelow kinds station manual start rows (k + 1)
  done_next rows k d t b = record {
    tops = λ i h. elim (cases_lt i k) [
      | inl l ↦ d.tops i l
      | inr g ↦ (let e : k ≡ i = omega arith in subst (λ n. (row : AttackRow) → row_at rows n ≡ Some row → TopsTried kinds station manual start rows row) e t)
    ];
    joins = λ i h j g. elim (cases_lt i k) [
      | inl l ↦ elim (cases_lt j k) [
        | inl m ↦ d.joins i l j m
        | inr n ↦ (let e : k ≡ j = omega arith in subst (λ x. Tried kinds station manual start rows (Join i x)) e (b i (omega arith)).1)
      ]
      | inr l ↦ (let e : k ≡ i = omega arith in subst (λ x. Tried kinds station manual start rows (Join x j)) e (b j (omega arith)).0)
    ];
  }

  -- When the head of the starts and every row are done with, nothing is missing.
  abbrev judged_row : Bool → Bool → List AttackRow → AttackRow → Result AttackRow Refusal
  judged_row called free rows row =
      cond called
      (cond (leb (length row.members) 12)
      (cond (any_of (row_eq row) rows) (Err RowAlreadyHeld)
      (cond free (Ok row) (Err NoRowFree)))
      (Err TooManyMembers))
      (Err HeadNotCalledFor)

  module _ (room : ℕ) (rows : List Row) where
    idle_if_held : (called free : Bool) (row : AttackRow) → (called ≡ true → In row (said rows)) → Idle (judged_row called free (said rows) row)
    idle_if_held false free row h = tt
    idle_if_held true free row h =
        let there : In row (said rows) = h refl in
        subst Idle (sym (cond-true _ _ _ (le-leb (length row.members) 12 (narrow_read rows row there)) ∙ cond-true _ _ _ (any_same_shown row (said rows) there))) tt

    enter_at : (free : Bool) (state symbol : ℕ) (o : Option Attempt) →
        ((a : Attempt) → o ≡ Some a → attempt_called kinds station manual start (said rows) state symbol (Some a) ≡ true → (row : AttackRow) → entered_row kinds station manual start (Some a) ≡ Ok row → In row (said rows)) →
        Idle (and_then (entered_row kinds station manual start o) (λ row. judged_row (attempt_called kinds station manual start (said rows) state symbol o) free (said rows) row))
    enter_at free state symbol None h = tt
    enter_at free state symbol (Some a) h = idle_if_held (attempt_called kinds station manual start (said rows) state symbol (Some a)) free _ (λ on. h a refl on _ refl)

    join_at : (free : Bool) (x y : Option AttackRow) →
        ((row : AttackRow) → join_of kinds station manual start x y ≡ Ok row → In row (said rows)) →
        Idle (and_then (join_of kinds station manual start x y) (λ row. judged_row true free (said rows) row))
    join_at free None y h = tt
    join_at free (Some i) None h = tt
    join_at free (Some i) (Some j) h = at (joined i j) (λ row e. h row e) where
      at : (o : Option AttackRow) → ((row : AttackRow) → joined_row kinds station manual start o ≡ Ok row → In row (said rows)) → Idle (and_then (joined_row kinds station manual start o) (λ row. judged_row true free (said rows) row))
      at None h = tt
      at (Some row) h = idle_if_held true free row (λ z. h row refl)

    head_tried_of : HeadTried kinds station manual start (said rows) start → DoneBelow kinds station manual start (said rows) (length (said rows)) → (h : Head) → called_for start (said rows) h ≡ true → HeadTried kinds station manual start (said rows) h
    head_tried_of s d h called =
        elim (called_for_means start (said rows) h called) [
          | inl same ↦ subst (λ (x : Head). HeadTried kinds station manual start (said rows) x) (sym same) s
          | inr by ↦ (let n = row_has_number (said rows) by.0 by.1 in d.tops n.0 (row_at_inside (said rows) n.0 by.0 n.1) by.0 n.1 by.2 by.3 h by.4)
        ]

    join_held : DoneBelow kinds station manual start (said rows) (length (said rows)) → (i j : ℕ) (row : AttackRow) → join_of kinds station manual start (row_at (said rows) i) (row_at (said rows) j) ≡ Ok row → In row (said rows)
    join_held d i j row e = at (row_at (said rows) i) (row_at (said rows) j) refl refl e where
      at : (x y : Option AttackRow) → row_at (said rows) i ≡ x → row_at (said rows) j ≡ y → join_of kinds station manual start x y ≡ Ok row → In row (said rows)
      at None y ex ey h = cc
      at (Some a) None ex ey h = cc
      at (Some a) (Some b) ex ey h =
          d.joins i (row_at_inside (said rows) i a ex) j (row_at_inside (said rows) j b ey) row
          (ap (λ (x : Option AttackRow). join_of kinds station manual start x (row_at (said rows) j)) ex ∙ ap (λ (y : Option AttackRow). join_of kinds station manual start (Some a) y) ey ∙ h)

    pub all_tried_settles : HeadTried kinds station manual start (said rows) start → DoneBelow kinds station manual start (said rows) (length (said rows)) → Settled kinds station manual start room rows
    all_tried_settles s d (Enter side slot state symbol) =
        enter_at (ltb (length rows) room) state symbol (attempt station manual side slot state symbol) (λ a e on row made.
        head_tried_of s d a.head (and_parts (ltb symbol 256) _ (and_parts (ltb state 256) _ on).1).1 side slot state symbol a e refl row (ap (entered_row kinds station manual start) e ∙ made))
    all_tried_settles s d (Join i j) = join_at (ltb (length rows) room) (row_at (said rows) i) (row_at (said rows) j) (λ row e. join_held d i j row e)

-- Steps of the search in memory: n rows are held in `was`.
module _ (kinds : ℕ → Option Kind) (station manual : List (Option Rule)) (start : Head) (room : ℕ) where
  pub went_nowhere : (n : ℕ) (was : List Row) → n ≤ room → Went kinds station manual start room n was n was
  went_nowhere n was h = record { grown = grown_none kinds station manual start room (take n was); forth = omega arith; within = h; long = refl; kept = refl }

  pub went_on : (n m p : ℕ) (was mid is : List Row) → Went kinds station manual start room n was m mid → Went kinds station manual start room m mid p is → Went kinds station manual start room n was p is
  went_on n m p was mid is a b =
      let f = a.forth in
      let g = b.forth in
      record {
        grown = grown_on kinds station manual start room (take n was) (take m mid) (take p is) a.grown b.grown;
        forth = omega arith;
        within = b.within;
        long = b.long ∙ a.long;
        kept = past_stays m p was mid is g a.kept b.kept;
      }

  -- a row is appended
  pub went_one : (n : ℕ) (was : List Row) (line : Line) (row : AttackRow) → n < room → n < length was → offer kinds station manual start (ltb (length (take n was)) room) (said (take n was)) line ≡ Ok row →
      Went kinds station manual start room n was (n + 1) (set was n (written row line))
  went_one n was line row free inside e = record {
    grown = subst (λ (l : List Row). Grown kinds station manual start room (take n was) l) (sym (take_more_set was n (written row line) inside))
        (grown_by_line kinds station manual start room (take n was) _ line (accept_shown kinds station manual start room (take n was) line row e));
    forth = omega arith;
    within = omega arith;
    long = length-set was n (written row line);
    kept = drop-set-lt (n + 1) was n (written row line) (omega arith);
  }

  -- what rows were appended, as rows that are said
  pub went_said : (n m : ℕ) (was is : List Row) → Went kinds station manual start room n was m is → (more : List AttackRow) × (said (take m is) ≡ said (take n was) ++ more)
  went_said n m was is w = (said w.grown.0, ap said w.grown.1 ∙ said_append (take n was) w.grown.0)
