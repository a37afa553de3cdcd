-- The steps of the search.
use Rattle.std.proofs.Common.{◌≡◌, ℕ, ◌+◌, ◌<◌, ◌≤◌, Bool, true, false, cond, ltb, leb, List, [], ◌∷◌, ◌++◌, length, take, set, Some, None, Ok, Err, Option, Result, sym, refl, ap, ◌∙◌, subst, inl, inr}
use Rattle.std.proofs.lemmas.List.{take_more_set}
use Rattle.std.proofs.lemmas.Bool.{false≢true}
use Rattle.ordered.specs.Laws.{In}
use Rattle.profile.specs.declared.Kind.{Kind}
use Rattle.profile.specs.declared.Rule.{Rule}
use Rattle.game.specs.declared.Head.{Head}
use Rattle.game.specs.declared.Line.{Line}
use Rattle.game.specs.declared.Line.TheVariants.{Enter, Join}
use Rattle.game.specs.declared.Row.{Row}
use Rattle.game.specs.Members.{AttackRow}
use Rattle.game.specs.Computed.{any_of}
use Rattle.book.specs.declared.Refusal.{Refusal}
use Rattle.book.specs.declared.Refusal.TheVariants.{NoSuchAttack, HeadNotCalledFor, TooManyMembers, RowAlreadyHeld, NoRowFree, RowNotHeld, RowsDoNotJoin, RowsDoNotFit}
use Rattle.book.specs.Offers.{and_then, said, row_at, row_eq, line_row, line_called, join_of, offer, written}
use Rattle.book.specs.Searches.{Idle, Stuck}
use Rattle.book.specs.Trying.{stuck_by, WentOn, GotStuck, line_tried}
use Rattle.book.proofs.Numbers.{said_written}
use Rattle.book.proofs.Tested.{NoRow, ok_same, no_row_why, taken, idle_is_held}
use Rattle.book.proofs.Searching.{CitesHeld, row_at_inside, same_row_made, went_one, went_nowhere}

in_last : {X : Type 0} (x : X) (xs : List X) → In x (xs ++ x ∷ [])
in_last x [] = inl refl
in_last x (y ∷ xs) = inr (in_last x xs)

module _ (kinds : ℕ → Option Kind) (station manual : List (Option Rule)) (start : Head) where
  -- a line that makes a row cites rows that are held
  made_cites : (rows : List AttackRow) (line : Line) (row : AttackRow) → line_row kinds station manual start rows line ≡ Ok row → CitesHeld kinds station manual start rows line
  made_cites rows (Enter side slot state symbol) row e = tt
  made_cites rows (Join i j) row e = at (row_at rows i) (row_at rows j) refl refl e where
    at : (x y : Option AttackRow) → row_at rows i ≡ x → row_at rows j ≡ y → join_of kinds station manual start x y ≡ Ok row → (i < length rows) × (j < length rows)
    at None y ex ey h = cc
    at (Some a) None ex ey h = cc
    at (Some a) (Some b) ex ey h = (row_at_inside rows i a ex, row_at_inside rows j b ey)

  -- the answer 8 is none of an offered line
  never_eight : (free : Bool) (rows : List AttackRow) (line : Line) → offer kinds station manual start free rows line ≡ Err RowsDoNotFit → ⊥
  never_eight free rows line = at (line_row kinds station manual start rows line) refl where
    no_row : (why : Refusal) → NoRow why → ◌≡◌ {A = Result AttackRow Refusal} (Err why) (Err RowsDoNotFit) → ⊥
    no_row why (inl e) h = cc
    no_row why (inr (inl e)) h = cc
    no_row why (inr (inr e)) h = cc

    tests : (a b d e : Bool) (row : AttackRow) → cond a (cond b (cond d (Err RowAlreadyHeld) (cond e (Ok row) (Err NoRowFree))) (Err TooManyMembers)) (Err HeadNotCalledFor) ≡ Err RowsDoNotFit → ⊥
    tests true true true e row h = cc
    tests true true false true row h = cc
    tests true true false false row h = cc
    tests true false d e row h = cc
    tests false b d e row h = cc

    at : (x : Result AttackRow Refusal) → line_row kinds station manual start rows line ≡ x → and_then x (λ row. cond (line_called kinds station manual start rows line) (cond (leb (length row.members) 12) (cond (any_of (row_eq row) rows) (Err RowAlreadyHeld) (cond free (Ok row) (Err NoRowFree))) (Err TooManyMembers)) (Err HeadNotCalledFor)) ≡ Err RowsDoNotFit → ⊥
    at (Err why) e h = no_row why (no_row_why kinds station manual start rows why line e) h
    at (Ok row) e h = tests (line_called kinds station manual start rows line) (leb (length row.members) 12) (any_of (row_eq row) rows) free row h

  module _ (room : ℕ) where
    idle_tried : (free : Bool) (rows : List AttackRow) (line : Line) → Idle (offer kinds station manual start free rows line) → line_tried kinds station manual start rows line rows
    idle_tried free rows line i called row made = idle_is_held kinds station manual start free rows line row made called i

    -- a line that was refused, since what it makes cannot be appended
    pub stuck_step : (n : ℕ) (was : List Row) (line : Line) (why : Refusal) → n ≤ room → offer kinds station manual start (ltb (length (take n was)) room) (said (take n was)) line ≡ Err why → stuck_by why ≡ true →
        GotStuck kinds station manual start room n was n was
    stuck_step n was line why h e on = record {
      went = went_nowhere kinds station manual start room n was h;
      stuck = stop why e on;
    } where
      stop : (w : Refusal) → offer kinds station manual start (ltb (length (take n was)) room) (said (take n was)) line ≡ Err w → stuck_by w ≡ true → Stuck kinds station manual start room (take n was)
      stop TooManyMembers f z = (line, inl f)
      stop NoRowFree f z = (line, inr f)
      stop NoSuchAttack f z = absurd (false≢true z)
      stop HeadNotCalledFor f z = absurd (false≢true z)
      stop RowAlreadyHeld f z = absurd (false≢true z)
      stop RowNotHeld f z = absurd (false≢true z)
      stop RowsDoNotJoin f z = absurd (false≢true z)
      stop RowsDoNotFit f z = absurd (false≢true z)

    -- a line that was refused and has been tried
    pub idle_step : (n : ℕ) (was : List Row) (line : Line) (why : Refusal) → n ≤ room → offer kinds station manual start (ltb (length (take n was)) room) (said (take n was)) line ≡ Err why → stuck_by why ≡ false →
        WentOn kinds station manual start room n was (line_tried kinds station manual start (said (take n was)) line) n was
    idle_step n was line why h e off = record {
      went = went_nowhere kinds station manual start room n was h;
      goal = idle_tried (ltb (length (take n was)) room) (said (take n was)) line (subst Idle (sym e) (idle why e off));
    } where
      idle : (w : Refusal) → offer kinds station manual start (ltb (length (take n was)) room) (said (take n was)) line ≡ Err w → stuck_by w ≡ false → Idle (Err w)
      idle NoSuchAttack f z = tt
      idle HeadNotCalledFor f z = tt
      idle TooManyMembers f z = absurd (false≢true (sym z))
      idle RowAlreadyHeld f z = tt
      idle NoRowFree f z = absurd (false≢true (sym z))
      idle RowNotHeld f z = tt
      idle RowsDoNotJoin f z = tt
      idle RowsDoNotFit f z = absurd (never_eight (ltb (length (take n was)) room) (said (take n was)) line f)

    -- a line that was taken: its row is the last one now
    pub taken_step : (n : ℕ) (was : List Row) (line : Line) (row : AttackRow) → n < room → n < length was → offer kinds station manual start (ltb (length (take n was)) room) (said (take n was)) line ≡ Ok row →
        WentOn kinds station manual start room n was (line_tried kinds station manual start (said (take n was)) line) (n + 1) (set was n (written row line))
    taken_step n was line row free inside e =
        let t = taken kinds station manual start (ltb (length (take n was)) room) (said (take n was)) line row e in
        let grown : said (take (n + 1) (set was n (written row line))) ≡ said (take n was) ++ row ∷ [] = ap said (take_more_set was n (written row line) inside) ∙ said_written (take n was) row line t.narrow in
        record {
          went = went_one kinds station manual start room n was line row free inside e;
          goal = λ called made f.
              (let back : line_row kinds station manual start (said (take n was) ++ row ∷ []) line ≡ line_row kinds station manual start (said (take n was)) line =
              same_row_made kinds station manual start (said (take n was)) (row ∷ []) line (made_cites (said (take n was)) line row t.made) in
              let same : made ≡ row = ok_same made row (sym f ∙ ap (λ (l : List AttackRow). line_row kinds station manual start l line) grown ∙ back ∙ t.made) in
              subst (λ (l : List AttackRow). In made l) (sym grown) (subst (λ (r : AttackRow). In r (said (take n was) ++ row ∷ [])) (sym same) (in_last row (said (take n was)))));
        }
