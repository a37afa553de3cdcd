-- What the code makes of a line is what the line comes to.
use Rattle.std.proofs.Common.{◌≡◌, ℕ, Bool, true, false, cond, ◌&&◌, ltb, leb, List, [], ◌∷◌, map, length, Some, None, Ok, Err, Option, Result, Bor, sym, refl, ap, ◌∙◌, subst}
use Rattle.std.specs.Option.{ok_or}
use Rattle.std.specs.Slice.{IsItemAt}
use Rattle.std.proofs.lemmas.Bool.{cond_both, leb-true}
use Rattle.profile.specs.declared.Kind.{Kind}
use Rattle.profile.specs.declared.Rule.{Rule}
use Rattle.game.specs.declared.Head.{Head}
use Rattle.game.specs.declared.Member.{Member}
use Rattle.game.specs.declared.Line.{Line}
use Rattle.game.specs.declared.Line.TheVariants.{Enter, Join}
use Rattle.game.specs.declared.Row.{Row}
use Rattle.game.specs.Members.{AttackRow, row_of, top_of, below_top}
use Rattle.game.specs.Rows.{entered, with_pairs, put_in}
use Rattle.game.specs.Computed.{any_of, called_for, is_top, pairless, front_of, last_of, joined_last, joined_members, joined}
use Rattle.book.specs.declared.Refusal.{Refusal}
use Rattle.book.specs.declared.Refusal.TheVariants.{HeadNotCalledFor, TooManyMembers, RowAlreadyHeld, NoRowFree, RowNotHeld}
use Rattle.book.specs.Offers.{and_then, said, row_at, Attempt, attempt, row_eq, entered_row, joined_row, join_of, attempt_called, offer, written}
use Rattle.book.specs.Attacks.{taken_up}
use Rattle.book.specs.Widths.{fitted, fitted_join}
use Rattle.book.specs.Written.{headed, fitted_row, fitted_if, fitted_both, new_and_free}
use Rattle.book.proofs.Numbers.{written_is_read, row_read, row_missing}

-- members under a head
pub headed_row : (h : Head) (line : Line) (ms : List Member) → headed h line (fitted ms) ≡ fitted_row (record { head = h; members = ms }) line
headed_row h line ms = at (leb (length ms) 12)
  where
    at : (b : Bool) → headed h line (cond b (Ok ms) (Err TooManyMembers)) ≡ cond b (Ok (written (record { head = h; members = ms }) line)) (Err TooManyMembers)
    at true = refl
    at false = refl

headed_last : (h : Head) (line : Line) (front : List Member) (last : Member) (j : AttackRow) →
    headed h line (fitted_join (joined_last h front last j)) ≡ fitted_if (joined_last h front last j) line
headed_last h line front last j =
    cond_both (is_top j.head (top_of last) && pairless j.members)
    (Some (record { head = h; members = put_in (map (with_pairs (below_top last.symbols)) j.members) front })) None
    (λ (o : Option AttackRow). headed h line (fitted_join o) ≡ fitted_if o line)
    (λ _. headed_row h line (put_in (map (with_pairs (below_top last.symbols)) j.members) front)) (λ _. refl)

headed_members : (h : Head) (line : Line) (ms : List Member) (j : AttackRow) → headed h line (fitted_join (joined_members h ms j)) ≡ fitted_if (joined_members h ms j) line
headed_members h line [] j = refl
headed_members h line (m ∷ ms) j = headed_last h line (front_of m ms) (last_of m ms) j

pub headed_join : (i j : AttackRow) (line : Line) → headed i.head line (fitted_join (joined i j)) ≡ fitted_if (joined i j) line
headed_join i j line = headed_members i.head line i.members j

-- the row of two numbers, of which each is that of a held row or of none
pub got_row : (rows : List Row) (i : ℕ) (got : Option (Bor Row)) (x : Bor Row) → IsItemAt rows i got → got ≡ Some x → row_at (said rows) i ≡ Some (row_of x.now)
got_row rows i got x g e =
    let t = subst (λ (o : Option (Bor Row)). IsItemAt rows i o) e g in
    row_read rows i x.now t.3.0 ∙ ap (λ (r : Row). Some (row_of r)) (sym t.1)

pub got_none : (rows : List Row) (i : ℕ) (got : Option (Bor Row)) → IsItemAt rows i got → got ≡ None → row_at (said rows) i ≡ None
got_none rows i got g e = row_missing rows i (subst (λ (o : Option (Bor Row)). IsItemAt rows i o) e g).3

pub missing_told : (got : Option (Bor Row)) (why : Refusal) → got ≡ None → ◌≡◌ {A = Result (Bor Row) Refusal} (Err why) (ok_or got RowNotHeld) → ◌≡◌ {A = Result Row Refusal} (Err why) (Err RowNotHeld)
missing_told None why e f = cc
missing_told (Some x) why e f = cc

pub both_there : (first second : Row) (i j : Option AttackRow) (line : Line) (made : Result (List Member) Refusal) → i ≡ Some (row_of first) → j ≡ Some (row_of second) → made ≡ fitted_join (joined (row_of first) (row_of second)) →
    headed first.head line made ≡ fitted_both i j line
both_there first second i j line made e f g =
    ap (headed first.head line) g ∙ headed_join (row_of first) (row_of second) line ∙ sym (λ t. fitted_both (e t) (f t) line)

module _ (free : Bool) (rows : List AttackRow) where
  -- the tests that come after the head: width, new, room
  abbrev tested : AttackRow → Result AttackRow Refusal
  tested row =
      cond (leb (length row.members) 12) (cond (any_of (row_eq row) rows) (Err RowAlreadyHeld) (cond free (Ok row) (Err NoRowFree))) (Err TooManyMembers)

  settled : (row : AttackRow) (line : Line) →
      new_and_free free rows (fitted_row row line) ≡ and_then (tested row) (λ (r : AttackRow). Ok (written r line))
  settled row line = at (leb (length row.members) 12) refl
    where
      free_or_not : (b f : Bool) → cond b (Err RowAlreadyHeld) (cond f (Ok (written row line)) (Err NoRowFree)) ≡
          and_then (cond b (Err RowAlreadyHeld) (cond f (Ok row) (Err NoRowFree))) (λ (r : AttackRow). Ok (written r line))
      free_or_not true f = refl
      free_or_not false true = refl
      free_or_not false false = refl

      at : (b : Bool) → leb (length row.members) 12 ≡ b →
          new_and_free free rows (cond b (Ok (written row line)) (Err TooManyMembers)) ≡
          and_then (cond b (cond (any_of (row_eq row) rows) (Err RowAlreadyHeld) (cond free (Ok row) (Err NoRowFree))) (Err TooManyMembers)) (λ (r : AttackRow). Ok (written r line))
      at true e =
          ap (λ (r : AttackRow). cond (any_of (row_eq r) rows) (Err RowAlreadyHeld) (cond free (Ok (written row line)) (Err NoRowFree)))
          (written_is_read row line (leb-true (length row.members) 12 e)) ∙ free_or_not (any_of (row_eq row) rows) free
      at false e = refl

  module _ (kinds : ℕ → Option Kind) (station manual : List (Option Rule)) (start : Head) where
    one : (line : Line) (o : Option AttackRow) →
        new_and_free free rows (fitted_if o line) ≡ and_then (and_then (joined_row kinds station manual start o) tested) (λ (r : AttackRow). Ok (written r line))
    one line None = refl
    one line (Some row) = settled row line

    two : (line : Line) (i j : Option AttackRow) →
        new_and_free free rows (fitted_both i j line) ≡ and_then (and_then (join_of kinds station manual start i j) tested) (λ (r : AttackRow). Ok (written r line))
    two line None j = refl
    two line (Some i) None = refl
    two line (Some i) (Some j) = one line (joined i j)

    pub offered_join : (i j : ℕ) (made : Result Row Refusal) → made ≡ fitted_both (row_at rows i) (row_at rows j) (Join i j) →
        new_and_free free rows made ≡ and_then (offer kinds station manual start free rows (Join i j)) (λ (r : AttackRow). Ok (written r (Join i j)))
    offered_join i j made e = ap (new_and_free free rows) e ∙ two (Join i j) (row_at rows i) (row_at rows j)

    module _ (state symbol : ℕ) (line : Line) where
      abbrev called : Option Attempt → AttackRow → Result AttackRow Refusal
      called o row = cond (attempt_called kinds station manual start rows state symbol o) (tested row) (Err HeadNotCalledFor)

      abbrev whole : Option Attempt → Result Row Refusal
      whole o = and_then (and_then (entered_row kinds station manual start o) (called o)) (λ (r : AttackRow). Ok (written r line))

      not_taken : (o : Option Attempt) (why : Refusal) → Err why ≡ taken_up state symbol o → Err why ≡ whole o
      not_taken None why e = cc
      not_taken (Some a) why e = at (ltb state 256) (ltb symbol 256) e
        where
          at : (p q : Bool) → Err why ≡ cond (p && q) (Ok a) (Err HeadNotCalledFor) →
              Err why ≡ and_then (cond (p && (q && called_for start rows a.head)) (tested (entered kinds station manual a.side a.rule a.head)) (Err HeadNotCalledFor)) (λ (r : AttackRow). Ok (written r line))
          at true true f = cc
          at true false f = cc
          at false q f = cc

      -- the attack is there, and its numbers are bytes
      taken : (o : Option Attempt) (a : Attempt) → Ok a ≡ taken_up state symbol o → (b : Bool) → b ≡ called_for start rows a.head →
          whole o ≡ and_then (cond b (tested (entered kinds station manual a.side a.rule a.head)) (Err HeadNotCalledFor)) (λ (r : AttackRow). Ok (written r line))
      taken None a e = cc
      taken (Some x) a e = at (ltb state 256) (ltb symbol 256) e
        where
          at : (p q : Bool) → Ok a ≡ cond (p && q) (Ok x) (Err HeadNotCalledFor) → (b : Bool) → b ≡ called_for start rows a.head →
              and_then (cond (p && (q && called_for start rows x.head)) (tested (entered kinds station manual x.side x.rule x.head)) (Err HeadNotCalledFor)) (λ (r : AttackRow). Ok (written r line)) ≡
              and_then (cond b (tested (entered kinds station manual a.side a.rule a.head)) (Err HeadNotCalledFor)) (λ (r : AttackRow). Ok (written r line))
          at true true f b g =
              let same : x ≡ a = cc in
              ap (λ (y : Attempt). and_then (cond (called_for start rows y.head) (tested (entered kinds station manual y.side y.rule y.head)) (Err HeadNotCalledFor)) (λ (r : AttackRow). Ok (written r line))) same ∙
              ap (λ (t : Bool). and_then (cond t (tested (entered kinds station manual a.side a.rule a.head)) (Err HeadNotCalledFor)) (λ (r : AttackRow). Ok (written r line))) (sym g)
          at true false f b g = cc
          at false q f b g = cc

    module _ (side slot state symbol : ℕ) (line : Line) (is : line ≡ Enter side slot state symbol) where
      abbrev tried : Option Attempt
      tried = attempt station manual side slot state symbol

      abbrev out_of_it : Line → Result Row Refusal
      out_of_it l = and_then (offer kinds station manual start free rows l) (λ (r : AttackRow). Ok (written r l))

      same_line : out_of_it (Enter side slot state symbol) ≡ out_of_it line
      same_line = ap (λ (l : Line). and_then (offer kinds station manual start free rows l) (λ (r : AttackRow). Ok (written r l))) (sym is)

      pub enter_refused : (why : Refusal) → Err why ≡ taken_up state symbol tried → Err why ≡ out_of_it line
      enter_refused why e = not_taken state symbol (Enter side slot state symbol) tried why e ∙ same_line

      module _ (a : Attempt) (found : Ok a ≡ taken_up state symbol tried) where
        pub enter_uncalled : false ≡ called_for start rows a.head → Err HeadNotCalledFor ≡ out_of_it line
        enter_uncalled off = sym (taken state symbol (Enter side slot state symbol) tried a found false off) ∙ same_line

        pub enter_called : (made : Result Row Refusal) → true ≡ called_for start rows a.head → made ≡ fitted_row (entered kinds station manual a.side a.rule a.head) (Enter side slot state symbol) →
            new_and_free free rows made ≡ out_of_it line
        enter_called made on e =
            ap (new_and_free free rows) e ∙ settled (entered kinds station manual a.side a.rule a.head) (Enter side slot state symbol) ∙
            sym (taken state symbol (Enter side slot state symbol) tried a found true on) ∙ same_line
