-- One member inserted among at most twelve.
use Rattle.std.proofs.Common.{◌≡◌, ℕ, ◌+◌, ◌<◌, ◌≤◌, Bool, true, false, cond, ltb, leb, List, [], ◌∷◌, length, Ok, Err, Result, sym, refl, ap, ◌∙◌, ⊎_elim, arith}
use Rattle.std.proofs.lemmas.Bool.{false≢true, cond-true, cond-false, cond_both, le-leb, lt-leb, leb-true, leb-false, ltb-false, cases_Bool}
use Rattle.ordered.specs.declared.Unplaced.TheVariants.{Double, Full}
use Rattle.ordered.specs.Insert.{place_of, present, insert_into, held_answer}
use Rattle.game.specs.declared.Member.{Member}
use Rattle.game.specs.Members.{member_le}
use Rattle.book.specs.declared.Refusal.{Refusal}
use Rattle.book.specs.declared.Refusal.TheVariants.{TooManyMembers}
use Rattle.book.specs.Widths.{fitted}

-- a list that is short enough fits, and one that is too long does not
pub fits : (ms : List Member) → length ms ≤ 12 → fitted ms ≡ Ok ms
fits ms h = cond-true (leb (length ms) 12) (Ok ms) (Err TooManyMembers) (le-leb (length ms) 12 h)

pub too_many : (ms : List Member) → 12 < length ms → fitted ms ≡ Err TooManyMembers
too_many ms h = cond-false (leb (length ms) 12) (Ok ms) (Err TooManyMembers) (lt-leb (length ms) 12 h)

pub ok_same : {T E : Type 0} (x y : T) → ◌≡◌ {A = Result T E} (Ok x) (Ok y) → x ≡ y
ok_same x y e = cc

pub err_same : {T E : Type 0} (x y : E) → ◌≡◌ {A = Result T E} (Err x) (Err y) → x ≡ y
err_same x y e = cc

pub ok_not_err : {T E : Type 0} (x : T) (y : E) → Ok x ≡ Err y → ⊥
ok_not_err x y e = cc

pub fitted_ok : (ms held : List Member) → fitted ms ≡ Ok held → (ms ≡ held) × (length ms ≤ 12)
fitted_ok ms held =
    cond_both (leb (length ms) 12) (Ok ms) (Err TooManyMembers) (λ (r : Result (List Member) Refusal). r ≡ Ok held → (ms ≡ held) × (length ms ≤ 12))
    (λ on e. (ok_same ms held e, leb-true (length ms) 12 on))
    (λ off e. cc)

pub fitted_err : (ms : List Member) (why : Refusal) → fitted ms ≡ Err why → (why ≡ TooManyMembers) × (12 < length ms)
fitted_err ms why =
    cond_both (leb (length ms) 12) (Ok ms) (Err TooManyMembers) (λ (r : Result (List Member) Refusal). r ≡ Err why → (why ≡ TooManyMembers) × (12 < length ms))
    (λ on e. cc)
    (λ off e. (err_same why TooManyMembers (sym e), leb-false (length ms) 12 off))

module _ (m : Member) where
  -- a member that is there changes nothing, and another adds one
  same : (ms : List Member) → present member_le m ms ≡ true → insert_into member_le m ms ≡ ms
  same [] e = absurd (false≢true e)
  same (y ∷ ys) e = at (same ys) (member_le m y) (member_le y m) e
    where
      at : (present member_le m ys ≡ true → insert_into member_le m ys ≡ ys) → (b d : Bool) → cond b d (present member_le m ys) ≡ true →
          cond b (cond d (y ∷ ys) (m ∷ y ∷ ys)) (y ∷ insert_into member_le m ys) ≡ y ∷ ys
      at ih true true e = refl
      at ih true false e = absurd (false≢true e)
      at ih false d e = ap (λ (l : List Member). y ∷ l) (ih e)

  longer : (ms : List Member) → present member_le m ms ≡ false → length (insert_into member_le m ms) ≡ length ms + 1
  longer [] e = refl
  longer (y ∷ ys) e = at (longer ys) (member_le m y) (member_le y m) e
    where
      at : (present member_le m ys ≡ false → length (insert_into member_le m ys) ≡ length ys + 1) → (b d : Bool) → cond b d (present member_le m ys) ≡ false →
          length (cond b (cond d (y ∷ ys) (m ∷ y ∷ ys)) (y ∷ insert_into member_le m ys)) ≡ length (y ∷ ys) + 1
      at ih true true e = absurd (false≢true (sym e))
      at ih true false e = omega arith
      at ih false d e = let h = ih e in omega arith

  pub inserted_grows : (ms : List Member) → length ms ≤ length (insert_into member_le m ms)
  inserted_grows ms =
      ⊎_elim (λ e. let h = ap length (same ms e) in omega arith) (λ e. let h = longer ms e in omega arith) (cases_Bool (present member_le m ms))

  found_double : (p q : Bool) (x y z : ℕ) → Err (Double x) ≡ cond p (Err (Double y)) (cond q (Ok z) (Err Full)) → p ≡ true
  found_double true q x y z e = refl
  found_double false true x y z e = cc
  found_double false false x y z e = cc

  found_full : (p q : Bool) (y z : ℕ) → Err Full ≡ cond p (Err (Double y)) (cond q (Ok z) (Err Full)) → (p ≡ false) × (q ≡ false)
  found_full true q y z e = cc
  found_full false true y z e = cc
  found_full false false y z e = (refl, refl)

  -- what an insertion among at most twelve comes to
  module _ (was : List Member) where
    pub doubled : (at : ℕ) → Err (Double at) ≡ held_answer member_le m 12 was → length was ≤ 12 → fitted (insert_into member_le m was) ≡ Ok was
    doubled at told few =
        let p = found_double (present member_le m was) (ltb (length was) 12) at (place_of member_le m was) (place_of member_le m was) told in
        ap fitted (same was p) ∙ fits was few

    pub refused : Err Full ≡ held_answer member_le m 12 was → fitted (insert_into member_le m was) ≡ Err TooManyMembers
    refused told =
        let p = found_full (present member_le m was) (ltb (length was) 12) (place_of member_le m was) (place_of member_le m was) told in
        let one : length (insert_into member_le m was) ≡ length was + 1 = longer was p.0 in
        let all : 12 ≤ length was = ltb-false (length was) 12 p.1 in
        too_many (insert_into member_le m was) (omega arith)
