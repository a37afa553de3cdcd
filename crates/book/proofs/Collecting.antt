-- Members gathered from slot after slot, or put among others one after the other, never get fewer: where there are too
-- many at one time, there are too many at the end.
use Rattle.std.proofs.Common.{◌≡◌, ℕ, ◌+◌, ◌<◌, ◌≤◌, Bool, true, cond, leb, if◌then◌else◌, List, [], ◌∷◌, map, length, get_or, drop, Some, None, Err, ok_or, Option, sym, ap, ◌∙◌, arith}
use Rattle.std.proofs.lemmas.List.{drop_more}
use Rattle.std.proofs.lemmas.Bool.{cond_both, cond-true, leb-false}
use Rattle.ordered.specs.Insert.{insert_into}
use Rattle.profile.specs.declared.Rule.{Rule}
use Rattle.game.specs.declared.Member.{Member}
use Rattle.game.specs.Members.{member_le}
use Rattle.game.specs.Rows.{gathered, put_in}
use Rattle.book.specs.declared.Refusal.{Refusal}
use Rattle.book.specs.declared.Refusal.TheVariants.{TooManyMembers}
use Rattle.book.specs.Widths.{fitted}
use Rattle.book.proofs.Inserting.{too_many, fitted_err, inserted_grows, ok_not_err}

pub stays_too_many : (ms whole : List Member) (why : Refusal) → fitted ms ≡ Err why → length ms ≤ length whole → Err why ≡ fitted whole
stays_too_many ms whole why e more =
    let f = fitted_err ms why e in
    let many : 12 < length whole = omega (arith, f.1) in
    ap (λ (w : Refusal). Err w) f.0 ∙ sym (too_many whole many)

module _ (test : Rule → Bool) (make : Rule → Member) where
  gathered_grows : (slots : List (Option Rule)) (ms : List Member) → length ms ≤ length (gathered test make slots ms)
  gathered_grows [] ms = omega arith
  gathered_grows (None ∷ slots) ms = gathered_grows slots ms
  gathered_grows (Some s ∷ slots) ms =
      let step = cond (test s) (insert_into member_le (make s) ms) ms in
      let a : length ms ≤ length step =
      cond_both (test s) (insert_into member_le (make s) ms) ms (λ (l : List Member). length ms ≤ length l)
      (λ _. inserted_grows (make s) ms) (λ _. omega arith) in
      let b = gathered_grows slots step in
      omega arith

  pub gathered_here : (slots : List (Option Rule)) (i : ℕ) (s : Rule) (ms : List Member) → i < length slots → Some s ≡ get_or slots i None → test s ≡ true →
      length (insert_into member_le (make s) ms) ≤ length (gathered test make (drop i slots) ms)
  gathered_here slots i s ms inside is on =
      let new = insert_into member_le (make s) ms in
      let rest = drop (i + 1) slots in
      let e = drop_more slots i None inside ∙ ap (λ (o : Option Rule). o ∷ rest) (sym is) in
      let n = ap (λ (l : List (Option Rule)). length (gathered test make l ms)) e in
      let m = ap (λ (l : List Member). length (gathered test make rest l)) (cond-true (test s) new ms on) in
      let more = gathered_grows rest new in
      omega arith

put_grows : (xs ms : List Member) → length ms ≤ length (put_in xs ms)
put_grows [] ms = omega arith
put_grows (x ∷ xs) ms = let a = inserted_grows x ms in let b = put_grows xs (insert_into member_le x ms) in omega arith

pub put_here : (make : Member → Member) (xs : List Member) (i : ℕ) (d : Member) (ms : List Member) → i < length xs →
    length (insert_into member_le (make (get_or xs i d)) ms) ≤ length (put_in (map make (drop i xs)) ms)
put_here make xs i d ms inside =
    let n = ap (λ (l : List Member). length (put_in (map make l) ms)) (drop_more xs i d inside) in
    let more = put_grows (map make (drop (i + 1) xs)) (insert_into member_le (make (get_or xs i d)) ms) in
    omega arith

-- more than twelve in front are too many, whatever is put among them
pub front_too_many : (xs front : List Member) (why : Refusal) → Err why ≡ ok_or (if leb (length front) 12 then Some front else None) TooManyMembers →
    Err why ≡ fitted (put_in xs front)
front_too_many xs front why =
    cond_both (leb (length front) 12) (Some front) None (λ (o : Option (List Member)). Err why ≡ ok_or o TooManyMembers → Err why ≡ fitted (put_in xs front))
    (λ _ e. absurd (ok_not_err front why (sym e)))
    (λ off e.
    let many = leb-false (length front) 12 off in
    let more = put_grows xs front in
    e ∙ sym (too_many (put_in xs front) (omega arith)))
