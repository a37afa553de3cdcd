-- The search over all rows: every row that is done with stays so, and in the end all are.
use Rattle.std.proofs.Common.{◌≡◌, ℕ, ◌+◌, ◌<◌, ◌≤◌, List, ◌++◌, length, get_or, take, Some, Option, Result, sym, refl, ap, ◌∙◌, subst, inl, inr, arith}
use Rattle.std.proofs.lemmas.Option.{same_Some}
use Rattle.std.proofs.lemmas.List.{length-append}
use Rattle.std.proofs.lemmas.Bool.{cases_lt}
use Rattle.profile.specs.declared.Kind.{Kind}
use Rattle.profile.specs.declared.Rule.{Rule}
use Rattle.game.specs.declared.Head.{Head}
use Rattle.game.specs.declared.Line.TheVariants.{Join}
use Rattle.game.specs.declared.Row.{Row}
use Rattle.game.specs.Members.{AttackRow, row_of}
use Rattle.book.specs.declared.search.Unfit.{Unfit}
use Rattle.book.specs.Offers.{usable, said, row_at}
use Rattle.book.specs.Trying.{Known, Tried, TopsTried, WentOn, Stepped, line_tried, head_tried, tops_tried, pair_tried, pairs_tried, all_tried}
use Rattle.book.proofs.Numbers.{row_at_is_in}
use Rattle.book.proofs.Searching.{row_at_front, tried_more, tops_tried_more, done_next}
use Rattle.book.proofs.Entering.{said_many, said_at, known_more}
use Rattle.book.proofs.Trials.{went_then, stepped_then}

module _ (kinds : ℕ → Option Kind) (station manual : List (Option Rule)) (start : Head) where
  -- two joins
  pub pair_done : (n : ℕ) (was mid is : List Row) (p q : ℕ) (r : Result (Unit {0}) Unfit) (k j : ℕ) → n ≤ usable was →
      WentOn kinds station manual start (usable was) n was (line_tried kinds station manual start (said (take n was)) (Join k j)) p mid →
      Stepped kinds station manual start (usable mid) p mid (line_tried kinds station manual start (said (take p mid)) (Join j k)) r q is →
      Stepped kinds station manual start (usable was) n was (pair_tried kinds station manual start (said (take n was)) k j) r q is
  pair_done n was mid is p q r k j le a b =
      stepped_then kinds station manual start n was mid is p q r
      (line_tried kinds station manual start (said (take n was)) (Join k j)) (line_tried kinds station manual start (said (take p mid)) (Join j k)) (pair_tried kinds station manual start (said (take n was)) k j)
      a b
      (λ some more e f x y l g.
      (let long = ap length e ∙ length-append (said (take n was)) some in (
        subst (λ (z : List AttackRow). Tried kinds station manual start z (Join k j)) (sym f)
            (tried_more kinds station manual start (said (take p mid)) more (Join k j) (omega arith, omega arith) (x refl)),
        y refl,
      )))

  pub pairs_go_on : (n : ℕ) (was mid is : List Row) (p q : ℕ) (k j : ℕ) →
      WentOn kinds station manual start (usable was) n was (pairs_tried kinds station manual start (said (take n was)) k j) p mid →
      WentOn kinds station manual start (usable mid) p mid (pair_tried kinds station manual start (said (take p mid)) k j) q is →
      WentOn kinds station manual start (usable was) n was (pairs_tried kinds station manual start (said (take n was)) k (j + 1)) q is
  pairs_go_on n was mid is p q k j a b =
      went_then kinds station manual start n was mid is p q
      (pairs_tried kinds station manual start (said (take n was)) k j) (pair_tried kinds station manual start (said (take p mid)) k j) (pairs_tried kinds station manual start (said (take n was)) k (j + 1))
      a b
      (λ some more e f x y i l c d.
      (let long = ap length e ∙ length-append (said (take n was)) some in
      elim (cases_lt i j) [
        | inl old ↦ (let t = x i old c d in
            subst (λ (z : List AttackRow). Tried kinds station manual start z (Join k i) × Tried kinds station manual start z (Join i k)) (sym f) (
              tried_more kinds station manual start (said (take p mid)) more (Join k i) (omega arith, omega arith) t.0,
              tried_more kinds station manual start (said (take p mid)) more (Join i k) (omega arith, omega arith) t.1,
            ))
        | inr new ↦ (let same : j ≡ i = omega arith in
            subst (λ (z : ℕ). Tried kinds station manual start (said (take q is)) (Join k z) × Tried kinds station manual start (said (take q is)) (Join z k)) same (y (omega arith) (omega arith)))
      ]))

  -- a row is done with once its tops and its joins were tried
  abbrev TopsAt : List AttackRow → ℕ → Type 0
  TopsAt rows k = (row : AttackRow) → row_at rows k ≡ Some row → TopsTried kinds station manual start rows row

  abbrev pub RowNext : ℕ → List AttackRow → Type 0
  RowNext k rows = Known kinds station manual start rows k × TopsAt rows k

  abbrev pub done_to : ℕ → List AttackRow → Type 0
  done_to k rows = Known kinds station manual start rows k

  pub tops_done : (n : ℕ) (was mid next : List Row) (p q : ℕ) (k : ℕ) (row d : Row) → row ≡ get_or mid k d → k < p →
      WentOn kinds station manual start (usable was) n was (done_to k) p mid →
      WentOn kinds station manual start (usable mid) p mid (tops_tried kinds station manual start (said (take p mid)) k (row_of row)) q next →
      WentOn kinds station manual start (usable was) n was (RowNext k) q next
  tops_done n was mid next p q k row d is below a t =
      let within = a.went.within in
      let long = a.went.long in
      let inside : p ≤ length mid = omega arith in
      let many = said_many p mid inside in
      let here : row_at (said (take p mid)) k ≡ Some (row_of row) = said_at p mid k d below (omega arith) ∙ ap (λ (r : Row). Some (row_of r)) (sym is) in
      went_then kinds station manual start n was mid next p q (done_to k) (tops_tried kinds station manual start (said (take p mid)) k (row_of row)) (RowNext k)
      a t
      (λ some more e f x y. (
        subst (λ (z : List AttackRow). Known kinds station manual start z k) (sym f) (known_more kinds station manual start (said (take p mid)) more k (omega arith) x),
        (λ r g. subst (λ (z : AttackRow). TopsTried kinds station manual start (said (take q next)) z)
            (same_Some (row_of row) r (sym here ∙ sym (row_at_front (said (take p mid)) more k (omega arith)) ∙ ap (λ (z : List AttackRow). row_at z k) (sym f) ∙ g))
            (y x (row_at_is_in (said (take p mid)) k (row_of row) here))),
      ))

  pub row_done : (n : ℕ) (was next is : List Row) (q r : ℕ) (k j : ℕ) → k < q → k + 1 ≤ j →
      WentOn kinds station manual start (usable was) n was (RowNext k) q next →
      WentOn kinds station manual start (usable next) q next (pairs_tried kinds station manual start (said (take q next)) k j) r is →
      WentOn kinds station manual start (usable was) n was (done_to (k + 1)) r is
  row_done n was next is q r k j below enough a b =
      let within = a.went.within in
      let long = a.went.long in
      let inside : q ≤ length next = omega arith in
      let many = said_many q next inside in
      went_then kinds station manual start n was next is q r (RowNext k) (pairs_tried kinds station manual start (said (take q next)) k j) (done_to (k + 1))
      a b
      (λ some more e f x y.
      subst (λ (z : List AttackRow). Known kinds station manual start z (k + 1)) (sym f) (
        (known_more kinds station manual start (said (take q next)) more k (omega arith) x.0).0,
        done_next kinds station manual start (said (take q next) ++ more) k
            (known_more kinds station manual start (said (take q next)) more k (omega arith) x.0).1
            (λ row g. tops_tried_more kinds station manual start (said (take q next)) more row
            (x.1 row (sym (row_at_front (said (take q next)) more k (omega arith)) ∙ g)))
            (λ i l. subst (λ (z : List AttackRow). Tried kinds station manual start z (Join k i) × Tried kinds station manual start z (Join i k)) f (y i (omega arith) (omega arith) (omega arith))),
      ))

  -- every row is done with
  pub all_done : (n : ℕ) (was mid is : List Row) (p q : ℕ) (k : ℕ) → q ≤ k →
      WentOn kinds station manual start (usable was) n was (head_tried kinds station manual start (said (take n was)) start) p mid →
      WentOn kinds station manual start (usable mid) p mid (done_to k) q is →
      WentOn kinds station manual start (usable was) n was (all_tried kinds station manual start) q is
  all_done n was mid is p q k le a b =
      let within = b.went.within in
      let long = b.went.long in
      let inside : q ≤ length is = omega arith in
      let many = said_many q is inside in
      went_then kinds station manual start n was mid is p q (head_tried kinds station manual start (said (take n was)) start) (done_to k) (all_tried kinds station manual start)
      a b
      (λ some more e f x y. (
        y.0,
        record {
          tops = λ i h. y.1.tops i (omega arith);
          joins = λ i h j g. y.1.joins i (omega arith) j (omega arith);
        },
      ))
