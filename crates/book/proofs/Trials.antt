-- Steps of the search, put together.
use Rattle.std.proofs.Common.{◌≡◌, ℕ, ◌+◌, ◌≤◌, min, true, false, ltb, List, ◌++◌, length, take, set, Ok, Err, Option, Result, sym, ap, ◌∙◌, subst, arith}
use Rattle.std.proofs.lemmas.List.{length-take-le}
use Rattle.std.proofs.lemmas.Bool.{ltb-true}
use Rattle.profile.specs.declared.Kind.{Kind}
use Rattle.profile.specs.declared.Rule.{Rule}
use Rattle.game.specs.declared.Head.{Head}
use Rattle.game.specs.declared.Line.{Line}
use Rattle.game.specs.declared.Row.{Row}
use Rattle.game.specs.Members.{AttackRow}
use Rattle.book.specs.declared.Refusal.{Refusal}
use Rattle.book.specs.declared.search.Unfit.{Unfit}
use Rattle.book.specs.Offers.{and_then, usable, held_rows, said, offer, written}
use Rattle.book.specs.Trying.{stuck_by, WentOn, GotStuck, Stepped, line_tried}
use Rattle.book.proofs.Tested.{taken}
use Rattle.book.proofs.Lending.{held_take}
use Rattle.book.proofs.Drafting.{from_ok, from_err}
use Rattle.book.proofs.Searching.{went_nowhere, went_on, went_said}
use Rattle.book.proofs.Stepping.{stuck_step, idle_step, taken_step}

module _ (kinds : ℕ → Option Kind) (station manual : List (Option Rule)) (start : Head) where
  -- A line offered to the first n rows of memory.
  module _ (n : ℕ) (was : List Row) (line : Line) (inside : n ≤ usable was) where
    offered_alike : offer kinds station manual start (ltb (length (take n was)) (usable was)) (said (take n was)) line ≡ offer kinds station manual start (ltb n (usable was)) (said (held_rows was n)) line
    offered_alike =
        ap (λ (m : ℕ). offer kinds station manual start (ltb m (usable was)) (said (take n was)) line) (length-take-le n was (omega arith)) ∙
        ap (λ (l : List Row). offer kinds station manual start (ltb n (usable was)) (said l) line) (sym (held_take was n inside))

    pub line_made : (made : Row) → Ok made ≡ and_then (offer kinds station manual start (ltb n (usable was)) (said (held_rows was n)) line) (λ row. Ok (written row line)) →
        WentOn kinds station manual start (usable was) n was (line_tried kinds station manual start (said (take n was)) line) (n + 1) (set was n made)
    line_made made e =
        let w = from_ok line (offer kinds station manual start (ltb n (usable was)) (said (held_rows was n)) line) made e in
        let o : offer kinds station manual start (ltb (length (take n was)) (usable was)) (said (take n was)) line ≡ Ok w.0 = offered_alike ∙ w.1 in
        let t = taken kinds station manual start (ltb (length (take n was)) (usable was)) (said (take n was)) line w.0 o in
        let room = ltb-true (length (take n was)) (usable was) t.found_free in
        let l : length (take n was) ≡ n = length-take-le n was (omega arith) in
        subst (λ (x : Row). WentOn kinds station manual start (usable was) n was (line_tried kinds station manual start (said (take n was)) line) (n + 1) (set was n x)) (sym w.2)
        (taken_step kinds station manual start (usable was) n was line w.0 (omega arith) (omega arith) o)

    module _ (why : Refusal) (refused : ◌≡◌ {A = Result Row Refusal} (Err why) (and_then (offer kinds station manual start (ltb n (usable was)) (said (held_rows was n)) line) (λ row. Ok (written row line)))) where
      refusal_is : offer kinds station manual start (ltb (length (take n was)) (usable was)) (said (take n was)) line ≡ Err why
      refusal_is = offered_alike ∙ from_err line (offer kinds station manual start (ltb n (usable was)) (said (held_rows was n)) line) why refused

      pub line_stuck : stuck_by why ≡ true → GotStuck kinds station manual start (usable was) n was n was
      line_stuck = stuck_step kinds station manual start (usable was) n was line why inside refusal_is

      pub line_idle : stuck_by why ≡ false → WentOn kinds station manual start (usable was) n was (line_tried kinds station manual start (said (take n was)) line) n was
      line_idle = idle_step kinds station manual start (usable was) n was line why inside refusal_is

  -- nothing was appended, and nothing had to be
  pub went_still : (n : ℕ) (was : List Row) (done : List AttackRow → Type 0) → n ≤ usable was → done (said (take n was)) →
      WentOn kinds station manual start (usable was) n was done n was
  went_still n was done h d = record { went = went_nowhere kinds station manual start (usable was) n was h; goal = d }

  -- One step after the other. A slice keeps its length, so that as many rows are usable.
  pub went_then : (n : ℕ) (was mid is : List Row) (p q : ℕ) (first second done : List AttackRow → Type 0) →
      WentOn kinds station manual start (usable was) n was first p mid → WentOn kinds station manual start (usable mid) p mid second q is →
      ((some more : List AttackRow) → said (take p mid) ≡ said (take n was) ++ some → said (take q is) ≡ said (take p mid) ++ more →
      first (said (take p mid)) → second (said (take q is)) → done (said (take q is))) →
      WentOn kinds station manual start (usable was) n was done q is
  went_then n was mid is p q first second done a b both =
      let c = subst (λ (k : ℕ). WentOn kinds station manual start (min 1024 k) p mid second q is) a.went.long b in
      let (some, e) = went_said kinds station manual start (usable was) n p was mid a.went in
      let (more, f) = went_said kinds station manual start (usable was) p q mid is c.went in
      record { went = went_on kinds station manual start (usable was) n p q was mid is a.went c.went; goal = both some more e f a.goal c.goal }

  pub stuck_then : (n : ℕ) (was mid is : List Row) (p q : ℕ) (first : List AttackRow → Type 0) →
      WentOn kinds station manual start (usable was) n was first p mid → GotStuck kinds station manual start (usable mid) p mid q is →
      GotStuck kinds station manual start (usable was) n was q is
  stuck_then n was mid is p q first a b =
      let c = subst (λ (k : ℕ). GotStuck kinds station manual start (min 1024 k) p mid q is) a.went.long b in
      record { went = went_on kinds station manual start (usable was) n p q was mid is a.went c.went; stuck = c.stuck }

  pub stepped_then : (n : ℕ) (was mid is : List Row) (p q : ℕ) (r : Result (Unit {0}) Unfit) (first second done : List AttackRow → Type 0) →
      WentOn kinds station manual start (usable was) n was first p mid → Stepped kinds station manual start (usable mid) p mid second r q is →
      ((some more : List AttackRow) → said (take p mid) ≡ said (take n was) ++ some → said (take q is) ≡ said (take p mid) ++ more →
      first (said (take p mid)) → second (said (take q is)) → done (said (take q is))) →
      Stepped kinds station manual start (usable was) n was done r q is
  stepped_then n was mid is p q (Ok done_so) first second done a b both = went_then n was mid is p q first second done a b both
  stepped_then n was mid is p q (Err unfit) first second done a b both = stuck_then n was mid is p q first a b

  -- what was done is enough
  pub went_for : (n : ℕ) (was is : List Row) (p : ℕ) (done enough : List AttackRow → Type 0) →
      WentOn kinds station manual start (usable was) n was done p is → (done (said (take p is)) → enough (said (take p is))) →
      WentOn kinds station manual start (usable was) n was enough p is
  went_for n was is p done enough a f = record { went = a.went; goal = f a.goal }
