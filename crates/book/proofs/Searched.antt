-- What a search leaves of a draft and the lent rows.
use Rattle.std.proofs.Common.{◌≡◌, ℕ, ◌-◌, min, max, List, length, take, drop, Option, refl, sym, ap, ◌∙◌, subst, arith}
use Rattle.profile.specs.declared.Kind.{Kind}
use Rattle.profile.specs.declared.Rule.{Rule}
use Rattle.game.specs.declared.Row.{Row}
use Rattle.book.specs.declared.Refusal.TheVariants.{RowsDoNotFit}
use Rattle.book.specs.declared.state.Draft.{Draft}
use Rattle.book.specs.Offers.{usable, held_rows, said}
use Rattle.book.specs.Searches.{Settled, Stuck, Grown}
use Rattle.book.specs.Drafts.{Searched, Completes, LeavesOff}
use Rattle.book.specs.Trying.{Went, all_tried}
use Rattle.book.proofs.Scanning.{held_part}
use Rattle.book.proofs.Searching.{all_tried_settles}

module _ (kinds : ℕ → Option Kind) (station manual : List (Option Rule)) (d : Draft) (was is : List Row) (p u n h : ℕ)
    (u_is : u ≡ usable was) (n_is : n ≡ min d.held u) (h_is : h ≡ max d.held p)
    (w : Went kinds station manual d.start (usable was) n was p is) where
  held_before : take n was ≡ held_rows was d.held
  held_before = let e : n ≡ n - 0 = omega arith in let f : u ≡ min (length was) 1024 = omega arith in ap (λ k. take k was) e ∙ held_part was d.held u n f n_is

  counted : p ≡ min h (min (length is) 1024)
  counted =
      let forth = w.forth in
      let within = w.within in
      let long = w.long in
      omega arith

  held_after : take p is ≡ held_rows is h
  held_after = let e : p ≡ p - 0 = omega arith in ap (λ k. take k is) e ∙ held_part is h (min (length is) 1024) p refl counted

  left_so : Searched kinds station manual d was is d.start h
  left_so =
      let forth = w.forth in
      let within = w.within in
      let long = w.long in
      let c : p ≡ min h (usable was) = omega arith in
      record {
        same_start = refl;
        grown = subst (λ (x : List Row). Grown kinds station manual d.start (usable was) x (held_rows is h)) held_before
            (subst (λ (x : List Row). Grown kinds station manual d.start (usable was) (take n was) x) held_after w.grown);
        forth = omega arith;
        within = omega arith;
        long = long;
        kept = subst (λ (k : ℕ). drop k is ≡ drop k was) c w.kept;
      }

  -- the rows that the caller has back are those of the search
  module _ (last : List Row) (same : last ≡ is) where
    pub completes_so : all_tried kinds station manual d.start (said (take p is)) → Completes kinds station manual d was last (record { start = d.start; held = h })
    completes_so all = subst (λ (x : List Row). Completes kinds station manual d was x (record { start = d.start; held = h })) (sym same) (record {
      left = left_so;
      settled = subst (λ (x : List Row). Settled kinds station manual d.start (usable was) x) held_after
          (all_tried_settles kinds station manual d.start (usable was) (take p is) all.0 all.1);
    })

    pub leaves_off_so : Stuck kinds station manual d.start (usable was) (take p is) → LeavesOff kinds station manual d was last (record { start = d.start; held = h }) RowsDoNotFit
    leaves_off_so stuck = subst (λ (x : List Row). LeavesOff kinds station manual d was x (record { start = d.start; held = h }) RowsDoNotFit) (sym same) (record {
      left = left_so;
      refusal = refl;
      stuck = subst (λ (x : List Row). Stuck kinds station manual d.start (usable was) x) held_after stuck;
    })
