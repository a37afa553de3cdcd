-- Every game has a closed list of derivable rows: rows that are missing are added until none is, which ends since the
-- derivable rows are finitely many.
use Rattle.std.proofs.Common.{◌≡◌, ℕ, zero, suc, ◌+◌, ◌≤◌, Bool, true, cond, ◌&&◌, ◌⊎◌, List, [], ◌∷◌, ◌++◌, length, Some, None, Option, sym, refl, ap, ◌∙◌, subst, inl, inr, ⊎_elim, arith}
use Rattle.std.proofs.lemmas.Bool.{and_parts, and_from, cases_Bool, both_ways, cond_both, cond-true}
use Rattle.std.specs.Cmp.Lexicographic.{pointwise}
use Rattle.std.proofs.lemmas.Slice.Eq.{slice_eq-Decides}
use Rattle.ordered.specs.Laws.{In}
use Rattle.profile.specs.declared.Kind.{Kind}
use Rattle.profile.specs.declared.Rule.{Rule}
use Rattle.game.specs.declared.Head.{Head}
use Rattle.game.specs.declared.Member.{Member}
use Rattle.game.specs.Members.{AttackRow, top_of}
use Rattle.game.specs.Game.{Side, by_station, by_manual, of_attacker, playable, applies, Attack, AttackerWins, Position, Defends}
use Rattle.game.specs.Rows.{head_on, starts, entered, CalledFor, Closed, Derivable, join}
use Rattle.game.specs.Computed.{any_of, head_eq, joined}
use Rattle.game.specs.Theorems.{Refines, Saturated, Different}
use Rattle.game.specs.Sameness.{same_member, same_member_decides}
use Rattle.game.proofs.Testing.{any_has, any_holds, head_eq_means, head_eq_shown, join_computed, computed_joins}
use Rattle.game.proofs.Defence.{never_wins}
use Rattle.game.proofs.Deciding.{derivable_closed, Refuted, NotRefuted, decide}
use Rattle.game.proofs.Counting.{pigeonhole}
use Rattle.game.proofs.Universe.{in_left, in_right, left_or_right, universe, derivable_in_universe}

-- what a function makes of each element, and of an option
module _ {A B : Type 0} (f : A → List B) where
  abbrev each : List A → List B
  each [] = []
  each (x ∷ xs) = f x ++ each xs

  in_each : (xs : List A) (x : A) (y : B) → In x xs → In y (f x) → In y (each xs)
  in_each [] x y k l = absurd k
  in_each (z ∷ zs) x y (inl e) l = in_left (f z) (each zs) y (subst (λ (w : A). In y (f w)) e l)
  in_each (z ∷ zs) x y (inr k) l = in_right (f z) (each zs) y (in_each zs x y k l)

  of_each : (xs : List A) (y : B) → In y (each xs) → (x : A) × In x xs × In y (f x)
  of_each [] y k = absurd k
  of_each (z ∷ zs) y k =
      ⊎_elim (λ l. (z, inl refl, l)) (λ l. let r = of_each zs y l in (r.0, inr r.1, r.2)) (left_or_right (f z) (each zs) y k)

abbrev listed : {A : Type 0} → Option A → List A
listed None = []
listed (Some x) = x ∷ []

in_listed : {A : Type 0} (o : Option A) (x : A) → o ≡ Some x → In x (listed o)
in_listed {A} o x e = subst (λ (p : Option A). In x (listed p)) (sym e) (inl refl)

of_listed : {A : Type 0} (o : Option A) (x : A) → In x (listed o) → o ≡ Some x
of_listed None x k = absurd k
of_listed {A} (Some y) x (inl e) = ap (λ (z : A). Some z) (sym e)
of_listed (Some y) x (inr k) = absurd k

-- the test for equal rows
abbrev row_eq : AttackRow → AttackRow → Bool
row_eq r s = head_eq r.head s.head && pointwise same_member r.members s.members

row_eq_means : (r s : AttackRow) → row_eq r s ≡ true → r ≡ s
row_eq_means r s e =
    let (p, q) = and_parts (head_eq r.head s.head) (pointwise same_member r.members s.members) e in
    let ms : r.members ≡ s.members = (slice_eq-Decides same_member_decides r.members s.members _ refl).0 q in
    λ i. record { head = head_eq_means r.head s.head p i; members = ms i }

row_eq_shown : (r : AttackRow) → row_eq r r ≡ true
row_eq_shown r =
    and_from _ _ (head_eq_shown r.head r.head refl) ((slice_eq-Decides same_member_decides r.members r.members _ refl).1 refl)

-- a row of a list that another lacks, if there is one
lacking : (wanted rows : List AttackRow) → ((row : AttackRow) → In row wanted → In row rows) ⊎ ((row : AttackRow) × In row wanted × (In row rows → ⊥))
lacking [] rows = inl (λ row k. absurd k)
lacking (w ∷ ws) rows =
    ⊎_elim
    (λ y. ⊎_elim
    (λ all. inl (λ row k. ⊎_elim
    (λ e. let (x, l, s) = any_has (row_eq w) rows y in subst (λ (z : AttackRow). In z rows) (sym (e ∙ row_eq_means w x s)) l)
    (λ q. all row q) k))
    (λ (t : (row : AttackRow) × In row ws × (In row rows → ⊥)). inr (t.0, inr t.1, t.2))
    (lacking ws rows))
    (λ n. inr (w, inl refl, λ k. both_ways (any_of (row_eq w) rows) n (any_holds (row_eq w) rows w k (row_eq_shown w))))
    (cases_Bool (any_of (row_eq w) rows))

module _ (kinds : ℕ → Option Kind) (station manual : List (Option Rule)) (start : Head) where
  -- what one more enter or join makes of rows
  abbrev heads : List AttackRow → List Head
  heads rows = start ∷ each (λ (row : AttackRow). each (λ (m : Member). listed (top_of m)) row.members) rows

  abbrev enters_of : Head → Side → Option Rule → List AttackRow
  enters_of h side None = []
  enters_of h side (Some r) =
      cond (playable side r && applies r (of_attacker side (head_on h [] []).station (head_on h [] []).manual)) (entered kinds station manual side r h ∷ []) []

  abbrev enters_at : Head → List AttackRow
  enters_at h = each (λ (side : Side). each (enters_of h side) (of_attacker side station manual)) (by_station ∷ by_manual ∷ [])

  abbrev joins_of : List AttackRow → List AttackRow
  joins_of rows = each (λ (i : AttackRow). each (λ (j : AttackRow). listed (joined i j)) rows) rows

  abbrev successors : List AttackRow → List AttackRow
  successors rows = each enters_at (heads rows) ++ joins_of rows

  either_side : (side : Side) → In side (by_station ∷ by_manual ∷ [])
  either_side by_station = inl refl
  either_side by_manual = inr (inl refl)

  in_heads : (rows : List AttackRow) (h : Head) → CalledFor start (λ row. In row rows) h → In h (heads rows)
  in_heads rows h (inl e) = inl e
  in_heads rows h (inr (row, k, m, l, e)) =
      inr (in_each (λ (row : AttackRow). each (λ (m : Member). listed (top_of m)) row.members) rows row h k
      (in_each (λ (m : Member). listed (top_of m)) row.members m h l (in_listed (top_of m) h e)))

  of_heads : (rows : List AttackRow) (h : Head) (S : AttackRow → Type 0) → ((row : AttackRow) → In row rows → S row) → In h (heads rows) → CalledFor start S h
  of_heads rows h S f (inl e) = inl e
  of_heads rows h S f (inr k) =
      let (row, l, q) = of_each (λ (row : AttackRow). each (λ (m : Member). listed (top_of m)) row.members) rows h k in
      let (m, n, t) = of_each (λ (m : Member). listed (top_of m)) row.members h q in
      inr (row, f row l, m, n, of_listed (top_of m) h t)

  in_enters : (h : Head) (side : Side) (r : Rule) → Attack station manual side r (head_on h [] []) → In (entered kinds station manual side r h) (enters_at h)
  in_enters h side r t =
      in_each (λ (side : Side). each (enters_of h side) (of_attacker side station manual)) (by_station ∷ by_manual ∷ []) side (entered kinds station manual side r h) (either_side side)
      (in_each (enters_of h side) (of_attacker side station manual) (Some r) (entered kinds station manual side r h) t.0
      (subst (λ (l : List AttackRow). In (entered kinds station manual side r h) l)
      (sym (cond-true (playable side r && applies r (of_attacker side (head_on h [] []).station (head_on h [] []).manual)) (entered kinds station manual side r h ∷ []) []
      (and_from _ _ t.1 t.2))) (inl refl)))

  of_enters : (h : Head) (side : Side) (slot : Option Rule) (row : AttackRow) → In slot (of_attacker side station manual) → In row (enters_of h side slot) →
      (r : Rule) × Attack station manual side r (head_on h [] []) × (row ≡ entered kinds station manual side r h)
  of_enters h side None row k = λ l. absurd l
  of_enters h side (Some r) row k =
      cond_both (playable side r && applies r (of_attacker side (head_on h [] []).station (head_on h [] []).manual)) (entered kinds station manual side r h ∷ []) []
      (λ (x : List AttackRow). In row x → (r : Rule) × Attack station manual side r (head_on h [] []) × (row ≡ entered kinds station manual side r h))
      (λ on l. let p = and_parts (playable side r) (applies r (of_attacker side (head_on h [] []).station (head_on h [] []).manual)) on in
      (r, (k, p.0, p.1), ⊎_elim (λ e. e) (λ n. absurd n) l))
      (λ _ l. absurd l)

  closed_with_successors : (rows : List AttackRow) → ((row : AttackRow) → In row (successors rows) → In row rows) → Closed kinds station manual start (λ row. In row rows)
  closed_with_successors rows f = record {
    enters = λ h side r c t. f (entered kinds station manual side r h)
        (in_left (each enters_at (heads rows)) (joins_of rows) (entered kinds station manual side r h)
        (in_each enters_at (heads rows) h (entered kinds station manual side r h) (in_heads rows h c) (in_enters h side r t)));
    joins = λ i j k p q t. f k
        (in_right (each enters_at (heads rows)) (joins_of rows) k
        (in_each (λ (i : AttackRow). each (λ (j : AttackRow). listed (joined i j)) rows) rows i k p
        (in_each (λ (j : AttackRow). listed (joined i j)) rows j k q (in_listed (joined i j) k (join_computed i j k t)))));
  }

  enter_derivable : (rows : List AttackRow) → ((row : AttackRow) → In row rows → Derivable kinds station manual start row) → (row : AttackRow) (h : Head) → In h (heads rows) →
      (side : Side) (r : Rule) → Attack station manual side r (head_on h [] []) → row ≡ entered kinds station manual side r h → Derivable kinds station manual start row
  enter_derivable rows f row h k side r t e =
      subst (λ (x : AttackRow). Derivable kinds station manual start x) (sym e)
      ((derivable_closed kinds station manual start).enters h side r (of_heads rows h (Derivable kinds station manual start) f k) t)

  successors_derivable : (rows : List AttackRow) → ((row : AttackRow) → In row rows → Derivable kinds station manual start row) → (row : AttackRow) → In row (successors rows) → Derivable kinds station manual start row
  successors_derivable rows f row k = ⊎_elim by_enter by_join (left_or_right (each enters_at (heads rows)) (joins_of rows) row k)
    where
      at_slot : (h : Head) → In h (heads rows) → (side : Side) (slot : Option Rule) → In slot (of_attacker side station manual) → In row (enters_of h side slot) → Derivable kinds station manual start row
      at_slot h l side slot m o = let (r, t, e) = of_enters h side slot row m o in enter_derivable rows f row h l side r t e

      by_enter : In row (each enters_at (heads rows)) → Derivable kinds station manual start row
      by_enter k =
          let (h, l, q) = of_each enters_at (heads rows) row k in
          let (side, _, n) = of_each (λ (side : Side). each (enters_of h side) (of_attacker side station manual)) (by_station ∷ by_manual ∷ []) row q in
          let (slot, m, o) = of_each (enters_of h side) (of_attacker side station manual) row n in
          at_slot h l side slot m o

      by_join : In row (joins_of rows) → Derivable kinds station manual start row
      by_join k =
          let (i, p, q) = of_each (λ (i : AttackRow). each (λ (j : AttackRow). listed (joined i j)) rows) rows row k in
          let (j, l, t) = of_each (λ (j : AttackRow). listed (joined i j)) rows row q in
          join i j row (f i p) (f j l) (computed_joins i j row (of_listed (joined i j) row t))

  abbrev Part : List AttackRow → Type 0
  Part rows = Different rows × ((row : AttackRow) → In row rows → Derivable kinds station manual start row)

  abbrev Found : Type 0
  Found = (rows : List AttackRow) × Saturated kinds station manual start rows

  abbrev Missing : List AttackRow → Type 0
  Missing rows = (row : AttackRow) × In row (successors rows) × (In row rows → ⊥)

  -- a list that has its successors, and one row more otherwise
  done : (rows : List AttackRow) → Part rows → ((row : AttackRow) → In row (successors rows) → In row rows) → Found
  done rows part all = (rows, record { derivable = part.1; closed = closed_with_successors rows all })

  one_more : (rows : List AttackRow) → Part rows → (t : Missing rows) → Part (t.0 ∷ rows)
  one_more rows part t = (
    (t.2, part.0),
    λ x q. ⊎_elim (λ e. subst (λ (y : AttackRow). Derivable kinds station manual start y) (sym e) (successors_derivable rows part.1 t.0 t.1)) (λ k. part.1 x k) q,
  )

  no_more_than_all : (rows : List AttackRow) → Part rows → length rows ≤ length (universe station manual start)
  no_more_than_all rows part =
      pigeonhole rows (universe station manual start) part.0 (λ row k. derivable_in_universe kinds station manual start row (part.1 row k))

  grow : (n : ℕ) (rows : List AttackRow) → length (universe station manual start) ≤ length rows + n → Part rows → Found
  grow zero rows few part =
      ⊎_elim (done rows part)
      (λ (t : Missing rows). let k : length (t.0 ∷ rows) ≤ length (universe station manual start) = no_more_than_all (t.0 ∷ rows) (one_more rows part t) in absurd (omega arith))
      (lacking (successors rows) rows)
  grow (suc n) rows few part =
      ⊎_elim (done rows part) (λ (t : Missing rows). grow n (t.0 ∷ rows) (omega arith) (one_more rows part t)) (lacking (successors rows) rows)

  pub saturated : (rows : List AttackRow) × Saturated kinds station manual start rows
  saturated = grow (length (universe station manual start)) [] (omega arith) (tt, λ row k. absurd k)

  -- so one of the two is always the case
  pub wins_or_refines : (AttackerWins kinds station manual (starts start) × (Refines kinds station manual start → ⊥)) ⊎ (Refines kinds station manual start × (AttackerWins kinds station manual (starts start) → ⊥))
  wins_or_refines =
      ⊎_elim (λ (t : Refuted kinds station manual start saturated.0 saturated.1). inl (t.1, t.2))
      (λ (t : NotRefuted kinds station manual start saturated.0 saturated.1). inr (t.1, t.2))
      (decide kinds station manual start saturated.0 saturated.1)

  -- a relation of any propositions gives one that says yes or no
  pub defended_refines : (R : Position → Type 0) → Defends kinds station manual R → R (starts start) → Refines kinds station manual start
  defended_refines R d h =
      ⊎_elim (λ (t : AttackerWins kinds station manual (starts start) × (Refines kinds station manual start → ⊥)). absurd (never_wins kinds station manual R d t.0.0 (starts start) h t.0.1))
      (λ (t : Refines kinds station manual start × (AttackerWins kinds station manual (starts start) → ⊥)). t.0) wins_or_refines
