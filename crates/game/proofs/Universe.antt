-- There are only finitely many derivable rows: all lie in one list, made of the rules' next states and symbols.
use Rattle.std.proofs.Common.{◌≡◌, ℕ, Bool, true, false, ◌⊎◌, List, [], ◌∷◌, ◌++◌, map, Some, None, Option, sym, refl, ap, subst, inl, inr, ⊎_elim}
use Rattle.std.proofs.lemmas.Option.{none-some, same_Some}
use Rattle.std.proofs.lemmas.Bool.{both_ways, cases_Bool}
use Rattle.ordered.specs.Laws.{In, Before, Ascending}
use Rattle.profile.specs.declared.Kind.{Kind}
use Rattle.profile.specs.declared.Kind.TheVariants.{Open, Step, Close}
use Rattle.profile.specs.declared.Rule.{Rule}
use Rattle.game.specs.declared.Pair.{Pair}
use Rattle.game.specs.declared.Head.{Head}
use Rattle.game.specs.declared.Pairs.{Pairs}
use Rattle.game.specs.declared.Pairs.TheVariants.{Zero, One, Two}
use Rattle.game.specs.declared.Member.{Member}
use Rattle.game.specs.Members.{AttackRow, top_under, below_top, member_le}
use Rattle.game.specs.Game.{Side, by_station, by_manual, of_attacker, of_replier, Attack}
use Rattle.game.specs.Rows.{head_on, pushed_pairs, leads_to, entered, with_pairs, put_in, Joins, Derivable, enter_start, enter_top, join}
use Rattle.game.specs.Order.{member_transitive}
use Rattle.game.proofs.Sets.{in_map, from_map, in_front, in_last}
use Rattle.game.proofs.Gathering.{put_ascending, put_has}
use Rattle.game.proofs.Completing.{entered_from}
use Rattle.game.proofs.Deciding.{join_members, derivable_ascends}

module _ {A : Type 0} where
  pub in_left : (xs ys : List A) (z : A) → In z xs → In z (xs ++ ys)
  in_left [] ys z k = absurd k
  in_left (x ∷ xs) ys z (inl e) = inl e
  in_left (x ∷ xs) ys z (inr k) = inr (in_left xs ys z k)

  pub in_right : (xs ys : List A) (z : A) → In z ys → In z (xs ++ ys)
  in_right [] ys z k = k
  in_right (x ∷ xs) ys z k = inr (in_right xs ys z k)

  pub left_or_right : (xs ys : List A) (z : A) → In z (xs ++ ys) → In z xs ⊎ In z ys
  left_or_right [] ys z k = inr k
  left_or_right (x ∷ xs) ys z (inl e) = inl (inl e)
  left_or_right (x ∷ xs) ys z (inr k) = ⊎_elim (λ l. inl (inr l)) (λ l. inr l) (left_or_right xs ys z k)

-- all combinations
abbrev cross : {A B C : Type 0} → (A → B → C) → List A → List B → List C
cross f [] ys = []
cross f (x ∷ xs) ys = map (f x) ys ++ cross f xs ys

in_cross : {A B C : Type 0} (f : A → B → C) (xs : List A) (ys : List B) (x : A) (y : B) → In x xs → In y ys → In (f x y) (cross f xs ys)
in_cross f [] ys x y k l = absurd k
in_cross {A} f (z ∷ zs) ys x y (inl e) l =
    in_left (map (f z) ys) (cross f zs ys) (f x y) (subst (λ (w : A). In (f w y) (map (f z) ys)) (sym e) (in_map (f z) ys y l))
in_cross f (z ∷ zs) ys x y (inr k) l = in_right (map (f z) ys) (cross f zs ys) (f x y) (in_cross f zs ys x y k l)

-- all parts of a list, in its order
abbrev parts : {A : Type 0} → List A → List (List A)
parts [] = [] ∷ []
parts (x ∷ xs) = map (λ ys. x ∷ ys) (parts xs) ++ parts xs

module _ {A : Type 0} (le : A → A → Bool) (trans : (x y z : A) → le x y ≡ true → le y z ≡ true → le x z ≡ true) where
  abbrev Strictly : A → A → Type 0
  Strictly x y = (le x y ≡ true) × (le y x ≡ false)

  strictly_before : (y : A) (zs : List A) → Before le y zs → (z : A) → In z zs → Strictly y z
  strictly_before y [] b z k = absurd k
  strictly_before y (w ∷ ws) b z (inl e) = subst (λ (v : A). Strictly y v) (sym e) b.0
  strictly_before y (w ∷ ws) b z (inr k) = strictly_before y ws b.1 z k

  strictly_trans : (x y z : A) → Strictly x y → Strictly y z → Strictly x z
  strictly_trans x y z p q =
      (trans x y z p.0 q.0, ⊎_elim (λ on. absurd (both_ways (le z y) q.1 (trans z x y on p.0))) (λ off. off) (cases_Bool (le z x)))

  no_part : (ys : List A) → In [] (parts ys)
  no_part [] = inl refl
  no_part (y ∷ ys) = in_right (map (λ l. y ∷ l) (parts ys)) (parts ys) [] (no_part ys)

  later : (y z : A) (ys : List A) → Strictly y z → In z (y ∷ ys) → In z ys
  later y z ys s (inl e) =
      let t : Strictly y y = subst (λ (w : A). Strictly y w) e s in
      absurd (both_ways (le y y) t.1 t.0)
  later y z ys s (inr k) = k

  -- an ascending list of elements of another is a part of it
  ascending_part : (ys xs : List A) → Ascending le ys → Ascending le xs → ((z : A) → In z xs → In z ys) → In xs (parts ys)
  ascending_part [] [] a b f = inl refl
  ascending_part [] (x ∷ xs) a b f = absurd (f x (inl refl))
  ascending_part (y ∷ ys) [] a b f = no_part (y ∷ ys)
  ascending_part (y ∷ ys) (x ∷ xs) a b f =
      ⊎_elim
      (λ e. let t : In xs (parts ys) = ascending_part ys xs a.1 b.1
      (λ z q. later y z ys (subst (λ (w : A). Strictly w z) e (strictly_before x xs b.0 z q)) (f z (inr q))) in
      in_left (map (λ l. y ∷ l) (parts ys)) (parts ys) (x ∷ xs)
      (subst (λ (w : A). In (w ∷ xs) (map (λ l. y ∷ l) (parts ys))) (sym e) (in_map (λ (l : List A). y ∷ l) (parts ys) xs t)))
      (λ q. let s : Strictly y x = strictly_before y ys a.0 x q in
      in_right (map (λ l. y ∷ l) (parts ys)) (parts ys) (x ∷ xs)
      (ascending_part ys (x ∷ xs) a.1 b
      (λ z l. ⊎_elim (λ e. subst (λ (w : A). In w ys) (sym e) q)
      (λ m. later y z ys (strictly_trans y x z s (strictly_before x xs b.0 z m)) (f z (inr m))) l)))
      (f x (inl refl))

-- a number of each rule in the slots
abbrev numbers_of : (Rule → ℕ) → List (Option Rule) → List ℕ
numbers_of f [] = []
numbers_of f (None ∷ slots) = numbers_of f slots
numbers_of f (Some r ∷ slots) = f r ∷ numbers_of f slots

in_numbers : (f : Rule → ℕ) (slots : List (Option Rule)) (r : Rule) → In (Some r) slots → In (f r) (numbers_of f slots)
in_numbers f [] r k = absurd k
in_numbers f (None ∷ slots) r (inl e) = absurd (none-some r (sym e))
in_numbers f (None ∷ slots) r (inr k) = in_numbers f slots r k
in_numbers f (Some s ∷ slots) r (inl e) = inl (ap f (same_Some r s e))
in_numbers f (Some s ∷ slots) r (inr k) = inr (in_numbers f slots r k)

abbrev symbols_of : List (Option Rule) → List ℕ
symbols_of slots = numbers_of (λ r. r.upper) slots ++ numbers_of (λ r. r.lower) slots

upper_in : (slots : List (Option Rule)) (r : Rule) → In (Some r) slots → In r.upper (symbols_of slots)
upper_in slots r k = in_left (numbers_of (λ r. r.upper) slots) (numbers_of (λ r. r.lower) slots) r.upper (in_numbers (λ (r : Rule). r.upper) slots r k)

lower_in : (slots : List (Option Rule)) (r : Rule) → In (Some r) slots → In r.lower (symbols_of slots)
lower_in slots r k = in_right (numbers_of (λ r. r.upper) slots) (numbers_of (λ r. r.lower) slots) r.lower (in_numbers (λ (r : Rule). r.lower) slots r k)

abbrev paired : ℕ → ℕ → Pair
paired x y = record { station = x; manual = y }

module _ (station manual : List (Option Rule)) where
  abbrev all_states : List Pair
  all_states = cross paired (numbers_of (λ r. r.next) station) (numbers_of (λ r. r.next) manual)

  abbrev all_symbols : List Pair
  all_symbols = cross paired (symbols_of station) (symbols_of manual)

  abbrev all_pairs : List Pairs
  all_pairs = Zero ∷ (map (λ p. One p) all_symbols ++ cross (λ u l. Two u l) all_symbols all_symbols)

  abbrev combined : List Member
  combined = cross (λ (s : Pair) (ps : Pairs). record { states = s; symbols = ps }) all_states all_pairs

  abbrev all_members : List Member
  all_members = put_in combined []

  -- pairs of symbols that the rules push
  abbrev Pushable : Pairs → Type 0
  Pushable Zero = Unit {0}
  Pushable (One p) = In p all_symbols
  Pushable (Two u l) = In u all_symbols × In l all_symbols

  pushable_in : (ps : Pairs) → Pushable ps → In ps all_pairs
  pushable_in Zero k = inl refl
  pushable_in (One p) k =
      inr (in_left (map (λ p. One p) all_symbols) (cross (λ u l. Two u l) all_symbols all_symbols) (One p) (in_map (λ (p : Pair). One p) all_symbols p k))
  pushable_in (Two u l) k =
      inr (in_right (map (λ p. One p) all_symbols) (cross (λ u l. Two u l) all_symbols all_symbols) (Two u l)
      (in_cross (λ (u l : Pair). Two u l) all_symbols all_symbols u l k.0 k.1))

  below_pushable : (ps : Pairs) → Pushable ps → Pushable (below_top ps)
  below_pushable Zero k = tt
  below_pushable (One p) k = tt
  below_pushable (Two u l) k = k.1

  both_pushable : (k : Option Kind) (r s : Rule) → In (Some r) station → In (Some s) manual → Pushable (pushed_pairs k r s)
  both_pushable (Some Open) r s i j = (
    in_cross paired (symbols_of station) (symbols_of manual) r.upper s.upper (upper_in station r i) (upper_in manual s j),
    in_cross paired (symbols_of station) (symbols_of manual) r.lower s.lower (lower_in station r i) (lower_in manual s j),
  )
  both_pushable (Some Step) r s i j = in_cross paired (symbols_of station) (symbols_of manual) r.upper s.upper (upper_in station r i) (upper_in manual s j)
  both_pushable (Some Close) r s i j = tt
  both_pushable None r s i j = tt

  record Reachable (m : Member) : Type 0 where
    states : In m.states all_states
    symbols : Pushable m.symbols

  reachable_in : (m : Member) → Reachable m → In m all_members
  reachable_in m t =
      put_has combined [] m
      (in_cross (λ (s : Pair) (ps : Pairs). record { states = s; symbols = ps }) all_states all_pairs m.states m.symbols t.states (pushable_in m.symbols t.symbols))

  both_reachable : (k : Option Kind) (r s : Rule) → In (Some r) station → In (Some s) manual → Reachable (record { states = paired r.next s.next; symbols = pushed_pairs k r s })
  both_reachable k r s i j = record {
    states = in_cross paired (numbers_of (λ r. r.next) station) (numbers_of (λ r. r.next) manual) r.next s.next (in_numbers (λ (r : Rule). r.next) station r i) (in_numbers (λ (r : Rule). r.next) manual s j);
    symbols = both_pushable k r s i j;
  }

  leads_reachable : (kinds : ℕ → Option Kind) (side : Side) (r s : Rule) → In (Some r) (of_attacker side station manual) → In (Some s) (of_replier side station manual) →
      Reachable (leads_to kinds side r s)
  leads_reachable kinds by_station r s i j = both_reachable (kinds r.event) r s i j
  leads_reachable kinds by_manual r s i j = both_reachable (kinds r.event) s r j i

  abbrev all_heads : Head → List Head
  all_heads start = start ∷ cross (λ (s x : Pair). record { states = s; symbols = x }) all_states all_symbols

  -- every row of such heads and members
  abbrev pub universe : Head → List AttackRow
  universe start = cross (λ (h : Head) (ms : List Member). record { head = h; members = ms }) (all_heads start) (parts all_members)

  top_in : (start : Head) (states : Pair) (ps : Pairs) (h : Head) → In states all_states → Pushable ps → top_under states ps ≡ Some h → In h (all_heads start)
  top_in start states Zero h k l e = absurd (none-some h e)
  top_in start states (One p) h k l e =
      subst (λ (x : Head). In x (all_heads start)) (same_Some (record { states = states; symbols = p }) h e)
      (inr (in_cross (λ (s x : Pair). record { states = s; symbols = x }) all_states all_symbols states p k l))
  top_in start states (Two u d) h k l e =
      subst (λ (x : Head). In x (all_heads start)) (same_Some (record { states = states; symbols = u }) h e)
      (inr (in_cross (λ (s x : Pair). record { states = s; symbols = x }) all_states all_symbols states u k l.0))

module _ (kinds : ℕ → Option Kind) (station manual : List (Option Rule)) (start : Head) where
  record Within (row : AttackRow) : Type 0 where
    head : In row.head (all_heads station manual start)
    members : (m : Member) → In m row.members → Reachable station manual m

  enter_within : (side : Side) (r : Rule) (h : Head) → In h (all_heads station manual start) → Attack station manual side r (head_on h [] []) → Within (entered kinds station manual side r h)
  enter_within side r h k t = record {
    head = k;
    members = λ m l. let (s, q, e) = entered_from kinds station manual side r h m l in
        subst (λ (x : Member). Reachable station manual x) (sym e) (leads_reachable station manual kinds side r s t.0 q.0);
  }

  join_within : (i j k : AttackRow) → Within i → Within j → Joins i j k → Within k
  join_within i j k wi wj t = record {
    head = subst (λ (x : AttackRow). In x.head (all_heads station manual start)) (sym t.gives) wi.head;
    members = λ m q. ⊎_elim
        (λ u. wi.members m (subst (λ (ms : List Member). In m ms) (sym t.members) (in_front m t.front t.last u)))
        (λ u. let (y, l, e) = from_map (with_pairs (below_top t.last.symbols)) j.members m u in
        subst (λ (x : Member). Reachable station manual x) (sym e) (record { states = (wj.members y l).states; symbols = below_pushable station manual t.last.symbols last_in.symbols }))
        ((join_members i j k t m).0 q);
  }
    where
      last_in : Reachable station manual t.last
      last_in = wi.members t.last (subst (λ (ms : List Member). In t.last ms) (sym t.members) (in_last t.front t.last))

  within : (row : AttackRow) → Derivable kinds station manual start row → Within row
  within row (enter_start side r t) = enter_within side r start (inl refl) t
  within row (enter_top from m h side r d k e t) =
      enter_within side r h (top_in station manual start m.states m.symbols h ((within from d).members m k).states ((within from d).members m k).symbols e) t
  within row (join i j k d e t) = join_within i j k (within i d) (within j e) t

  pub derivable_in_universe : (row : AttackRow) → Derivable kinds station manual start row → In row (universe station manual start)
  derivable_in_universe row d =
      let w = within row d in
      in_cross (λ (h : Head) (ms : List Member). record { head = h; members = ms }) (all_heads station manual start) (parts (all_members station manual)) row.head row.members w.head
      (ascending_part member_le member_transitive (all_members station manual) row.members
      (put_ascending (combined station manual) [] tt) (derivable_ascends kinds station manual start row d)
      (λ m k. reachable_in station manual m (w.members m k)))
