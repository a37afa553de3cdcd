-- The computed tests and the computed join say what the definitions say.
use Rattle.std.proofs.Common.{◌≡◌, Bool, true, false, ◌&&◌, List, [], ◌∷◌, ◌++◌, map, Some, None, Option, sym, refl, ap, ◌∙◌, subst, inl, inr, ⊎_elim}
use Rattle.std.proofs.lemmas.Option.{none-some, same_Some}
use Rattle.std.proofs.lemmas.Bool.{and_parts, and_from, and_cases, or_cases, or_parts, or_left, or_right, false≢true, cond-true, cond_both}
use Rattle.ordered.specs.Laws.{In}
use Rattle.game.specs.declared.Head.{Head}
use Rattle.game.specs.declared.Pairs.{Pairs}
use Rattle.game.specs.declared.Pairs.TheVariants.{Zero, One, Two}
use Rattle.game.specs.declared.Member.{Member}
use Rattle.game.specs.Members.{AttackRow, top_of, below_top}
use Rattle.game.specs.Rows.{Pairless, with_pairs, put_in, Joins, CalledFor}
use Rattle.game.specs.Sameness.{head_eq_decides}
use Rattle.game.specs.Computed.{any_of, all_of, head_eq, is_top, tops_row, called_for, is_zero, pairless, front_of, last_of, joined_last, joined_members, joined}

module _ {A : Type 0} (test : A → Bool) where
  pub any_has : (xs : List A) → any_of test xs ≡ true → (x : A) × In x xs × (test x ≡ true)
  any_has [] e = absurd (false≢true e)
  any_has (y ∷ ys) e =
      ⊎_elim (λ h. (y, inl refl, h)) (λ h. let r = any_has ys h in (r.0, inr r.1, r.2)) (or_cases (test y) (any_of test ys) e)

  pub any_holds : (xs : List A) (x : A) → In x xs → test x ≡ true → any_of test xs ≡ true
  any_holds [] x k e = absurd k
  any_holds (y ∷ ys) x (inl p) e = or_left (test y) (any_of test ys) (ap test (sym p) ∙ e)
  any_holds (y ∷ ys) x (inr k) e = or_right (test y) (any_of test ys) (any_holds ys x k e)

  pub any_none : (xs : List A) → any_of test xs ≡ false → (x : A) → In x xs → test x ≡ false
  any_none [] e x k = absurd k
  any_none (y ∷ ys) e x (inl p) = ap test p ∙ (or_parts (test y) (any_of test ys) e).0
  any_none (y ∷ ys) e x (inr k) = any_none ys (or_parts (test y) (any_of test ys) e).1 x k

  pub all_has : (xs : List A) → all_of test xs ≡ true → (x : A) → In x xs → test x ≡ true
  all_has [] e x k = absurd k
  all_has (y ∷ ys) e x (inl p) = ap test p ∙ (and_parts (test y) (all_of test ys) e).0
  all_has (y ∷ ys) e x (inr k) = all_has ys (and_parts (test y) (all_of test ys) e).1 x k

  pub all_holds : (xs : List A) → ((x : A) → In x xs → test x ≡ true) → all_of test xs ≡ true
  all_holds [] h = refl
  all_holds (y ∷ ys) h = and_from (test y) (all_of test ys) (h y (inl refl)) (all_holds ys (λ x k. h x (inr k)))

  pub all_fails : (xs : List A) → all_of test xs ≡ false → (x : A) × In x xs × (test x ≡ false)
  all_fails [] e = absurd (false≢true (sym e))
  all_fails (y ∷ ys) e =
      ⊎_elim (λ h. (y, inl refl, h)) (λ h. let r = all_fails ys h in (r.0, inr r.1, r.2)) (and_cases (test y) (all_of test ys) e)

pub head_eq_means : (h k : Head) → head_eq h k ≡ true → h ≡ k
head_eq_means h k = (head_eq_decides h k).0

pub head_eq_shown : (h k : Head) → h ≡ k → head_eq h k ≡ true
head_eq_shown h k = (head_eq_decides h k).1

is_top_means : (h : Head) (t : Option Head) → is_top h t ≡ true → t ≡ Some h
is_top_means h None e = absurd (false≢true e)
is_top_means h (Some k) e = ap (λ (x : Head). Some x) (head_eq_means k h e)

is_top_shown : (h : Head) (t : Option Head) → t ≡ Some h → is_top h t ≡ true
is_top_shown h t e = subst (λ (x : Option Head). is_top h x ≡ true) (sym e) (head_eq_shown h h refl)

pub called_for_means : (start : Head) (rows : List AttackRow) (h : Head) → called_for start rows h ≡ true → CalledFor start (λ row. In row rows) h
called_for_means start rows h e =
    ⊎_elim (λ p. inl (sym (head_eq_means start h p)))
    (λ p.
    let (row, k, q) = any_has (tops_row h) rows p in
    let (m, l, t) = any_has (λ (m : Member). is_top h (top_of m)) row.members q in
    inr (row, k, m, l, is_top_means h (top_of m) t))
    (or_cases (head_eq start h) (any_of (tops_row h) rows) e)

pub called_for_shown : (start : Head) (rows : List AttackRow) (h : Head) → CalledFor start (λ row. In row rows) h → called_for start rows h ≡ true
called_for_shown start rows h (inl e) = or_left _ _ (head_eq_shown start h (sym e))
called_for_shown start rows h (inr (row, k, m, l, t)) =
    or_right (head_eq start h) _
    (any_holds (tops_row h) rows row k (any_holds (λ (m : Member). is_top h (top_of m)) row.members m l (is_top_shown h (top_of m) t)))

is_zero_means : (ps : Pairs) → is_zero ps ≡ true → ps ≡ Zero
is_zero_means Zero e = refl
is_zero_means (One p) e = absurd (false≢true e)
is_zero_means (Two u l) e = absurd (false≢true e)

pub pairless_means : (ms : List Member) → pairless ms ≡ true → Pairless ms
pairless_means ms e m k = is_zero_means m.symbols (all_has (λ (m : Member). is_zero m.symbols) ms e m k)

pub pairless_shown : (ms : List Member) → Pairless ms → pairless ms ≡ true
pairless_shown ms f = all_holds (λ (m : Member). is_zero m.symbols) ms (λ m k. subst (λ (ps : Pairs). is_zero ps ≡ true) (sym (f m k)) refl)

-- a list that is not empty, taken apart
whole : (m : Member) (ms : List Member) → ◌≡◌ {A = List Member} (m ∷ ms) (front_of m ms ++ last_of m ms ∷ [])
whole m [] = refl
whole m (n ∷ ns) = ap (λ (l : List Member). m ∷ l) (whole n ns)

front_put : (x : Member) (xs : List Member) (m : Member) → front_of x (xs ++ m ∷ []) ≡ x ∷ xs
front_put x [] m = refl
front_put x (y ∷ ys) m = ap (λ (l : List Member). x ∷ l) (front_put y ys m)

last_put : (x : Member) (xs : List Member) (m : Member) → last_of x (xs ++ m ∷ []) ≡ m
last_put x [] m = refl
last_put x (y ∷ ys) m = last_put y ys m

pub members_put : (h : Head) (front : List Member) (last : Member) (j : AttackRow) → joined_members h (front ++ last ∷ []) j ≡ joined_last h front last j
members_put h [] last j = refl
members_put h (x ∷ xs) last j = λ i. joined_last h (front_put x xs last i) (last_put x xs last i) j

abbrev made : Head → List Member → Member → AttackRow → AttackRow
made h front last j = record { head = h; members = put_in (map (with_pairs (below_top last.symbols)) j.members) front }

pub join_computed : (i j k : AttackRow) → Joins i j k → joined i j ≡ Some k
join_computed i j k t =
    ap (λ (ms : List Member). joined_members i.head ms j) t.members ∙
    members_put i.head t.front t.last j ∙
    cond-true (is_top j.head (top_of t.last) && pairless j.members) (Some (made i.head t.front t.last j)) None
    (and_from _ _ (is_top_shown j.head (top_of t.last) t.top) (pairless_shown j.members t.pairless)) ∙
    ap (λ (x : AttackRow). Some x) (sym t.gives)

by_last : (i j k : AttackRow) (front : List Member) (last : Member) → i.members ≡ front ++ last ∷ [] → joined_last i.head front last j ≡ Some k → Joins i j k
by_last i j k front last e =
    cond_both (is_top j.head (top_of last) && pairless j.members) (Some (made i.head front last j)) None (λ (x : Option AttackRow). x ≡ Some k → Joins i j k)
    (λ on h. let p = and_parts (is_top j.head (top_of last)) (pairless j.members) on in
    record {
      front = front;
      last = last;
      members = e;
      top = is_top_means j.head (top_of last) p.0;
      pairless = pairless_means j.members p.1;
      gives = sym (same_Some (made i.head front last j) k h);
    })
    (λ _ h. absurd (none-some k h))

by_members : (i j k : AttackRow) (ms : List Member) → i.members ≡ ms → joined_members i.head ms j ≡ Some k → Joins i j k
by_members i j k [] e h = absurd (none-some k h)
by_members i j k (m ∷ ms) e h = by_last i j k (front_of m ms) (last_of m ms) (e ∙ whole m ms) h

pub computed_joins : (i j k : AttackRow) → joined i j ≡ Some k → Joins i j k
computed_joins i j k h = by_members i j k i.members refl h
