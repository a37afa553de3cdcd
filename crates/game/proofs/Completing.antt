-- A closed list of rows without the refuting one gives a modal refinement relation that holds the starts.
use Rattle.std.proofs.Common.{◌≡◌, ℕ, zero, suc, ◌<◌, ◌≤◌, Bool, true, false, cond, not, ◌||◌, ltb, List, [], ◌∷◌, ◌++◌, map, Some, None, Option, sym, refl, ap, ◌∙◌, subst, inl, inr, ⊎_elim, arith}
use Rattle.std.proofs.lemmas.Bool.{and_from, or_left, or_right, cases_Bool, cases_lt, not_from_false, both_ways, false≢true, lt-ltb, le-ltb, cond_both, cond-false}
use Rattle.ordered.specs.Insert.{insert_into}
use Rattle.ordered.specs.Laws.{In, Ascending}
use Rattle.profile.specs.declared.Kind.{Kind}
use Rattle.profile.specs.declared.Kind.TheVariants.{Open, Step, Close}
use Rattle.profile.specs.declared.Rule.{Rule}
use Rattle.game.specs.declared.Pair.{Pair}
use Rattle.game.specs.declared.Head.{Head}
use Rattle.game.specs.declared.Pairs.{Pairs}
use Rattle.game.specs.declared.Pairs.TheVariants.{Zero, One, Two}
use Rattle.game.specs.declared.Member.{Member}
use Rattle.game.specs.Members.{AttackRow, top_of, top_under, below_top, pair_count, member_le}
use Rattle.game.specs.Game.{Position, Side, by_station, by_manual, of_replier, Attack, Reply, outcome, ModalRefinement}
use Rattle.game.specs.Rows.{station_on, manual_on, member_on, head_on, starts, pushed_pairs, leads_to, answers, entered, Pairless, with_pairs, put_in, Closed, refuting}
use Rattle.game.specs.Computed.{any_of, all_of, called_for}
use Rattle.game.specs.Order.{earlier_has_no_more_pairs}
use Rattle.game.proofs.Sets.{in_front, in_last, front_or_last, split_last, from_map, front_ascending, before_last}
use Rattle.game.proofs.Gathering.{gathered_ascending, gathered_from, put_ascending, put_from}
use Rattle.game.proofs.Sound.{leads_there, attack_on, reply_on, answers_means, top_is_head}
use Rattle.game.proofs.Testing.{any_has, any_none, all_holds, head_eq_shown}
use Rattle.game.proofs.Relating.{returns_from, returns_means, related, relation, row_of_failure, rows_where_held}

-- how many members have more than n pairs
abbrev over : ℕ → List Member → ℕ
over n [] = 0
over n (m ∷ ms) = cond (ltb n (pair_count m.symbols)) (suc (over n ms)) (over n ms)

over_last : (n : ℕ) (ms : List Member) (m : Member) → n < pair_count m.symbols → over n (ms ++ m ∷ []) ≡ suc (over n ms)
over_last n [] m l = rw (lt-ltb n (pair_count m.symbols) l)
over_last n (x ∷ xs) m l =
    elim (ltb n (pair_count x.symbols)) as (λ b. cond b (suc (over n (xs ++ m ∷ []))) (over n (xs ++ m ∷ [])) ≡ suc (cond b (suc (over n xs)) (over n xs)))
    [ true ↦ ap suc (over_last n xs m l) | false ↦ over_last n xs m l ]

over_inserted : (n : ℕ) (m : Member) (ms : List Member) → pair_count m.symbols ≤ n → over n (insert_into member_le m ms) ≡ over n ms
over_inserted n m [] l = rw (le-ltb n (pair_count m.symbols) l)
over_inserted n m (x ∷ xs) l =
    cond_both (member_le m x) (cond (member_le x m) (x ∷ xs) (m ∷ x ∷ xs)) (x ∷ insert_into member_le m xs) (λ s. over n s ≡ over n (x ∷ xs))
    (λ _. cond_both (member_le x m) (x ∷ xs) (m ∷ x ∷ xs) (λ s. over n s ≡ over n (x ∷ xs))
    (λ _. refl)
    (λ _. cond-false (ltb n (pair_count m.symbols)) (suc (over n (x ∷ xs))) (over n (x ∷ xs)) (le-ltb n (pair_count m.symbols) l)))
    (λ _. ap (λ (k : ℕ). cond (ltb n (pair_count x.symbols)) (suc k) k) (over_inserted n m xs l))

over_put : (n : ℕ) (xs ms : List Member) → ((m : Member) → In m xs → pair_count m.symbols ≤ n) → over n (put_in xs ms) ≡ over n ms
over_put n [] ms h = refl
over_put n (x ∷ xs) ms h =
    over_put n xs (insert_into member_le x ms) (λ m k. h m (inr k)) ∙ over_inserted n x ms (h x (inl refl))

-- no pair, and a top
none_left : (ps : Pairs) → pair_count ps ≤ 0 → ps ≡ Zero
none_left Zero l = refl
none_left (One p) l = absurd (omega arith)
none_left (Two u d) l = absurd (omega arith)

has_top : (states : Pair) (ps : Pairs) (n : ℕ) → n < pair_count ps → (h : Head) × (top_under states ps ≡ Some h)
has_top states Zero n l = absurd (omega arith)
has_top states (One p) n l = (record { states = states; symbols = p }, refl)
has_top states (Two u d) n l = (record { states = states; symbols = u }, refl)

fewer_below : (ps : Pairs) (n : ℕ) → pair_count ps ≤ suc n → pair_count (below_top ps) ≤ n
fewer_below Zero n l = omega arith
fewer_below (One p) n l = omega arith
fewer_below (Two u d) n l = omega arith

-- no member has more than n pairs
abbrev AtMost : ℕ → List Member → Type 0
AtMost n ms = (m : Member) → In m ms → pair_count m.symbols ≤ n

module _ (kinds : ℕ → Option Kind) (station manual : List (Option Rule)) (start : Head) (rows : List AttackRow) (closed : Closed kinds station manual start (λ row. In row rows)) (h : Head) (a b : List ℕ) where
  -- a held row of the head h, no member of which is related on the stacks a and b
  record Unrelated (ms : List Member) : Type 0 where
    held : In (record { head = h; members = ms }) rows
    ascending : Ascending member_le ms
    none : (m : Member) → In m ms → relation start rows (member_on m a b) ≡ false

  -- one join: the last member, with more than n pairs, gives way to members with at most n
  record Joined (n : ℕ) (front : List Member) : Type 0 where
    members : List Member
    unrelated : Unrelated members
    most : AtMost (suc n) members
    fewer : over n members ≤ over n front

  join_at_last : (n : ℕ) (front : List Member) (last : Member) → Unrelated (front ++ last ∷ []) → AtMost (suc n) (front ++ last ∷ []) →
      (top : Head) → top_of last ≡ Some top → Joined n front
  join_at_last n front last u most top is =
      let rest : Pairs = below_top last.symbols in
      let off : relation start rows (head_on top (station_on rest a) (manual_on rest b)) ≡ false =
      subst (λ (pos : Position). relation start rows pos ≡ false) (top_is_head last top a b is) (u.none last (in_last front last)) in
      let (j, k, same, bare, none) = row_of_failure start rows top (station_on rest a) (manual_on rest b)
      (inr (record { head = h; members = front ++ last ∷ [] }, u.held, last, in_last front last, is)) off in
      let new : List Member = map (with_pairs rest) j.members in
      let short : AtMost n new = λ m q. let (y, l, p) = from_map (with_pairs rest) j.members m q in
      subst (λ (x : Member). pair_count x.symbols ≤ n) (sym p) (fewer_below last.symbols n (most last (in_last front last))) in
      record {
        members = put_in new front;
        unrelated = record {
          held = closed.joins (record { head = h; members = front ++ last ∷ [] }) j (record { head = h; members = put_in new front }) u.held k
              (record { front = front; last = last; members = refl; top = subst (λ (t : Head). top_of last ≡ Some t) (sym same) is; pairless = bare; gives = refl });
          ascending = put_ascending new front (front_ascending member_le front last u.ascending);
          none = λ m q. ⊎_elim
              (λ v. let (y, l, p) = from_map (with_pairs rest) j.members m v in
              subst (λ (x : Member). relation start rows (member_on x a b) ≡ false) (sym p) (none y l))
              (λ v. u.none m (in_front m front last v))
              (put_from new front m q);
        };
        most = λ m q. ⊎_elim (λ v. let s : pair_count m.symbols ≤ n = short m v in omega arith) (λ v. most m (in_front m front last v)) (put_from new front m q);
        fewer = let s = over_put n new front short in omega arith;
      }

  module _ (some : (j : AttackRow) → In j rows → j.head ≡ h → Pairless j.members → (m : Member) × In m j.members × (related start rows a b m.states.station m.states.manual ≡ true)) where
    -- there is no such row whose members have at most n pairs
    abbrev NoneWith : ℕ → Type 0
    NoneWith n = (ms : List Member) → Unrelated ms → AtMost n ms → ⊥

    none_without_pairs : NoneWith zero
    none_without_pairs ms u most =
        let bare : Pairless ms = λ m k. none_left m.symbols (most m k) in
        let (m, k, t) = some (record { head = h; members = ms }) u.held refl bare in
        both_ways (related start rows a b m.states.station m.states.manual)
        (subst (λ (ps : Pairs). related start rows (station_on ps a) (manual_on ps b) m.states.station m.states.manual ≡ false) (bare m k) (u.none m k)) t

    -- one turn, at the last member
    turn : (n : ℕ) → NoneWith n → (front : List Member) (last : Member) → Unrelated (front ++ last ∷ []) → AtMost (suc n) (front ++ last ∷ []) →
        (over n (front ++ last ∷ []) ≡ suc (over n front) → Joined n front → ⊥) → ⊥
    turn n none front last u most next = ⊎_elim high low (cases_lt n (pair_count last.symbols))
      where
        high : n < pair_count last.symbols → ⊥
        high l = let (top, is) = has_top last.states last.symbols n l in next (over_last n front last l) (join_at_last n front last u most top is)

        low : pair_count last.symbols ≤ n → ⊥
        low l = none (front ++ last ∷ []) u (λ m k. ⊎_elim
            (λ q. let z = earlier_has_no_more_pairs m last (before_last member_le front last u.ascending m q) in omega arith)
            (λ e. subst (λ (x : Member). pair_count x.symbols ≤ n) (sym e) l)
            (front_or_last m front last k))

    -- as many turns as there are members with more than n pairs
    turns : (n : ℕ) → NoneWith n → (c : ℕ) (ms : List Member) → over n ms ≤ c → Unrelated ms → AtMost (suc n) ms → ⊥
    turns n none zero [] l u most = none [] u (λ m k. absurd k)
    turns n none (suc c) [] l u most = none [] u (λ m k. absurd k)
    turns n none zero (x ∷ xs) l u most =
        let (front, last, e) = split_last x xs in
        turn n none front last (subst (λ (ms : List Member). Unrelated ms) e u) (subst (λ (ms : List Member). AtMost (suc n) ms) e most)
        (λ s _. let z : over n (front ++ last ∷ []) ≤ 0 = subst (λ (ms : List Member). over n ms ≤ 0) e l in omega arith)
    turns n none (suc c) (x ∷ xs) l u most =
        let (front, last, e) = split_last x xs in
        turn n none front last (subst (λ (ms : List Member). Unrelated ms) e u) (subst (λ (ms : List Member). AtMost (suc n) ms) e most)
        (λ s t. let z : over n (front ++ last ∷ []) ≤ suc c = subst (λ (ms : List Member). over n ms ≤ suc c) e l in
        let y : over n t.members ≤ over n front = t.fewer in
        turns n none c t.members (omega arith) t.unrelated t.most)

    none_at_all : (n : ℕ) → NoneWith n
    none_at_all zero = none_without_pairs
    none_at_all (suc n) = λ ms u most. turns n (none_at_all n) (over n ms) ms (omega arith) u most

pushed_at_most_two : (k : Option Kind) (r s : Rule) → pair_count (pushed_pairs k r s) ≤ 2
pushed_at_most_two (Some Open) r s = omega arith
pushed_at_most_two (Some Step) r s = omega arith
pushed_at_most_two (Some Close) r s = omega arith
pushed_at_most_two None r s = omega arith

leads_to_at_most_two : (kinds : ℕ → Option Kind) (side : Side) (r s : Rule) → pair_count (leads_to kinds side r s).symbols ≤ 2
leads_to_at_most_two kinds by_station r s = pushed_at_most_two (kinds r.event) r s
leads_to_at_most_two kinds by_manual r s = pushed_at_most_two (kinds r.event) s r

-- a member of an enter's row is what some reply leads to
pub entered_from : (kinds : ℕ → Option Kind) (station manual : List (Option Rule)) (side : Side) (r : Rule) (h : Head) (m : Member) →
    In m (entered kinds station manual side r h).members → (s : Rule) × Reply station manual side r s (head_on h [] []) × (m ≡ leads_to kinds side r s)
entered_from kinds station manual side r h m k =
    ⊎_elim (λ n. absurd n)
    (λ (t : (s : Rule) × In (Some s) (of_replier side station manual) × (answers side r h s ≡ true) × (m ≡ leads_to kinds side r s)).
    (t.0, answers_means station manual side r t.0 h t.1 t.2, t.3))
    (gathered_from (answers side r h) (leads_to kinds side r) (of_replier side station manual) [] m k)

abbrev position : List ℕ → List ℕ → ℕ → ℕ → Position
position a b p q = record { station = record { state = p; stack = a }; manual = record { state = q; stack = b } }

-- on two empty stacks nobody attacks
no_attack : (station manual : List (Option Rule)) (side : Side) (r : Rule) (p q : ℕ) → Attack station manual side r (position [] [] p q) → ⊥
no_attack station manual by_station r p q t = false≢true t.2
no_attack station manual by_manual r p q t = false≢true t.2

module _ (kinds : ℕ → Option Kind) (station manual : List (Option Rule)) (start : Head) (rows : List AttackRow) (closed : Closed kinds station manual start (λ row. In row rows)) where
  abbrev Replied : Side → Rule → Position → Type 0
  Replied side r pos = (s : Rule) × Reply station manual side r s pos × (relation start rows (outcome kinds side r s pos) ≡ true)

  at_head : (h : Head) (a b : List ℕ) → relation start rows (head_on h a b) ≡ true → (side : Side) (r : Rule) → Attack station manual side r (head_on h a b) →
      Replied side r (head_on h a b)
  at_head h a b e side r t = ⊎_elim some none (cases_Bool (any_of (λ m. relation start rows (member_on m a b)) (entered kinds station manual side r h).members))
    where
      some : any_of (λ m. relation start rows (member_on m a b)) (entered kinds station manual side r h).members ≡ true → Replied side r (head_on h a b)
      some y =
          let (m, k, v) = any_has (λ (m : Member). relation start rows (member_on m a b)) (entered kinds station manual side r h).members y in
          let (s, q, p) = entered_from kinds station manual side r h m k in (
            s,
            reply_on station manual side r s h [] [] a b q,
            subst (λ (pos : Position). relation start rows pos ≡ true) (sym (leads_there kinds side r s h a b q.2))
                (subst (λ (x : Member). relation start rows (member_on x a b) ≡ true) p v),
          )

      none : any_of (λ m. relation start rows (member_on m a b)) (entered kinds station manual side r h).members ≡ false → Replied side r (head_on h a b)
      none n =
          let known = rows_where_held start rows h a b e in
          absurd (none_at_all kinds station manual start rows closed h a b known.1 2 (entered kinds station manual side r h).members
          (record {
            held = closed.enters h side r known.0 (attack_on station manual side r h a b [] [] t);
            ascending = gathered_ascending (answers side r h) (leads_to kinds side r) (of_replier side station manual) [] tt;
            none = any_none (λ (m : Member). relation start rows (member_on m a b)) (entered kinds station manual side r h).members n;
          })
          (λ m k. let (s, q, p) = entered_from kinds station manual side r h m k in
          subst (λ (x : Member). pair_count x.symbols ≤ 2) (sym p) (leads_to_at_most_two kinds side r s)))

  at_stacks : (a b : List ℕ) (p q : ℕ) → relation start rows (position a b p q) ≡ true → (side : Side) (r : Rule) → Attack station manual side r (position a b p q) →
      Replied side r (position a b p q)
  at_stacks [] [] p q e side r t = absurd (no_attack station manual side r p q t)
  at_stacks [] (y ∷ b) p q e side r t = absurd (false≢true e)
  at_stacks (x ∷ a) [] p q e side r t = absurd (false≢true e)
  at_stacks (x ∷ a) (y ∷ b) p q e side r t =
      at_head (record { states = record { station = p; manual = q }; symbols = record { station = x; manual = y } }) a b e side r t

  pub relation_refines : ModalRefinement kinds station manual (relation start rows)
  relation_refines pos e side r t = at_stacks pos.station.stack pos.manual.stack pos.station.state pos.manual.state e side r t

  pub relation_holds_starts : (In (refuting start) rows → ⊥) → relation start rows (starts start) ≡ true
  relation_holds_starts never =
      and_from (called_for start rows start) (all_of test rows) (or_left _ _ (head_eq_shown start start refl)) (all_holds test rows each)
    where
      test : AttackRow → Bool
      test row = not (returns_from start row) || any_of (λ m. true) row.members

      some : (head : Head) (ms : List Member) → In (record { head = head; members = ms }) rows → head ≡ start → any_of {A = Member} (λ m. true) ms ≡ true
      some head [] k e = absurd (never (subst (λ (x : Head). In (record { head = x; members = [] }) rows) e k))
      some head (m ∷ ms) k e = refl

      each : (row : AttackRow) → In row rows → test row ≡ true
      each row k =
          ⊎_elim (λ y. or_right (not (returns_from start row)) (any_of (λ m. true) row.members) (some row.head row.members k (returns_means start row y).0))
          (λ n. or_left (not (returns_from start row)) (any_of (λ m. true) row.members) (not_from_false (returns_from start row) n))
          (cases_Bool (returns_from start row))
