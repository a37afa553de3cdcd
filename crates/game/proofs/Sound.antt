-- Every derivable row means what a row means.
use Rattle.std.proofs.Common.{◌≡◌, ℕ, ◌+◌, max, true, List, [], ◌∷◌, ◌++◌, map, Some, None, Option, sym, refl, ap, ◌∙◌, subst, inl, inr, ⊎_elim, add-one, arith}
use Rattle.std.proofs.lemmas.Option.{none-some, same_Some}
use Rattle.std.proofs.lemmas.Bool.{and_from, and_parts, eq-eqb, eqb-true}
use Rattle.ordered.specs.Laws.{In}
use Rattle.profile.specs.declared.Kind.{Kind}
use Rattle.profile.specs.declared.Kind.TheVariants.{Open, Step, Close}
use Rattle.profile.specs.declared.Rule.{Rule}
use Rattle.game.specs.declared.Pair.{Pair}
use Rattle.game.specs.declared.Head.{Head}
use Rattle.game.specs.declared.Pairs.{Pairs}
use Rattle.game.specs.declared.Pairs.TheVariants.{Zero, One, Two}
use Rattle.game.specs.declared.Member.{Member}
use Rattle.game.specs.Members.{AttackRow, top_under, top_of, below_top}
use Rattle.game.specs.Systems.{pushed}
use Rattle.game.specs.Game.{Position, Side, by_station, by_manual, of_replier, outcome, Attack, Reply, Wins, AttackerWins}
use Rattle.game.specs.Rows.{station_on, manual_on, member_on, head_on, starts, pushed_pairs, leads_to, answers, entered, with_pairs, put_in, Joins, Derivable, enter_start, enter_top, join, rounds, MeansWithin, Means, refuting}
use Rattle.game.proofs.Sets.{in_map, front_or_last}
use Rattle.game.proofs.Gathering.{gathered_has, put_has, put_keeps}
use Rattle.game.proofs.Defence.{wins_more}

station_pushes : (k : Option Kind) (r s : Rule) (a : List ℕ) → pushed k r ++ a ≡ station_on (pushed_pairs k r s) a
station_pushes (Some Open) r s a = refl
station_pushes (Some Step) r s a = refl
station_pushes (Some Close) r s a = refl
station_pushes None r s a = refl

manual_pushes : (k : Option Kind) (r s : Rule) (b : List ℕ) → pushed k s ++ b ≡ manual_on (pushed_pairs k r s) b
manual_pushes (Some Open) r s b = refl
manual_pushes (Some Step) r s b = refl
manual_pushes (Some Close) r s b = refl
manual_pushes None r s b = refl

-- where an attack and its reply lead, on any stacks below, is the member
pub leads_there : (kinds : ℕ → Option Kind) (side : Side) (r s : Rule) (h : Head) (a b : List ℕ) → s.event ≡ r.event →
    outcome kinds side r s (head_on h a b) ≡ member_on (leads_to kinds side r s) a b
leads_there kinds by_station r s h a b e =
    let q : pushed (kinds s.event) s ++ b ≡ manual_on (pushed_pairs (kinds r.event) r s) b =
    ap (λ (x : ℕ). pushed (kinds x) s ++ b) e ∙ manual_pushes (kinds r.event) r s b in
    λ i. record {
      station = record { state = r.next; stack = station_pushes (kinds r.event) r s a i };
      manual = record { state = s.next; stack = q i };
    }
leads_there kinds by_manual r s h a b e =
    let q : pushed (kinds s.event) s ++ a ≡ station_on (pushed_pairs (kinds r.event) s r) a =
    ap (λ (x : ℕ). pushed (kinds x) s ++ a) e ∙ station_pushes (kinds r.event) s r a in
    λ i. record {
      station = record { state = s.next; stack = q i };
      manual = record { state = r.next; stack = manual_pushes (kinds r.event) s r b i };
    }

module _ (station manual : List (Option Rule)) where
  -- what lies below matters neither to an attack nor to a reply
  pub attack_on : (side : Side) (r : Rule) (h : Head) (a b c d : List ℕ) → Attack station manual side r (head_on h a b) → Attack station manual side r (head_on h c d)
  attack_on by_station r h a b c d t = t
  attack_on by_manual r h a b c d t = t

  pub reply_on : (side : Side) (r s : Rule) (h : Head) (a b c d : List ℕ) → Reply station manual side r s (head_on h a b) → Reply station manual side r s (head_on h c d)
  reply_on by_station r s h a b c d t = t
  reply_on by_manual r s h a b c d t = t

  -- a reply at a head, as a proposition and as a test
  pub answers_shown : (side : Side) (r s : Rule) (h : Head) → Reply station manual side r s (head_on h [] []) → answers side r h s ≡ true
  answers_shown by_station r s h t = and_from _ _ t.1 (and_from _ _ (eq-eqb s.event r.event t.2) t.3)
  answers_shown by_manual r s h t = and_from _ _ t.1 (and_from _ _ (eq-eqb s.event r.event t.2) t.3)

  pub answers_means : (side : Side) (r s : Rule) (h : Head) → In (Some s) (of_replier side station manual) → answers side r h s ≡ true → Reply station manual side r s (head_on h [] [])
  answers_means by_station r s h k t =
      let p = and_parts _ _ t in
      let q = and_parts _ _ p.1 in
      (k, p.0, eqb-true s.event r.event q.0, q.1)
  answers_means by_manual r s h k t =
      let p = and_parts _ _ t in
      let q = and_parts _ _ p.1 in
      (k, p.0, eqb-true s.event r.event q.0, q.1)

-- a member whose top is h is that head, on what lies below the upper pair
under_top : (states : Pair) (pairs : Pairs) (h : Head) (a b : List ℕ) → top_under states pairs ≡ Some h →
    member_on (record { states = states; symbols = pairs }) a b ≡ head_on h (station_on (below_top pairs) a) (manual_on (below_top pairs) b)
under_top states Zero h a b e = absurd (none-some h e)
under_top states (One p) h a b e =
    ap (λ (x : Head). head_on x a b) (same_Some (record { states = states; symbols = p }) h e)
under_top states (Two u l) h a b e =
    ap (λ (x : Head). head_on x (l.station ∷ a) (l.manual ∷ b)) (same_Some (record { states = states; symbols = u }) h e)

pub top_is_head : (m : Member) (h : Head) (a b : List ℕ) → top_of m ≡ Some h →
    member_on m a b ≡ head_on h (station_on (below_top m.symbols) a) (manual_on (below_top m.symbols) b)
top_is_head m h a b e = under_top m.states m.symbols h a b e

module _ (kinds : ℕ → Option Kind) (station manual : List (Option Rule)) (start : Head) where
  abbrev W : ℕ → Position → Type 0
  W = Wins kinds station manual

  -- the reply's member is in the row
  pub reply_in_row : (side : Side) (r s : Rule) (h : Head) → Reply station manual side r s (head_on h [] []) →
      In (leads_to kinds side r s) (entered kinds station manual side r h).members
  reply_in_row side r s h t =
      gathered_has (answers side r h) (leads_to kinds side r) (of_replier side station manual) [] s t.0 (answers_shown station manual side r s h t)

  enter_means : (side : Side) (r : Rule) (h : Head) → Attack station manual side r (head_on h [] []) →
      MeansWithin kinds station manual 1 (entered kinds station manual side r h)
  enter_means side r h t k a b wins =
      subst (λ (n : ℕ). W n (head_on h a b)) (sym (add-one k)) (
        side,
        r,
        attack_on station manual side r h [] [] a b t,
        λ s q.
            subst (λ (pos : Position). W k pos) (sym (leads_there kinds side r s h a b q.2))
            (wins (leads_to kinds side r s) (reply_in_row side r s h (reply_on station manual side r s h a b [] [] q))),
      )

  join_means : (i j k : AttackRow) (m n : ℕ) → MeansWithin kinds station manual m i → MeansWithin kinds station manual n j → Joins i j k →
      MeansWithin kinds station manual (m + n) k
  join_means i j k m n mi mj t rounds a b wins =
      subst (λ (x : ℕ). W x (head_on k.head a b)) (let z : (rounds + n) + m ≡ rounds + (m + n) = omega arith in z)
      (subst (λ (h : Head). W ((rounds + n) + m) (head_on h a b)) (sym (ap (λ (x : AttackRow). x.head) t.gives)) (mi (rounds + n) a b each))
    where
      rest : Pairs
      rest = below_top t.last.symbols

      among : (x : Member) → In x (put_in (map (with_pairs (below_top t.last.symbols)) j.members) t.front) → W rounds (member_on x a b)
      among x q = wins x (subst (λ (y : AttackRow). In x y.members) (sym t.gives) q)

      -- a member of j, which has no pair, on what lies below the last member's top
      lower : (x : Member) → In x j.members →
          W rounds (member_on x (station_on (below_top t.last.symbols) a) (manual_on (below_top t.last.symbols) b))
      lower x q =
          let w : W rounds (member_on (with_pairs (below_top t.last.symbols) x) a b) =
          among (with_pairs (below_top t.last.symbols) x)
          (put_has (map (with_pairs (below_top t.last.symbols)) j.members) t.front (with_pairs (below_top t.last.symbols) x)
          (in_map (with_pairs (below_top t.last.symbols)) j.members x q)) in
          subst (λ (ps : Pairs). W rounds (member_on (record { states = x.states; symbols = ps }) (station_on (below_top t.last.symbols) a) (manual_on (below_top t.last.symbols) b)))
          (sym (t.pairless x q)) w

      last_wins : W (rounds + n) (member_on t.last a b)
      last_wins =
          subst (λ (pos : Position). W (rounds + n) pos) (sym (top_is_head t.last j.head a b t.top))
          (mj rounds (station_on (below_top t.last.symbols) a) (manual_on (below_top t.last.symbols) b) lower)

      each : (x : Member) → In x i.members → W (rounds + n) (member_on x a b)
      each x q =
          ⊎_elim (λ f. wins_more kinds station manual rounds (rounds + n) (member_on x a b) (omega arith)
          (among x (put_keeps (map (with_pairs (below_top t.last.symbols)) j.members) t.front x f)))
          (λ e. subst (λ (y : Member). W (rounds + n) (member_on y a b)) (sym e) last_wins)
          (front_or_last x t.front t.last (subst (λ (ms : List Member). In x ms) t.members q))

  pub means_within : {row : AttackRow} (d : Derivable kinds station manual start row) → MeansWithin kinds station manual (rounds kinds station manual start d) row
  means_within (enter_start side r t) = enter_means side r start t
  means_within (enter_top row m h side r d q e t) = enter_means side r h t
  means_within (join i j k d e t) =
      join_means i j k (rounds kinds station manual start d) (rounds kinds station manual start e) (means_within d) (means_within e) t

  -- one number of rounds for all members
  uniform : (a b : List ℕ) (ms : List Member) → ((m : Member) → In m ms → AttackerWins kinds station manual (member_on m a b)) →
      (k : ℕ) × ((m : Member) → In m ms → W k (member_on m a b))
  uniform a b [] h = (0, λ m k. absurd k)
  uniform a b (n ∷ ns) h =
      let (k, w) = h n (inl refl) in
      let (l, v) = uniform a b ns (λ m i. h m (inr i)) in (
        max k l,
        λ m i. ⊎_elim
            (λ p. wins_more kinds station manual k (max k l) (member_on m a b) (omega arith) (subst (λ (x : Member). W k (member_on x a b)) (sym p) w))
            (λ q. wins_more kinds station manual l (max k l) (member_on m a b) (omega arith) (v m q)) i,
      )

  pub means : (row : AttackRow) → Derivable kinds station manual start row → Means kinds station manual row
  means row d a b wins =
      let (k, w) = uniform a b row.members wins in
      (k + rounds kinds station manual start d, means_within d k a b w)

  pub refuting_wins : Derivable kinds station manual start (refuting start) → AttackerWins kinds station manual (starts start)
  refuting_wins d = means (refuting start) d [] [] (λ m k. absurd k)
