-- The derivable rows are the least closed set, and a closed list of them decides the game.
use Rattle.std.proofs.Common.{◌≡◌, ℕ, Bool, true, false, ◌&&◌, ◌⊎◌, List, [], ◌∷◌, map, Option, sym, refl, subst, inl, inr, ⊎_elim}
use Rattle.std.proofs.lemmas.Bool.{and_parts, and_from, cases_Bool, both_ways, false≢true}
use Rattle.ordered.specs.Laws.{In, Ascending}
use Rattle.profile.specs.declared.Kind.{Kind}
use Rattle.profile.specs.declared.Rule.{Rule}
use Rattle.game.specs.declared.Head.{Head}
use Rattle.game.specs.declared.Member.{Member}
use Rattle.game.specs.Members.{AttackRow, below_top, member_le}
use Rattle.game.specs.Systems.{ExactlyWhen}
use Rattle.game.specs.Game.{Side, of_replier, Attack, AttackerWins}
use Rattle.game.specs.Rows.{head_on, starts, leads_to, answers, entered, with_pairs, Joins, CalledFor, Closed, Derivable, enter_start, enter_top, join, refuting}
use Rattle.game.specs.Computed.{any_of, head_eq}
use Rattle.game.specs.Theorems.{Refines, Saturated}
use Rattle.game.proofs.Sets.{front_ascending}
use Rattle.game.proofs.Gathering.{gathered_ascending, put_ascending, put_from, put_has, put_keeps}
use Rattle.game.proofs.Testing.{any_has, any_holds, head_eq_means, head_eq_shown}
use Rattle.game.proofs.Defence.{never_wins}
use Rattle.game.proofs.Sound.{refuting_wins}
use Rattle.game.proofs.Relating.{relation}
use Rattle.game.proofs.Completing.{relation_refines, relation_holds_starts}

abbrev none_of : List Member → Bool
none_of [] = true
none_of (m ∷ ms) = false

none_means : (ms : List Member) → none_of ms ≡ true → ms ≡ []
none_means [] e = refl
none_means (m ∷ ms) e = absurd (false≢true e)

-- whether a row is the refuting one
abbrev refutes : Head → AttackRow → Bool
refutes start row = head_eq row.head start && none_of row.members

refutes_means : (start : Head) (row : AttackRow) → refutes start row ≡ true → row ≡ refuting start
refutes_means start row e =
    let (p, q) = and_parts (head_eq row.head start) (none_of row.members) e in
    λ i. record { head = head_eq_means row.head start p i; members = none_means row.members q i }

-- a list has the refuting row or not
pub refuting_or_not : (start : Head) (rows : List AttackRow) → In (refuting start) rows ⊎ (In (refuting start) rows → ⊥)
refuting_or_not start rows = ⊎_elim found missed (cases_Bool (any_of (refutes start) rows))
  where
    found : any_of (refutes start) rows ≡ true → In (refuting start) rows ⊎ (In (refuting start) rows → ⊥)
    found e =
        let (row, k, t) = any_has (refutes start) rows e in
        inl (subst (λ (x : AttackRow). In x rows) (refutes_means start row t) k)

    missed : any_of (refutes start) rows ≡ false → In (refuting start) rows ⊎ (In (refuting start) rows → ⊥)
    missed e = inr (λ k. both_ways (any_of (refutes start) rows) e
        (any_holds (refutes start) rows (refuting start) k (and_from _ _ (head_eq_shown start start refl) refl)))

-- the members of a join's row
abbrev pub lowered : {i j k : AttackRow} → Joins i j k → List Member
lowered {i} {j} {k} t = map (with_pairs (below_top t.last.symbols)) j.members

pub join_ascends : (i j k : AttackRow) → Joins i j k → Ascending member_le i.members → Ascending member_le k.members
join_ascends i j k t a =
    subst (λ (x : AttackRow). Ascending member_le x.members) (sym t.gives)
    (put_ascending (lowered t) t.front (front_ascending member_le t.front t.last (subst (λ (ms : List Member). Ascending member_le ms) t.members a)))

pub join_members : (i j k : AttackRow) (t : Joins i j k) (m : Member) → ExactlyWhen (In m k.members) (In m t.front ⊎ In m (lowered t))
join_members i j k t m = (
  (λ q. ⊎_elim (λ v. inr v) (λ v. inl v) (put_from (lowered t) t.front m (subst (λ (x : AttackRow). In m x.members) t.gives q))),
  (λ q. subst (λ (x : AttackRow). In m x.members) (sym t.gives) (⊎_elim (λ v. put_keeps (lowered t) t.front m v) (λ v. put_has (lowered t) t.front m v) q)),
)

module _ (kinds : ℕ → Option Kind) (station manual : List (Option Rule)) (start : Head) where
  enter_derivable : (h : Head) (side : Side) (r : Rule) → CalledFor start (Derivable kinds station manual start) h → Attack station manual side r (head_on h [] []) →
      Derivable kinds station manual start (entered kinds station manual side r h)
  enter_derivable h side r (inl e) t =
      subst (λ (k : Head). Attack station manual side r (head_on k [] []) → Derivable kinds station manual start (entered kinds station manual side r k)) (sym e)
      (λ u. enter_start side r u) t
  enter_derivable h side r (inr (row, d, m, k, e)) t = enter_top row m h side r d k e t

  pub derivable_closed : Closed kinds station manual start (Derivable kinds station manual start)
  derivable_closed = record { enters = enter_derivable; joins = λ i j k d e t. join i j k d e t }

  -- least, among sets of any propositions, and so among lists
  pub derivable_least : (S : AttackRow → Type 0) → Closed kinds station manual start S → (row : AttackRow) → Derivable kinds station manual start row → S row
  derivable_least S c row (enter_start side r t) = c.enters start side r (inl refl) t
  derivable_least S c row (enter_top from m h side r d k e t) = c.enters h side r (inr (from, derivable_least S c from d, m, k, e)) t
  derivable_least S c row (join i j k d e t) = c.joins i j k (derivable_least S c i d) (derivable_least S c j e) t

  pub ascending_closed : Closed kinds station manual start (λ row. Ascending member_le row.members)
  ascending_closed = record {
    enters = λ h side r k t. gathered_ascending (answers side r h) (leads_to kinds side r) (of_replier side station manual) [] tt;
    joins = λ i j k a b t. join_ascends i j k t a;
  }

  pub derivable_ascends : (row : AttackRow) → Derivable kinds station manual start row → Ascending member_le row.members
  derivable_ascends = derivable_least (λ row. Ascending member_le row.members) ascending_closed

  pub refinement_or_win : Refines kinds station manual start → AttackerWins kinds station manual (starts start) → ⊥
  refinement_or_win (R, f, h) w = never_wins kinds station manual (λ pos. R pos ≡ true) f w.0 (starts start) h w.1

  module _ (rows : List AttackRow) (all : Saturated kinds station manual start rows) where
    pub refuted_wins : In (refuting start) rows → AttackerWins kinds station manual (starts start)
    refuted_wins k = refuting_wins kinds station manual start (all.derivable (refuting start) k)

    pub not_refuted_refines : (In (refuting start) rows → ⊥) → Refines kinds station manual start
    not_refuted_refines n =
        (relation start rows, relation_refines kinds station manual start rows all.closed, relation_holds_starts kinds station manual start rows all.closed n)

    pub wins_refuted : AttackerWins kinds station manual (starts start) → In (refuting start) rows
    wins_refuted w = ⊎_elim (λ k. k) (λ n. absurd (refinement_or_win (not_refuted_refines n) w)) (refuting_or_not start rows)

    abbrev pub Refuted : Type 0
    Refuted = In (refuting start) rows × AttackerWins kinds station manual (starts start) × (Refines kinds station manual start → ⊥)

    abbrev pub NotRefuted : Type 0
    NotRefuted = (In (refuting start) rows → ⊥) × Refines kinds station manual start × (AttackerWins kinds station manual (starts start) → ⊥)

    pub decide : Refuted ⊎ NotRefuted
    decide =
        ⊎_elim (λ k. inl (k, refuted_wins k, λ f. refinement_or_win f (refuted_wins k)))
        (λ n. let f = not_refuted_refines n in inr (n, f, refinement_or_win f))
        (refuting_or_not start rows)
