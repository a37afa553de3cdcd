-- The numbers of derivable rows: states below 8 and symbols below 16, where those of the rules and the starts are.
use Rattle.std.proofs.Common.{◌≡◌, ℕ, ◌<◌, List, [], ◌∷◌, ◌++◌, Some, None, Option, sym, subst, inl, inr, ⊎_elim, arith}
use Rattle.std.proofs.lemmas.Option.{none-some, same_Some}
use Rattle.ordered.specs.Laws.{In}
use Rattle.profile.specs.declared.Kind.{Kind}
use Rattle.profile.specs.declared.Kind.TheVariants.{Open, Step, Close}
use Rattle.profile.specs.declared.Rule.{Rule}
use Rattle.profile.specs.Rules.{LawfulRule}
use Rattle.profile.specs.Profiles.{LawfulSlot, LawfulSlots}
use Rattle.game.specs.declared.Pair.{Pair}
use Rattle.game.specs.declared.Head.{Head}
use Rattle.game.specs.declared.Pairs.{Pairs}
use Rattle.game.specs.declared.Pairs.TheVariants.{Zero, One, Two}
use Rattle.game.specs.declared.Member.{Member}
use Rattle.game.specs.Members.{AttackRow, top_under, top_of, below_top}
use Rattle.game.specs.Game.{Side, by_station, by_manual, of_attacker, of_replier, Attack}
use Rattle.game.specs.Rows.{head_on, pushed_pairs, leads_to, entered, with_pairs, Joins, CalledFor, Closed, Derivable}
use Rattle.game.proofs.Sets.{in_front, in_last, from_map}
use Rattle.game.proofs.Completing.{entered_from}
use Rattle.game.proofs.Deciding.{derivable_least, join_members, lowered}

abbrev pub Below : ℕ → Pair → Type 0
Below n p = (p.station < n) × (p.manual < n)

abbrev pub SmallPairs : Pairs → Type 0
SmallPairs Zero = Unit {0}
SmallPairs (One p) = Below 16 p
SmallPairs (Two upper lower) = Below 16 upper × Below 16 lower

abbrev pub SmallHead : Head → Type 0
SmallHead h = Below 8 h.states × Below 16 h.symbols

abbrev pub SmallMember : Member → Type 0
SmallMember m = Below 8 m.states × SmallPairs m.symbols

-- the head and every member of a row
pub record SmallRow (row : AttackRow) : Type 0 where
  pub head : SmallHead row.head
  pub members : (m : Member) → In m row.members → SmallMember m

pub rule_in_slots_lawful : (kinds : ℕ → Option Kind) (slots : List (Option Rule)) (r : Rule) → LawfulSlots kinds slots → In (Some r) slots → LawfulRule kinds r
rule_in_slots_lawful kinds [] r l k = absurd k
rule_in_slots_lawful kinds (s ∷ slots) r l (inl e) = subst (λ (x : Option Rule). LawfulSlot kinds x) (sym e) l.0
rule_in_slots_lawful kinds (s ∷ slots) r l (inr k) = rule_in_slots_lawful kinds slots r l.1 k

below_top_small : (ps : Pairs) → SmallPairs ps → SmallPairs (below_top ps)
below_top_small Zero s = tt
below_top_small (One p) s = tt
below_top_small (Two u l) s = s.1

top_under_small : (states : Pair) (ps : Pairs) (h : Head) → Below 8 states → SmallPairs ps → top_under states ps ≡ Some h → SmallHead h
top_under_small states Zero h b s e = absurd (none-some h e)
top_under_small states (One p) h b s e = subst (λ (x : Head). SmallHead x) (same_Some (record { states = states; symbols = p }) h e) (b, s)
top_under_small states (Two u l) h b s e = subst (λ (x : Head). SmallHead x) (same_Some (record { states = states; symbols = u }) h e) (b, s.0)

pub top_small : (m : Member) (h : Head) → SmallMember m → top_of m ≡ Some h → SmallHead h
top_small m h s e = top_under_small m.states m.symbols h s.0 s.1 e

pushed_small : (kinds : ℕ → Option Kind) (k : Option Kind) (r s : Rule) → LawfulRule kinds r → LawfulRule kinds s → SmallPairs (pushed_pairs k r s)
pushed_small kinds (Some Open) r s a b = ((a.upper, b.upper), (a.lower, b.lower))
pushed_small kinds (Some Step) r s a b = (a.upper, b.upper)
pushed_small kinds (Some Close) r s a b = tt
pushed_small kinds None r s a b = tt

leads_to_small : (kinds : ℕ → Option Kind) (side : Side) (r s : Rule) → LawfulRule kinds r → LawfulRule kinds s → SmallMember (leads_to kinds side r s)
leads_to_small kinds by_station r s a b = ((a.next, b.next), pushed_small kinds (kinds r.event) r s a b)
leads_to_small kinds by_manual r s a b = ((b.next, a.next), pushed_small kinds (kinds r.event) s r b a)

module _ (kinds : ℕ → Option Kind) (station manual : List (Option Rule)) (start : Head)
    (lawful_station : LawfulSlots kinds station) (lawful_manual : LawfulSlots kinds manual) (small_start : SmallHead start) where
  attacker_lawful : (side : Side) → LawfulSlots kinds (of_attacker side station manual)
  attacker_lawful by_station = lawful_station
  attacker_lawful by_manual = lawful_manual

  replier_lawful : (side : Side) → LawfulSlots kinds (of_replier side station manual)
  replier_lawful by_station = lawful_manual
  replier_lawful by_manual = lawful_station

  -- a head that is called for by small rows is small
  pub called_for_small : (S : AttackRow → Type 0) → ((row : AttackRow) → S row → SmallRow row) → (h : Head) → CalledFor start S h → SmallHead h
  called_for_small S each h (inl e) = subst (λ (x : Head). SmallHead x) (sym e) small_start
  called_for_small S each h (inr (row, s, m, k, e)) = top_small m h ((each row s).members m k) e

  small_enters : (h : Head) (side : Side) (r : Rule) → CalledFor start SmallRow h → Attack station manual side r (head_on h [] []) → SmallRow (entered kinds station manual side r h)
  small_enters h side r c t = record {
    head = called_for_small SmallRow (λ row s. s) h c;
    members = λ m k.
        let (s, q, e) = entered_from kinds station manual side r h m k in
        subst (λ (x : Member). SmallMember x) (sym e)
        (leads_to_small kinds side r s
        (rule_in_slots_lawful kinds (of_attacker side station manual) r (attacker_lawful side) t.0)
        (rule_in_slots_lawful kinds (of_replier side station manual) s (replier_lawful side) q.0));
  }

  small_joins : (i j k : AttackRow) → SmallRow i → SmallRow j → Joins i j k → SmallRow k
  small_joins i j k a b t = record {
    head = subst (λ (x : AttackRow). SmallHead x.head) (sym t.gives) a.head;
    members = λ m q. ⊎_elim (front m) (back m) ((join_members i j k t m).0 q);
  }
    where
      of_first : (m : Member) → In m (t.front ++ t.last ∷ []) → SmallMember m
      of_first m q = a.members m (subst (λ (ms : List Member). In m ms) (sym t.members) q)

      front : (m : Member) → In m t.front → SmallMember m
      front m q = of_first m (in_front m t.front t.last q)

      back : (m : Member) → In m (lowered t) → SmallMember m
      back m q =
          let (x, l, e) = from_map (with_pairs (below_top t.last.symbols)) j.members m q in
          subst (λ (y : Member). SmallMember y) (sym e)
          ((b.members x l).0, below_top_small t.last.symbols (of_first t.last (in_last t.front t.last)).1)

  pub small_closed : Closed kinds station manual start SmallRow
  small_closed = record { enters = small_enters; joins = small_joins }

  pub derivable_small : (row : AttackRow) → Derivable kinds station manual start row → SmallRow row
  derivable_small = derivable_least kinds station manual start SmallRow small_closed

  -- a head that derivable rows call for
  pub derivable_calls_small : (h : Head) → CalledFor start (Derivable kinds station manual start) h → SmallHead h
  derivable_calls_small = called_for_small (Derivable kinds station manual start) derivable_small

  -- so its numbers are bytes
  pub derivable_calls_bytes : (h : Head) → CalledFor start (Derivable kinds station manual start) h → Below 256 h.states × Below 256 h.symbols
  derivable_calls_bytes h c =
      let s = derivable_calls_small h c in
      let a = s.0.0 in
      let b = s.0.1 in
      let d = s.1.0 in
      let e = s.1.1 in
      ((omega arith, omega arith), (omega arith, omega arith))
