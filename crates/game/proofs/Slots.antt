-- What is derivable depends only on which may rules and which must rules there are.
use Rattle.std.proofs.Common.{◌≡◌, ℕ, true, List, [], ◌∷◌, Some, None, Option, sym, refl, ap, ◌∙◌, subst, inl, inr, rules}
use Rattle.ordered.specs.Laws.{In}
use Rattle.ordered.proofs.Orders.{same_elements_same_list}
use Rattle.profile.specs.declared.Mode.TheVariants.{May, Must}
use Rattle.profile.specs.declared.Kind.{Kind}
use Rattle.profile.specs.declared.Kind.TheVariants.{Open, Step, Close}
use Rattle.profile.specs.declared.Rule.{Rule}
use Rattle.profile.specs.Rules.{rule_key}
use Rattle.game.specs.declared.Head.{Head}
use Rattle.game.specs.declared.Pairs.{Pairs}
use Rattle.game.specs.declared.Member.{Member}
use Rattle.game.specs.Members.{AttackRow, member_le}
use Rattle.profile.specs.Profiles.{Allows, Demands, SomeSlot, MayRule, MustRule}
use Rattle.game.specs.Systems.{Configuration, SameRules}
use Rattle.game.specs.Game.{Position, Side, by_station, by_manual, of_attacker, of_replier, playable, matches, applies, Attack, Reply}
use Rattle.game.specs.Rows.{head_on, starts, pushed_pairs, leads_to, answers, entered, Derivable, enter_start, enter_top, join}
use Rattle.game.proofs.Gathering.{gathered_ascending}
use Rattle.game.proofs.Sound.{reply_in_row}
use Rattle.game.proofs.Completing.{entered_from}
use Rattle.game.proofs.Transitions.{must_means, must_shown}

-- a rule with the mode set aside: as a may rule
abbrev bare : Rule → Rule
bare r = record { mode = May; state = r.state; top = r.top; event = r.event; next = r.next; upper = r.upper; lower = r.lower }

same_bare : (r s : Rule) → rule_key r ≡ rule_key s → bare r ≡ bare s
same_bare r s e = search rules

bare_pairs : (k : Option Kind) (r s : Rule) → pushed_pairs k (bare r) (bare s) ≡ pushed_pairs k r s
bare_pairs (Some Open) r s = refl
bare_pairs (Some Step) r s = refl
bare_pairs (Some Close) r s = refl
bare_pairs None r s = refl

bare_leads : (kinds : ℕ → Option Kind) (side : Side) (r s : Rule) → leads_to kinds side (bare r) (bare s) ≡ leads_to kinds side r s
bare_leads kinds by_station r s =
    ap (λ (ps : Pairs). record { states = record { station = r.next; manual = s.next }; symbols = ps }) (bare_pairs (kinds r.event) r s)
bare_leads kinds by_manual r s =
    ap (λ (ps : Pairs). record { states = record { station = s.next; manual = r.next }; symbols = ps }) (bare_pairs (kinds r.event) s r)

same_leads : (kinds : ℕ → Option Kind) (side : Side) (r r' s s' : Rule) → rule_key r ≡ rule_key r' → rule_key s ≡ rule_key s' →
    leads_to kinds side r s ≡ leads_to kinds side r' s'
same_leads kinds side r r' s s' e f =
    sym (bare_leads kinds side r s) ∙ (λ i. leads_to kinds side (same_bare r r' e i) (same_bare s s' f i)) ∙ bare_leads kinds side r' s'

bare_matches : (r : Rule) (p : ℕ) (xs : List ℕ) → matches (bare r) p xs ≡ matches r p xs
bare_matches r p [] = refl
bare_matches r p (x ∷ xs) = refl

same_applies : (r r' : Rule) (c : Configuration) → rule_key r ≡ rule_key r' → applies r c ≡ true → applies r' c ≡ true
same_applies r r' c e t =
    sym (bare_matches r' c.state c.stack) ∙ ap (λ (x : Rule). applies x c) (sym (same_bare r r' e)) ∙ bare_matches r c.state c.stack ∙ t

same_event : (r r' : Rule) → rule_key r ≡ rule_key r' → r.event ≡ r'.event
same_event r r' e = ap (λ (x : Rule). x.event) (same_bare r r' e)

-- a slot that is so, and which one it is
some_slot : (P : Option Rule → Type 0) (slots : List (Option Rule)) (o : Option Rule) → In o slots → P o → SomeSlot P slots
some_slot P [] o k h = k
some_slot P (q ∷ slots) o (inl e) h = inl (subst P e h)
some_slot P (q ∷ slots) o (inr k) h = inr (some_slot P slots o k h)

allowed_by : (slots : List (Option Rule)) (r : Rule) → MayRule slots r → (s : Rule) × In (Some s) slots × (rule_key s ≡ rule_key r)
allowed_by [] r h = absurd h
allowed_by (None ∷ slots) r (inl h) = absurd h
allowed_by (Some s ∷ slots) r (inl e) = (s, inl refl, e)
allowed_by (o ∷ slots) r (inr h) = let p = allowed_by slots r h in (p.0, inr p.1, p.2)

demanded_by : (slots : List (Option Rule)) (r : Rule) → MustRule slots r → (s : Rule) × In (Some s) slots × (s.mode ≡ Must) × (rule_key s ≡ rule_key r)
demanded_by [] r h = absurd h
demanded_by (None ∷ slots) r (inl h) = absurd h
demanded_by (Some s ∷ slots) r (inl e) = (s, inl refl, e.0, e.1)
demanded_by (o ∷ slots) r (inr h) = let p = demanded_by slots r h in (p.0, inr p.1, p.2, p.3)

-- the rule of the same key that the other slots play for it
record Counterpart (side : Side) (others : List (Option Rule)) (r : Rule) : Type 0 where
  rule : Rule
  there : In (Some rule) others
  plays : playable side rule ≡ true
  same : rule_key r ≡ rule_key rule

counterpart : (side : Side) (slots others : List (Option Rule)) → SameRules slots others → (r : Rule) → In (Some r) slots → playable side r ≡ true → Counterpart side others r
counterpart by_station slots others same r k p =
    let q = allowed_by others r ((same.may r).0 (some_slot (Allows r) slots (Some r) k refl)) in
    record { rule = q.0; there = q.1; plays = refl; same = sym q.2 }
counterpart by_manual slots others same r k p =
    let q = demanded_by others r ((same.must r).0 (some_slot (Demands r) slots (Some r) k (must_means r.mode p, refl))) in
    record { rule = q.0; there = q.1; plays = must_shown q.0.mode q.2; same = sym q.3 }

pub turned : (slots others : List (Option Rule)) → SameRules slots others → SameRules others slots
turned slots others same = record { may = λ r. ((same.may r).1, (same.may r).0); must = λ r. ((same.must r).1, (same.must r).0) }

module _ (station station' manual manual' : List (Option Rule)) (ss : SameRules station station') (ms : SameRules manual manual') where
  of_attackers : (side : Side) → SameRules (of_attacker side station manual) (of_attacker side station' manual')
  of_attackers by_station = ss
  of_attackers by_manual = ms

  of_repliers : (side : Side) → SameRules (of_replier side station manual) (of_replier side station' manual')
  of_repliers by_station = ms
  of_repliers by_manual = ss

  same_attack : (side : Side) (r : Rule) (pos : Position) → Attack station manual side r pos → (r' : Rule) × Attack station' manual' side r' pos × (rule_key r ≡ rule_key r')
  same_attack side r pos t =
      let c = counterpart side (of_attacker side station manual) (of_attacker side station' manual') (of_attackers side) r t.0 t.1 in
      (c.rule, (c.there, c.plays, same_applies r c.rule (of_attacker side pos.station pos.manual) c.same t.2), c.same)

  same_reply : (side : Side) (r r' s : Rule) (pos : Position) → rule_key r ≡ rule_key r' → Reply station manual side r s pos →
      (s' : Rule) × Reply station' manual' side r' s' pos × (rule_key s ≡ rule_key s')
  same_reply side r r' s pos e t =
      let c = counterpart side (of_replier side station manual) (of_replier side station' manual') (of_repliers side) s t.0 t.1 in (
        c.rule,
        (
          c.there,
          c.plays,
          sym (same_event s c.rule c.same) ∙ t.2 ∙ same_event r r' e,
          same_applies s c.rule (of_replier side pos.station pos.manual) c.same t.3,
        ),
        c.same,
      )

  same_members : (kinds : ℕ → Option Kind) (start : Head) (side : Side) (r r' : Rule) (h : Head) → rule_key r ≡ rule_key r' → (m : Member) →
      In m (entered kinds station manual side r h).members → In m (entered kinds station' manual' side r' h).members
  same_members kinds start side r r' h e m k =
      let (s, reply, is) = entered_from kinds station manual side r h m k in
      let (s', reply', f) = same_reply side r r' s (head_on h [] []) e reply in
      subst (λ (x : Member). In x (entered kinds station' manual' side r' h).members) (sym (is ∙ same_leads kinds side r r' s s' e f))
      (reply_in_row kinds station' manual' start side r' s' h reply')

module _ (kinds : ℕ → Option Kind) (station station' manual manual' : List (Option Rule)) (start : Head) (ss : SameRules station station') (ms : SameRules manual manual') where
  same_row : (side : Side) (r r' : Rule) (h : Head) → rule_key r ≡ rule_key r' → entered kinds station' manual' side r' h ≡ entered kinds station manual side r h
  same_row side r r' h e =
      ap (λ (l : List Member). record { head = h; members = l })
      (same_elements_same_list member_le (entered kinds station' manual' side r' h).members (entered kinds station manual side r h).members
      (gathered_ascending (answers side r' h) (leads_to kinds side r') (of_replier side station' manual') [] tt)
      (gathered_ascending (answers side r h) (leads_to kinds side r) (of_replier side station manual) [] tt)
      (same_members station' station manual' manual (turned station station' ss) (turned manual manual' ms) kinds start side r' r h (sym e))
      (same_members station station' manual manual' ss ms kinds start side r r' h e))

  pub derivable_there : (row : AttackRow) → Derivable kinds station manual start row → Derivable kinds station' manual' start row
  derivable_there row (enter_start side r t) =
      let (r', t', e) = same_attack station station' manual manual' ss ms side r (starts start) t in
      subst (λ (x : AttackRow). Derivable kinds station' manual' start x) (same_row side r r' start e) (enter_start side r' t')
  derivable_there row (enter_top from m h side r d k f t) =
      let (r', t', e) = same_attack station station' manual manual' ss ms side r (head_on h [] []) t in
      subst (λ (x : AttackRow). Derivable kinds station' manual' start x) (same_row side r r' h e)
      (enter_top from m h side r' (derivable_there from d) k f t')
  derivable_there row (join i j k d e t) = join i j k (derivable_there i d) (derivable_there j e) t
