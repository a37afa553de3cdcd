-- The law of a rule and its test say the same; a table's law follows from what its type keeps.
use Rattle.std.specs.Prelude.{◌≡◌, ℕ, zero, suc, ◌+◌, ◌<◌, ◌≤◌, Bool, true, false, List, [], ◌∷◌, map, length, take, Some, None, Ok, Err, Decides, Option, Result, nat_lt, slice_index_or, refl}
use Rattle.std.proofs.Common.{arith, sym, subst, ◌∙◌, inl, inr}
use Rattle.std.proofs.lemmas.Bool.{ltb-true, lt-ltb, eqb-true, eq-eqb, and_parts, and_from, both_ways}
use Rattle.std.proofs.lemmas.List.{length-take, length-take-le, get_or_past, length-map}
use Rattle.ordered.specs.Lex.{lex_le}
use Rattle.ordered.specs.declared.Unplaced.{Unplaced}
use Rattle.ordered.specs.declared.Unplaced.TheVariants.{Double, Full}
use Rattle.ordered.specs.Laws.{In, Placed, LawfulHolding}
use Rattle.ordered.proofs.Orders.{ascending_from_test, test_from_ascending}
use Rattle.profile.specs.declared.Kind.{Kind}
use Rattle.profile.specs.declared.Kind.TheVariants.{Open, Step, Close}
use Rattle.profile.specs.declared.Rule.{Rule}
use Rattle.profile.specs.Kinds.{event_kind}
use Rattle.profile.specs.Rules.{Formed, formed, LawfulRule, lawful_rule, all_lawful, rule_key, rule_le, rules_ascend}
use Rattle.profile.specs.Profiles.{LawfulSlots, LawfulProfile}
use Rattle.profile.specs.Tables.{LawfulTable}

formed_means : (k : Option Kind) (u l : ℕ) → formed k u l ≡ true → Formed k u l
formed_means None u l e = both_ways false refl e
formed_means (Some Open) u l e = tt
formed_means (Some Step) u l e = eqb-true l 0 e
formed_means (Some Close) u l e = let p = and_parts _ _ e in (eqb-true u 0 p.0, eqb-true l 0 p.1)

formed_shown : (k : Option Kind) (u l : ℕ) → Formed k u l → formed k u l ≡ true
formed_shown None u l f = absurd f
formed_shown (Some Open) u l f = refl
formed_shown (Some Step) u l f = eq-eqb l 0 f
formed_shown (Some Close) u l f = and_from _ _ (eq-eqb u 0 f.0) (eq-eqb l 0 f.1)

module _ (kinds : ℕ → Option Kind) where
  pub lawful_means : (r : Rule) → lawful_rule kinds r ≡ true → LawfulRule kinds r
  lawful_means r h =
      let a = and_parts (nat_lt r.state 8) _ h in
      let b = and_parts (nat_lt r.next 8) _ a.1 in
      let d = and_parts (nat_lt r.top 16) _ b.1 in
      let e = and_parts (nat_lt r.upper 16) _ d.1 in
      let f = and_parts (nat_lt r.lower 16) _ e.1 in
      record { state = ltb-true _ _ a.0; next = ltb-true _ _ b.0; top = ltb-true _ _ d.0; upper = ltb-true _ _ e.0; lower = ltb-true _ _ f.0; form = formed_means (kinds r.event) r.upper r.lower f.1 }

  pub lawful_shown : (r : Rule) → LawfulRule kinds r → lawful_rule kinds r ≡ true
  lawful_shown r l =
      and_from _ _ (lt-ltb _ _ l.state) (and_from _ _ (lt-ltb _ _ l.next) (and_from _ _ (lt-ltb _ _ l.top) (and_from _ _ (lt-ltb _ _ l.upper)
      (and_from _ _ (lt-ltb _ _ l.lower) (formed_shown (kinds r.event) r.upper r.lower l.form)))))

  pub lawful_decided : (b : Bool) (r : Rule) → b ≡ lawful_rule kinds r → Decides b (LawfulRule kinds r)
  lawful_decided b r e = (λ h. lawful_means r (sym e ∙ h), λ l. e ∙ lawful_shown r l)

  pub each_lawful : (rs : List Rule) → all_lawful kinds rs ≡ true → (r : Rule) → In r rs → LawfulRule kinds r
  each_lawful [] e r h = absurd h
  each_lawful (s ∷ rs) e r (inl h) = subst (λ (x : Rule). LawfulRule kinds x) (sym h) (lawful_means s (and_parts _ _ e).0)
  each_lawful (s ∷ rs) e r (inr h) = each_lawful rs (and_parts _ _ e).1 r h

  pub all_lawful_from : (rs : List Rule) → ((r : Rule) → In r rs → LawfulRule kinds r) → all_lawful kinds rs ≡ true
  all_lawful_from [] h = refl
  all_lawful_from (r ∷ rs) h = and_from _ _ (lawful_shown r (h r (inl refl))) (all_lawful_from rs (λ s k. h s (inr k)))

pub slot_inside : (rs : List Rule) (i : ℕ) (d : Rule) → i < length rs → Some (slice_index_or rs i d) ≡ slice_index_or (map Some rs) i None
slot_inside [] i d h = absurd (omega arith)
slot_inside (r ∷ rs) zero d h = refl
slot_inside (r ∷ rs) (suc i) d h = slot_inside rs i d (omega arith)

pub slot_past : (rs : List Rule) (i : ℕ) → length rs ≤ i → None ≡ slice_index_or (map Some rs) i None
slot_past rs i h = sym (get_or_past (map Some rs) i None (simp length-map h))

-- one rule more keeps all that a table keeps
pub one_more : (was is : List Rule) (r : Rule) (at : ℕ) → Placed rule_key lex_le r was is at → lawful_rule event_kind r ≡ true → all_lawful event_kind was ≡ true → rules_ascend was ≡ true → (all_lawful event_kind is ≡ true) × (rules_ascend is ≡ true)
one_more was is r at p new old up = (
  all_lawful_from event_kind is (λ s h. elim ((p.old_and_new s).1 h) [
    | inl e ↦ subst (λ (x : Rule). LawfulRule event_kind x) (sym e) (lawful_means event_kind r new)
    | inr k ↦ each_lawful event_kind was old s k
  ]),
  test_from_ascending rule_le is (p.ascending (ascending_from_test rule_le was up)),
)

-- an insertion keeps what a table keeps of its rules, whatever it answers
pub still_kept : (was is : List Rule) (r : Rule) (told : Result ℕ Unplaced) → LawfulHolding rule_key lex_le r 96 was is told → lawful_rule event_kind r ≡ true → length was ≤ 96 → all_lawful event_kind was ≡ true → rules_ascend was ≡ true → (length is ≤ 96) × (all_lawful event_kind is ≡ true) × (rules_ascend is ≡ true)
still_kept was is r (Ok at) h new few old up = let kept = one_more was is r at h.0 new old up in (h.1, kept.0, kept.1)
still_kept was is r (Err (Double at)) h new few old up = rw h.1 (few, old, up)
still_kept was is r (Err Full) h new few old up = rw h.1 (few, old, up)

pub table_law : (rules : List Rule) (start : ℕ × ℕ) → length rules ≤ 96 → all_lawful event_kind rules ≡ true → rules_ascend rules ≡ true → start.0 < 8 → start.1 < 16 → LawfulTable rules start
table_law rules start few law up hs hx = record {
  few = few;
  lawful = each_lawful event_kind rules law;
  ascending = ascending_from_test rule_le rules up;
  state = hs;
  symbol = hx;
}

pub room_was_left : (was is : List Rule) (r : Rule) (count at : ℕ) → length was ≡ 96 → length is ≡ 96 → count ≤ 96 → Placed rule_key lex_le r (take count was) (take (count + 1) is) at → count + 1 ≤ 96
room_was_left was is r count at full kept few p =
    let a = length-take (count + 1) is in
    let b = length-take-le count was (omega arith) in
    let l = p.longer in
    omega arith

-- the law of a table, read as that of a profile with one rule to a slot
slots_lawful : (rs : List Rule) → ((r : Rule) → In r rs → LawfulRule event_kind r) → LawfulSlots event_kind (map Some rs)
slots_lawful [] h = tt
slots_lawful (r ∷ rs) h = (h r (inl refl), slots_lawful rs (λ s k. h s (inr k)))

pub table_profile_law : (rs : List Rule) (start : ℕ × ℕ) → LawfulTable rs start → LawfulProfile event_kind (map Some rs) start
table_profile_law rs start law =
    record { few = simp length-map law.few; each = slots_lawful rs law.lawful; state = law.state; symbol = law.symbol }
