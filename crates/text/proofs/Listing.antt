-- Lists of rules against the grammar: the table holds just the listed rules, in ascending order.
use Rattle.std.proofs.Common.{◌≡◌, ℕ, zero, suc, ◌<◌, true, false, ◌⊎◌, List, [], ◌∷◌, ◌++◌, length, get_or, Ok, sym, refl, ap, ◌∙◌, subst, inl, inr, append_assoc, arith}
use Rattle.std.proofs.lemmas.List.{append-nil}
use Rattle.std.proofs.lemmas.Bool.{cond-false, cases_Bool}
use Rattle.ordered.specs.Lex.{lex_le}
use Rattle.ordered.specs.Insert.{present, insert_into}
use Rattle.ordered.specs.Laws.{In, HasKey, Ascending}
use Rattle.ordered.proofs.Lexes.{lex_reflexive, lex_antisymmetric, lex_transitive, lex_total}
use Rattle.ordered.proofs.Orders.{in_inserted, in_old_or_new, ascending_inserted, key_at_double, key_is_new}
use Rattle.profile.specs.declared.Rule.{Rule}
use Rattle.profile.specs.Rules.{rule_key, rule_le}
use Rattle.text.specs.Words.{Rest, Step}
use Rattle.text.specs.ProfileText.{event_names, read_rule, more_rules}
use Rattle.text.specs.Grammar.{Spaced, rule_words, rules_words, NamesDiffer, EachNew, AllNamed}
use Rattle.text.proofs.Spacing.{Takes, takes_none, takes_then}
use Rattle.text.proofs.Dues.{then_ok, then_is, ok_same}
use Rattle.text.proofs.Naming.{cond_else}
use Rattle.text.proofs.Ruling.{rule_takes, rule_reads}

-- elements and keys of lists
module _ {X : Type 0} (x : X) where
  in_left : (xs ys : List X) → In x xs → In x (xs ++ ys)
  in_left [] ys h = absurd h
  in_left (z ∷ xs) ys (inl e) = inl e
  in_left (z ∷ xs) ys (inr h) = inr (in_left xs ys h)

  in_last : (xs : List X) (y : X) → x ≡ y → In x (xs ++ y ∷ [])
  in_last [] y e = inl e
  in_last (z ∷ xs) y e = inr (in_last xs y e)

  in_either : (xs : List X) (y : X) → In x (xs ++ y ∷ []) → (x ≡ y) ⊎ In x xs
  in_either [] y (inl e) = inl e
  in_either [] y (inr h) = absurd h
  in_either (z ∷ xs) y (inl e) = inr (inl e)
  in_either (z ∷ xs) y (inr h) = elim (in_either xs y h) [ inl e ↦ inl e | inr k ↦ inr (inr k) ]

module _ {X K : Type 0} (key : X → K) (k : K) where
  has_key_of : (xs : List X) (y : X) → In y xs → k ≡ key y → HasKey key k xs
  has_key_of [] y h e = h
  has_key_of (x ∷ xs) y (inl same) e = inl (e ∙ ap key same)
  has_key_of (x ∷ xs) y (inr h) e = inr (has_key_of xs y h e)

  element_of : (xs : List X) → HasKey key k xs → (y : X) × In y xs × (k ≡ key y)
  element_of [] h = absurd h
  element_of (x ∷ xs) (inl e) = (x, inl refl, e)
  element_of (x ∷ xs) (inr h) = let p = element_of xs h in (p.0, inr p.1, p.2)

  has_key_at : (xs : List X) (i : ℕ) (d : X) → i < length xs → key (get_or xs i d) ≡ k → HasKey key k xs
  has_key_at [] i d h e = absurd (omega arith)
  has_key_at (x ∷ xs) zero d h e = inl (sym e)
  has_key_at (x ∷ xs) (suc i) d h e = inr (has_key_at xs i d (omega arith) e)

-- two lists with the same rules
abbrev pub SameRules : List Rule → List Rule → Type 0
SameRules rs before = (r : Rule) → (In r rs → In r before) × (In r before → In r rs)

key_goes : (rs before : List Rule) (k : List ℕ) → ((r : Rule) → In r before → In r rs) → HasKey rule_key k before → HasKey rule_key k rs
key_goes rs before k sub h = let p = element_of rule_key k before h in has_key_of rule_key k rs p.0 (sub p.0 p.1) p.2

-- a rule is refused just where its key is there
present_has_key : (r : Rule) (rs : List Rule) → present rule_le r rs ≡ true → HasKey rule_key (rule_key r) rs
present_has_key r rs e =
    let d = key_at_double rule_key lex_le lex_reflexive lex_antisymmetric lex_transitive lex_total r rs e in
    has_key_at rule_key (rule_key r) rs _ r d.within d.same_key

new_rule : (r : Rule) (rs : List Rule) → Ascending rule_le rs → present rule_le r rs ≡ false → HasKey rule_key (rule_key r) rs → ⊥
new_rule r rs a e = key_is_new rule_key lex_le lex_reflexive lex_antisymmetric lex_transitive lex_total r rs a e

not_present : (r : Rule) (rs : List Rule) → (HasKey rule_key (rule_key r) rs → ⊥) → present rule_le r rs ≡ false
not_present r rs n = elim (cases_Bool (present rule_le r rs)) [ inl on ↦ absurd (n (present_has_key r rs on)) | inr off ↦ off ]

-- one rule more, in the table and in what was listed
more_ascends : (r : Rule) (rs : List Rule) → Ascending rule_le rs → Ascending rule_le (insert_into rule_le r rs)
more_ascends r rs = ascending_inserted rule_le (λ x y z. lex_transitive (rule_key x) (rule_key y) (rule_key z)) (λ x y. lex_total (rule_key x) (rule_key y)) r rs

more_same : (r : Rule) (rs before : List Rule) → present rule_le r rs ≡ false → SameRules rs before → SameRules (insert_into rule_le r rs) (before ++ r ∷ [])
more_same r rs before new same x = (
  (λ h. elim (in_old_or_new rule_le r rs new x h) [ inl e ↦ in_last x before r e | inr k ↦ in_left x before (r ∷ []) ((same x).0 k) ]),
  λ h. elim (in_either x before r h) [ inl e ↦ in_inserted rule_le r rs new x (inl e) | inr k ↦ in_inserted rule_le r rs new x (inr ((same x).1 k)) ],
)

module _ (states symbols : List (List ℕ)) where
  pub record RulesTaken (k : ℕ) (before : List Rule) (s : Rest) (st : Step (List Rule)) : Type 0 where
    pub new : List Rule
    pub count : length new ≡ k
    pub named : AllNamed (length states) (length symbols) new
    pub differ : EachNew rule_key before new
    pub takes : Takes s (rules_words states symbols new) st.rest
    pub ascending : Ascending rule_le st.value
    pub same : SameRules st.value (before ++ new)

  pub rules_take : (k : ℕ) (rs before : List Rule) (s : Rest) (st : Step (List Rule)) → Ascending rule_le rs → SameRules rs before → more_rules states symbols event_names k rs s ≡ Ok st → RulesTaken k before s st
  rules_take zero rs before s st a same h =
      let e = ok_same h in
      let v : rs ≡ st.value = ap (λ (x : Step (List Rule)). x.value) e in
      record {
        new = [];
        count = refl;
        named = tt;
        differ = tt;
        takes = subst (λ (r : Rest). Takes s [] r) (ap (λ (x : Step (List Rule)). x.rest) e) (takes_none s);
        ascending = subst (λ (l : List Rule). Ascending rule_le l) v a;
        same = subst (λ (l : List Rule). SameRules l (before ++ [])) v (subst (λ (l : List Rule). SameRules rs l) (sym (append-nil before)) same);
      }
  rules_take (suc k) rs before s st a same h =
      let p = then_ok (read_rule states symbols event_names s) _ st h in
      let r : Rule = p.0.value.0 in
      let q = cond_else _ _ _ _ p.2 in
      let t = rule_takes states symbols s p.0 p.1 in
      let more = rules_take k (insert_into rule_le r rs) (before ++ r ∷ []) p.0.rest st (more_ascends r rs a) (more_same r rs before q.0 same) q.1 in
      record {
        new = r ∷ more.new;
        count = ap suc more.count;
        named = (t.named, more.named);
        differ = ((λ has. new_rule r rs a q.0 (key_goes rs before (rule_key r) (λ x. (same x).1) has)), more.differ);
        takes = takes_then t.takes more.takes;
        ascending = more.ascending;
        same = subst (λ (l : List Rule). SameRules st.value l) (append_assoc before (r ∷ []) more.new) more.same;
      }

  pub record RulesRead (k : ℕ) (rs listed : List Rule) (s : Rest) (ws : List (List ℕ)) : Type 0 where
    pub step : Step (List Rule)
    pub is : more_rules states symbols event_names k rs s ≡ Ok step
    pub ascending : Ascending rule_le step.value
    pub same : SameRules step.value listed
    pub left : Spaced step.rest.bytes ws

  pub rules_read : (new rs before : List Rule) (s : Rest) (ws : List (List ℕ)) → NamesDiffer states → NamesDiffer symbols → Ascending rule_le rs → SameRules rs before → AllNamed (length states) (length symbols) new → EachNew rule_key before new → Spaced s.bytes (rules_words states symbols new ++ ws) → RulesRead (length new) rs (before ++ new) s ws
  rules_read [] rs before s ws ds dx a same n d h = record {
    step = record { value = rs; rest = s };
    is = refl;
    ascending = a;
    same = subst (λ (l : List Rule). SameRules rs l) (sym (append-nil before)) same;
    left = h;
  }
  rules_read (r ∷ new) rs before s ws ds dx a same n d h =
      let t = rule_reads states symbols r s (rules_words states symbols new ++ ws) ds dx n.0 (subst (λ (l : List (List ℕ)). Spaced s.bytes l) (append_assoc (rule_words states symbols r) (rules_words states symbols new) ws) h) in
      let fresh : present rule_le r rs ≡ false = not_present r rs (λ has. d.0 (key_goes before rs (rule_key r) (λ x. (same x).0) has)) in
      let more = rules_read new (insert_into rule_le r rs) (before ++ r ∷ []) t.step.rest ws ds dx (more_ascends r rs a) (more_same r rs before fresh same) n.1 d.1 t.left in
      record {
        step = more.step;
        is =
            then_is _ t.is ∙ cond-false _ _ _ (ap (λ (x : Rule). present rule_le x rs) t.rule ∙ fresh) ∙
            ap (λ (x : Rule). more_rules states symbols event_names (length new) (insert_into rule_le x rs) t.step.rest) t.rule ∙ more.is;
        ascending = more.ascending;
        same = subst (λ (l : List Rule). SameRules more.step.value l) (append_assoc before (r ∷ []) new) more.same;
        left = more.left;
      }
