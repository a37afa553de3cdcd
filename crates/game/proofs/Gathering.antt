-- What an enter gathers from the replies, and what a join puts in, as sets of members.
use Rattle.std.proofs.Common.{◌≡◌, Bool, true, cond, ◌⊎◌, List, [], ◌∷◌, Some, None, Option, sym, refl, subst, inl, inr, ⊎_elim}
use Rattle.std.proofs.lemmas.Bool.{cond_both, both_ways}
use Rattle.std.proofs.lemmas.Option.{none-some, same_Some}
use Rattle.ordered.specs.Insert.{insert_into}
use Rattle.ordered.specs.Laws.{In, Ascending}
use Rattle.ordered.proofs.Orders.{ascending_inserted}
use Rattle.profile.specs.declared.Rule.{Rule}
use Rattle.game.specs.declared.Member.{Member}
use Rattle.game.specs.Members.{member_le}
use Rattle.game.specs.Rows.{gathered, put_in}
use Rattle.game.specs.Order.{member_antisymmetric, member_transitive, member_total}
use Rattle.game.proofs.Sets.{old_or_new, still_in, now_in}

-- one member more
keeps_ascending : (m : Member) (ms : List Member) → Ascending member_le ms → Ascending member_le (insert_into member_le m ms)
keeps_ascending = ascending_inserted member_le member_transitive member_total

module _ (test : Rule → Bool) (make : Rule → Member) where
  abbrev step : Rule → List Member → List Member
  step s ms = cond (test s) (insert_into member_le (make s) ms) ms

  pub gathered_ascending : (slots : List (Option Rule)) (ms : List Member) → Ascending member_le ms → Ascending member_le (gathered test make slots ms)
  gathered_ascending [] ms a = a
  gathered_ascending (None ∷ slots) ms a = gathered_ascending slots ms a
  gathered_ascending (Some s ∷ slots) ms a =
      gathered_ascending slots (step s ms)
      (cond_both (test s) (insert_into member_le (make s) ms) ms (λ l. Ascending member_le l) (λ _. keeps_ascending (make s) ms a) (λ _. a))

  pub gathered_keeps : (slots : List (Option Rule)) (ms : List Member) (m : Member) → In m ms → In m (gathered test make slots ms)
  gathered_keeps [] ms m k = k
  gathered_keeps (None ∷ slots) ms m k = gathered_keeps slots ms m k
  gathered_keeps (Some s ∷ slots) ms m k =
      gathered_keeps slots (step s ms) m
      (cond_both (test s) (insert_into member_le (make s) ms) ms (λ l. In m l) (λ _. still_in member_le (make s) ms m k) (λ _. k))

  pub gathered_has : (slots : List (Option Rule)) (ms : List Member) (s : Rule) → In (Some s) slots → test s ≡ true → In (make s) (gathered test make slots ms)
  gathered_has [] ms s k t = absurd k
  gathered_has (None ∷ slots) ms s (inl e) t = absurd (none-some s (sym e))
  gathered_has (None ∷ slots) ms s (inr k) t = gathered_has slots ms s k t
  gathered_has (Some u ∷ slots) ms s (inl e) t =
      let d : u ≡ s = sym (same_Some s u e) in
      gathered_keeps slots (step u ms) (make s)
      (subst (λ (v : Rule). In (make s) (step v ms)) (sym d)
      (cond_both (test s) (insert_into member_le (make s) ms) ms (λ l. In (make s) l)
      (λ _. now_in member_le member_antisymmetric (make s) ms) (λ off. absurd (both_ways (test s) off t))))
  gathered_has (Some u ∷ slots) ms s (inr k) t = gathered_has slots (step u ms) s k t

  -- m is what some rule of a slot that passes the test makes
  abbrev pub Made : List (Option Rule) → Member → Type 0
  Made slots m = (s : Rule) × In (Some s) slots × (test s ≡ true) × (m ≡ make s)

  pub gathered_from : (slots : List (Option Rule)) (ms : List Member) (m : Member) → In m (gathered test make slots ms) → In m ms ⊎ Made slots m
  gathered_from [] ms m k = inl k
  gathered_from (None ∷ slots) ms m k =
      ⊎_elim (λ h. inl h) (λ (h : Made slots m). inr (h.0, inr h.1, h.2, h.3)) (gathered_from slots ms m k)
  gathered_from (Some s ∷ slots) ms m k =
      ⊎_elim here (λ (h : Made slots m). inr (h.0, inr h.1, h.2, h.3)) (gathered_from slots (step s ms) m k)
    where
      here : In m (step s ms) → In m ms ⊎ Made (Some s ∷ slots) m
      here =
          cond_both (test s) (insert_into member_le (make s) ms) ms (λ l. In m l → In m ms ⊎ Made (Some s ∷ slots) m)
          (λ on h. ⊎_elim (λ e. inr (s, inl refl, on, e)) (λ q. inl q) (old_or_new member_le (make s) ms m h))
          (λ _ h. inl h)

pub put_ascending : (xs ms : List Member) → Ascending member_le ms → Ascending member_le (put_in xs ms)
put_ascending [] ms a = a
put_ascending (x ∷ xs) ms a = put_ascending xs (insert_into member_le x ms) (keeps_ascending x ms a)

pub put_keeps : (xs ms : List Member) (m : Member) → In m ms → In m (put_in xs ms)
put_keeps [] ms m k = k
put_keeps (x ∷ xs) ms m k = put_keeps xs (insert_into member_le x ms) m (still_in member_le x ms m k)

pub put_has : (xs ms : List Member) (m : Member) → In m xs → In m (put_in xs ms)
put_has [] ms m k = absurd k
put_has (x ∷ xs) ms m (inl e) =
    put_keeps xs (insert_into member_le x ms) m
    (subst (λ (v : Member). In v (insert_into member_le x ms)) (sym e) (now_in member_le member_antisymmetric x ms))
put_has (x ∷ xs) ms m (inr k) = put_has xs (insert_into member_le x ms) m k

pub put_from : (xs ms : List Member) (m : Member) → In m (put_in xs ms) → In m xs ⊎ In m ms
put_from [] ms m k = inr k
put_from (x ∷ xs) ms m k =
    ⊎_elim (λ h. inl (inr h)) (λ h. ⊎_elim (λ e. inl (inl e)) (λ q. inr q) (old_or_new member_le x ms m h))
    (put_from xs (insert_into member_le x ms) m k)
