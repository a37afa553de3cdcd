-- The turns of a run, one after the other.
use Rattle.std.proofs.Common.{◌≡◌, ℕ, ◌+◌, ◌<◌, Bool, List, [], ◌∷◌, ◌++◌, map, length, get_or, take, drop, set, Option, Result, refl, sym, ap, ◌∙◌, subst, arith}
use Rattle.std.proofs.lemmas.List.{take_more, take_more_set, drop_more, drop-set-lt, map-append}
use Rattle.profile.specs.declared.Kind.{Kind}
use Rattle.profile.specs.declared.Rule.{Rule}
use Rattle.game.specs.declared.Line.TheVariants.{Join as JoinLine}
use Rattle.game.specs.declared.Row.{Row as LentRow}
use Rattle.book.specs.declared.Refusal.{Refusal}
use Rattle.book.specs.declared.state.Draft.{Draft}
use Rattle.book.specs.declared.run.Call.{Call}
use Rattle.book.specs.declared.run.Call.TheVariants as call
use Rattle.book.specs.declared.run.Answer.{Answer}
use Rattle.book.specs.declared.run.Turn.{Turn}
use Rattle.book.specs.declared.run.Book.TheVariants as book
use Rattle.book.specs.Drafts.{draft_offer, told, rows_after, draft_after}
use Rattle.book.specs.Turns.{line_answer, StepsDraft}
use Rattle.book.specs.Guarantee.{completed_by, held_after, completed_after}

-- a join, from what the draft's own call says
pub join_steps : (kinds : ℕ → Option Kind) (station manual : List (Option Rule)) (d : Draft) (was : List LentRow) (c : Call) (i j : ℕ) (is : List LentRow) (after : Draft) (answered : Result ℕ Refusal) (reply : Answer) →
    c ≡ call.Join i j → after ≡ draft_after d (draft_offer kinds station manual d was (JoinLine i j)) → answered ≡ told d (draft_offer kinds station manual d was (JoinLine i j)) →
    is ≡ rows_after d was (JoinLine i j) (draft_offer kinds station manual d was (JoinLine i j)) → reply ≡ line_answer answered →
    StepsDraft kinds station manual d was c is (book.Draft after) reply
join_steps kinds station manual d was c i j is after answered reply e f g h k =
    subst (λ (x : Call). StepsDraft kinds station manual d was x is (book.Draft after) reply) (sym e)
    (record { draft = ap (λ (x : Draft). book.Draft x) f; replied = k ∙ ap line_answer g; lent = h })

-- one turn more
pub held_after_next : (held : ℕ) (ts : List Turn) (t : Turn) → held_after held (ts ++ t ∷ []) ≡ t.held
held_after_next held [] t = refl
held_after_next held (s ∷ ts) t = held_after_next s.held ts t

pub completed_after_next : (completed : Bool) (ts : List Turn) (t : Turn) → completed_after completed (ts ++ t ∷ []) ≡ completed_by (completed_after completed ts) t.answer
completed_after_next completed [] t = refl
completed_after_next completed (s ∷ ts) t = completed_after_next (completed_by completed s.answer) ts t

pub calls_next : (given ts : List Turn) (g t : Turn) → map (λ (x : Turn). x.call) ts ≡ map (λ (x : Turn). x.call) given → t.call ≡ g.call →
    map (λ (x : Turn). x.call) (ts ++ t ∷ []) ≡ map (λ (x : Turn). x.call) (given ++ g ∷ [])
calls_next given ts g t w f =
    map-append (λ (x : Turn). x.call) ts (t ∷ []) ∙ (λ i. w i ++ f i ∷ []) ∙ sym (map-append (λ (x : Turn). x.call) given (g ∷ []))

-- The loop that writes the turns: those that are left are as they were given.
pub rest_left : (given turns : List Turn) (i : ℕ) (d t : Turn) → length turns ≡ length given → i < length turns → drop i turns ≡ drop i given → drop (i + 1) (set turns i t) ≡ drop (i + 1) given
rest_left given turns i d t long inside rest =
    let p = drop_more turns i d inside in
    let q = drop_more given i d (omega arith) in
    let later : drop (i + 1) turns ≡ drop (i + 1) given = cc in
    drop-set-lt (i + 1) turns i t (omega arith) ∙ later

-- what holds of the turns that were given and those that are written so far
module _ (P : List Turn → List Turn → Type 0) (given turns : List Turn) (i : ℕ) (long : length turns ≡ length given) where
  pub turn_written : (d t : Turn) → i < length turns → drop i turns ≡ drop i given → (t.call ≡ (get_or turns i d).call) →
      (t.call ≡ (get_or given i d).call → P (take i given ++ get_or given i d ∷ []) (take i turns ++ t ∷ [])) → P (take (i + 1) given) (take (i + 1) (set turns i t))
  turn_written d t inside rest asked f =
      let p = drop_more turns i d inside in
      let q = drop_more given i d (omega arith) in
      let here : get_or turns i d ≡ get_or given i d = cc in
      subst (λ (x : List Turn). P x (take (i + 1) (set turns i t))) (sym (take_more given i d (omega arith)))
      (subst (λ (x : List Turn). P (take i given ++ get_or given i d ∷ []) x) (sym (take_more_set turns i t inside)) (f (asked ∙ ap (λ (x : Turn). x.call) here)))
