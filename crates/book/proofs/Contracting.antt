-- The guarantee told by the calls' own contracts, turn after turn.
use Rattle.std.proofs.Common.{◌≡◌, ℕ, ◌≤◌, Bool, true, false, List, [], ◌∷◌, ◌++◌, length, take, drop, Option, sym, refl, ap, ◌∙◌, subst, arith}
use Rattle.std.proofs.lemmas.List.{take-take, take_at, take-append-drop, length-append, append_assoc, append-nil}
use Rattle.ordered.specs.Laws.{In}
use Rattle.profile.specs.declared.Kind.{Kind}
use Rattle.profile.specs.declared.Rule.{Rule}
use Rattle.game.specs.declared.Head.{Head}
use Rattle.game.specs.declared.Row.{Row as LentRow}
use Rattle.game.specs.Systems.{ExactlyWhen}
use Rattle.game.specs.Rows.{refuting}
use Rattle.book.specs.declared.run.Call.{Call}
use Rattle.book.specs.declared.run.Answer.TheVariants as answer
use Rattle.book.specs.declared.run.Turn.{Turn}
use Rattle.book.specs.declared.run.Book.{Book}
use Rattle.book.specs.declared.run.Book.TheVariants as book
use Rattle.book.specs.Offers.{said, held_rows}
use Rattle.book.specs.Turns.{held_of, start_of, is_completed, Steps}
use Rattle.book.specs.Guarantee.{completed_by, held_after, completed_after, DraftCall, ComesTo, TurnKept, BookKept}
use Rattle.book.specs.ByContract.{rows_held, book_with, lent_at, TurnByContract, TurnsByContract, GuaranteeByContract}
use Rattle.book.proofs.Lending.{held_long, held_take, past_stays}
use Rattle.book.proofs.Seconds.{second_book}
use Rattle.book.proofs.Turning.{held_after_next, completed_after_next, calls_next}
use Rattle.book.proofs.Walking.{StepKept}

-- a book by its start, its state and its count
book_as : (start : Head) (b : Book) → start_of b ≡ start → b ≡ book_with start (is_completed b) (held_of b)
book_as start (book.Draft d) e = ap (λ (h : Head). book.Draft (record { start = h; held = d.held })) e
book_as start (book.Completed c) e = ap (λ (h : Head). book.Completed (record { start = h; held = c.held })) e

held_of_with : (start : Head) (completed : Bool) (held : ℕ) → held_of (book_with start completed held) ≡ held
held_of_with start true held = refl
held_of_with start false held = refl

completed_with : (start : Head) (completed : Bool) (held : ℕ) → is_completed (book_with start completed held) ≡ completed
completed_with start true held = refl
completed_with start false held = refl

-- the rows that are lent at a time agree where the rows at last do
lent_same : (first last last' : List LentRow) (n k : ℕ) → take n last ≡ take n last' → k ≤ n → lent_at first last k ≡ lent_at first last' k
lent_same first last last' n k e le = ap (λ (x : List LentRow). x ++ drop k first) (sym (take-take k n last le) ∙ ap (take k) e ∙ take-take k n last' le)

-- Turn after turn.
module _ (kinds : ℕ → Option Kind) (station manual : List (Option Rule)) (start : Head) (room : ℕ) where
  -- the turn that a call is
  turn_of : (before : Book) (was : List LentRow) (t : Turn) (is : List LentRow) (after : Book) → StepKept kinds station manual start room before was t.call is after t.answer →
      Steps kinds station manual before was t.call is after t.answer → t.held ≡ held_of after → held_of before ≤ held_of after → TurnByContract kinds station manual start room before was t after is
  turn_of before was t is after k s e up =
      let f = subst (λ (n : ℕ). TurnKept kinds station manual start room (is_completed before) (rows_held before was) (rows_held after is) (record { call = t.call; answer = t.answer; held = n })) (sym e) k.turn in
      record {
        each_turn_is_its_call = s;
        counts_are_true = f.counts_are_true;
        rows_only_grow = up;
        ask_tells_refuted_exactly_when_the_rows_held_do = λ off asks.
            (let told = subst (λ (x : Call). DraftCall kinds station manual start room x (rows_held before was) (rows_held after is) t.answer) asks
            (subst (λ (b : Bool). ComesTo kinds station manual start room b t.call (rows_held before was) (rows_held after is) t.answer) off f.each_turn_is_its_call) in
            subst (λ (l : List LentRow). ExactlyWhen (t.answer ≡ answer.Refuted) (In (refuting start) (said l)) × ExactlyWhen (t.answer ≡ answer.Undecided) (In (refuting start) (said l) → ⊥)) told.1
            (f.told_rightly off asks));
        refuted_means_attacker_wins = f.refuted_means_attacker_wins;
        completes_exactly_when_rows_fit = f.completes_exactly_when_rows_fit;
        holds_just_the_derivable_rows = f.holds_just_the_derivable_rows;
        verdict_tells_refines_exactly_when_a_relation_holds_the_starts = f.refines_exactly_when;
        refused_search_leaves_different_derivable_rows = f.refused_search_leaves;
      }

  -- the count only grows
  goes_up : (first last : List LentRow) (completed : Bool) (held : ℕ) (ts : List Turn) → TurnsByContract kinds station manual start room first last completed held ts → held ≤ held_after held ts
  goes_up first last completed held [] w = omega arith
  goes_up first last completed held (t ∷ ts) w =
      let p = held_of_with start completed held in
      let q = held_of_with start (completed_by completed t.answer) t.held in
      let up = w.0.rows_only_grow in
      let on = goes_up first last (completed_by completed t.answer) t.held ts w.1 in
      omega arith

  -- what was kept stays so as rows are appended
  contract_more : (first last last' : List LentRow) (n : ℕ) → take n last ≡ take n last' → (completed : Bool) (held : ℕ) (ts : List Turn) → held_after held ts ≤ n →
      TurnsByContract kinds station manual start room first last completed held ts → TurnsByContract kinds station manual start room first last' completed held ts
  contract_more first last last' n e completed held [] le w = tt
  contract_more first last last' n e completed held (t ∷ ts) le w =
      let next = completed_by completed t.answer in
      let up = goes_up first last completed held (t ∷ ts) w in
      let on = goes_up first last next t.held ts w.1 in (
        subst (λ (x : List LentRow). TurnByContract kinds station manual start room (book_with start completed held) x t (book_with start next t.held) (lent_at first last' t.held)) (lent_same first last last' n held e (omega arith))
            (subst (λ (x : List LentRow). TurnByContract kinds station manual start room (book_with start completed held) (lent_at first last held) t (book_with start next t.held) x) (lent_same first last last' n t.held e (omega arith)) w.0),
        contract_more first last last' n e next t.held ts le w.1,
      )

  -- one turn more
  contract_next : (first last : List LentRow) (completed : Bool) (held : ℕ) (ts : List Turn) (t : Turn) → TurnsByContract kinds station manual start room first last completed held ts →
      TurnByContract kinds station manual start room (book_with start (completed_after completed ts) (held_after held ts)) (lent_at first last (held_after held ts)) t
      (book_with start (completed_by (completed_after completed ts) t.answer) t.held) (lent_at first last t.held) →
      TurnsByContract kinds station manual start room first last completed held (ts ++ t ∷ [])
  contract_next first last completed held [] t w k = (k, tt)
  contract_next first last completed held (s ∷ ts) t w k = (w.0, contract_next first last (completed_by completed s.answer) s.held ts t w.1 k)

  module _ (first : List LentRow) where
    pub by_contract_next : (completed : Bool) (held : ℕ) (given ts : List Turn) (before : Book) (was : List LentRow) (g t : Turn) (is : List LentRow) (after : Book) →
        GuaranteeByContract kinds station manual start room completed held given ts first before was → StepKept kinds station manual start room before was t.call is after t.answer →
        Steps kinds station manual before was t.call is after t.answer → t.held ≡ held_of after → t.call ≡ g.call →
        GuaranteeByContract kinds station manual start room completed held (given ++ g ∷ []) (ts ++ t ∷ []) first after is
    by_contract_next completed held given ts before was g t is after w s steps e f =
        let k = w.book_kept in
        let l = s.kept in
        let few = k.within in
        let many = l.within in
        let u = k.as_many_usable in
        let v = l.as_many_usable in
        let long : length (rows_held before was) ≡ held_of before = held_long was (held_of before) (omega arith) in
        let longer : length (rows_held after is) ≡ held_of after = held_long is (held_of after) (omega arith) in
        let (more, grown) = s.grown in
        let lengths = ap length grown ∙ length-append (rows_held before was) more in
        let up : held_of before ≤ held_of after = omega arith in
        let kept_rows = w.rows_held_before_stay in
        let now_completed = completed_after completed ts in
        let now_held = held_after held ts in
        let held_is : held_of before ≡ now_held = ap (λ (b : Book). held_of b) w.the_book_is_as_the_last_turn_says ∙ held_of_with start now_completed now_held in
        let completed_is : is_completed before ≡ now_completed = ap (λ (b : Book). is_completed b) w.the_book_is_as_the_last_turn_says ∙ completed_with start now_completed now_held in
        let front : take (held_of before) was ≡ take (held_of before) is =
        sym (held_take was (held_of before) (omega arith)) ∙
        sym (take_at (rows_held before was) more (held_of before) long) ∙
        ap (take (held_of before)) (sym grown ∙ held_take is (held_of after) (omega arith)) ∙
        take-take (held_of before) (held_of after) is up in
        let past = past_stays (held_of before) (held_of after) first was is up w.rows_past_the_held_are_as_they_were s.untouched in
        let was_is : was ≡ lent_at first is now_held =
        sym (take-append-drop (held_of before) was) ∙ (λ i. front i ++ w.rows_past_the_held_are_as_they_were i) ∙ ap (λ (n : ℕ). lent_at first is n) held_is in
        let is_is : is ≡ lent_at first is t.held =
        sym (take-append-drop (held_of after) is) ∙ ap (λ (x : List LentRow). take (held_of after) is ++ x) past ∙ ap (λ (n : ℕ). lent_at first is n) (sym e) in
        let after_is : after ≡ book_with start (completed_by now_completed t.answer) t.held =
        book_as start after l.same_start ∙ ap (λ (b : Bool). book_with start b (held_of after)) (s.completed ∙ ap (λ (b : Bool). completed_by b t.answer) completed_is) ∙
        ap (λ (n : ℕ). book_with start (completed_by now_completed t.answer) n) (sym e) in
        record {
          calls_are_those_given = calls_next given ts g t w.calls_are_those_given f;
          each_turn_kept = contract_next first is completed held ts t
              (contract_more first was is (held_of before) front completed held ts (omega arith) w.each_turn_kept)
              (subst (λ (b : Book). TurnByContract kinds station manual start room b (lent_at first is now_held) t (book_with start (completed_by now_completed t.answer) t.held) (lent_at first is t.held)) w.the_book_is_as_the_last_turn_says
              (subst (λ (x : List LentRow). TurnByContract kinds station manual start room before x t (book_with start (completed_by now_completed t.answer) t.held) (lent_at first is t.held)) was_is
              (subst (λ (b : Book). TurnByContract kinds station manual start room before was t b (lent_at first is t.held)) after_is
              (subst (λ (x : List LentRow). TurnByContract kinds station manual start room before was t after x) is_is
              (turn_of before was t is after s steps e up)))));
          the_book_is_as_the_last_turn_says =
              after_is ∙ ap (λ (b : Bool). book_with start b t.held) (sym (completed_after_next completed ts t)) ∙
              ap (λ (n : ℕ). book_with start (completed_after completed (ts ++ t ∷ [])) n) (sym (held_after_next held ts t));
          rows_held_before_stay = (kept_rows.0 ++ more, grown ∙ ap (λ (x : List LentRow). x ++ more) kept_rows.1 ∙ append_assoc (held_rows first held) kept_rows.0 more);
          rows_past_the_held_are_as_they_were = past;
          lines_replay = λ other many_usable. second_book kinds station manual start room (rows_held after is) other l.lines_replay many_usable;
          book_kept = l;
        }

    pub by_contract_begins : (before : Book) → BookKept kinds station manual start room before first →
        GuaranteeByContract kinds station manual start room (is_completed before) (held_of before) [] [] first before first
    by_contract_begins before k = record {
      calls_are_those_given = refl;
      each_turn_kept = tt;
      the_book_is_as_the_last_turn_says = book_as start before k.same_start;
      rows_held_before_stay = ([], sym (append-nil (held_rows first (held_of before))));
      rows_past_the_held_are_as_they_were = refl;
      lines_replay = λ other many_usable. second_book kinds station manual start room (rows_held before first) other k.lines_replay many_usable;
      book_kept = k;
    }
