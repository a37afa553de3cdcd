-- One call after the other, and the guarantee all along.
use Rattle.std.proofs.Common.{◌≡◌, ℕ, ◌+◌, ◌≤◌, min, Bool, true, false, cond, ltb, List, [], ◌∷◌, ◌++◌, length, take, drop, set, Ok, Err, Option, Result, sym, refl, ap, ◌∙◌, subst, inl, inr, arith, length-take}
use Rattle.std.proofs.lemmas.List.{take_all, take_at, take-append-le, drop-set-lt, length-append, append_assoc, append-nil}
use Rattle.std.proofs.lemmas.Bool.{ltb-true, both_ways}
use Rattle.profile.specs.declared.Kind.{Kind}
use Rattle.profile.specs.declared.Rule.{Rule}
use Rattle.profile.specs.Profiles.{LawfulSlots, LawfulProfile}
use Rattle.game.specs.declared.Head.{Head}
use Rattle.game.specs.declared.Line.{Line}
use Rattle.game.specs.declared.Line.TheVariants.{Enter as EnterLine, Join as JoinLine}
use Rattle.game.specs.declared.Row.{Row as LentRow}
use Rattle.game.specs.Members.{AttackRow}
use Rattle.book.specs.declared.Refusal.{Refusal}
use Rattle.book.specs.declared.Refusal.TheVariants.{RowsDoNotFit}
use Rattle.book.specs.declared.state.Draft.{Draft}
use Rattle.book.specs.declared.state.Completed.{Completed}
use Rattle.book.specs.declared.calls.Asked.TheVariants as asked
use Rattle.book.specs.declared.calls.Verdict.TheVariants as verdict
use Rattle.book.specs.declared.run.Call.{Call}
use Rattle.book.specs.declared.run.Call.TheVariants as call
use Rattle.book.specs.declared.run.Answer.{Answer}
use Rattle.book.specs.declared.run.Answer.TheVariants as answer
use Rattle.book.specs.declared.run.Turn.{Turn}
use Rattle.book.specs.declared.run.Book.{Book}
use Rattle.book.specs.declared.run.Book.TheVariants as book
use Rattle.book.specs.Offers.{usable, held_rows, said, offer, written, says_refuted}
use Rattle.book.specs.Searches.{Settled, Grown}
use Rattle.game.specs.Rows.{head_of_starts}
use Rattle.book.specs.Drafts.{draft_offer, told, rows_after, draft_after, draft_answer, verdict_of}
use Rattle.book.specs.Turns.{held_of, start_of, is_completed, line_answer, ask_answer, verdict_answer, StepsLine, StepsSearch, StepsStill, StepsCompleted, StepsDraft, Steps}
use Rattle.book.specs.Guarantee.{completed_by, held_after, completed_after, LineComesTo, DraftCall, ComesTo, TurnKept, TurnsKept, BookKept, Guarantee}
use Rattle.book.proofs.Tested.{taken}
use Rattle.book.proofs.Ranges.{SmallHead}
use Rattle.book.proofs.Replays.{accept_shown, grown_none, grown_by_line, built_grown}
use Rattle.book.proofs.Lending.{held_long, held_set, usable_set, past_stays}
use Rattle.book.proofs.Keeping.{turn_kept}
use Rattle.book.proofs.Turning.{held_after_next, completed_after_next, calls_next}

-- the answers of ask and verdict
ask_told : (b : Bool) → ask_answer (cond b asked.Refuted asked.Undecided) ≡ cond b answer.Refuted answer.Undecided
ask_told true = refl
ask_told false = refl

verdict_told : (b : Bool) → verdict_answer (cond b verdict.Refuted verdict.Refines) ≡ cond b answer.Refuted answer.Refines
verdict_told true = refl
verdict_told false = refl

stays_draft : (b : Bool) → false ≡ completed_by false (ask_answer (cond b asked.Refuted asked.Undecided))
stays_draft true = refl
stays_draft false = refl

stays_completed : (b : Bool) → true ≡ completed_by true (verdict_answer (cond b verdict.Refuted verdict.Refines))
stays_completed true = refl
stays_completed false = refl

module _ (kinds : ℕ → Option Kind) (station manual : List (Option Rule)) where
  -- what a call keeps
  pub record StepKept (start : Head) (room : ℕ) (before : Book) (was : List LentRow) (c : Call) (is : List LentRow) (after : Book) (reply : Answer) : Type 0 where
    pub kept : BookKept kinds station manual start room after is
    pub turn : TurnKept kinds station manual start room (is_completed before) (held_rows was (held_of before)) (held_rows is (held_of after)) (record { call = c; answer = reply; held = held_of after })
    pub grown : (more : List LentRow) × (held_rows is (held_of after) ≡ held_rows was (held_of before) ++ more)
    pub untouched : drop (held_of after) is ≡ drop (held_of after) was
    pub completed : is_completed after ≡ completed_by (is_completed before) reply

  step_as : (start : Head) (room : ℕ) (before : Book) (was : List LentRow) (c : Call) (is is' : List LentRow) (after after' : Book) (reply reply' : Answer) → is ≡ is' → after ≡ after' → reply ≡ reply' →
      StepKept start room before was c is' after' reply' → StepKept start room before was c is after reply
  step_as start room before was c is is' after after' reply reply' p q r k =
      subst (λ (x : List LentRow). StepKept start room before was c x after reply) (sym p)
      (subst (λ (y : Book). StepKept start room before was c is' y reply) (sym q)
      (subst (λ (z : Answer). StepKept start room before was c is' after' z) (sym r) k))

  module _ (lawful_station : LawfulSlots kinds station) (lawful_manual : LawfulSlots kinds manual) where
    module _ (start : Head) (room : ℕ) (small : SmallHead start) where
      make_step : (before : Book) (was : List LentRow) (c : Call) (is : List LentRow) (after : Book) (reply : Answer) → BookKept kinds station manual start room before was →
          start_of after ≡ start → usable is ≡ room → held_of after ≤ room → drop (held_of after) is ≡ drop (held_of after) was →
          ComesTo kinds station manual start room (is_completed before) c (held_rows was (held_of before)) (held_rows is (held_of after)) reply →
          Grown kinds station manual start room (held_rows was (held_of before)) (held_rows is (held_of after)) →
          (is_completed after ≡ true → Settled kinds station manual start room (held_rows is (held_of after))) → is_completed after ≡ completed_by (is_completed before) reply →
          StepKept start room before was c is after reply
      make_step before was c is after reply k s u h past w g settled e = record {
        kept = record {
          same_start = s;
          as_many_usable = u;
          within = h;
          lines_replay = built_grown kinds station manual start room (held_rows was (held_of before)) (held_rows is (held_of after)) k.lines_replay g;
          nothing_missing = settled;
        };
        turn = turn_kept kinds station manual start room lawful_station lawful_manual small (is_completed before) (held_rows was (held_of before)) (held_rows is (held_of after)) (record { call = c; answer = reply; held = held_of after }) w
            (sym (held_long is (held_of after) (omega arith))) k.lines_replay k.nothing_missing;
        grown = (g.0, g.1);
        untouched = past;
        completed = e;
      }

      -- nothing changes
      still_step : (before : Book) (was : List LentRow) (c : Call) (says : Answer) (is : List LentRow) (after : Book) (reply : Answer) → BookKept kinds station manual start room before was →
          StepsStill before was says is after reply →
          ComesTo kinds station manual start room (is_completed before) c (held_rows was (held_of before)) (held_rows was (held_of before)) says → is_completed before ≡ completed_by (is_completed before) says →
          StepKept start room before was c is after reply
      still_step before was c says is after reply k s w e =
          step_as start room before was c is was after before reply says s.lent s.same s.replied
          (make_step before was c was before says k k.same_start k.as_many_usable k.within refl w (grown_none kinds station manual start room (held_rows was (held_of before))) k.nothing_missing e)

    -- an offered line
    line_step : (d : Draft) (was : List LentRow) (c : Call) (line : Line) (is : List LentRow) (after : Book) (reply : Answer) → SmallHead d.start →
        ((b a : List LentRow) (r : Answer) → LineComesTo kinds station manual d.start (usable was) line (offer kinds station manual d.start (ltb (length b) (usable was)) (said b) line) b a r → DraftCall kinds station manual d.start (usable was) c b a r) →
        BookKept kinds station manual d.start (usable was) (book.Draft d) was → StepsLine kinds station manual d was line is after reply →
        StepKept d.start (usable was) (book.Draft d) was c is after reply
    line_step d was c line is after reply small into k s = at (draft_offer kinds station manual d was line) refl
      where
        before : List LentRow
        before = held_rows was d.held

        long : length (held_rows was d.held) ≡ d.held
        long = held_long was d.held k.within

        offered : offer kinds station manual d.start (ltb (length (held_rows was d.held)) (usable was)) (said (held_rows was d.held)) line ≡ draft_offer kinds station manual d was line
        offered = ap (λ (n : ℕ). offer kinds station manual d.start (ltb n (usable was)) (said (held_rows was d.held)) line) long

        at : (o : Result AttackRow Refusal) → draft_offer kinds station manual d was line ≡ o → StepKept d.start (usable was) (book.Draft d) was c is after reply
        at (Ok row) e =
            let free = ltb-true d.held (usable was) (taken kinds station manual d.start (ltb d.held (usable was)) (said (held_rows was d.held)) line row e).found_free in
            let more : held_rows (set was d.held (written row line)) (d.held + 1) ≡ held_rows was d.held ++ written row line ∷ [] = held_set was d.held (written row line) free in
            step_as d.start (usable was) (book.Draft d) was c is (set was d.held (written row line)) after (book.Draft (record { start = d.start; held = d.held + 1 })) reply (answer.Row d.held)
            (s.lent ∙ ap (λ (o : Result AttackRow Refusal). rows_after d was line o) e)
            (s.draft ∙ ap (λ (o : Result AttackRow Refusal). book.Draft (draft_after d o)) e)
            (s.replied ∙ ap (λ (o : Result AttackRow Refusal). line_answer (told d o)) e)
            (make_step d.start (usable was) small (book.Draft d) was c (set was d.held (written row line)) (book.Draft (record { start = d.start; held = d.held + 1 })) (answer.Row d.held) k refl (usable_set was d.held (written row line)) (omega arith) (drop-set-lt (d.held + 1) was d.held (written row line) (omega arith))
            (into (held_rows was d.held) (held_rows (set was d.held (written row line)) (d.held + 1)) (answer.Row d.held)
            (subst (λ (o : Result AttackRow Refusal). LineComesTo kinds station manual d.start (usable was) line o (held_rows was d.held) (held_rows (set was d.held (written row line)) (d.held + 1)) (answer.Row d.held)) (sym (offered ∙ e))
            (ap (λ (n : ℕ). answer.Row n) (sym long), more)))
            (subst (λ (x : List LentRow). Grown kinds station manual d.start (usable was) (held_rows was d.held) x) (sym more)
            (grown_by_line kinds station manual d.start (usable was) (held_rows was d.held) (held_rows was d.held ++ written row line ∷ []) line
            (accept_shown kinds station manual d.start (usable was) (held_rows was d.held) line row (offered ∙ e))))
            (λ z. absurd (both_ways false refl z)) refl)
        at (Err why) e =
            step_as d.start (usable was) (book.Draft d) was c is was after (book.Draft d) reply (answer.Refused why)
            (s.lent ∙ ap (λ (o : Result AttackRow Refusal). rows_after d was line o) e)
            (s.draft ∙ ap (λ (o : Result AttackRow Refusal). book.Draft (draft_after d o)) e)
            (s.replied ∙ ap (λ (o : Result AttackRow Refusal). line_answer (told d o)) e)
            (make_step d.start (usable was) small (book.Draft d) was c was (book.Draft d) (answer.Refused why) k refl refl k.within refl
            (into (held_rows was d.held) (held_rows was d.held) (answer.Refused why)
            (subst (λ (o : Result AttackRow Refusal). LineComesTo kinds station manual d.start (usable was) line o (held_rows was d.held) (held_rows was d.held) (answer.Refused why)) (sym (offered ∙ e)) (refl, refl)))
            (grown_none kinds station manual d.start (usable was) (held_rows was d.held))
            (λ z. absurd (both_ways false refl z)) refl)

    -- a search
    search_step : (d : Draft) (was is : List LentRow) (after : Book) (reply : Answer) → SmallHead d.start →
        BookKept kinds station manual d.start (usable was) (book.Draft d) was → StepsSearch kinds station manual d was is after reply →
        StepKept d.start (usable was) (book.Draft d) was call.Search is after reply
    search_step d was is (book.Completed c) reply small k s =
        let left = s.0.left in
        let within = left.within in
        let few = k.within in
        let u : usable is ≡ usable was = ap (λ (n : ℕ). min 1024 n) left.long in
        let h : c.held ≤ usable was = omega arith in
        let same : min c.held (usable was) ≡ c.held = omega arith in
        let long : length (held_rows is c.held) ≡ c.held = held_long is c.held (omega arith) in
        step_as d.start (usable was) (book.Draft d) was call.Search is is (book.Completed c) (book.Completed c) reply (answer.Completed c.held) refl refl s.1
        (make_step d.start (usable was) small (book.Draft d) was call.Search is (book.Completed c) (answer.Completed c.held) k left.same_start u h (subst (λ (n : ℕ). drop n is ≡ drop n was) same left.kept)
        (record { grown = left.grown; ended = inl (ap (λ (n : ℕ). answer.Completed n) (sym long), s.0.settled) })
        left.grown (λ z. s.0.settled) refl)
    search_step d was is (book.Draft e) reply small k (why, s, r) =
        let left = s.left in
        let within = left.within in
        let few = k.within in
        let u : usable is ≡ usable was = ap (λ (n : ℕ). min 1024 n) left.long in
        let h : e.held ≤ usable was = omega arith in
        let same : min e.held (usable was) ≡ e.held = omega arith in
        step_as d.start (usable was) (book.Draft d) was call.Search is is (book.Draft e) (book.Draft e) reply (answer.Refused RowsDoNotFit) refl refl (r ∙ ap (λ (x : Refusal). answer.Refused x) s.refusal)
        (make_step d.start (usable was) small (book.Draft d) was call.Search is (book.Draft e) (answer.Refused RowsDoNotFit) k left.same_start u h (subst (λ (n : ℕ). drop n is ≡ drop n was) same left.kept)
        (record { grown = left.grown; ended = inr (refl, s.stuck) })
        left.grown (λ z. absurd (both_ways false refl z)) refl)

    draft_step : (d : Draft) (was : List LentRow) (c : Call) (is : List LentRow) (after : Book) (reply : Answer) → SmallHead d.start →
        BookKept kinds station manual d.start (usable was) (book.Draft d) was → StepsDraft kinds station manual d was c is after reply →
        StepKept d.start (usable was) (book.Draft d) was c is after reply
    draft_step d was (call.Enter side slot state symbol) is after reply small k s =
        line_step d was (call.Enter side slot state symbol) (EnterLine side slot state symbol) is after reply small (λ b a r w. w) k s
    draft_step d was (call.Join i j) is after reply small k s = line_step d was (call.Join i j) (JoinLine i j) is after reply small (λ b a r w. w) k s
    draft_step d was call.Search is after reply small k s = search_step d was is after reply small k s
    draft_step d was call.Ask is after reply small k s =
        still_step d.start (usable was) small (book.Draft d) was call.Ask (ask_answer (draft_answer d was)) is after reply k s
        (ask_told (says_refuted d.start (said (held_rows was d.held))), refl) (stays_draft (says_refuted d.start (said (held_rows was d.held))))
    draft_step d was call.Verdict is after reply small k s =
        still_step d.start (usable was) small (book.Draft d) was call.Verdict answer.NotOffered is after reply k s (refl, refl) refl

    completed_step : (d : Completed) (was : List LentRow) (c : Call) (after : Book) (reply : Answer) → SmallHead d.start →
        BookKept kinds station manual d.start (usable was) (book.Completed d) was → StepsCompleted d was c after reply →
        StepKept d.start (usable was) (book.Completed d) was c was after reply
    completed_step d was (call.Enter side slot state symbol) after reply small k s =
        still_step d.start (usable was) small (book.Completed d) was (call.Enter side slot state symbol) answer.NotOffered was after reply k s (refl, refl) refl
    completed_step d was (call.Join i j) after reply small k s =
        still_step d.start (usable was) small (book.Completed d) was (call.Join i j) answer.NotOffered was after reply k s (refl, refl) refl
    completed_step d was call.Search after reply small k s =
        still_step d.start (usable was) small (book.Completed d) was call.Search answer.NotOffered was after reply k s (refl, refl) refl
    completed_step d was call.Ask after reply small k s =
        still_step d.start (usable was) small (book.Completed d) was call.Ask answer.NotOffered was after reply k s (refl, refl) refl
    completed_step d was call.Verdict after reply small k s =
        still_step d.start (usable was) small (book.Completed d) was call.Verdict (verdict_answer (verdict_of d was)) was after reply k s
        (verdict_told (says_refuted d.start (said (held_rows was d.held))), refl) (stays_completed (says_refuted d.start (said (held_rows was d.held))))

    step_here : (before : Book) (was : List LentRow) (c : Call) (is : List LentRow) (after : Book) (reply : Answer) → SmallHead (start_of before) →
        BookKept kinds station manual (start_of before) (usable was) before was → Steps kinds station manual before was c is after reply →
        StepKept (start_of before) (usable was) before was c is after reply
    step_here (book.Draft d) was c is after reply small k s = draft_step d was c is after reply small k s
    step_here (book.Completed d) was c is after reply small k s =
        subst (λ (x : List LentRow). StepKept d.start (usable was) (book.Completed d) was c x after reply) (sym s.0) (completed_step d was c after reply small k s.1)

    pub step_kept : (start : Head) (room : ℕ) (before : Book) (was : List LentRow) (c : Call) (is : List LentRow) (after : Book) (reply : Answer) → SmallHead start →
        BookKept kinds station manual start room before was → Steps kinds station manual before was c is after reply →
        StepKept start room before was c is after reply
    step_kept start room before was c is after reply small k s =
        subst (λ (h : Head). StepKept h room before was c is after reply) k.same_start
        (subst (λ (n : ℕ). StepKept (start_of before) n before was c is after reply) k.as_many_usable
        (step_here before was c is after reply (subst (λ (h : Head). SmallHead h) (sym k.same_start) small)
        (subst (λ (n : ℕ). BookKept kinds station manual (start_of before) n before was) (sym k.as_many_usable)
        (subst (λ (h : Head). BookKept kinds station manual h room before was) (sym k.same_start) k)) s))

-- the starts of two lawful profiles are in range
pub starts_small : (kinds : ℕ → Option Kind) (station manual : List (Option Rule)) (o p : ℕ × ℕ) → LawfulProfile kinds station o → LawfulProfile kinds manual p → SmallHead (head_of_starts o p)
starts_small kinds station manual o p a b = ((a.state, b.state), (a.symbol, b.symbol))

-- Turn after turn.
module _ (kinds : ℕ → Option Kind) (station manual : List (Option Rule)) (start : Head) (room : ℕ) where
  -- what was kept stays so as rows are appended
  pub walk_more : (rows more : List LentRow) (completed : Bool) (held : ℕ) (ts : List Turn) → held ≤ length rows →
      TurnsKept kinds station manual start room rows completed held ts → TurnsKept kinds station manual start room (rows ++ more) completed held ts
  walk_more rows more completed held [] h w = tt
  walk_more rows more completed held (t ∷ ts) h w =
      let n = length-take t.held rows in
      let e = w.0.counts_are_true in
      let inside : t.held ≤ length rows = omega arith in (
        subst (λ (x : List LentRow). TurnKept kinds station manual start room completed x (take t.held (rows ++ more)) t) (sym (take-append-le held rows more h))
            (subst (λ (x : List LentRow). TurnKept kinds station manual start room completed (take held rows) x t) (sym (take-append-le t.held rows more inside)) w.0),
        walk_more rows more (completed_by completed t.answer) t.held ts inside w.1,
      )

  -- one turn more
  pub walk_next : (rows : List LentRow) (completed : Bool) (held : ℕ) (ts : List Turn) (t : Turn) → TurnsKept kinds station manual start room rows completed held ts →
      TurnKept kinds station manual start room (completed_after completed ts) (take (held_after held ts) rows) (take t.held rows) t →
      TurnsKept kinds station manual start room rows completed held (ts ++ t ∷ [])
  walk_next rows completed held [] t w k = (k, tt)
  walk_next rows completed held (s ∷ ts) t w k = (w.0, walk_next rows (completed_by completed s.answer) s.held ts t w.1 k)

  module _ (first : List LentRow) where
    pub guarantee_next : (completed : Bool) (held : ℕ) (given ts : List Turn) (before : Book) (was : List LentRow) (g t : Turn) (is : List LentRow) (after : Book) →
        Guarantee kinds station manual start room completed held given ts first before was → StepKept kinds station manual start room before was t.call is after t.answer → t.held ≡ held_of after → t.call ≡ g.call →
        Guarantee kinds station manual start room completed held (given ++ g ∷ []) (ts ++ t ∷ []) first after is
    guarantee_next completed held given ts before was g t is after w s e f =
        let k = w.book_kept in
        let l = s.kept in
        let few = k.within in
        let many = l.within in
        let u = k.as_many_usable in
        let v = l.as_many_usable in
        let long : length (held_rows was (held_of before)) ≡ held_of before = held_long was (held_of before) (omega arith) in
        let longer : length (held_rows is (held_of after)) ≡ held_of after = held_long is (held_of after) (omega arith) in
        let (more, grown) = s.grown in
        let lengths = ap length grown ∙ length-append (held_rows was (held_of before)) more in
        let only = w.rows_only_grow in
        let kept_rows = w.rows_held_before_stay in
        let front : take (held_after held ts) (held_rows is (held_of after)) ≡ held_rows was (held_of before) =
        ap (λ (n : ℕ). take n (held_rows is (held_of after))) (sym w.ends_with_the_last.0 ∙ sym long) ∙
        ap (λ (x : List LentRow). take (length (held_rows was (held_of before))) x) grown ∙
        take_at (held_rows was (held_of before)) more (length (held_rows was (held_of before))) refl in
        let whole : take t.held (held_rows is (held_of after)) ≡ held_rows is (held_of after) = take_all t.held (held_rows is (held_of after)) (omega arith) in
        record {
          calls_are_those_given = calls_next given ts g t w.calls_are_those_given f;
          each_turn_kept = walk_next (held_rows is (held_of after)) completed held ts t
              (subst (λ (x : List LentRow). TurnsKept kinds station manual start room x completed held ts) (sym grown)
              (walk_more (held_rows was (held_of before)) more completed held ts (omega arith) w.each_turn_kept))
              (subst (λ (b : Bool). TurnKept kinds station manual start room b (take (held_after held ts) (held_rows is (held_of after))) (take t.held (held_rows is (held_of after))) t) w.ends_with_the_last.1
              (subst (λ (x : List LentRow). TurnKept kinds station manual start room (is_completed before) x (take t.held (held_rows is (held_of after))) t) (sym front)
              (subst (λ (x : List LentRow). TurnKept kinds station manual start room (is_completed before) (held_rows was (held_of before)) x t) (sym whole)
              (subst (λ (n : ℕ). TurnKept kinds station manual start room (is_completed before) (held_rows was (held_of before)) (held_rows is (held_of after)) (record { call = t.call; answer = t.answer; held = n })) (sym e) s.turn))));
          rows_only_grow = omega arith;
          ends_with_the_last = (
            sym e ∙ sym (held_after_next held ts t),
            s.completed ∙ ap (λ (b : Bool). completed_by b t.answer) w.ends_with_the_last.1 ∙ sym (completed_after_next completed ts t),
          );
          rows_held_before_stay = (kept_rows.0 ++ more, grown ∙ ap (λ (x : List LentRow). x ++ more) kept_rows.1 ∙ append_assoc (held_rows first held) kept_rows.0 more);
          rows_past_the_held_are_as_they_were = past_stays (held_of before) (held_of after) first was is (omega arith) w.rows_past_the_held_are_as_they_were s.untouched;
          book_kept = l;
        }

    pub guarantee_begins : (before : Book) → BookKept kinds station manual start room before first →
        Guarantee kinds station manual start room (is_completed before) (held_of before) [] [] first before first
    guarantee_begins before k = record {
      calls_are_those_given = refl;
      each_turn_kept = tt;
      rows_only_grow = omega arith;
      rows_held_before_stay = ([], sym (append-nil (held_rows first (held_of before))));
      rows_past_the_held_are_as_they_were = refl;
      ends_with_the_last = (refl, refl);
      book_kept = k;
    }
