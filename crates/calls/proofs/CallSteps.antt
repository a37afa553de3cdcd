-- The calls of a text, one after the other.
use Rattle.std.proofs.Common.{◌≡◌, ℕ, zero, suc, ◌+◌, ◌-◌, ◌<◌, ◌≤◌, Bool, true, false, cond, leb, List, [], ◌∷◌, ◌++◌, map, length, drop, Some, None, Ok, Err, codes, Option, Result, sym, refl, ap, ◌∙◌, inl, inr, arith, length-append, length-drop}
use Rattle.std.proofs.lemmas.List.{map-append}
use Rattle.std.proofs.lemmas.Bool.{cond-true, cond-false, cases_Bool}
use Rattle.std.specs.Str.{bytes_eq}
use Rattle.text.specs.declared.fault.WordCause.{WordCause}
use Rattle.text.specs.declared.fault.Cause.{Cause}
use Rattle.text.specs.declared.fault.Fault.{Fault}
use Rattle.text.specs.declared.fault.WordCause.TheVariants.{WordTooLong}
use Rattle.text.specs.declared.words.Due.{Due}
use Rattle.text.specs.declared.words.Word.{Word}
use Rattle.text.specs.declared.words.Due.TheVariants.{Keyword, Number}
use Rattle.text.specs.Faults.{word_fault, word_fault_in}
use Rattle.text.specs.Words.{is_blank, Rest, Step, Spelled, run_end, front, cut_at, found, next_from, next_word, text_end, spelled, seen}
use Rattle.text.specs.Sections.{and_then, word_due, in_range, plain_number}
use Rattle.text.proofs.Spacing.{run_some}
use Rattle.text.proofs.Dues.{then_ok, then_is, cond_ok, ok_same, there_some}
use Rattle.book.specs.declared.run.Call.{Call}
use Rattle.book.specs.declared.run.Call.TheVariants as call
use Rattle.book.specs.declared.run.Turn.{Turn}
use Rattle.book.specs.Turns.{to_be_made}
use Rattle.calls.specs.Calls.{read_operand, read_enter, read_join, read_call, call_or_end, more_calls, all_calls, calls_of, AllToBeMade}

-- what the reader told, as what is next in the text
pub word_seen : (o : Option Word) (w : Word) (now : Rest) (s : Rest) → seen (Ok o) now ≡ next_word Keyword s → o ≡ Some w → next_word Keyword s ≡ Ok (Some (record { value = spelled w; rest = now }))
word_seen o w now s e is = sym e ∙ ap (λ (x : Option Word). seen (Ok x) now) is

pub end_seen : (o : Option Word) (now : Rest) (s : Rest) → seen (Ok o) now ≡ next_word Keyword s → o ≡ None → next_word Keyword s ≡ Ok None
end_seen o now s e is = sym e ∙ ap (λ (x : Option Word). seen (Ok x) now) is

-- what is left gets shorter: a word has at least one byte
cut_shrinks : (k : Due) (b : ℕ) (t : List ℕ) (p n : ℕ) (w : Step Spelled) → 1 ≤ n - p → (d : Bool) → found (cond d (Ok (front k (n - p) (b ∷ t) p)) (Err (word_fault WordTooLong p))) ≡ Ok (Some w) → length w.rest.bytes < length (b ∷ t)
cut_shrinks k b t p n w some false h = cc
cut_shrinks k b t p n w some true h =
    let whole : ◌≡◌ {A = Step Spelled} (front k (n - p) (b ∷ t) p) w = cc in
    let back : length (drop (n - p) (b ∷ t)) ≡ length w.rest.bytes = ap (λ (x : Step Spelled). length x.rest.bytes) whole in
    let left = length-drop (n - p) (b ∷ t) in
    omega arith

at_shrinks : (k : Due) (b : ℕ) (t : List ℕ) (p : ℕ) (w : Step Spelled) → is_blank b ≡ false → (r : Result ℕ (Fault WordCause)) → run_end (b ∷ t) p ≡ r → found (cut_at k (b ∷ t) p r) ≡ Ok (Some w) → length w.rest.bytes < length (b ∷ t)
at_shrinks k b t p w nb (Err f) e h = cc
at_shrinks k b t p w nb (Ok n) e h = cut_shrinks k b t p n w (run_some b t p n nb e) (leb (n - p) 16) h

pub next_shrinks : (k : Due) (t : List ℕ) (p : ℕ) (w : Step Spelled) → next_from k t p ≡ Ok (Some w) → length w.rest.bytes < length t
next_shrinks k [] p w h = cc
next_shrinks k (b ∷ t) p w h =
    elim (cases_Bool (is_blank b)) [
      | inl on ↦ (let l = next_shrinks k t (p + 1) w (sym (cond-true _ _ _ on) ∙ h) in omega arith)
      | inr off ↦ at_shrinks k b t p w off (run_end (b ∷ t) p) refl (sym (cond-false _ _ _ off) ∙ h)
    ]

range_keeps : (lo hi : ℕ) (w : Step Spelled) (o : Option ℕ) (n : Step ℕ) → in_range lo hi w o ≡ Ok n → w.rest ≡ n.rest
range_keeps lo hi w None n h = cc
range_keeps lo hi w (Some m) n h = ap (λ (x : Step ℕ). x.rest) (ok_same (cond_ok _ _ _ _ h).1)

operand_shrinks : (s : Rest) (n : Step ℕ) → read_operand s ≡ Ok n → length n.rest.bytes ≤ length s.bytes
operand_shrinks s n h =
    let p = then_ok (word_due Number s) _ n h in
    let w = next_shrinks Number s.bytes s.at p.0 (there_some (text_end s) (next_word Number s) p.0 p.1) in
    let same : length p.0.rest.bytes ≡ length n.rest.bytes = ap (λ (r : Rest). length r.bytes) (range_keeps 0 9999 p.0 (plain_number p.0.value.bytes) n p.2) in
    omega arith

enter_shrinks : (s : Rest) (c : Step Call) → read_enter s ≡ Ok c → length c.rest.bytes ≤ length s.bytes
enter_shrinks s c h =
    let side = then_ok (read_operand s) _ c h in
    let slot = then_ok (read_operand side.0.rest) _ c side.2 in
    let state = then_ok (read_operand slot.0.rest) _ c slot.2 in
    let symbol = then_ok (read_operand state.0.rest) _ c state.2 in
    let i = operand_shrinks s side.0 side.1 in
    let j = operand_shrinks side.0.rest slot.0 slot.1 in
    let k = operand_shrinks slot.0.rest state.0 state.1 in
    let l = operand_shrinks state.0.rest symbol.0 symbol.1 in
    let same : length symbol.0.rest.bytes ≡ length c.rest.bytes = ap (λ (x : Step Call). length x.rest.bytes) (ok_same symbol.2) in
    omega arith

join_shrinks : (s : Rest) (c : Step Call) → read_join s ≡ Ok c → length c.rest.bytes ≤ length s.bytes
join_shrinks s c h =
    let first = then_ok (read_operand s) _ c h in
    let second = then_ok (read_operand first.0.rest) _ c first.2 in
    let i = operand_shrinks s first.0 first.1 in
    let j = operand_shrinks first.0.rest second.0 second.1 in
    let same : length second.0.rest.bytes ≡ length c.rest.bytes = ap (λ (x : Step Call). length x.rest.bytes) (ok_same second.2) in
    omega arith

here_keeps : (s : Rest) (v : Call) (c : Step Call) → ◌≡◌ {A = Result (Step Call) (Fault Cause)} (Ok (record { value = v; rest = s })) (Ok c) → length c.rest.bytes ≤ length s.bytes
here_keeps s v c h = let same : length s.bytes ≡ length c.rest.bytes = ap (λ (x : Step Call). length x.rest.bytes) (ok_same h) in omega arith

pub call_shrinks : (w : Step Spelled) (c : Step Call) → read_call w ≡ Ok c → length c.rest.bytes ≤ length w.rest.bytes
call_shrinks w c h =
    elim (cases_Bool (bytes_eq w.value.bytes (codes "enter"))) [
      | inl on ↦ enter_shrinks w.rest c (sym (cond-true _ _ _ on) ∙ h)
      | inr no_enter ↦ elim (cases_Bool (bytes_eq w.value.bytes (codes "join"))) [
        | inl on ↦ join_shrinks w.rest c (sym (cond-true _ _ _ on) ∙ sym (cond-false _ _ _ no_enter) ∙ h)
        | inr no_join ↦ elim (cases_Bool (bytes_eq w.value.bytes (codes "search"))) [
          | inl on ↦ here_keeps w.rest call.Search c (sym (cond-true _ _ _ on) ∙ sym (cond-false _ _ _ no_join) ∙ sym (cond-false _ _ _ no_enter) ∙ h)
          | inr no-search ↦ elim (cases_Bool (bytes_eq w.value.bytes (codes "ask"))) [
            | inl on ↦ here_keeps w.rest call.Ask c (sym (cond-true _ _ _ on) ∙ sym (cond-false _ _ _ no-search) ∙ sym (cond-false _ _ _ no_join) ∙ sym (cond-false _ _ _ no_enter) ∙ h)
            | inr no-ask ↦ here_keeps w.rest call.Verdict c (cond_ok _ _ _ _ (sym (cond-false _ _ _ no-ask) ∙ sym (cond-false _ _ _ no-search) ∙ sym (cond-false _ _ _ no_join) ∙ sym (cond-false _ _ _ no_enter) ∙ h)).1
          ]
        ]
      ]
    ]

-- some calls of a text are read, and what is left is enough for the others
pub record SoFar (from : Rest) (turns : List Turn) (s : Rest) : Type 0 where
  pub same : more_calls (length from.bytes - length turns) (calls_of turns) s ≡ all_calls from
  pub room : length s.bytes + length turns ≤ length from.bytes
  pub unmade : AllToBeMade turns

pub none_so_far : (from : Rest) → SoFar from [] from
none_so_far from =
    let z : length from.bytes - 0 ≡ length from.bytes = omega arith in
    record { same = ap (λ k. more_calls k [] from) z; room = omega arith; unmade = refl }

-- one turn of the reading, with k + 1 calls still allowed
pub one_call : (k : ℕ) (cs : List Call) (s : Rest) (w : Step Spelled) (c : Step Call) → next_word Keyword s ≡ Ok (Some w) → read_call w ≡ Ok c → more_calls (suc k) cs s ≡ more_calls k (cs ++ c.value ∷ []) c.rest
one_call k cs s w c n h = ap (call_or_end (more_calls k) cs) n ∙ then_is _ h

pub more_so_far : (from : Rest) (ts : List Turn) (s : Rest) (w : Step Spelled) (c : Step Call) → next_word Keyword s ≡ Ok (Some w) → read_call w ≡ Ok c → SoFar from ts s → SoFar from (ts ++ to_be_made c.value ∷ []) c.rest
more_so_far from ts s w c n h so =
    let l = next_shrinks Keyword s.bytes s.at w n in
    let m = call_shrinks w c h in
    let room = so.room in
    let longer : length (ts ++ to_be_made c.value ∷ []) ≡ length ts + 1 = length-append ts (to_be_made c.value ∷ []) in
    let fuel : length from.bytes - length ts ≡ suc (length from.bytes - length (ts ++ to_be_made c.value ∷ [])) = omega arith in
    let calls : calls_of (ts ++ to_be_made c.value ∷ []) ≡ calls_of ts ++ c.value ∷ [] = map-append (λ (t : Turn). t.call) ts (to_be_made c.value ∷ []) in
    record {
      same =
          ap (λ (cs : List Call). more_calls (length from.bytes - length (ts ++ to_be_made c.value ∷ [])) cs c.rest) calls ∙
          sym (one_call (length from.bytes - length (ts ++ to_be_made c.value ∷ [])) (calls_of ts) s w c n h) ∙
          ap (λ k. more_calls k (calls_of ts) s) (sym fuel) ∙ so.same;
      room = omega arith;
      unmade =
          ap (λ (l : List Turn). l ++ to_be_made c.value ∷ []) so.unmade ∙
          sym (map-append to_be_made (calls_of ts) (c.value ∷ [])) ∙ ap (map to_be_made) (sym calls);
    }

pub ended : (k : ℕ) (cs : List Call) (s : Rest) → next_word Keyword s ≡ Ok None → more_calls k cs s ≡ Ok cs
ended zero cs s h = refl
ended (suc k) cs s h = ap (call_or_end (more_calls k) cs) h

pub all_so_far : (from : Rest) (ts : List Turn) (s : Rest) → next_word Keyword s ≡ Ok None → SoFar from ts s → all_calls from ≡ Ok (calls_of ts)
all_so_far from ts s h so = sym so.same ∙ ended (length from.bytes - length ts) (calls_of ts) s h

some_left : (k : Due) (t : List ℕ) (p : ℕ) (f : Fault WordCause) → next_from k t p ≡ Err f → 1 ≤ length t
some_left k [] p f h = cc
some_left k (b ∷ t) p f h = omega arith

pub word_fault_so_far : (from : Rest) (ts : List Turn) (s : Rest) (f : Fault WordCause) → next_word Keyword s ≡ Err f → SoFar from ts s → all_calls from ≡ Err (word_fault_in f)
word_fault_so_far from ts s f h so =
    let l = some_left Keyword s.bytes s.at f h in
    let room = so.room in
    let fuel : length from.bytes - length ts ≡ suc (length from.bytes - length ts - 1) = omega arith in
    sym so.same ∙ ap (λ k. more_calls k (calls_of ts) s) fuel ∙ ap (call_or_end (more_calls (length from.bytes - length ts - 1)) (calls_of ts)) h

pub call_fault_so_far : (from : Rest) (ts : List Turn) (s : Rest) (w : Step Spelled) (f : Fault Cause) → next_word Keyword s ≡ Ok (Some w) → read_call w ≡ Err f → SoFar from ts s → all_calls from ≡ Err f
call_fault_so_far from ts s w f n h so =
    let l = next_shrinks Keyword s.bytes s.at w n in
    let room = so.room in
    let fuel : length from.bytes - length ts ≡ suc (length from.bytes - length ts - 1) = omega arith in
    let more : List Call → Rest → Result (List Call) (Fault Cause) = more_calls (length from.bytes - length ts - 1) in
    sym so.same ∙ ap (λ k. more_calls k (calls_of ts) s) fuel ∙ ap (call_or_end more (calls_of ts)) n ∙
    ap (λ (r : Result (Step Call) (Fault Cause)). and_then r (λ c. more (calls_of ts ++ c.value ∷ []) c.rest)) h
