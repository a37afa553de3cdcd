-- A text of calls is accepted just where the grammar says what it says, and no text says two things.
use Rattle.std.proofs.Common.{◌≡◌, ℕ, zero, suc, ◌≤◌, true, false, List, [], ◌∷◌, ◌++◌, length, Some, None, Ok, Err, codes, decimal, Option, Result, sym, refl, ap, ◌∙◌, subst, inl, inr, append_assoc, arith}
use Rattle.std.proofs.lemmas.List.{append-nil}
use Rattle.std.proofs.lemmas.Bool.{cond-true, cond-false, cases_Bool}
use Rattle.std.specs.Str.{bytes_eq}
use Rattle.text.specs.declared.fault.WordCause.{WordCause}
use Rattle.text.specs.declared.fault.Cause.{Cause}
use Rattle.text.specs.declared.fault.Fault.{Fault}
use Rattle.text.specs.declared.words.Due.TheVariants.{Keyword}
use Rattle.text.specs.Words.{Rest, Step, Spelled, begun, next_word}
use Rattle.text.specs.Sections.{read_keyword, read_number}
use Rattle.text.specs.Grammar.{Spaced, ends}
use Rattle.text.proofs.Spacing.{Takes, takes_none, takes_then, next_of, none_of, word_of, end_of}
use Rattle.text.proofs.Saying.{short_text, read_short}
use Rattle.text.proofs.Dues.{then_ok, then_is, cond_ok, ok_same, same_bytes, bytes_same, keyword_takes, keyword_reads, number_takes, number_reads}
use Rattle.book.specs.declared.run.Call.{Call}
use Rattle.book.specs.declared.run.Call.TheVariants as call
use Rattle.calls.specs.declared.reading.Script.{Script}
use Rattle.calls.specs.declared.reading.Unread.{Unread}
use Rattle.calls.specs.declared.reading.Unread.TheVariants.{Refused, NoMemory}
use Rattle.calls.specs.Calls.{read_operand, read_enter, read_join, read_call, call_or_end, more_calls, all_calls, read_script, read_calls, TextRead}
use Rattle.calls.specs.CallGrammar.{call_words, calls_words, Small, AllSmall, SaysCalls, CallsJudged, SaysOne}
use Rattle.calls.proofs.CallSteps.{next_shrinks, call_shrinks, one_call, ended}

-- a call that was read: its word, and what follows it
pub record CallTaken (w : Step Spelled) (c : Step Call) : Type 0 where
  pub small : Small c.value
  pub tail : List (List ℕ)
  pub words : w.value.bytes ∷ tail ≡ call_words c.value
  pub takes : Takes w.rest tail c.rest

enter_takes : (w : Step Spelled) (c : Step Call) → w.value.bytes ≡ codes "enter" → read_enter w.rest ≡ Ok c → CallTaken w c
enter_takes w c spelled h =
    let s : Rest = w.rest in
    let side = then_ok (read_operand s) _ c h in
    let slot = then_ok (read_operand side.0.rest) _ c side.2 in
    let state = then_ok (read_operand slot.0.rest) _ c slot.2 in
    let symbol = then_ok (read_operand state.0.rest) _ c state.2 in
    let i = number_takes 0 9999 s side.0 side.1 in
    let j = number_takes 0 9999 side.0.rest slot.0 slot.1 in
    let k = number_takes 0 9999 slot.0.rest state.0 state.1 in
    let l = number_takes 0 9999 state.0.rest symbol.0 symbol.1 in
    let tail : List (List ℕ) = decimal side.0.value ∷ decimal slot.0.value ∷ decimal state.0.value ∷ decimal symbol.0.value ∷ [] in
    subst (λ (x : Step Call). CallTaken w x) (ok_same symbol.2) (record {
      small = (i.most, j.most, k.most, l.most);
      tail = tail;
      words = ap (λ (b : List ℕ). b ∷ tail) spelled;
      takes = takes_then i.takes (takes_then j.takes (takes_then k.takes l.takes));
    })

join_takes : (w : Step Spelled) (c : Step Call) → w.value.bytes ≡ codes "join" → read_join w.rest ≡ Ok c → CallTaken w c
join_takes w c spelled h =
    let first = then_ok (read_operand w.rest) _ c h in
    let second = then_ok (read_operand first.0.rest) _ c first.2 in
    let i = number_takes 0 9999 w.rest first.0 first.1 in
    let j = number_takes 0 9999 first.0.rest second.0 second.1 in
    let tail : List (List ℕ) = decimal first.0.value ∷ decimal second.0.value ∷ [] in
    subst (λ (x : Step Call). CallTaken w x) (ok_same second.2) (record {
      small = (i.most, j.most);
      tail = tail;
      words = ap (λ (b : List ℕ). b ∷ tail) spelled;
      takes = takes_then i.takes j.takes;
    })

-- a call of one word
word_takes : (w : Step Spelled) (v : Call) (c : Step Call) → w.value.bytes ∷ [] ≡ call_words v → Small v → ◌≡◌ {A = Result (Step Call) (Fault Cause)} (Ok (record { value = v; rest = w.rest })) (Ok c) → CallTaken w c
word_takes w v c words small h =
    subst (λ (x : Step Call). CallTaken w x) (ok_same h) (record { small = small; tail = []; words = words; takes = takes_none w.rest })

alone : (w : Step Spelled) (bytes : List ℕ) → bytes_eq w.value.bytes bytes ≡ true → w.value.bytes ∷ [] ≡ bytes ∷ []
alone w bytes on = ap (λ (b : List ℕ). b ∷ []) (same_bytes w.value.bytes bytes on)

call_takes : (w : Step Spelled) (c : Step Call) → read_call w ≡ Ok c → CallTaken w c
call_takes w c h =
    elim (cases_Bool (bytes_eq w.value.bytes (codes "enter"))) [
      | inl on ↦ enter_takes w c (same_bytes _ _ on) (sym (cond-true _ _ _ on) ∙ h)
      | inr no_enter ↦ (let rest = sym (cond-false _ _ _ no_enter) ∙ h in elim (cases_Bool (bytes_eq w.value.bytes (codes "join"))) [
        | inl on ↦ join_takes w c (same_bytes _ _ on) (sym (cond-true _ _ _ on) ∙ rest)
        | inr no_join ↦ (let rest = sym (cond-false _ _ _ no_join) ∙ rest in elim (cases_Bool (bytes_eq w.value.bytes (codes "search"))) [
          | inl on ↦ word_takes w call.Search c (alone w (codes "search") on) tt (sym (cond-true _ _ _ on) ∙ rest)
          | inr no-search ↦ (let rest = sym (cond-false _ _ _ no-search) ∙ rest in elim (cases_Bool (bytes_eq w.value.bytes (codes "ask"))) [
            | inl on ↦ word_takes w call.Ask c (alone w (codes "ask") on) tt (sym (cond-true _ _ _ on) ∙ rest)
            | inr no-ask ↦ (let p = cond_ok _ _ _ _ (sym (cond-false _ _ _ no-ask) ∙ rest) in word_takes w call.Verdict c (alone w (codes "verdict") p.0) tt p.1)
          ])
        ])
      ])
    ]

-- calls that were read, after some others
pub record CallsTaken (before : List Call) (s : Rest) (cs : List Call) : Type 0 where
  pub new : List Call
  pub all : cs ≡ before ++ new
  pub small : AllSmall new
  pub spelled : Spaced s.bytes (calls_words new)

nothing_left : (t : List ℕ) → length t ≤ 0 → Spaced t []
nothing_left [] h = ends
nothing_left (b ∷ t) h = absurd (omega arith)

no_more : (before : List Call) (s : Rest) (cs : List Call) → Spaced s.bytes [] → ◌≡◌ {A = Result (List Call) (Fault Cause)} (Ok before) (Ok cs) → CallsTaken before s cs
no_more before s cs none h = record { new = []; all = sym (ok_same h) ∙ sym (append-nil before); small = tt; spelled = none }

one_more : (before : List Call) (s : Rest) (cs : List Call) (w : Step Spelled) (c : Step Call) → next_word Keyword s ≡ Ok (Some w) → CallTaken w c → CallsTaken (before ++ c.value ∷ []) c.rest cs → CallsTaken before s cs
one_more before s cs w c n taken more = record {
  new = c.value ∷ more.new;
  all = more.all ∙ append_assoc before (c.value ∷ []) more.new;
  small = (taken.small, more.small);
  spelled =
      subst (λ (l : List (List ℕ)). Spaced s.bytes (l ++ calls_words more.new)) taken.words
      (word_of Keyword s.bytes s.at w n (taken.tail ++ calls_words more.new) (taken.takes.gives (calls_words more.new) more.spelled));
}

call_or_none : (k : ℕ) (before : List Call) (s : Rest) (cs : List Call) → length s.bytes ≤ suc k → ((b : List Call) (t : Rest) → length t.bytes ≤ k → more_calls k b t ≡ Ok cs → CallsTaken b t cs) → (r : Result (Option (Step Spelled)) (Fault WordCause)) → next_word Keyword s ≡ r → call_or_end (more_calls k) before r ≡ Ok cs → CallsTaken before s cs
call_or_none k before s cs few again (Ok None) n e = no_more before s cs (end_of Keyword s.bytes s.at n) e
call_or_none k before s cs few again (Ok (Some w)) n e =
    let p = then_ok (read_call w) _ cs e in
    let i = next_shrinks Keyword s.bytes s.at w n in
    let j = call_shrinks w p.0 p.1 in
    one_more before s cs w p.0 n (call_takes w p.0 p.1) (again (before ++ p.0.value ∷ []) p.0.rest (omega arith) p.2)
call_or_none k before s cs few again (Err f) n e = cc

more_take : (k : ℕ) (before : List Call) (s : Rest) (cs : List Call) → length s.bytes ≤ k → more_calls k before s ≡ Ok cs → CallsTaken before s cs
more_take zero before s cs few h = no_more before s cs (nothing_left s.bytes few) h
more_take (suc k) before s cs few h = call_or_none k before s cs few (λ b t. more_take k b t cs) (next_word Keyword s) refl h

-- accepted texts say what was read
accepted_says : (text : List ℕ) (lend : ℕ) (calls : List Call) → read_calls text ≡ Ok (lend, calls) → SaysCalls text lend calls
accepted_says text lend calls h =
    let start = short_text text (read_script (begun text)) (lend, calls) h in
    let heading = then_ok (read_keyword (codes "lend") (begun text)) _ (lend, calls) start.1 in
    let n = then_ok (read_number 0 1024 heading.0.rest) _ (lend, calls) heading.2 in
    let all = then_ok (all_calls n.0.rest) _ (lend, calls) n.2 in
    let same = ok_same all.2 in
    let a = keyword_takes (codes "lend") (begun text) heading.0 heading.1 in
    let b = number_takes 0 1024 heading.0.rest n.0 n.1 in
    let d = more_take (length n.0.rest.bytes) [] n.0.rest all.0 (omega arith) all.1 in
    let words : Spaced text (codes "lend" ∷ decimal n.0.value ∷ calls_words d.new) = (takes_then a b.takes).gives (calls_words d.new) d.spelled in
    let new : d.new ≡ all.0 = sym d.all in
    let read : SaysCalls text n.0.value all.0 =
    subst (λ (l : List Call). SaysCalls text n.0.value l) new (record { short = start.0; spelled = words; few = b.most; small = d.small }) in
    subst (λ (p : ℕ × List Call). SaysCalls text p.0 p.1) same read

-- a call that is spelled is read
pub record CallRead (v : Call) (s : Rest) (ws : List (List ℕ)) : Type 0 where
  pub word : Step Spelled
  pub next : next_word Keyword s ≡ Ok (Some word)
  pub step : Step Call
  pub is : read_call word ≡ Ok step
  pub value : step.value ≡ v
  pub left : Spaced step.rest.bytes ws

-- a word that is spelled otherwise
other : {b u : List ℕ} (wanted : List ℕ) → b ≡ u → bytes_eq u wanted ≡ false → bytes_eq b wanted ≡ false
other wanted e h = ap (λ (l : List ℕ). bytes_eq l wanted) e ∙ h

call_reads : (v : Call) (s : Rest) (ws : List (List ℕ)) → Small v → Spaced s.bytes (call_words v ++ ws) → CallRead v s ws
call_reads (call.Enter a b c d) s ws small h =
    let w = next_of Keyword s.bytes s.at (codes "enter") (decimal a ∷ decimal b ∷ decimal c ∷ decimal d ∷ ws) h in
    let i = number_reads 0 9999 a w.step.rest (decimal b ∷ decimal c ∷ decimal d ∷ ws) (omega arith) small.0 (omega arith) w.left in
    let j = number_reads 0 9999 b i.step.rest (decimal c ∷ decimal d ∷ ws) (omega arith) small.1 (omega arith) i.left in
    let k = number_reads 0 9999 c j.step.rest (decimal d ∷ ws) (omega arith) small.2 (omega arith) j.left in
    let l = number_reads 0 9999 d k.step.rest ws (omega arith) small.3 (omega arith) k.left in
    record {
      word = w.step;
      next = w.is;
      step = record { value = call.Enter i.step.value j.step.value k.step.value l.step.value; rest = l.step.rest };
      is = cond-true _ _ _ (bytes_same _ _ w.bytes) ∙ then_is _ i.is ∙ then_is _ j.is ∙ then_is _ k.is ∙ then_is _ l.is;
      value =
          ap (λ (x : ℕ). call.Enter x j.step.value k.step.value l.step.value) i.value ∙
          ap (λ (x : ℕ). call.Enter a x k.step.value l.step.value) j.value ∙
          ap (λ (x : ℕ). call.Enter a b x l.step.value) k.value ∙ ap (call.Enter a b c) l.value;
      left = l.left;
    }
call_reads (call.Join a b) s ws small h =
    let w = next_of Keyword s.bytes s.at (codes "join") (decimal a ∷ decimal b ∷ ws) h in
    let i = number_reads 0 9999 a w.step.rest (decimal b ∷ ws) (omega arith) small.0 (omega arith) w.left in
    let j = number_reads 0 9999 b i.step.rest ws (omega arith) small.1 (omega arith) i.left in
    record {
      word = w.step;
      next = w.is;
      step = record { value = call.Join i.step.value j.step.value; rest = j.step.rest };
      is = cond-false _ _ _ (other (codes "enter") w.bytes refl) ∙ cond-true _ _ _ (bytes_same _ _ w.bytes) ∙ then_is _ i.is ∙ then_is _ j.is;
      value = ap (λ (x : ℕ). call.Join x j.step.value) i.value ∙ ap (call.Join a) j.value;
      left = j.left;
    }
call_reads call.Search s ws small h =
    let w = next_of Keyword s.bytes s.at (codes "search") ws h in
    record {
      word = w.step;
      next = w.is;
      step = record { value = call.Search; rest = w.step.rest };
      is = cond-false _ _ _ (other (codes "enter") w.bytes refl) ∙ cond-false _ _ _ (other (codes "join") w.bytes refl) ∙ cond-true _ _ _ (bytes_same _ _ w.bytes);
      value = refl;
      left = w.left;
    }
call_reads call.Ask s ws small h =
    let w = next_of Keyword s.bytes s.at (codes "ask") ws h in
    record {
      word = w.step;
      next = w.is;
      step = record { value = call.Ask; rest = w.step.rest };
      is =
          cond-false _ _ _ (other (codes "enter") w.bytes refl) ∙ cond-false _ _ _ (other (codes "join") w.bytes refl) ∙
          cond-false _ _ _ (other (codes "search") w.bytes refl) ∙ cond-true _ _ _ (bytes_same _ _ w.bytes);
      value = refl;
      left = w.left;
    }
call_reads call.Verdict s ws small h =
    let w = next_of Keyword s.bytes s.at (codes "verdict") ws h in
    record {
      word = w.step;
      next = w.is;
      step = record { value = call.Verdict; rest = w.step.rest };
      is =
          cond-false _ _ _ (other (codes "enter") w.bytes refl) ∙ cond-false _ _ _ (other (codes "join") w.bytes refl) ∙
          cond-false _ _ _ (other (codes "search") w.bytes refl) ∙ cond-false _ _ _ (other (codes "ask") w.bytes refl) ∙
          cond-true _ _ _ (bytes_same _ _ w.bytes);
      value = refl;
      left = w.left;
    }

more_read : (new : List Call) (k : ℕ) (before : List Call) (s : Rest) → length s.bytes ≤ k → AllSmall new → Spaced s.bytes (calls_words new) → more_calls k before s ≡ Ok (before ++ new)
more_read [] k before s few small h = ended k before s (none_of Keyword s.bytes s.at h) ∙ ap Ok (sym (append-nil before))
more_read (c ∷ new) zero before s few small h =
    let r = call_reads c s (calls_words new) small.0 h in
    let i = next_shrinks Keyword s.bytes s.at r.word r.next in
    absurd (omega arith)
more_read (c ∷ new) (suc k) before s few small h =
    let r = call_reads c s (calls_words new) small.0 h in
    let i = next_shrinks Keyword s.bytes s.at r.word r.next in
    let j = call_shrinks r.word r.step r.is in
    one_call k before s r.word r.step r.next r.is ∙
    more_read new k (before ++ r.step.value ∷ []) r.step.rest (omega arith) small.1 r.left ∙
    ap Ok (append_assoc before (r.step.value ∷ []) new ∙ ap (λ (x : Call). before ++ x ∷ new) r.value)

-- texts that say something are accepted, and as what they say
said_accepted : (text : List ℕ) (lend : ℕ) (calls : List Call) → SaysCalls text lend calls → read_calls text ≡ Ok (lend, calls)
said_accepted text lend calls says =
    let a = keyword_reads (codes "lend") (begun text) (decimal lend ∷ calls_words calls) says.spelled in
    let n = number_reads 0 1024 lend a.step.rest (calls_words calls) (omega arith) says.few (omega arith) a.left in
    let all : all_calls n.step.rest ≡ Ok calls = more_read calls (length n.step.rest.bytes) [] n.step.rest (omega arith) says.small n.left in
    read_short text (read_script (begun text)) says.short ∙ then_is _ a.is ∙ then_is _ n.is ∙ then_is _ all ∙
    ap (λ (x : ℕ). Ok (x, calls)) n.value

pub says_one : (text : List ℕ) → SaysOne text
says_one text lend more calls others a b =
    let same : ◌≡◌ {A = ℕ × List Call} (lend, calls) (more, others) = ok_same (sym (said_accepted text lend calls a) ∙ said_accepted text more others b) in
    (ap (λ (p : ℕ × List Call). p.0) same, ap (λ (p : ℕ × List Call). p.1) same)

refused_says : (text : List ℕ) (f : Fault Cause) (lend : ℕ) (calls : List Call) → read_calls text ≡ Err f → SaysCalls text lend calls → ⊥
refused_says text f lend calls e s = let g = sym (said_accepted text lend calls s) ∙ e in cc

pub judged_by_grammar : (text : List ℕ) (r : Result Script Unread) → TextRead text r → CallsJudged text r
judged_by_grammar text (Ok script) h = accepted_says text script.lend _ h.0
judged_by_grammar text (Err (Refused f)) h = λ lend calls s. refused_says text f lend calls h s
judged_by_grammar text (Err NoMemory) h = tt
