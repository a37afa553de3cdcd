use Rattle.std.proofs.Common.{List, [], ◌∷◌, ◌++◌, vec_items, sym, ap, ◌∙◌, subst, arith}
use Rattle.std.proofs.lemmas.Result.{err_from_is_err_and}
use Rattle.text.specs.declared.words.Due.TheVariants.{Keyword}
use Rattle.text.specs.Words.{Step, Spelled, spelled}
use Rattle.book.specs.declared.run.Call.{Call}
use Rattle.book.specs.declared.run.Turn.{Turn}
use Rattle.calls.proofs.CallSteps.{word_seen, end_seen, SoFar, more_so_far, all_so_far, word_fault_so_far, call_fault_so_far, next_shrinks, call_shrinks}
use Rattle.calls.proofs.reading.call_list.Goals as goal

pub returns-in_err-word : goal.returns-in_err-word
returns-in_err-word c =
    let p = err_from_is_err_and c.from_residual.result c.from_residual.ensures.1 in
    rw (p.1, p.2) (word_fault_so_far _ _ _ _ (sym c.in_err-word.ensures.value) c.loop-turns.invariant)

pub returns-in_err-call : goal.returns-in_err-call
returns-in_err-call c =
    let p = err_from_is_err_and c.from_residual-in_err-call.result c.from_residual-in_err-call.ensures.1 in
    let w : Step Spelled = record { value = spelled c.in-Some.word; rest = c.next.new.self } in
    let n = word_seen _ _ _ c.loop-turns.reader c.in_ok-word.ensures.value c.in-Some.is in
    rw (p.1, p.2) (call_fault_so_far _ _ c.loop-turns.reader w _ n (sym c.in_err-call.ensures) c.loop-turns.invariant)

pub loop-turns-smaller : goal.loop-turns-smaller
loop-turns-smaller c =
    let w : Step Spelled = record { value = spelled c.in-Some.word; rest = c.next.new.self } in
    let n = word_seen _ _ _ c.loop-turns.reader c.in_ok-word.ensures.value c.in-Some.is in
    let after : Step Call = record { value = c.in_ok-call.call; rest = c.call_at.new.reader } in
    let s = next_shrinks Keyword c.loop-turns.reader.bytes c.loop-turns.reader.at w n in
    let t = call_shrinks w after (sym c.in_ok-call.ensures) in
    omega arith

pub loop-turns-preserved : goal.loop-turns-preserved
loop-turns-preserved c =
    let w : Step Spelled = record { value = spelled c.in-Some.word; rest = c.next.new.self } in
    let n = word_seen _ _ _ c.loop-turns.reader c.in_ok-word.ensures.value c.in-Some.is in
    let after : Step Call = record { value = c.in_ok-call.call; rest = c.call_at.new.reader } in
    let more = more_so_far c.args.reader.now (vec_items c.loop-turns.turns) c.loop-turns.reader w after n (sym c.in_ok-call.ensures) c.loop-turns.invariant in
    subst (λ (ts : List Turn). SoFar c.args.reader.now ts after.rest) (sym (c.in_ok-push.ensures.items ∙ ap (λ (t : Turn). vec_items c.loop-turns.turns ++ t ∷ []) c.new.ensures)) more

pub returns : goal.returns
returns c = (
  all_so_far _ (vec_items c.loop-turns.turns) c.loop-turns.reader (end_seen _ _ c.loop-turns.reader c.in_ok-word.ensures.value c.in_default.is) c.loop-turns.invariant,
  c.loop-turns.invariant.unmade,
)
