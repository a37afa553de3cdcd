use Rattle.std.proofs.Common.{ℕ, ap, ◌∙◌, arith}
use Rattle.std.proofs.lemmas.List.{take_all}
use Rattle.text.specs.Report.{shown_number, slot_lines}
use Rattle.text.proofs.Putting.{puts_then, puts_as, puts_slot}
use Rattle.text.proofs.report.TableTold.tell.Goals as goal

pub loop-number-preserved : goal.loop-number-preserved
loop-number-preserved c = record {
  written = puts_slot c.rules-rule-items.result.now c.loop-number.number _ c.loop-number-test.true c.loop-number.invariant.written c.tell.ensures.wrote;
  bound = omega (arith, c.loop-number.invariant.bound, c.tell.ensures.bound);
}

pub returns-clause-wrote : goal.returns-clause-wrote
returns-clause-wrote c =
    puts_then
    (puts_then c.put.ensures (puts_as (ap (slot_lines 0) (take_all c.loop-number.number c.rules-rule-items.result.now c.loop-number-test.false ∙ c.rules-rule-items.ensures.value)) c.loop-number.invariant.written))
    (puts_then (puts_then (puts_then
    c.put-2.ensures
    (puts_as (ap (λ (s : ℕ × ℕ). shown_number s.0) c.start-state.ensures) c.number.ensures.wrote))
    (puts_as (ap (λ (s : ℕ × ℕ). shown_number s.1) c.start-state.ensures) c.number-2.ensures.wrote))
    c.put-3.ensures)
