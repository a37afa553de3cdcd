use Rattle.std.proofs.Common.{leb, ap}
use Rattle.text.specs.Report.{shown_word, shown_symbol_if}
use Rattle.text.proofs.Putting.{puts_then, puts_as}
use Rattle.text.proofs.report.SlotTold.tell.Goals as goal

pub returns-clause-wrote : goal.returns-clause-wrote
returns-clause-wrote c =
    puts_then (puts_then (puts_then (puts_then (puts_then (puts_then (puts_then (puts_then (puts_then
    c.put.ensures
    c.number.ensures.wrote)
    (puts_as (ap shown_word c.mode_word.ensures.word) c.word.ensures))
    c.number-2.ensures.wrote)
    c.number-3.ensures.wrote)
    (puts_as (ap shown_word c.event_name.ensures.word) c.word-2.ensures))
    c.number-4.ensures.wrote)
    (puts_as (ap (λ n. shown_symbol_if (leb 1 n) c.args.self.now.rule.now.upper) c.used_by-used.ensures) c.put_symbol_if.ensures.wrote))
    (puts_as (ap (λ n. shown_symbol_if (leb 2 n) c.args.self.now.rule.now.lower) c.used_by-used.ensures) c.put_symbol_if-2.ensures.wrote))
    c.put-2.ensures
