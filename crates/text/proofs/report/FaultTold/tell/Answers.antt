use Rattle.std.proofs.Common.{ap}
use Rattle.text.specs.Report.{shown_number}
use Rattle.text.proofs.Putting.{puts_then, puts_as}
use Rattle.text.proofs.report.FaultTold.tell.Goals as goal

pub returns-clause-wrote : goal.returns-clause-wrote
returns-clause-wrote c =
    puts_then (puts_then (puts_then (puts_then (puts_then
    c.put.ensures
    (puts_as (ap shown_number c.number.ensures) c.number-2.ensures.wrote))
    c.put-2.ensures)
    (puts_as (ap shown_number c.layer.ensures) c.number-3.ensures.wrote))
    (puts_then c.put-3.ensures c.number-4.ensures.wrote))
    c.put-4.ensures
