use Rattle.std.proofs.Common.{rules}
use Rattle.std.proofs.iter.runs.Sources.{ranges}
use Rattle.profile.specs.Renames.{test_judged}
use Rattle.profile.proofs.event_table.calls.renames.Goals as goal

pub returns : goal.returns
returns c =
    let p = test_judged c.args.events.now c.all.result (search (rules, ranges)) (search (rules, ranges)) in
    record { value = p.0; kept = p.1; broken = p.2 }
