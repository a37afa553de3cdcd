use Rattle.std.proofs.Common.{sym}
use Rattle.profile.specs.Laws.{still_kept}
use Rattle.profile.proofs.table.Table.add.Goals as goal

pub invariant_of-self : goal.invariant_of-self
invariant_of-self c =
    let t = c.args.self.now in
    let kept = still_kept _ _ c.args.rule _ c.insert.ensures.lawful (sym c.if-not-is_lawful.ensures.value) t.few t.lawful t.ascending in
    record { few = kept.0; lawful = kept.1; ascending = kept.2; state_in_range = t.state_in_range; symbol_in_range = t.symbol_in_range }
