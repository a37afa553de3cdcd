use Rattle.profile.specs.Laws.{table_law}
use Rattle.profile.proofs.table.Table.rules.Goals as goal

pub returns-clause-law : goal.returns-clause-law
returns-clause-law c =
    let t = c.args.self.now in
    table_law t.rules t.start t.few t.lawful t.ascending t.state_in_range t.symbol_in_range
