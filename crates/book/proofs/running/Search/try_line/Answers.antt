use Rattle.std.proofs.Common.{refl, rules}
use Rattle.book.proofs.Trials.{line_made, line_stuck, line_idle}
use Rattle.book.proofs.running.Search.try_line.Goals as goal

pub returns-in-Ok : goal.returns-in-Ok
returns-in-Ok g c = record {
  same_sides = refl;
  same_rows = refl;
  stepped = line_made _ _ _ _ c.args.self.now.held c.args.self.now.rows.now c.args.line c.args.self.now.within c.in-Ok.row c.in-Ok.ensures;
}

pub returns-in-Err : goal.returns-in-Err
returns-in-Err g c = record {
  same_sides = refl;
  same_rows = refl;
  stepped = line_stuck _ _ _ _ c.args.self.now.held c.args.self.now.rows.now c.args.line c.args.self.now.within c.in-Err.why c.in-Err.ensures (search rules);
}

pub returns-in-Err-2 : goal.returns-in-Err-2
returns-in-Err-2 g c = record {
  same_sides = refl;
  same_rows = refl;
  stepped = line_idle _ _ _ _ c.args.self.now.held c.args.self.now.rows.now c.args.line c.args.self.now.within c.in-Err.why c.in-Err.ensures (search rules);
}
