use Rattle.std.proofs.Common.{refl}
use Rattle.book.proofs.Trials.{went_still}
use Rattle.book.proofs.Entering.{known_head}
use Rattle.book.proofs.running.Search.try_new_head.Goals as goal

pub returns-then-was_called_for : goal.returns-then-was_called_for
returns-then-was_called_for g c = record {
  same_sides = refl;
  same_rows = refl;
  stepped = went_still _ _ _ _ _ _ _ c.args.self.now.within (known_head _ _ _ _ c.args.self.now.held c.args.done c.args.self.now.rows.now c.args.head c.args.self.now.within c.requires c.if-was_called_for.ensures);
}
