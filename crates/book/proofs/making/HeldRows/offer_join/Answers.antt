use Rattle.std.proofs.Common.{◌∙◌}
use Rattle.profile.specs.Kinds.{event_kind}
use Rattle.book.specs.Offers.{said}
use Rattle.book.proofs.Offering.{offered_join}
use Rattle.book.proofs.making.HeldRows.offer_join.Goals as goal

pub returns : goal.returns
returns c s m start = c.if_new.ensures ∙ offered_join c.args.self.free (said c.args.self.rows.now) event_kind s m start c.args.i c.args.j _ c.in_ok-join_row.ensures
