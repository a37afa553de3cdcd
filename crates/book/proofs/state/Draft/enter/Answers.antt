use Rattle.profile.specs.Kinds.{event_kind}
use Rattle.game.specs.declared.Line.TheVariants.{Enter}
use Rattle.book.proofs.Drafting.{accepted}
use Rattle.book.proofs.state.Draft.enter.Goals as goal

pub returns-clause-lent : goal.returns-clause-lent
returns-clause-lent g c =
    (accepted event_kind (g.S.Profile.rules c.args.station.now) (g.M.Profile.rules c.args.manual.now) c.args.self.now c.args.rows.now (Enter c.args.side c.args.slot c.args.state c.args.symbol) c.of.result.free c.of.result.rows.now
    c.of.ensures.free c.of.ensures.rows c.in_ok-row.row c.in_ok-row.ensures c.append.result c.append.new.rows c.append.new.self c.append.ensures.told c.append.ensures.rows c.append.ensures.draft).1
