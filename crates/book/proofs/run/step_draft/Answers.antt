use Rattle.book.proofs.Turning.{join_steps}
use Rattle.book.proofs.run.step_draft.Goals as goal

pub returns-in-Join : goal.returns-in-Join
returns-in-Join g c =
    let s = g.S.Profile.rules c.args.station.now in
    let m = g.M.Profile.rules c.args.manual.now in
    join_steps _ s m c.args.draft c.args.rows.now c.args.call c.in-Join.first c.in-Join.second c.join-told.new.rows c.join-told.new.self c.join-told.result c.into-in-Join.result
    c.in-Join.is (c.join-told.ensures.draft s m) (c.join-told.ensures.answer s m) (c.join-told.ensures.lent s m) c.into-in-Join.ensures
