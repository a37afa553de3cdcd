use Rattle.std.proofs.Common.{◌≡◌, List, Ok, Err, rules}
use Rattle.profile.specs.Kinds.{event_kind}
use Rattle.game.specs.declared.Row.{Row}
use Rattle.book.proofs.Searched.{completes_so, leaves_off_so}
use Rattle.book.proofs.Decided.{decides}
use Rattle.book.proofs.state.Draft.search.Goals as goal

pub returns-in-Ok : goal.returns-in-Ok
returns-in-Ok g c =
    let s = g.S.Profile.rules c.args.station.now in
    let m = g.M.Profile.rules c.args.manual.now in
    let is = c.close-closed.new.self in
    let step = c.in-Ok.ensures.stepped in
    let ends = λ (last : List Row) (e : last ≡ is.rows.now). completes_so event_kind s m c.args.self c.args.rows.now is.rows.now is.held c.usable_rows-most.result c.min.result c.max-held.result c.usable_rows-most.ensures c.min.ensures c.max-held.ensures
    step.went last e step.goal in
    record {
      ends = ends _ (search rules);
      decides = λ start_is own. decides event_kind s m (g.S.Profile.origin c.args.station.now) (g.M.Profile.origin c.args.manual.now) (g.met.S.Profile.lawful c.args.station.now) (g.met.M.Profile.lawful c.args.manual.now)
          c.args.self c.args.rows.now _ start_is own (Ok _) (ends _ (search rules));
    }

pub returns-in-Err : goal.returns-in-Err
returns-in-Err g c =
    let s = g.S.Profile.rules c.args.station.now in
    let m = g.M.Profile.rules c.args.manual.now in
    let is = c.close-closed.new.self in
    let step = c.in-Err.ensures.stepped in
    let ends = λ (last : List Row) (e : last ≡ is.rows.now). leaves_off_so event_kind s m c.args.self c.args.rows.now is.rows.now is.held c.usable_rows-most.result c.min.result c.max-held.result c.usable_rows-most.ensures c.min.ensures c.max-held.ensures
    step.went last e step.stuck in
    record {
      ends = ends _ (search rules);
      decides = λ start_is own. decides event_kind s m (g.S.Profile.origin c.args.station.now) (g.M.Profile.origin c.args.manual.now) (g.met.S.Profile.lawful c.args.station.now) (g.met.M.Profile.lawful c.args.manual.now)
          c.args.self c.args.rows.now _ start_is own (Err _) (ends _ (search rules));
    }
