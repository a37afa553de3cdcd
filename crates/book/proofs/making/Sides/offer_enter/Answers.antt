use Rattle.std.proofs.Common.{◌∙◌, refl}
use Rattle.std.proofs.lemmas.Result.{err_from_is_err_and}
use Rattle.profile.specs.Kinds.{event_kind}
use Rattle.book.specs.Offers.{said}
use Rattle.book.specs.Attacks.{attempted}
use Rattle.book.proofs.Offering.{enter_refused, enter_uncalled, enter_called}
use Rattle.book.proofs.making.Sides.offer_enter.Goals as goal

pub returns-in_err-attack : goal.returns-in_err-attack
returns-in_err-attack g c =
    let s = g.S.Profile.rules c.args.self.now.station.now in
    let m = g.M.Profile.rules c.args.self.now.manual.now in
    let p = err_from_is_err_and c.from_residual.result c.from_residual.ensures.1 in
    rw (p.1, p.2) (enter_refused c.args.held.free (said c.args.held.rows.now) event_kind s m c.args.self.now.start c.args.side c.args.slot c.args.state c.args.symbol _ refl _ c.in_err-attack.ensures)

pub returns-in_err-attack_row : goal.returns-in_err-attack_row
returns-in_err-attack_row g c =
    let s = g.S.Profile.rules c.args.self.now.station.now in
    let m = g.M.Profile.rules c.args.self.now.manual.now in
    let p = err_from_is_err_and c.from_residual-in_err-attack_row.result c.from_residual-in_err-attack_row.ensures.1 in
    rw (p.1, p.2)
    (enter_called c.args.held.free (said c.args.held.rows.now) event_kind s m c.args.self.now.start c.args.side c.args.slot c.args.state c.args.symbol _ refl (attempted c.in_ok-attack.attack) c.in_ok-attack.ensures _
    c.if-is_called_for.ensures c.in_err-attack_row.ensures)

pub returns-in_ok-attack_row : goal.returns-in_ok-attack_row
returns-in_ok-attack_row g c =
    let s = g.S.Profile.rules c.args.self.now.station.now in
    let m = g.M.Profile.rules c.args.self.now.manual.now in
    c.if_new.ensures ∙
    enter_called c.args.held.free (said c.args.held.rows.now) event_kind s m c.args.self.now.start c.args.side c.args.slot c.args.state c.args.symbol _ refl (attempted c.in_ok-attack.attack) c.in_ok-attack.ensures _
    c.if-is_called_for.ensures c.in_ok-attack_row.ensures

pub returns-else-is_called_for : goal.returns-else-is_called_for
returns-else-is_called_for g c =
    let s = g.S.Profile.rules c.args.self.now.station.now in
    let m = g.M.Profile.rules c.args.self.now.manual.now in
    enter_uncalled c.args.held.free (said c.args.held.rows.now) event_kind s m c.args.self.now.start c.args.side c.args.slot c.args.state c.args.symbol _ refl (attempted c.in_ok-attack.attack) c.in_ok-attack.ensures c.if-is_called_for.ensures
