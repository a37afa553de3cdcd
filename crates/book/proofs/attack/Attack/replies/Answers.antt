use Rattle.std.proofs.Common.{◌<◌, length, sym, arith}
use Rattle.std.proofs.lemmas.Result.{err_from_is_err_and}
use Rattle.profile.specs.Kinds.{event_kind}
use Rattle.game.specs.Rows.{leads_to, answers}
use Rattle.book.specs.Sides.{player}
use Rattle.book.proofs.Collecting.{stays_too_many, gathered_here}
use Rattle.book.proofs.attack.Attack.replies.Goals as goal

pub returns-in_err-put : goal.returns-in_err-put
returns-in_err-put g c =
    let a = c.args.self in
    let p = err_from_is_err_and c.from_residual.result c.from_residual.ensures.1 in
    let slots = g.P.Profile.rules c.args.replier.now in
    let inside : c.loop-i.i < length slots = omega (arith, c.slots-all.ensures) in
    let more = gathered_here (answers (player a.side) a.rule a.head) (leads_to event_kind (player a.side) a.rule) slots c.loop-i.i c.in-Some.reply c.loop-i.members inside c.in-Some.ensures (sym c.if-is_reply.ensures) in
    rw (p.1, p.2) (stays_too_many _ _ _ (rw c.led_to.ensures at c.in_err-put.ensures) (rw c.loop-i.invariant.whole at more))
