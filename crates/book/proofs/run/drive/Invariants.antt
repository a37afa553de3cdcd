use Rattle.std.proofs.Common.{◌≡◌, take, drop}
use Rattle.profile.specs.Kinds.{event_kind}
use Rattle.book.specs.Offers.{usable}
use Rattle.game.specs.Rows.{head_of_starts}
use Rattle.book.specs.Turns.{held_of, is_completed}
use Rattle.book.specs.Guarantee.{Guarantee}
use Rattle.book.specs.ByContract.{GuaranteeByContract}
use Rattle.book.proofs.run.drive.Given as goal

abbrev pub invariant-loop-turn : goal.invariant-loop-turn
invariant-loop-turn g l =
    let s = g.S.Profile.rules l.station in
    let m = g.M.Profile.rules l.manual in
    let start = head_of_starts (g.S.Profile.origin l.station) (g.M.Profile.origin l.manual) in
    let completed = is_completed l.initial.book in
    let held = held_of l.initial.book in
    let given = take l.turn-index l.initial.turns in
    let written = take l.turn-index l.turns in
    record {
      kept : Guarantee event_kind s m start (usable l.initial.rows) completed held given written l.initial.rows l.book l.rows;
      by_contract : GuaranteeByContract event_kind s m start (usable l.initial.rows) completed held given written l.initial.rows l.book l.rows;
      rest : drop l.turn-index l.turns ≡ drop l.turn-index l.initial.turns;
    }
