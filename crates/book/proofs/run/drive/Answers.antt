use Rattle.std.proofs.Common.{◌<◌, List, length, get_or, refl, arith}
use Rattle.profile.specs.Kinds.{event_kind}
use Rattle.game.specs.Rows.{head_of_starts}
use Rattle.book.specs.declared.run.Turn.{Turn}
use Rattle.book.specs.Offers.{usable}
use Rattle.book.specs.Turns.{held_of, is_completed}
use Rattle.book.specs.Guarantee.{Guarantee}
use Rattle.book.specs.ByContract.{GuaranteeByContract}
use Rattle.book.specs.Blank.{blank_turn}
use Rattle.book.proofs.Turning.{rest_left, turn_written}
use Rattle.book.proofs.Walking.{starts_small, step_kept, guarantee_begins, guarantee_next}
use Rattle.book.proofs.Contracting.{by_contract_begins, by_contract_next}
use Rattle.book.proofs.run.drive.Goals as goal

pub loop-turn-init : goal.loop-turn-init
loop-turn-init g c = record {
  kept = guarantee_begins _ _ _ _ _ _ _ c.requires;
  by_contract = by_contract_begins _ _ _ _ _ _ _ c.requires;
  rest = refl;
}

pub loop-turn-preserved : goal.loop-turn-preserved
loop-turn-preserved g c =
    let s = g.S.Profile.rules c.args.station.now in
    let m = g.M.Profile.rules c.args.manual.now in
    let o = g.S.Profile.origin c.args.station.now in
    let p = g.M.Profile.origin c.args.manual.now in
    let a = g.met.S.Profile.lawful c.args.station.now in
    let b = g.met.M.Profile.lawful c.args.manual.now in
    let start = head_of_starts o p in
    let room = usable c.args.rows.now in
    let completed = is_completed c.args.book in
    let held = held_of c.args.book in
    let i = c.loop-turn.turn-index in
    let long = c.loop-turn.auto.turns in
    let inside : c.loop-turn.turn-index < length c.loop-turn.turns = omega arith in
    let asked = (get_or c.loop-turn.turns c.loop-turn.turn-index blank_turn).call in
    let turn : Turn = record { call = asked; answer = c.step-next.result.1; held = c.held-turn.result } in
    let step = step_kept event_kind s m a.each b.each start room c.loop-turn.book c.loop-turn.rows asked c.step-next.new.rows c.step-next.result.0 c.step-next.result.1 (starts_small event_kind s m o p a b)
    c.loop-turn.invariant.kept.book_kept c.step-next.ensures in
    let Kept = λ (given written : List Turn). Guarantee event_kind s m start room completed held given written c.args.rows.now c.step-next.result.0 c.step-next.new.rows in
    let ByContract = λ (given written : List Turn). GuaranteeByContract event_kind s m start room completed held given written c.args.rows.now c.step-next.result.0 c.step-next.new.rows in
    record {
      kept = turn_written Kept c.args.turns.now c.loop-turn.turns i long blank_turn turn inside c.loop-turn.invariant.rest refl
          (guarantee_next _ _ _ _ _ _ _ _ _ _ _ _ (get_or c.args.turns.now i blank_turn) turn _ _ c.loop-turn.invariant.kept step c.held-turn.ensures);
      by_contract = turn_written ByContract c.args.turns.now c.loop-turn.turns i long blank_turn turn inside c.loop-turn.invariant.rest refl
          (by_contract_next _ _ _ _ _ _ _ _ _ _ _ _ (get_or c.args.turns.now i blank_turn) turn _ _ c.loop-turn.invariant.by_contract step c.step-next.ensures c.held-turn.ensures);
      rest = rest_left c.args.turns.now c.loop-turn.turns i blank_turn turn long inside c.loop-turn.invariant.rest;
    }
