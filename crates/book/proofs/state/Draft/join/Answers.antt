use Rattle.std.proofs.Common.{[], List, Option}
use Rattle.std.proofs.lemmas.Result.{err_from_is_err_and}
use Rattle.profile.specs.declared.Rule.{Rule}
use Rattle.profile.specs.Kinds.{event_kind}
use Rattle.game.specs.declared.Line.TheVariants.{Join}
use Rattle.book.proofs.Drafting.{finds_room, accepted, refused}
use Rattle.book.proofs.state.Draft.join.Goals as goal

pub returns-in_err-row : goal.returns-in_err-row
returns-in_err-row c =
    let p = err_from_is_err_and c.from_residual.result c.from_residual.ensures.1 in
    let t = λ (s m : List (Option Rule)). refused event_kind s m c.args.self.now c.args.rows.now (Join c.args.i c.args.j) c.of.result.free c.of.result.rows.now c.of.ensures.free c.of.ensures.rows c.in_err-row.field-0.0
    (c.in_err-row.ensures s m c.args.self.now.start) in
    record { answer = λ s m. rw (p.1, p.2) (t s m).0; lent = λ s m. (t s m).1; draft = λ s m. (t s m).2 }

pub append-requires : goal.append-requires
append-requires c =
    finds_room event_kind [] [] c.args.self.now c.args.rows.now (Join c.args.i c.args.j) c.of.result.free c.of.result.rows.now c.of.ensures.free c.of.ensures.rows c.in_ok-row.row (c.in_ok-row.ensures [] [] c.args.self.now.start)

pub returns : goal.returns
returns c =
    let t = λ (s m : List (Option Rule)). accepted event_kind s m c.args.self.now c.args.rows.now (Join c.args.i c.args.j) c.of.result.free c.of.result.rows.now c.of.ensures.free c.of.ensures.rows c.in_ok-row.row
    (c.in_ok-row.ensures s m c.args.self.now.start) c.append.result c.append.new.rows c.append.new.self c.append.ensures.told c.append.ensures.rows c.append.ensures.draft in
    record { answer = λ s m. (t s m).0; lent = λ s m. (t s m).1; draft = λ s m. (t s m).2 }
