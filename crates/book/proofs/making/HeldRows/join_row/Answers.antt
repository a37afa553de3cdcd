use Rattle.std.proofs.Common.{Ok, ap, ◌∙◌}
use Rattle.std.proofs.lemmas.Result.{err_from_is_err_and}
use Rattle.game.specs.declared.Line.TheVariants.{Join}
use Rattle.game.specs.declared.Row.{Row}
use Rattle.book.proofs.Offering.{got_row, got_none, missing_told, both_there}
use Rattle.book.proofs.making.HeldRows.join_row.Goals as goal

pub returns-in_err-first : goal.returns-in_err-first
returns-in_err-first c =
    let p = err_from_is_err_and c.from_residual.result c.from_residual.ensures.1 in
    let missing = got_none c.args.self.rows.now c.args.i c.get.result c.get.ensures.lookup c.in_err-first.ensures.ok_part in
    rw (p.1, p.2) (rw missing (missing_told c.get.result c.in_err-first.field-0.0 c.in_err-first.ensures.ok_part c.in_err-first.ensures.value))

pub returns-in_err-second : goal.returns-in_err-second
returns-in_err-second c =
    let p = err_from_is_err_and c.from_residual-in_err-second.result c.from_residual-in_err-second.ensures.1 in
    let first = got_row c.args.self.rows.now c.args.i c.get.result c.in_ok-first.first c.get.ensures.lookup c.in_ok-first.ensures.ok_part in
    let missing = got_none c.args.self.rows.now c.args.j c.get-2.result c.get-2.ensures.lookup c.in_err-second.ensures.ok_part in
    rw (p.1, p.2) (rw (first, missing) (missing_told c.get-2.result c.in_err-second.field-0.0 c.in_err-second.ensures.ok_part c.in_err-second.ensures.value))

pub returns-in_err-join_rows : goal.returns-in_err-join_rows
returns-in_err-join_rows c =
    let p = err_from_is_err_and c.from_residual-in_err-join_rows.result c.from_residual-in_err-join_rows.ensures.1 in
    let first = got_row c.args.self.rows.now c.args.i c.get.result c.in_ok-first.first c.get.ensures.lookup c.in_ok-first.ensures.ok_part in
    let second = got_row c.args.self.rows.now c.args.j c.get-2.result c.in_ok-second.second c.get-2.ensures.lookup c.in_ok-second.ensures.ok_part in
    rw (p.1, p.2) (both_there c.in_ok-first.first.now c.in_ok-second.second.now _ _ (Join c.args.i c.args.j) _ first second c.in_err-join_rows.ensures)

pub returns : goal.returns
returns c =
    let first = got_row c.args.self.rows.now c.args.i c.get.result c.in_ok-first.first c.get.ensures.lookup c.in_ok-first.ensures.ok_part in
    let second = got_row c.args.self.rows.now c.args.j c.get-2.result c.in_ok-second.second c.get-2.ensures.lookup c.in_ok-second.ensures.ok_part in
    ap (λ (row : Row). Ok row) c.row_with.ensures ∙ both_there c.in_ok-first.first.now c.in_ok-second.second.now _ _ (Join c.args.i c.args.j) _ first second c.in_ok-join_rows.ensures
