use Rattle.std.proofs.Common.{sym, ◌∙◌}
use Rattle.std.proofs.lemmas.Option.{MatchOption-at_some}
use Rattle.game.specs.Members.{row_of}
use Rattle.book.proofs.Replacing.{join_made, join_not}
use Rattle.book.proofs.joining.join_rows.Goals as goal

pub returns-then-not-replaces : goal.returns-then-not-replaces
returns-then-not-replaces c =
    let s = MatchOption-at_some _ _ _ c.in_ok-last.ensures.ok_part c.split_last.ensures.cases in
    join_not (row_of c.args.i.now) (row_of c.args.j.now) c.in_ok-last.front.now c.in_ok-last.last.now (sym c.members.ensures ∙ s.0) c.if-not-replaces.ensures

pub returns : goal.returns
returns c =
    let s = MatchOption-at_some _ _ _ c.in_ok-last.ensures.ok_part c.split_last.ensures.cases in
    c.put_among.ensures
    ∙ join_made (row_of c.args.i.now) (row_of c.args.j.now) c.in_ok-last.front.now c.in_ok-last.last.now (sym c.members.ensures ∙ s.0) c.members-2.result.now c.below_top.result c.members-2.ensures c.below_top.ensures c.if-not-replaces.ensures
