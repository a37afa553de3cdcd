use Rattle.std.proofs.Common.{map, ok_or, ap, ◌∙◌, Option, List}
use Rattle.std.proofs.lemmas.Result.{err_from_is_err_and}
use Rattle.game.specs.declared.Member.{Member}
use Rattle.game.specs.Members.{blank_member}
use Rattle.game.specs.Rows.{with_pairs}
use Rattle.book.specs.declared.Refusal.TheVariants.{TooManyMembers}
use Rattle.book.proofs.Collecting.{stays_too_many, put_here, front_too_many}
use Rattle.book.proofs.joining.put_among.Goals as goal

pub returns-in_err-put : goal.returns-in_err-put
returns-in_err-put c =
    let p = err_from_is_err_and c.from_residual-in_err-put.result c.from_residual-in_err-put.ensures.1 in
    let more = put_here (with_pairs c.args.pairs) c.args.members.now c.loop-m.m-index blank_member c.loop-m.among c.loop-m-test.true in
    rw (p.1, p.2) (stays_too_many _ _ _ c.in_err-put.ensures (rw c.loop-m.invariant.whole at more))

pub returns-in_err-among : goal.returns-in_err-among
returns-in_err-among c =
    let p = err_from_is_err_and c.from_residual.result c.from_residual.ensures.1 in
    rw (p.1, p.2) (front_too_many (map (with_pairs c.args.pairs) c.args.members.now) c.args.front.now _
    (c.in_err-among.ensures.value ∙ ap (λ (o : Option (List Member)). ok_or o TooManyMembers) c.copied.ensures))
