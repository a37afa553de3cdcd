use Rattle.std.proofs.Common.{◌≤◌, List, length, Ok, Err, sym, ap, ◌∙◌, subst}
use Rattle.ordered.specs.declared.Unplaced.{Unplaced}
use Rattle.game.specs.declared.Member.{Member}
use Rattle.book.proofs.Inserting.{doubled, refused}
use Rattle.book.proofs.width.put.Goals as goal

pub returns-in-Err-Double : goal.returns-in-Err-Double
returns-in-Err-Double c =
    let was = c.args.members.now in
    let after = c.in-Err-Double.ensures.after in
    doubled c.args.m was _ (ap (λ (u : Unplaced). Err u) (sym c.in-Err-Double.field-0-is) ∙ c.in-Err-Double.ensures.answer)
    (subst (λ (ms : List Member). length ms ≤ 12) after c.in-Err-Double.ensures.few)
    ∙ ap (λ (ms : List Member). Ok ms) (sym after)

pub returns-in-Err-Full : goal.returns-in-Err-Full
returns-in-Err-Full c =
    refused c.args.m c.args.members.now (ap (λ (u : Unplaced). Err u) (sym c.in-Err-Full.field-0-is) ∙ c.in-Err-Full.ensures.answer)
