use Rattle.std.proofs.Common.{[], sym, subst}
use Rattle.ordered.specs.Laws.{In}
use Rattle.game.specs.declared.Member.{Member}
use Rattle.game.specs.Game.{of_replier}
use Rattle.game.specs.Rows.{answers, leads_to, entered}
use Rattle.game.proofs.Gathering.{gathered_ascending}
use Rattle.game.proofs.Sound.{leads_there, reply_in_row}
use Rattle.game.proofs.Completing.{entered_from}
use Rattle.game.proofs.theorems.members_of_an_enter_are_what_replies_lead_to.Goals as goal

pub returns : goal.returns
returns c = λ kinds station manual side r h. (
  (λ m. (
    entered_from kinds station manual side r h m,
    (λ t. subst (λ (x : Member). In x (entered kinds station manual side r h).members) (sym t.2) (reply_in_row kinds station manual h side r t.0 h t.1)),
  )),
  gathered_ascending (answers side r h) (leads_to kinds side r) (of_replier side station manual) [] tt,
  (λ s a b t. leads_there kinds side r s h a b t.2),
)
