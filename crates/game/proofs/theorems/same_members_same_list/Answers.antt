use Rattle.ordered.proofs.Orders.{same_elements_same_list}
use Rattle.game.specs.Members.{member_le}
use Rattle.game.proofs.theorems.same_members_same_list.Goals as goal

pub returns : goal.returns
returns c = λ ms ns a b f. same_elements_same_list member_le ms ns a b (λ m. (f m).0) (λ m. (f m).1)
