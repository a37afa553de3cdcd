use Rattle.std.proofs.Common.{sym, refl, ap, ◌∙◌, arith}
use Rattle.std.proofs.lemmas.List.Recursion.{or_from_places}
use Rattle.game.specs.declared.Member.{Member}
use Rattle.game.specs.Members.{top_of, blank_member}
use Rattle.game.specs.Computed.{any_of, is_top}
use Rattle.book.proofs.held.tops_row.Goals as goal

pub returns : goal.returns
returns c =
    let test = λ (m : Member). is_top c.args.head (top_of m) in
    let none = or_from_places (any_of test) test refl (λ _ _. refl) c.members-members.result.now blank_member (λ k l. c.loop-m.invariant k blank_member (omega arith)) in
    sym none ∙ ap (any_of test) c.members-members.ensures
