use Rattle.std.proofs.Common.{sym, refl, arith}
use Rattle.std.proofs.lemmas.List.Recursion.{and_from_places}
use Rattle.game.specs.declared.Member.{Member}
use Rattle.game.specs.Members.{blank_member}
use Rattle.game.specs.Computed.{is_zero, pairless}
use Rattle.book.proofs.joining.no_pairs.Goals as goal

pub returns : goal.returns
returns c =
    sym (and_from_places pairless (λ (m : Member). is_zero m.symbols) refl (λ _ _. refl) c.args.members.now blank_member
    (λ k l. c.loop-m.invariant k blank_member (omega arith)))
