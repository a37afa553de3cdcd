-- The tests for equal heads, equal pairs above a stack and equal members, and that they tell equality.
use Rattle.std.specs.Prelude.{◌≡◌, Bool, true, false, ◌&&◌, Decides}
use Rattle.std.proofs.Common.{rules}
use Rattle.std.specs.Cmp.{IsPartialEquivalence, partial_equiv_from_equiv, decided}
use Rattle.game.specs.declared.Pair.{Pair}
use Rattle.game.specs.declared.Head.{Head}
use Rattle.game.specs.declared.Pairs.{Pairs}
use Rattle.game.specs.declared.Pairs.TheVariants.{Zero, One, Two}
use Rattle.game.specs.declared.Member.{Member}
use Rattle.game.specs.Computed.{pair_eq, head_eq}

abbrev pub pairs_eq : Pairs → Pairs → Bool
pairs_eq Zero Zero = true
pairs_eq Zero (One q) = false
pairs_eq Zero (Two q v) = false
pairs_eq (One p) Zero = false
pairs_eq (One p) (One q) = pair_eq p q
pairs_eq (One p) (Two q v) = false
pairs_eq (Two p u) Zero = false
pairs_eq (Two p u) (One q) = false
pairs_eq (Two p u) (Two q v) = pair_eq p q && pair_eq u v

abbrev pub same_member : Member → Member → Bool
same_member m n = pairs_eq m.symbols n.symbols && pair_eq m.states n.states

pub pair_eq_decides : (p q : Pair) → Decides (pair_eq p q) (p ≡ q)
pair_eq_decides p q = search rules

pub head_eq_decides : (h k : Head) → Decides (head_eq h k) (h ≡ k)
head_eq_decides h k = search rules

pub head_eq_laws : IsPartialEquivalence head_eq
head_eq_laws = partial_equiv_from_equiv (decided head_eq head_eq_decides)

pub pairs_eq_decides : (x y : Pairs) → Decides (pairs_eq x y) (x ≡ y)
pairs_eq_decides x y = search rules

pub same_member_decides : (m n : Member) → Decides (same_member m n) (m ≡ n)
same_member_decides m n = search rules

pub same_member_laws : IsPartialEquivalence same_member
same_member_laws = partial_equiv_from_equiv (decided same_member same_member_decides)
