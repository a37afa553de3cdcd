-- The order on members is a total order of whole members, and puts those with more pairs later.
use Rattle.std.specs.Prelude.{◌≡◌, ℕ, ◌≤◌, true, false, cond, List, ◌∷◌, ◌==◌, nat_lt, refl}
use Rattle.std.proofs.Common.{rules, arith}
use Rattle.std.proofs.lemmas.Bool.{cond_both, ltb-true, eqb-true, false≢true}
use Rattle.ordered.specs.Lex.{lex_le}
use Rattle.ordered.proofs.Lexes.{lex_reflexive, lex_antisymmetric, lex_transitive, lex_total}
use Rattle.game.specs.declared.Pair.{Pair}
use Rattle.game.specs.declared.Pairs.{Pairs}
use Rattle.game.specs.declared.Pairs.TheVariants.{Zero, One, Two}
use Rattle.game.specs.declared.Member.{Member}
use Rattle.game.specs.Members.{pair_count, symbol_numbers, member_numbers, member_le}

-- the numbers of a member tell the member
abbrev numbered : Pair → Pairs → List ℕ
numbered s x = pair_count x ∷ s.station ∷ s.manual ∷ symbol_numbers x

same_symbols : (s t : Pair) (x y : Pairs) → numbered s x ≡ numbered t y → x ≡ y
same_symbols s t Zero Zero e = refl
same_symbols s t Zero (One q) e = cc
same_symbols s t Zero (Two q v) e = cc
same_symbols s t (One p) Zero e = cc
same_symbols s t (One p) (One q) e = search rules
same_symbols s t (One p) (Two q v) e = cc
same_symbols s t (Two p u) Zero e = cc
same_symbols s t (Two p u) (One q) e = cc
same_symbols s t (Two p u) (Two q v) e = search rules

pub numbers_tell_the_member : (m n : Member) → member_numbers m ≡ member_numbers n → m ≡ n
numbers_tell_the_member m n e =
    let d : m.symbols ≡ n.symbols = same_symbols m.states n.states m.symbols n.symbols e in
    search rules

pub member_reflexive : (m : Member) → member_le m m ≡ true
member_reflexive m = lex_reflexive (member_numbers m)

pub member_antisymmetric : (m n : Member) → member_le m n ≡ true → member_le n m ≡ true → m ≡ n
member_antisymmetric m n h k = numbers_tell_the_member m n (lex_antisymmetric (member_numbers m) (member_numbers n) h k)

pub member_transitive : (m n o : Member) → member_le m n ≡ true → member_le n o ≡ true → member_le m o ≡ true
member_transitive m n o = lex_transitive (member_numbers m) (member_numbers n) (member_numbers o)

pub member_total : (m n : Member) → member_le m n ≡ false → member_le n m ≡ true
member_total m n = lex_total (member_numbers m) (member_numbers n)

first_number : (x y : ℕ) (xs ys : List ℕ) → lex_le (x ∷ xs) (y ∷ ys) ≡ true → x ≤ y
first_number x y xs ys =
    cond_both (nat_lt x y) true (cond (x == y) (lex_le xs ys) false) (λ b. b ≡ true → x ≤ y)
    (λ e _. let l = ltb-true x y e in omega arith)
    (λ _. cond_both (x == y) (lex_le xs ys) false (λ b. b ≡ true → x ≤ y)
    (λ e _. let l = eqb-true x y e in omega arith)
    (λ _ h. absurd (false≢true h)))

pub earlier_has_no_more_pairs : (m n : Member) → member_le m n ≡ true → pair_count m.symbols ≤ pair_count n.symbols
earlier_has_no_more_pairs m n =
    first_number (pair_count m.symbols) (pair_count n.symbols)
    (m.states.station ∷ m.states.manual ∷ symbol_numbers m.symbols)
    (n.states.station ∷ n.states.manual ∷ symbol_numbers n.symbols)
