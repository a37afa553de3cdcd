-- The lexicographic order, by which most keys are compared.
use Rattle.std.specs.Prelude.{ℕ, Bool, true, false, cond, List, [], ◌∷◌, ◌==◌, nat_lt}

-- the first place at which two lists differ decides; a list stands before those that go on from it
abbrev pub lex_le : List ℕ → List ℕ → Bool
lex_le [] ys = true
lex_le (x ∷ xs) [] = false
lex_le (x ∷ xs) (y ∷ ys) = cond (nat_lt x y) true (cond (x == y) (lex_le xs ys) false)
