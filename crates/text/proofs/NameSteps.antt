-- The search for a name, and one turn of the reading of names.
use Rattle.std.proofs.Common.{◌≡◌, ℕ, suc, ◌+◌, ◌-◌, ◌<◌, false, cond, List, [], ◌∷◌, ◌++◌, is_some, Some, Ok, Err, Result, sym, refl, ap, ◌∙◌, arith, Bor}
use Rattle.std.specs.Str.{bytes_eq}
use Rattle.std.specs.List.{position, position_from}
use Rattle.std.proofs.lemmas.Iterator.Adapters.{position_from-zero}
use Rattle.std.proofs.lemmas.Bool.{cond-false}
use Rattle.text.specs.declared.fault.Cause.{Cause}
use Rattle.text.specs.declared.fault.Fault.{Fault}
use Rattle.text.specs.declared.fault.ProfileCause.TheVariants.{NameTwice}
use Rattle.text.specs.declared.words.Due.TheVariants.{Name}
use Rattle.text.specs.Faults.{profile_fault}
use Rattle.text.specs.Words.{Rest, Step, Spelled}
use Rattle.text.specs.Sections.{and_then, word_due}
use Rattle.text.specs.ProfileText.{texts, index_from, index_of, more_names}

-- a name's number is the first place where it is found
module _ (x : List ℕ) where
  index_from_is : (i : ℕ) (rs : List (Bor (List ℕ))) → position_from (λ r. bytes_eq r.now x) i rs ≡ index_from i (texts rs) x
  index_from_is i [] = refl
  index_from_is i (r ∷ rs) = ap (cond (bytes_eq r.now x) (Some i)) (index_from_is (i + 1) rs)

  pub index_is : (rs : List (Bor (List ℕ))) → position (λ r. bytes_eq r.now x) rs ≡ index_of (texts rs) x
  index_is rs = position_from-zero (λ (r : Bor (List ℕ)). bytes_eq r.now x) rs ∙ index_from_is 0 rs

-- one more name: i are read of n, ns are those, and s is left
module _ (n i : ℕ) (ns : List (List ℕ)) (s : Rest) (on : i < n) where
  abbrev goes_on : Step Spelled → Result (Step (List (List ℕ))) (Fault Cause)
  goes_on w =
      cond (is_some (index_of ns w.value.bytes)) (Err (profile_fault NameTwice w.value.place))
      (more_names (n - (i + 1)) (ns ++ w.value.bytes ∷ []) w.rest)

  at_word : (r : Result (Step Spelled) (Fault Cause)) → r ≡ word_due Name s → more_names (n - i) ns s ≡ and_then r goes_on
  at_word r e = let k : n - i ≡ suc (n - (i + 1)) = omega arith in ap (λ m. more_names m ns s) k ∙ ap (λ r. and_then r goes_on) (sym e)

  pub name_more : (w : Step Spelled) → Ok w ≡ word_due Name s → is_some (index_of ns w.value.bytes) ≡ false → more_names (n - (i + 1)) (ns ++ w.value.bytes ∷ []) w.rest ≡ more_names (n - i) ns s
  name_more w e new = sym (at_word _ e ∙ cond-false _ _ _ new)
