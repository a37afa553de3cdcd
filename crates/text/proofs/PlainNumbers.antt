-- Plain numbers are decimal numerals: what is read from the digits of a number is that number, and the other way round.
use Rattle.std.proofs.Common.{◌≡◌, ℕ, ◌+◌, ◌-◌, ◌*◌, ◌^◌, ◌<◌, ◌≤◌, Bool, true, false, cond, ◌&&◌, eqb, leb, List, [], ◌∷◌, length, get_or, Some, None, decimal, Option, sym, refl, ap, ◌∙◌, ⊎_elim, arith, rules}
use Rattle.std.proofs.lemmas.Bool.{cond-true, cond-false, cases_lt, and_parts, and_from, and_left, and_right, le-leb, lt-leb, leb-true, ne_eqb}
use Rattle.std.proofs.lemmas.Bool.Decides.{nat_tests}
use Rattle.std.proofs.lemmas.Str.Parse.{IsNumeralModel, numerals_by_fold, digits_value_short}
use Rattle.std.proofs.lemmas.Fmt.{decimal_digit, decimal_nonempty, first_decimal, length-decimal-le, digits_decimal, digits_value-decimal, decimal-digits_value}
use Rattle.text.specs.Sections.{is_digit, digits_after, plain_number}

abbrev value_from : ℕ → List ℕ → ℕ
value_from n [] = n
value_from n (d ∷ ds) = value_from (n * 10 + (d - 48)) ds

abbrev digits_only : List ℕ → Bool
digits_only [] = true
digits_only (d ∷ ds) = is_digit d && digits_only ds

numerals : IsNumeralModel (λ ds. digits_only ds ≡ true) (value_from 0)
numerals = numerals_by_fold _ (search rules) value_from (search rules)

read_digits : (ds : List ℕ) (n : ℕ) → digits_only ds ≡ true → digits_after ds n ≡ Some (value_from n ds)
read_digits [] n h = refl
read_digits (d ∷ ds) n h = let p = and_parts _ _ h in cond-true _ _ _ p.0 ∙ read_digits ds _ p.1

-- the digits of a number have no 0 in front of another
no_zero_first : (n : ℕ) → n < 10000 → (leb 2 (length (decimal n)) && eqb (get_or (decimal n) 0 0) 48) ≡ false
no_zero_first n small =
    ⊎_elim
    (λ more. let f = first_decimal n more (omega arith) in and_right _ _ (ne_eqb (get_or (decimal n) 0 0) 48 (λ e. omega arith)))
    (λ none. let l = ap length (decimal_digit n (omega arith)) in and_left _ _ (lt-leb 2 (length (decimal n)) (omega arith)))
    (cases_lt 0 n)

pub number_reads_back : (n : ℕ) → n < 10000 → plain_number (decimal n) ≡ Some n
number_reads_back n small =
    let some = decimal_nonempty n (omega arith) in
    let most = length-decimal-le 4 n (omega arith) (omega arith) (omega arith) in
    cond-true _ _ None (and_from _ _ (le-leb 1 _ some) (le-leb _ 4 most)) ∙ cond-false _ None _ (no_zero_first n small) ∙
    read_digits (decimal n) 0 (digits_decimal numerals n (omega arith)) ∙ ap Some (digits_value-decimal numerals n (omega arith))

on_true : (b : Bool) (o : Option ℕ) (n : ℕ) → cond b o None ≡ Some n → (b ≡ true) × (o ≡ Some n)
on_true true o n h = (refl, h)
on_true false o n h = cc

on_false : (b : Bool) (o : Option ℕ) (n : ℕ) → cond b None o ≡ Some n → (b ≡ false) × (o ≡ Some n)
on_false true o n h = cc
on_false false o n h = (refl, h)

digits_read : (ds : List ℕ) (m n : ℕ) → digits_after ds m ≡ Some n → (digits_only ds ≡ true) × (value_from m ds ≡ n)
digits_read [] m n h = (refl, cc)
digits_read (d ∷ ds) m n h = let p = on_true _ _ _ h in let q = digits_read ds _ n p.1 in (and_from _ _ p.0 q.0, q.1)

alone : (l b : ℕ) → 1 ≤ l → b ≡ 48 → (leb 2 l && eqb b 48) ≡ false → l ≡ 1
alone l b h z t = grind (arith, nat_tests)

pub number_spelled_once : (bs : List ℕ) (n : ℕ) → plain_number bs ≡ Some n → decimal n ≡ bs
number_spelled_once bs n e =
    let p = on_true _ _ _ e in
    let q = on_false _ _ _ p.1 in
    let r = digits_read bs 0 n q.1 in
    let l = and_parts _ _ p.0 in
    let least = leb-true 1 (length bs) l.0 in
    let most = leb-true (length bs) 4 l.1 in
    let small : value_from 0 bs < 10 ^ 4 = digits_value_short numerals bs 4 r.0 most in
    ap decimal (sym r.1) ∙ decimal-digits_value numerals bs r.0 least (λ z. alone (length bs) (get_or bs 0 0) least z q.0) (omega arith)
