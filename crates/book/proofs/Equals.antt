-- The tests on members and rows tell exactly when these are equal.
use Rattle.std.proofs.Common.{◌≡◌, true, false, List, [], ◌∷◌, sym, refl, subst}
use Rattle.std.proofs.lemmas.Bool.{and_parts, and_from, both_ways, false≢true}
use Rattle.ordered.specs.Laws.{In}
use Rattle.game.specs.declared.Head.{Head}
use Rattle.game.specs.declared.Member.{Member}
use Rattle.game.specs.Members.{AttackRow, member_le}
use Rattle.game.specs.Systems.{ExactlyWhen}
use Rattle.game.specs.Rows.{refuting}
use Rattle.game.specs.Computed.{any_of, head_eq}
use Rattle.game.specs.Order.{member_reflexive, member_antisymmetric}
use Rattle.game.proofs.Testing.{any_has, any_holds, head_eq_means, head_eq_shown}
use Rattle.book.specs.Offers.{member_eq, members_eq, row_eq, no_members, refutes, says_refuted}

pub member_eq_means : (m n : Member) → member_eq m n ≡ true → m ≡ n
member_eq_means m n e = let (p, q) = and_parts (member_le m n) (member_le n m) e in member_antisymmetric m n p q

pub member_eq_shown : (m : Member) → member_eq m m ≡ true
member_eq_shown m = and_from _ _ (member_reflexive m) (member_reflexive m)

pub members_eq_means : (ms ns : List Member) → members_eq ms ns ≡ true → ms ≡ ns
members_eq_means [] [] e = refl
members_eq_means [] (n ∷ ns) e = absurd (false≢true e)
members_eq_means (m ∷ ms) [] e = absurd (false≢true e)
members_eq_means (m ∷ ms) (n ∷ ns) e =
    let (p, q) = and_parts (member_eq m n) (members_eq ms ns) e in
    λ i. member_eq_means m n p i ∷ members_eq_means ms ns q i

pub members_eq_shown : (ms : List Member) → members_eq ms ms ≡ true
members_eq_shown [] = refl
members_eq_shown (m ∷ ms) = and_from (member_eq m m) (members_eq ms ms) (member_eq_shown m) (members_eq_shown ms)

pub row_eq_means : (r s : AttackRow) → row_eq r s ≡ true → r ≡ s
row_eq_means r s e =
    let (p, q) = and_parts (head_eq r.head s.head) (members_eq r.members s.members) e in
    λ i. record { head = head_eq_means r.head s.head p i; members = members_eq_means r.members s.members q i }

pub row_eq_shown : (r s : AttackRow) → r ≡ s → row_eq r s ≡ true
row_eq_shown r s e =
    subst (λ (x : AttackRow). row_eq r x ≡ true) e
    (and_from (head_eq r.head r.head) (members_eq r.members r.members) (head_eq_shown r.head r.head refl) (members_eq_shown r.members))

pub row_eq_tells : (r s : AttackRow) → ExactlyWhen (row_eq r s ≡ true) (r ≡ s)
row_eq_tells r s = (row_eq_means r s, row_eq_shown r s)

-- a row is among rows
pub any_same_means : (row : AttackRow) (rows : List AttackRow) → any_of (row_eq row) rows ≡ true → In row rows
any_same_means row rows e =
    let (x, k, t) = any_has (row_eq row) rows e in
    subst (λ (y : AttackRow). In y rows) (sym (row_eq_means row x t)) k

pub any_same_shown : (row : AttackRow) (rows : List AttackRow) → In row rows → any_of (row_eq row) rows ≡ true
any_same_shown row rows k = any_holds (row_eq row) rows row k (row_eq_shown row row refl)

pub any_same_tells : (row : AttackRow) (rows : List AttackRow) → ExactlyWhen (any_of (row_eq row) rows ≡ true) (In row rows)
any_same_tells row rows = (any_same_means row rows, any_same_shown row rows)

pub none_same_means : (row : AttackRow) (rows : List AttackRow) → any_of (row_eq row) rows ≡ false → In row rows → ⊥
none_same_means row rows e k = both_ways (any_of (row_eq row) rows) e (any_same_shown row rows k)

-- the refuting row is among rows
no_members_means : (ms : List Member) → no_members ms ≡ true → ms ≡ []
no_members_means [] e = refl
no_members_means (m ∷ ms) e = absurd (false≢true e)

pub refutes_means : (start : Head) (row : AttackRow) → refutes start row ≡ true → row ≡ refuting start
refutes_means start row e =
    let (p, q) = and_parts (head_eq row.head start) (no_members row.members) e in
    λ i. record { head = head_eq_means row.head start p i; members = no_members_means row.members q i }

pub refutes_shown : (start : Head) → refutes start (refuting start) ≡ true
refutes_shown start = and_from _ _ (head_eq_shown start start refl) refl

pub says_refuted_means : (start : Head) (rows : List AttackRow) → says_refuted start rows ≡ true → In (refuting start) rows
says_refuted_means start rows e =
    let (x, k, t) = any_has (refutes start) rows e in
    subst (λ (y : AttackRow). In y rows) (refutes_means start x t) k

pub says_refuted_shown : (start : Head) (rows : List AttackRow) → In (refuting start) rows → says_refuted start rows ≡ true
says_refuted_shown start rows k = any_holds (refutes start) rows (refuting start) k (refutes_shown start)

pub says_refuted_tells : (start : Head) (rows : List AttackRow) → ExactlyWhen (says_refuted start rows ≡ true) (In (refuting start) rows)
says_refuted_tells start rows = (says_refuted_means start rows, says_refuted_shown start rows)

pub says_not_refuted_means : (start : Head) (rows : List AttackRow) → says_refuted start rows ≡ false → In (refuting start) rows → ⊥
says_not_refuted_means start rows e k = both_ways (says_refuted start rows) e (says_refuted_shown start rows k)
