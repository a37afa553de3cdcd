-- The relation that a list of rows gives, computed on the two stacks: two empty stacks are related; stacks of
-- unequal height are not; otherwise the head must be called for, and of every row of that head without pairs some
-- member must be related on the stacks below.
use Rattle.std.proofs.Common.{◌≡◌, ℕ, Bool, true, false, not, ◌&&◌, ◌||◌, List, [], ◌∷◌, ⊎_elim}
use Rattle.std.proofs.lemmas.Bool.{and_parts, and_from, and_cases, or_cases, or_parts, not-false, not_from_true, both_ways}
use Rattle.ordered.specs.Laws.{In}
use Rattle.game.specs.declared.Head.{Head}
use Rattle.game.specs.declared.Member.{Member}
use Rattle.game.specs.Members.{AttackRow}
use Rattle.game.specs.Game.{Position}
use Rattle.game.specs.Rows.{head_on, Pairless, CalledFor}
use Rattle.game.specs.Computed.{any_of, all_of, head_eq, called_for, pairless}
use Rattle.game.proofs.Testing.{any_has, any_none, all_has, all_fails, head_eq_means, head_eq_shown, called_for_means, called_for_shown, pairless_means, pairless_shown}

-- whether a row is of the head h and without pairs
abbrev pub returns_from : Head → AttackRow → Bool
returns_from h row = head_eq row.head h && pairless row.members

pub returns_means : (h : Head) (row : AttackRow) → returns_from h row ≡ true → (row.head ≡ h) × Pairless row.members
returns_means h row e =
    let p = and_parts (head_eq row.head h) (pairless row.members) e in
    (head_eq_means row.head h p.0, pairless_means row.members p.1)

pub returns_shown : (h : Head) (row : AttackRow) → row.head ≡ h → Pairless row.members → returns_from h row ≡ true
returns_shown h row e f = and_from _ _ (head_eq_shown row.head h e) (pairless_shown row.members f)

abbrev head_of : ℕ → ℕ → ℕ → ℕ → Head
head_of p q x y = record { states = record { station = p; manual = q }; symbols = record { station = x; manual = y } }

module _ (start : Head) (rows : List AttackRow) where
  -- on the stacks a and b, at the states p and q
  abbrev pub related : List ℕ → List ℕ → ℕ → ℕ → Bool
  related [] [] p q = true
  related [] (y ∷ b) p q = false
  related (x ∷ a) [] p q = false
  related (x ∷ a) (y ∷ b) p q =
      called_for start rows (head_of p q x y) &&
      all_of (λ row. not (returns_from (head_of p q x y) row) || any_of (λ m. related a b m.states.station m.states.manual) row.members) rows

  abbrev pub relation : Position → Bool
  relation pos = related pos.station.stack pos.manual.stack pos.station.state pos.manual.state

  module _ (h : Head) (a b : List ℕ) where
    abbrev on : Member → Bool
    on m = related a b m.states.station m.states.manual

    abbrev test : AttackRow → Bool
    test row = not (returns_from h row) || any_of (λ m. related a b m.states.station m.states.manual) row.members

    -- where the relation fails at a head that is called for, a row of that head without pairs has no related member
    pub row_of_failure : CalledFor start (λ row. In row rows) h → relation (head_on h a b) ≡ false →
        (j : AttackRow) × In j rows × (j.head ≡ h) × Pairless j.members × ((m : Member) → In m j.members → related a b m.states.station m.states.manual ≡ false)
    row_of_failure c e =
        let f : all_of test rows ≡ false =
        ⊎_elim (λ p. absurd (both_ways (called_for start rows h) p (called_for_shown start rows h c))) (λ q. q) (and_cases (called_for start rows h) (all_of test rows) e) in
        let (j, k, t) = all_fails test rows f in
        let u = or_parts (not (returns_from h j)) (any_of on j.members) t in
        let s = returns_means h j (not-false (returns_from h j) u.0) in
        (j, k, s.0, s.1, any_none on j.members u.1)

    -- where it holds, the head is called for, and every row of it without pairs has a related member
    pub rows_where_held : relation (head_on h a b) ≡ true →
        CalledFor start (λ row. In row rows) h ×
        ((j : AttackRow) → In j rows → j.head ≡ h → Pairless j.members → (m : Member) × In m j.members × (related a b m.states.station m.states.manual ≡ true))
    rows_where_held e =
        let (c, f) = and_parts (called_for start rows h) (all_of test rows) e in (
          called_for_means start rows h c,
          λ j k p q.
              ⊎_elim (λ n. absurd (both_ways (not (returns_from h j)) (not_from_true (returns_from h j) (returns_shown h j p q)) n))
              (λ y. any_has on j.members y)
              (or_cases (not (returns_from h j)) (any_of on j.members) (all_has test rows f j k)),
        )
