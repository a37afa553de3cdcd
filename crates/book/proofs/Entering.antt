-- The enters at a head, slot by slot and side by side.
use Rattle.std.proofs.Common.{◌≡◌, ℕ, zero, suc, ◌+◌, ◌<◌, ◌≤◌, true, ◌⊎◌, List, [], ◌∷◌, ◌++◌, length, get_or, take, Some, None, Option, Result, sym, refl, ap, ◌∙◌, subst, inl, inr, ⊎_elim, arith, length-take}
use Rattle.std.proofs.lemmas.Option.{none-some}
use Rattle.std.proofs.lemmas.List.{get_or_past, get_or-take, take_more, take_all, length-take-le}
use Rattle.std.proofs.lemmas.Bool.{cases_lt}
use Rattle.ordered.specs.Laws.{In}
use Rattle.profile.specs.declared.Kind.{Kind}
use Rattle.profile.specs.declared.Rule.{Rule}
use Rattle.game.specs.declared.Head.{Head}
use Rattle.game.specs.declared.Member.{Member}
use Rattle.game.specs.declared.Line.TheVariants.{Enter}
use Rattle.game.specs.declared.Row.{Row}
use Rattle.game.specs.Members.{AttackRow, row_of, top_of}
use Rattle.game.specs.Computed.{called_for}
use Rattle.game.proofs.Sets.{front_or_last}
use Rattle.game.proofs.Testing.{called_for_means, called_for_shown}
use Rattle.book.specs.declared.reply.Side.{Side}
use Rattle.book.specs.declared.reply.Side.TheVariants.{Station, Manual}
use Rattle.book.specs.declared.search.Unfit.{Unfit}
use Rattle.book.specs.Offers.{usable, said, Attempt, by_station_rule, by_manual_rule, attempt, row_at, blank_member}
use Rattle.book.specs.Sides.{side_number, slots_of}
use Rattle.book.specs.Blank.{blank_row}
use Rattle.book.specs.Trying.{Known, new_tried, HeadTried, SlotTried, SideTried, MembersTried, WentOn, Stepped, slot_tried, side_tried, head_tried, top_tried, members_tried, tops_tried}
use Rattle.book.proofs.Numbers.{said_length, row_read, row_has_number}
use Rattle.book.proofs.Searching.{row_at_inside, in_front, tried_more, head_tried_more, done_more}
use Rattle.book.proofs.Trials.{went_then, stepped_then, went_for}

-- how many rows are said, and which one stands at a place
pub said_many : (n : ℕ) (rows : List Row) → n ≤ length rows → length (said (take n rows)) ≡ n
said_many n rows h = said_length (take n rows) ∙ length-take-le n rows h

pub said_at : (n : ℕ) (rows : List Row) (k : ℕ) (d : Row) → k < n → k < length rows → row_at (said (take n rows)) k ≡ Some (row_of (get_or rows k d))
said_at n rows k d h i =
    let inside : k < length (take n rows) = simp length-take (omega arith) in
    row_read (take n rows) k d inside ∙ ap (λ (r : Row). Some (row_of r)) (get_or-take n rows k d h)

-- the elements before a place, and the one at it
pub read_is_in : {X : Type 0} (xs : List X) (i : ℕ) (d : X) → i < length xs → In (get_or xs i d) xs
read_is_in [] i d h = absurd (omega arith)
read_is_in (x ∷ xs) zero d h = inl refl
read_is_in (x ∷ xs) (suc i) d h = inr (read_is_in xs i d (omega arith))

pub among_next : {X : Type 0} (xs : List X) (i : ℕ) (d x : X) → i < length xs → In x (take (i + 1) xs) → In x (take i xs) ⊎ (x ≡ get_or xs i d)
among_next xs i d x h k = front_or_last x (take i xs) (get_or xs i d) (subst (λ (l : List _). In x l) (take_more xs i d h) k)

-- a head that is called for stays so
pub called_for_more : (start : Head) (rows more : List AttackRow) (h : Head) → called_for start rows h ≡ true → called_for start (rows ++ more) h ≡ true
called_for_more start rows more h e =
    called_for_shown start (rows ++ more) h
    (⊎_elim (λ s. inl s) (λ b. inr (b.0, in_front b.0 rows more b.1, b.2, b.3, b.4)) (called_for_means start rows h e))

module _ (kinds : ℕ → Option Kind) (station manual : List (Option Rule)) (start : Head) where
  -- both sides were tried: no other side, and no slot past the last, has an attack
  no_attack : (side : Side) (slot state symbol : ℕ) (a : Attempt) → length (slots_of station manual side) ≤ slot → attempt station manual (side_number side) slot state symbol ≡ Some a → ⊥
  no_attack Station slot state symbol a h e =
      none-some a (sym (sym e ∙ ap (λ (o : Option Rule). by_station_rule o state symbol) (get_or_past station slot None h)))
  no_attack Manual slot state symbol a h e =
      none-some a (sym (sym e ∙ ap (λ (o : Option Rule). by_manual_rule o state symbol) (get_or_past manual slot None h)))

  pub both_sides : (rows : List AttackRow) (h : Head) → SideTried kinds station manual start rows Station (length station) h → SideTried kinds station manual start rows Manual (length manual) h →
      HeadTried kinds station manual start rows h
  both_sides rows h s m zero slot state symbol a e f =
      elim (cases_lt slot (length station)) [
        | inl l ↦ s slot l state symbol a e f
        | inr g ↦ absurd (no_attack Station slot state symbol a g e)
      ]
  both_sides rows h s m (suc zero) slot state symbol a e f =
      elim (cases_lt slot (length manual)) [
        | inl l ↦ m slot l state symbol a e f
        | inr g ↦ absurd (no_attack Manual slot state symbol a g e)
      ]
  both_sides rows h s m (suc (suc n)) slot state symbol a e f = absurd (none-some a e)

  -- one slot more
  pub side_next : (rows more : List AttackRow) (side : Side) (i : ℕ) (h : Head) → SideTried kinds station manual start rows side i h → SlotTried kinds station manual start (rows ++ more) side i h →
      SideTried kinds station manual start (rows ++ more) side (i + 1) h
  side_next rows more side i h s t slot l =
      elim (cases_lt slot i) [
        | inl k ↦ (λ state symbol a e f. tried_more kinds station manual start rows more (Enter (side_number side) slot state symbol) tt (s slot k state symbol a e f))
        | inr g ↦ (let e : i ≡ slot = omega arith in subst (λ (n : ℕ). SlotTried kinds station manual start (rows ++ more) side n h) e t)
      ]

  pub side_more : (rows more : List AttackRow) (side : Side) (i : ℕ) (h : Head) → SideTried kinds station manual start rows side i h → SideTried kinds station manual start (rows ++ more) side i h
  side_more rows more side i h s slot l state symbol a e f = tried_more kinds station manual start rows more (Enter (side_number side) slot state symbol) tt (s slot l state symbol a e f)

  -- the loop over the slots of a side
  pub side_goes_on : (n : ℕ) (was mid is : List Row) (p q : ℕ) (side : Side) (i : ℕ) (h : Head) →
      WentOn kinds station manual start (usable was) n was (side_tried kinds station manual start (said (take n was)) side i h) p mid →
      WentOn kinds station manual start (usable mid) p mid (slot_tried kinds station manual start (said (take p mid)) side i h) q is →
      WentOn kinds station manual start (usable was) n was (side_tried kinds station manual start (said (take n was)) side (i + 1) h) q is
  side_goes_on n was mid is p q side i h a b =
      went_then kinds station manual start n was mid is p q
      (side_tried kinds station manual start (said (take n was)) side i h) (slot_tried kinds station manual start (said (take p mid)) side i h) (side_tried kinds station manual start (said (take n was)) side (i + 1) h)
      a b
      (λ some more e f x y c.
      subst (λ (l : List AttackRow). SideTried kinds station manual start l side (i + 1) h) (sym f)
      (side_next (said (take p mid)) more side i h (x c)
      (subst (λ (l : List AttackRow). SlotTried kinds station manual start l side i h) f
      (y (subst (λ (l : List AttackRow). called_for start l h ≡ true) (sym e) (called_for_more start (said (take n was)) some h c))))))

  -- one side after the other
  pub head_done : (n : ℕ) (was mid is : List Row) (p q : ℕ) (r : Result (Unit {0}) Unfit) (h : Head) →
      WentOn kinds station manual start (usable was) n was (side_tried kinds station manual start (said (take n was)) Station (length station) h) p mid →
      Stepped kinds station manual start (usable mid) p mid (side_tried kinds station manual start (said (take p mid)) Manual (length manual) h) r q is →
      Stepped kinds station manual start (usable was) n was (head_tried kinds station manual start (said (take n was)) h) r q is
  head_done n was mid is p q r h a b =
      stepped_then kinds station manual start n was mid is p q r
      (side_tried kinds station manual start (said (take n was)) Station (length station) h) (side_tried kinds station manual start (said (take p mid)) Manual (length manual) h) (head_tried kinds station manual start (said (take n was)) h)
      a b
      (λ some more e f x y c.
      subst (λ (l : List AttackRow). HeadTried kinds station manual start l h) (sym f)
      (both_sides (said (take p mid) ++ more) h (side_more (said (take p mid)) more Station (length station) h (x c))
      (subst (λ (l : List AttackRow). SideTried kinds station manual start l Manual (length manual) h) f
      (y (subst (λ (l : List AttackRow). called_for start l h ≡ true) (sym e) (called_for_more start (said (take n was)) some h c))))))

  -- what is known stays so as rows are appended
  pub known_more : (rows more : List AttackRow) (k : ℕ) → k ≤ length rows → Known kinds station manual start rows k → Known kinds station manual start (rows ++ more) k
  known_more rows more k le x = (head_tried_more kinds station manual start rows more start x.0, done_more kinds station manual start rows more k le x.1)

  -- a head that the starts or a row that is done with called for was entered
  pub known_head : (n done : ℕ) (was : List Row) (h : Head) → n ≤ usable was → done ≤ n → true ≡ called_for start (said (take done was)) h →
      new_tried kinds station manual start (said (take n was)) done h (said (take n was))
  known_head n done was h le below on called x =
      let inside : done ≤ length was = omega arith in
      let many = said_many done was inside in
      elim (called_for_means start (said (take done was)) h (sym on)) [
        | inl s ↦ subst (λ (z : Head). HeadTried kinds station manual start (said (take n was)) z) (sym s) x.0
        | inr by ↦ (let num = row_has_number (said (take done was)) by.0 by.1 in
            let small = row_at_inside (said (take done was)) num.0 by.0 num.1 in
            x.1.tops num.0 (omega arith) by.0
            (said_at n was num.0 blank_row (omega arith) (omega arith) ∙ sym (said_at done was num.0 blank_row (omega arith) (omega arith)) ∙ num.1)
            by.2 by.3 h by.4)
      ]

  -- the tops of members, one after the other
  pub members_go_on : (n done : ℕ) (was mid is : List Row) (p q : ℕ) (ms : List Member) (i : ℕ) (top : Option Head) → n ≤ usable was → done ≤ n → i < length ms → top ≡ top_of (get_or ms i blank_member) →
      WentOn kinds station manual start (usable was) n was (members_tried kinds station manual start (said (take n was)) done ms (take i ms)) p mid →
      WentOn kinds station manual start (usable mid) p mid (top_tried kinds station manual start (said (take p mid)) done top) q is →
      WentOn kinds station manual start (usable was) n was (members_tried kinds station manual start (said (take n was)) done ms (take (i + 1) ms)) q is
  members_go_on n done was mid is p q ms i top le below inside t a b =
      let few : n ≤ length was = omega arith in
      let many = said_many n was few in
      went_then kinds station manual start n was mid is p q
      (members_tried kinds station manual start (said (take n was)) done ms (take i ms)) (top_tried kinds station manual start (said (take p mid)) done top) (members_tried kinds station manual start (said (take n was)) done ms (take (i + 1) ms))
      a b
      (λ some more e f x y known row same k m l h g.
      elim (among_next ms i blank_member m inside l) [
        | inl old ↦ subst (λ (z : List AttackRow). HeadTried kinds station manual start z h) (sym f) (head_tried_more kinds station manual start (said (take p mid)) more h (x known row same k m old h g))
        | inr new ↦ y h (t ∙ ap top_of (sym new) ∙ g)
            (called_for_shown start (said (take p mid)) h
            (inr (
              row,
              subst (λ (z : List AttackRow). In row z) (sym e) (in_front row (said (take n was)) some k),
              m,
              subst (λ (z : List Member). In m z) (sym same) (subst (λ (z : Member). In z ms) (sym new) (read_is_in ms i blank_member inside)),
              g,
            )))
            (subst (λ (z : List AttackRow). Known kinds station manual start z done) (sym e) (known_more (said (take n was)) some done (omega arith) known))
      ])

  pub members_end : (n done : ℕ) (was is : List Row) (p : ℕ) (row : AttackRow) (ms : List Member) (i : ℕ) → row.members ≡ ms → length ms ≤ i →
      WentOn kinds station manual start (usable was) n was (members_tried kinds station manual start (said (take n was)) done ms (take i ms)) p is →
      WentOn kinds station manual start (usable was) n was (tops_tried kinds station manual start (said (take n was)) done row) p is
  members_end n done was is p row ms i same le a =
      went_for kinds station manual start n was is p (members_tried kinds station manual start (said (take n was)) done ms (take i ms)) (tops_tried kinds station manual start (said (take n was)) done row) a
      (λ d known k. subst (λ (l : List Member). MembersTried kinds station manual start (said (take p is)) l) (take_all i ms le ∙ sym same) (d known row same k))
