-- Ordered insertion that refuses a double, on lists.
-- `le x y` says that the key of x is at most the key of y.
use Rattle.std.specs.Prelude.{ℕ, suc, ◌+◌, Bool, false, cond, List, [], ◌∷◌, ◌++◌, length, take, drop, Ok, Err, Result, nat_lt}
use Rattle.ordered.specs.declared.Unplaced.{Unplaced}
use Rattle.ordered.specs.declared.Unplaced.TheVariants.{Double, Full}

module _ {X : Type 0} (le : X → X → Bool) (x : X) where
  -- where x belongs: how many elements stand before the first one that x is at most
  abbrev pub place_of : List X → ℕ
  place_of [] = 0
  place_of (y ∷ ys) = cond (le x y) 0 (suc (place_of ys))

  -- whether the element at that place has the key of x
  abbrev pub present : List X → Bool
  present [] = false
  present (y ∷ ys) = cond (le x y) (le y x) (present ys)

  -- where x goes, or where its key stands
  abbrev pub sought : List X → Result ℕ ℕ
  sought ys = cond (present ys) (Err (place_of ys)) (Ok (place_of ys))

  -- the list with x at its place, or unchanged where its key is there already
  abbrev pub insert_into : List X → List X
  insert_into [] = x ∷ []
  insert_into (y ∷ ys) = cond (le x y) (cond (le y x) (y ∷ ys) (x ∷ y ∷ ys)) (y ∷ insert_into ys)

  -- Insertion into the first `count` of some places, all of them where there are fewer.
  -- The answer is where x stands now; a double is told, with where it stands, before want of room.
  abbrev pub insert_answer : ℕ → List X → Result ℕ Unplaced
  insert_answer count places =
      cond (present (take count places)) (Err (Double (place_of (take count places))))
      (cond (nat_lt count (length places)) (Ok (place_of (take count places))) (Err Full))

  -- what the places hold afterwards, given the answer: one element more, and past the new end what was there
  abbrev pub insert_after : ℕ → List X → Result ℕ Unplaced → List X
  insert_after count places (Ok at) = insert_into (take count places) ++ drop (count + 1) places
  insert_after count places (Err why) = places

  -- The same in a list that may hold `most` elements.
  abbrev pub held_answer : ℕ → List X → Result ℕ Unplaced
  held_answer most ys =
      cond (present ys) (Err (Double (place_of ys)))
      (cond (nat_lt (length ys) most) (Ok (place_of ys)) (Err Full))

  abbrev pub held_after : List X → Result ℕ Unplaced → List X
  held_after ys (Ok at) = insert_into ys
  held_after ys (Err why) = ys
