-- What ordered insertion keeps and gives, for any total order of keys.
use Rattle.std.specs.Prelude.{◌≡◌, ℕ, ◌+◌, ◌<◌, ◌≤◌, Bool, true, false, not, ◌&&◌, ◌⊎◌, List, [], ◌∷◌, length, get_or, take, drop, Ok, Err, Result, slice_index_or}
use Rattle.ordered.specs.declared.Unplaced.{Unplaced}
use Rattle.ordered.specs.declared.Unplaced.TheVariants.{Double, Full}
use Rattle.ordered.specs.Insert.{insert_into}

-- the order of elements by their keys
abbrev pub by_key : {X K : Type 0} → (X → K) → (K → K → Bool) → X → X → Bool
by_key key le x y = le (key x) (key y)

-- y stands strictly before every element of a list
abbrev pub Before : {X : Type 0} → (X → X → Bool) → X → List X → Type 0
Before le y [] = Unit {0}
Before le y (z ∷ zs) = ((le y z ≡ true) × (le z y ≡ false)) × Before le y zs

-- strictly ascending: each element stands strictly before all that follow it
abbrev pub Ascending : {X : Type 0} → (X → X → Bool) → List X → Type 0
Ascending le [] = Unit {0}
Ascending le (y ∷ ys) = Before le y ys × Ascending le ys

-- the same as a test
abbrev pub before_all : {X : Type 0} → (X → X → Bool) → X → List X → Bool
before_all le y [] = true
before_all le y (z ∷ zs) = le y z && (not (le z y) && before_all le y zs)

abbrev pub ascends : {X : Type 0} → (X → X → Bool) → List X → Bool
ascends le [] = true
ascends le (y ∷ ys) = before_all le y ys && ascends le ys

-- x is an element of a list
abbrev pub In : {X : Type 0} → X → List X → Type 0
In x [] = ⊥
In x (y ∷ ys) = (x ≡ y) ⊎ In x ys

-- some element of a list has the key k
abbrev pub HasKey : {X K : Type 0} → (X → K) → K → List X → Type 0
HasKey key k [] = ⊥
HasKey key k (y ∷ ys) = (k ≡ key y) ⊎ HasKey key k ys

module _ {X K : Type 0} (key : X → K) (le : K → K → Bool) (x : X) (was is : List X) where
  -- x now stands at a place: `was` and `is` are the elements before and after
  pub record Placed (at : ℕ) : Type 0 where
    pub by_list_insertion : is ≡ insert_into (by_key key le) x was
    pub stands : get_or is at x ≡ x
    pub within : at < length is
    pub longer : length is ≡ length was + 1
    pub old_and_new : (y : X) → ((y ≡ x) ⊎ In y was → In y is) × (In y is → (y ≡ x) ⊎ In y was)
    pub ascending : Ascending (by_key key le) was → Ascending (by_key key le) is
    pub new : Ascending (by_key key le) was → HasKey key (key x) was → ⊥

-- the key of x stands in the list at a place
pub record Doubled {X K : Type 0} (key : X → K) (x : X) (was : List X) (at : ℕ) : Type 0 where
  pub within : at < length was
  pub same_key : key (slice_index_or was at x) ≡ key x

-- The laws of one insertion into the first `count` of some places, `was` before it and `is` after it.
abbrev pub LawfulInsertion : {X K : Type 0} → (X → K) → (K → K → Bool) → X → ℕ → List X → List X → Result ℕ Unplaced → Type 0
LawfulInsertion key le x count was is (Ok at) =
    Placed key le x (take count was) (take (count + 1) is) at × (drop (count + 1) is ≡ drop (count + 1) was)
LawfulInsertion key le x count was is (Err (Double at)) = Doubled key x (take count was) at × (is ≡ was)
LawfulInsertion key le x count was is (Err Full) =
    (length was ≤ count) × (is ≡ was) × (Ascending (by_key key le) (take count was) → HasKey key (key x) (take count was) → ⊥)

-- The laws of one insertion into a list that may hold `most` elements, `was` before it and `is` after it.
abbrev pub LawfulHolding : {X K : Type 0} → (X → K) → (K → K → Bool) → X → ℕ → List X → List X → Result ℕ Unplaced → Type 0
LawfulHolding key le x most was is (Ok at) = Placed key le x was is at × (length is ≤ most)
LawfulHolding key le x most was is (Err (Double at)) = Doubled key x was at × (is ≡ was)
LawfulHolding key le x most was is (Err Full) =
    (length was ≡ most) × (is ≡ was) × (Ascending (by_key key le) was → HasKey key (key x) was → ⊥)
