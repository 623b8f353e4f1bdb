-- What waits in a ring over lent memory, and what each call does to it. Total: for every ring and every memory.
use Rattle.std.specs.Prelude.{◌≡◌, ℕ, ◌+◌, ◌-◌, ◌%◌, ◌<◌, ◌≤◌, min, List, [], ◌∷◌, ◌++◌, length, take, drop, Some, None, Ok, Err, Option, Result, slice_index_or, slice_set}
use Rattle.ring.specs.declared.Ring.{Ring}

-- the memory read round from place f: from f to its end, then from its start up to f
unfoldable pub round : {T : Type 0} → ℕ → List T → List T
round f xs = drop f xs ++ take f xs

-- the entries that wait, oldest first: the first `count` of the memory read round from `first`
unfoldable pub waiting : {T : Type 0} → Ring → List T → List T
waiting r xs = take r.count (round (r.first % length xs) xs)

-- the place of the i-th oldest entry in a memory of n places
abbrev pub place : Ring → ℕ → ℕ → ℕ
place r n i = (r.first + i) % n

-- the ring in which nothing waits
abbrev pub empty : Ring
empty = record { first = 0; count = 0 }

-- the ring with one more entry at its end
abbrev pub grown : Ring → Ring
grown r = record { first = r.first; count = r.count + 1 }

-- the ring without its oldest entry, in a memory of n places
abbrev pub advanced : ℕ → Ring → Ring
advanced n r = record { first = place r n 1; count = min r.count n - 1 }

-- there was room: the entry waits last, in the place behind the others, and no other place is written
pub record Added {T : Type 0} (r : Ring) (xs : List T) (x : T) (r' : Ring) (xs' : List T) : Type 0 where
  pub room : length (waiting r xs) < length xs
  pub after : waiting r' xs' ≡ waiting r xs ++ x ∷ []
  pub ring : r' ≡ grown r
  pub memory : xs' ≡ slice_set xs (place r (length xs) (length (waiting r xs))) x

-- every place was taken: the entry comes back, and nothing changes
pub record Full {T : Type 0} (r : Ring) (xs : List T) (x y : T) (r' : Ring) (xs' : List T) : Type 0 where
  pub full : length (waiting r xs) ≡ length xs
  pub back : y ≡ x
  pub ring : r' ≡ r
  pub memory : xs' ≡ xs

-- what a push answers, and what ring and memory are then
abbrev pub Pushed : {T : Type 0} → Ring → List T → T → Result (Unit {0}) T → Ring → List T → Type 0
Pushed r xs x (Ok u) r' xs' = Added r xs x r' xs'
Pushed r xs x (Err y) r' xs' = Full r xs x y r' xs'

-- x waited first, and the others wait on in their order
pub record Taken {T : Type 0} (r : Ring) (xs : List T) (x : T) (r' : Ring) : Type 0 where
  pub after : waiting r xs ≡ x ∷ waiting r' xs
  pub ring : r' ≡ advanced (length xs) r

-- what a pop answers, and what the ring is then; the memory stays
abbrev pub Popped : {T : Type 0} → Ring → List T → Option T → Ring → Type 0
Popped r xs None r' = (waiting r xs ≡ []) × (r' ≡ r)
Popped r xs (Some x) r' = Taken r xs x r'

-- the oldest of those that wait, if any
abbrev pub Oldest : {T : Type 0} → List T → Option T → Type 0
Oldest ws None = ws ≡ []
Oldest ws (Some x) = ws ≡ x ∷ drop 1 ws

-- the i-th of those that wait, if there are so many
abbrev pub Got : {T : Type 0} → List T → ℕ → Option T → Type 0
Got ws i None = length ws ≤ i
Got ws i (Some x) = (i < length ws) × (x ≡ slice_index_or ws i x)

-- the i-th oldest is now x, in its own place, and no other place is written
pub record Replaced {T : Type 0} (r : Ring) (xs : List T) (i : ℕ) (x : T) (xs' : List T) : Type 0 where
  pub within : i < length (waiting r xs)
  pub after : waiting r xs' ≡ slice_set (waiting r xs) i x
  pub memory : xs' ≡ slice_set xs (place r (length xs) i) x

-- no more than i wait: the entry comes back, and nothing changes
pub record Beyond {T : Type 0} (r : Ring) (xs : List T) (i : ℕ) (x y : T) (xs' : List T) : Type 0 where
  pub beyond : length (waiting r xs) ≤ i
  pub back : y ≡ x
  pub memory : xs' ≡ xs

-- what a set answers, and what the memory is then; the ring stays
abbrev pub Placed : {T : Type 0} → Ring → List T → ℕ → T → Result (Unit {0}) T → List T → Type 0
Placed r xs i x (Ok u) xs' = Replaced r xs i x xs'
Placed r xs i x (Err y) xs' = Beyond r xs i x y xs'

-- what waits in a ring of Ts, said by places
pub record Waits (T : Type 0) : Type 0 where
  -- nothing waits in a new ring
  pub none : (xs : List T) → waiting empty xs ≡ []
  -- as many wait as are counted, and never more than the memory has places
  pub fits : (r : Ring) (xs : List T) → length (waiting r xs) ≡ min r.count (length xs)
  -- the i-th oldest stands in its place
  pub stands : (r : Ring) (xs : List T) (i : ℕ) (d : T) → i < length (waiting r xs) → slice_index_or (waiting r xs) i d ≡ slice_index_or xs (place r (length xs) i) d
  -- no two stand in one place
  pub apart : (r : Ring) (n i j : ℕ) → i < n → j < n → place r n i ≡ place r n j → i ≡ j
