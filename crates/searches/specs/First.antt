-- Searches among the numbers below a bound.
use Rattle.std.specs.Prelude.{◌≡◌, ℕ, zero, suc, ◌+◌, ◌%◌, ◌<◌, ◌≤◌, max, Bool, true, false, cond, ◌⊎◌, Some, None, Option, nat_lt}
use Rattle.std.specs.Option.{option_map, option_or}

-- the lowest number below a bound that passes
unfoldable pub first_below : (ℕ → Bool) → ℕ → Option ℕ
first_below p zero = None
first_below p (suc n) = option_or (first_below p n) (cond (p n) (Some n) None)

-- the first that passes of start, start + 1 and so on, round below the bound
abbrev pub first_from : (ℕ → Bool) → ℕ → ℕ → Option ℕ
first_from p start n = option_map (λ k. (start + k) % n) (first_below (λ k. p ((start + k) % n)) n)

-- a rank comes before another, or before none
abbrev pub before : Option ℕ → Option ℕ → Bool
before None b = false
before (Some r) None = true
before (Some r) (Some s) = nat_lt r s

-- the rank of a number, if there is a number and it has one
abbrev pub rank_of : (ℕ → Option ℕ) → Option ℕ → Option ℕ
rank_of f None = None
rank_of f (Some k) = f k

-- the number below a bound with the lowest rank; of equals, the lowest number
unfoldable pub lowest : (ℕ → Option ℕ) → ℕ → Option ℕ
lowest f zero = None
lowest f (suc n) = cond (before (f n) (rank_of f (lowest f n))) (Some n) (lowest f n)

-- a rank, or 0 for none
abbrev pub or_zero : Option ℕ → ℕ
or_zero None = 0
or_zero (Some r) = r

-- the highest rank of a number below a bound, or 0
unfoldable pub highest : (ℕ → Option ℕ) → ℕ → ℕ
highest f zero = 0
highest f (suc n) = max (highest f n) (or_zero (f n))

-- how many numbers below a bound pass
unfoldable pub count_below : (ℕ → Bool) → ℕ → ℕ
count_below p zero = 0
count_below p (suc n) = cond (p n) (count_below p n + 1) (count_below p n)

-- what it is to be the first: it passes, none before it does; or none passes
abbrev pub First : (ℕ → Bool) → ℕ → Option ℕ → Type 0
First p n None = (j : ℕ) → j < n → p j ≡ false
First p n (Some k) = (k < n) × (p k ≡ true) × ((j : ℕ) → j < k → p j ≡ false)

-- what it is to be the first from a start, round: it passes and is so many steps away, none after fewer steps does; or none passes
abbrev pub FirstRound : (ℕ → Bool) → ℕ → ℕ → Option ℕ → Type 0
FirstRound p start n None = (j : ℕ) → j < n → p j ≡ false
FirstRound p start n (Some k) =
    (k < n) × (p k ≡ true)
    × ((steps : ℕ) × (steps < n) × ((start + steps) % n ≡ k) × ((j : ℕ) → j < steps → p ((start + j) % n) ≡ false))

-- a number with a rank comes first among equals: by rank, then by number
abbrev pub Leads : ℕ → ℕ → ℕ → ℕ → Type 0
Leads r k s j = (r < s) ⊎ ((r ≡ s) × (k ≤ j))

-- what it is to be the lowest: it has a rank and leads every other that has one; or none has a rank
abbrev pub Lowest : (ℕ → Option ℕ) → ℕ → Option ℕ → Type 0
Lowest f n None = (j : ℕ) → j < n → f j ≡ None
Lowest f n (Some k) =
    (k < n) × ((r : ℕ) × (f k ≡ Some r) × ((j s : ℕ) → j < n → f j ≡ Some s → Leads r k s j))

-- what it is to be the highest rank: none is above it, and it is that of a number, or 0 where none has a rank
pub record Highest (f : ℕ → Option ℕ) (n : ℕ) (r : ℕ) : Type 0 where
  pub above : (j s : ℕ) → j < n → f j ≡ Some s → s ≤ r
  pub reached : ((j : ℕ) → j < n → f j ≡ None) × (r ≡ 0) ⊎ ((j : ℕ) × (j < n) × (f j ≡ Some r))

-- the searches find what they should, for every test, every rank and every bound
pub record SearchLaw : Type 0 where
  pub first : (p : ℕ → Bool) (n : ℕ) → First p n (first_below p n)
  pub round : (p : ℕ → Bool) (start n : ℕ) → FirstRound p start n (first_from p start n)
  pub low : (f : ℕ → Option ℕ) (n : ℕ) → Lowest f n (lowest f n)
  pub high : (f : ℕ → Option ℕ) (n : ℕ) → Highest f n (highest f n)
