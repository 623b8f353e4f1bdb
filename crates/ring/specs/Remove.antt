-- What is left in a ring when the entries that a test picks are gone.
use Rattle.std.specs.Prelude.{◌≡◌, ◌%◌, Bool, not, List, ◌++◌, length, drop, filter}
use Rattle.ring.specs.declared.Ring.{Ring}
use Rattle.ring.specs.Ring.{round, waiting}

-- the entries that wait and are not picked, in their order
abbrev pub unpicked : {T : Type 0} → (T → Bool) → Ring → List T → List T
unpicked picked r xs = filter (λ x. not (picked x)) (waiting r xs)

-- just the entries not picked wait, from the same first place on; behind them the memory is as it was
pub record Removed {T : Type 0} (picked : T → Bool) (r : Ring) (xs : List T) (r' : Ring) (xs' : List T) : Type 0 where
  pub after : waiting r' xs' ≡ unpicked picked r xs
  pub ring : r' ≡ record { first = r.first; count = length (unpicked picked r xs) }
  pub memory : round (r.first % length xs) xs' ≡ unpicked picked r xs ++ drop (length (unpicked picked r xs)) (round (r.first % length xs) xs)
  pub size : length xs' ≡ length xs
