-- A list by its first elements and the rest, as a slice pattern has them.
use Rattle.std.proofs.Common.{◌≡◌, ℕ, ◌-◌, ◌≤◌, List, [], ◌∷◌, length, get_or, take, drop, sym, ap, arith}
use Rattle.std.proofs.lemmas.List.{take_all}

pub front_one : (xs : List ℕ) → 1 ≤ length xs → xs ≡ get_or xs 0 0 ∷ take (length xs - 1) (drop 1 xs)
front_one [] h = absurd (omega arith)
front_one (a ∷ xs) h = ap (λ l. a ∷ l) (sym (take_all _ xs (omega arith)))

pub front_two : (xs : List ℕ) → 2 ≤ length xs → xs ≡ get_or xs 0 0 ∷ get_or xs 1 0 ∷ take (length xs - 2) (drop 2 xs)
front_two [] h = absurd (omega arith)
front_two (a ∷ []) h = absurd (omega arith)
front_two (a ∷ b ∷ xs) h = ap (λ l. a ∷ b ∷ l) (sym (take_all _ xs (omega arith)))
