-- Two-byte numbers.
use Rattle.std.specs.Prelude.{◌≡◌, ℕ, ◌+◌, ◌*◌, ◌/◌, ◌%◌, ◌<◌, List, [], ◌∷◌, ◌++◌, Some, None, Option}
use Rattle.std.specs.Borrow.{Bor}

-- the number of the first two bytes, high byte first, and what follows
abbrev pub number_in : List ℕ → Option (ℕ × List ℕ)
number_in [] = None
number_in (high ∷ []) = None
number_in (high ∷ low ∷ rest) = Some (256 * high + low, rest)

-- the answer with the bytes in place of the borrowed part
abbrev pub number_and_rest : Option (ℕ × Bor (List ℕ)) → Option (ℕ × List ℕ)
number_and_rest None = None
number_and_rest (Some p) = Some (p.0, p.1.now)

-- the two bytes of a number, high byte first
abbrev pub number_bytes : ℕ → List ℕ
number_bytes n = (n / 256 % 256) ∷ (n % 256) ∷ []

-- what is written reads back
abbrev pub NumberLaw : Type 0
NumberLaw = (n : ℕ) (rest : List ℕ) → n < 65536 → number_in (number_bytes n ++ rest) ≡ Some (n, rest)
