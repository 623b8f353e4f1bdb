-- Decimal numbers.
use Rattle.std.specs.Prelude.{◌≡◌, ℕ, ◌^◌, ◌<◌, List, Some, None, decimal, Option}
use Rattle.std.specs.Str.Parse.{IsNumeral, digits_value}

-- one or more digits whose value is below 2^32 are read as that value, and nothing else is read
abbrev pub Reads : List ℕ → Option ℕ → Type 0
Reads word None = IsNumeral 10 word → digits_value 10 word < 2 ^ 32 → ⊥
Reads word (Some n) = IsNumeral 10 word × (digits_value 10 word ≡ n)

-- what is printed of a number is a numeral of that value
abbrev pub DecimalLaw : Type 0
DecimalLaw = (n : ℕ) → n < 2 ^ 32 → IsNumeral 10 (decimal n) × (digits_value 10 (decimal n) ≡ n)
