-- Bytes in hexadecimal.
use Rattle.std.specs.Prelude.{◌≡◌, ℕ, ◌+◌, ◌-◌, ◌*◌, ◌/◌, ◌%◌, ◌<◌, cond, ◌&&◌, List, [], ◌∷◌, Some, None, Ok, Err, vec_items, Option, Result, Vec, ◌==◌, nat_le, nat_lt}
use Rattle.std.specs.declared.alloc.Global.{Global}
use Rattle.std.specs.List.{AllByRecursion, flat_map}
use Rattle.lines.specs.declared.error.LineError.{LineError}
use Rattle.lines.specs.declared.error.LineError.TheVariants.{Malformed, Memory}

-- the digit of a number below 16, in lower case
abbrev pub digit : ℕ → ℕ
digit n = cond (nat_lt n 10) (48 + n) (97 + (n - 10))

-- the two digits of a byte
abbrev pub byte_hex : ℕ → List ℕ
byte_hex b = digit (b / 16) ∷ digit (b % 16) ∷ []

-- the digits of some bytes, and `-` where there are none
abbrev pub hex_text : List ℕ → List ℕ
hex_text [] = 45 ∷ []
hex_text (b ∷ bs) = flat_map byte_hex (b ∷ bs)

-- the number of a digit of either case
abbrev pub digit_value : ℕ → Option ℕ
digit_value c =
    cond (nat_le 48 c && nat_le c 57) (Some (c - 48))
    (cond (nat_le 97 c && nat_le c 102) (Some (c - 97 + 10)) (cond (nat_le 65 c && nat_le c 70) (Some (c - 65 + 10)) None))

-- it is a number below 16
abbrev pub Below16 : Option ℕ → Type 0
Below16 None = Unit {0}
Below16 (Some n) = n < 16

-- a byte of two digits before other bytes
abbrev pub byte_before : Option ℕ → Option ℕ → Option (List ℕ) → Option (List ℕ)
byte_before None l bs = None
byte_before (Some h) None bs = None
byte_before (Some h) (Some l) None = None
byte_before (Some h) (Some l) (Some bs) = Some ((16 * h + l) ∷ bs)

-- the bytes of digits, two by two
abbrev pub pairs_in : List ℕ → Option (List ℕ)
pairs_in [] = Some []
pairs_in (h ∷ []) = None
pairs_in (h ∷ l ∷ rest) = byte_before (digit_value h) (digit_value l) (pairs_in rest)

-- the bytes that a word writes: `-` for none, else digits, two by two
abbrev pub hex_in : List ℕ → Option (List ℕ)
hex_in [] = None
hex_in (c ∷ []) = cond (c == 45) (Some []) None
hex_in (h ∷ l ∷ rest) = pairs_in (h ∷ l ∷ rest)

-- the bytes that are answered, if any
abbrev pub bytes_read : Option (Vec ℕ Global) → Option (List ℕ)
bytes_read None = None
bytes_read (Some bytes) = Some (vec_items bytes)

-- the bytes that a definition gives are answered, and a word of which it gives none is malformed
abbrev pub Read : Option (List ℕ) → Result (Vec ℕ Global) LineError → Type 0
Read meant (Ok bytes) = meant ≡ Some (vec_items bytes)
Read meant (Err Malformed) = meant ≡ None
Read meant (Err Memory) = Unit {0}

-- what is written of some bytes reads back
abbrev pub HexLaw : Type 0
HexLaw = (bs : List ℕ) → AllByRecursion (λ b. b < 256) bs → hex_in (hex_text bs) ≡ Some bs
