-- The table of packet types as text.
use Rattle.std.specs.Prelude.{ℕ, zero, suc, ◌%◌, cond, List, [], ◌∷◌, ◌++◌, decimal, ◌==◌}
use Rattle.frame.specs.FirstByte.{type_number}

-- a type number is followed by a blank, and the last of a line by a line feed
abbrev pub cell_text : ℕ → List ℕ
cell_text first = decimal (type_number first) ++ (cond (first % 16 == 15) 10 32 ∷ [])

-- the numbers of the first n first bytes
unfoldable pub types_text : ℕ → List ℕ
types_text zero = []
types_text (suc n) = types_text n ++ cell_text n
