-- The refusal of a window.
use Rattle.std.specs.Prelude.{ℕ}
use Rattle.window.specs.declared.Beyond.{Beyond}

-- a window beyond the limits is refusal 13
abbrev pub refusal_number : {S : Type 0} → Beyond S → ℕ
refusal_number b = 13
