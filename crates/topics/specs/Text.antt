-- The text rule.
use Rattle.std.specs.Prelude.{◌≡◌, ℕ, Bool, true, not, ◌&&◌, List, Decides, ◌==◌}
use Rattle.std.specs.List.{list_all}
use Rattle.std.proofs.Math.Utf8.{encodes, scalars}
use Rattle.std.specs.Str.{chars, bytes_eq}

-- each number of the list passes the test
abbrev pub every : (ℕ → Bool) → List ℕ → Bool
every = list_all

-- well-formed UTF-8: the bytes are the encoding of the Unicode scalar values that they stand for
unfoldable pub well_formed : List ℕ → Bool
well_formed bs = scalars (chars bs) && bytes_eq (encodes (chars bs)) bs

-- a character that a text may hold: any but U+0000
abbrev pub allowed : ℕ → Bool
allowed c = not (c == 0)

-- text: well-formed UTF-8 whose characters are all allowed
unfoldable pub is_text : List ℕ → Bool
is_text bs = well_formed bs && every allowed (chars bs)

-- some characters, all of them Unicode scalar values and allowed, have these bytes as their UTF-8
abbrev pub Spells : List ℕ → Type 0
Spells bs = (cs : List ℕ) × (scalars cs ≡ true) × (every allowed cs ≡ true) × (encodes cs ≡ bs)

-- the bytes of allowed characters are texts, and no other bytes are
abbrev pub TextLaw : Type 0
TextLaw = (bs : List ℕ) → Decides (is_text bs) (Spells bs)
