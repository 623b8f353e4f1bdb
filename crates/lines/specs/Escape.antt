-- Escaped text.
use Rattle.std.specs.Prelude.{◌≡◌, ℕ, ◌<◌, ◌≤◌, Bool, false, cond, not, ◌&&◌, List, [], ◌∷◌, ◌++◌, length, Some, None, Ok, Err, vec_items, codes, Option, Result, Vec, ◌==◌, ◌≢◌, nat_le}
use Rattle.std.specs.Borrow.{Bor}
use Rattle.std.specs.declared.alloc.Global.{Global}
use Rattle.std.specs.List.{AllByRecursion, flat_map}
use Rattle.lines.specs.declared.error.LineError.{LineError}
use Rattle.lines.specs.declared.error.LineError.TheVariants.{Malformed, Memory}
use Rattle.lines.specs.Hex.{byte_hex}

-- the bytes 0x21 to 0x7e but the backslash stand for themselves
abbrev pub plain : ℕ → Bool
plain b = nat_le 33 b && (nat_le b 126 && not (b == 92))

-- a byte that stands for itself, or `\xHH`
unfoldable pub escaped_byte : ℕ → List ℕ
escaped_byte b = cond (plain b) (b ∷ []) (92 ∷ 120 ∷ byte_hex b)

-- no bytes are `-`, a lone `-` is `\x2d`, and else each byte is escaped
abbrev pub escaped : List ℕ → List ℕ
escaped [] = codes "-"
escaped (b ∷ []) = cond (b == 45) (codes "\\x2d") (flat_map escaped_byte (b ∷ []))
escaped (b ∷ c ∷ bs) = flat_map escaped_byte (b ∷ c ∷ bs)

-- all are bytes
abbrev pub Bytes : List ℕ → Type 0
Bytes bs = AllByRecursion (λ b. b < 256) bs

-- a writer's text is read as what it was written of, and a text that is written of no bytes is malformed
abbrev pub Inverse : (List ℕ → List ℕ) → List ℕ → Result (Vec ℕ Global) LineError → Type 0
Inverse write text (Ok bytes) = (write (vec_items bytes) ≡ text) × Bytes (vec_items bytes)
Inverse write text (Err Malformed) = (bs : List ℕ) → Bytes bs → write bs ≢ text
Inverse write text (Err Memory) = Unit {0}

-- the same where there is memory for what is read
abbrev pub Undoes : (List ℕ → List ℕ) → List ℕ → Option (Vec ℕ Global) → Type 0
Undoes write text (Some bytes) = (write (vec_items bytes) ≡ text) × Bytes (vec_items bytes)
Undoes write text None = (bs : List ℕ) → Bytes bs → write bs ≢ text

-- just what is written is read
abbrev pub Unescaped : List ℕ → Result (Vec ℕ Global) LineError → Type 0
Unescaped text r = Inverse escaped text r

-- the byte that was escaped at the front of a text, and what follows
abbrev pub UnitIn : List ℕ → Option (ℕ × Bor (List ℕ)) → Type 0
UnitIn text None = (b : ℕ) (rest : List ℕ) → b < 256 → escaped_byte b ++ rest ≢ text
UnitIn text (Some p) = (escaped_byte p.0 ++ p.1.now ≡ text) × (p.0 < 256)

-- the byte that is not plain and has two digits
abbrev pub CodeOf : ℕ → ℕ → Option ℕ → Type 0
CodeOf h l None = (b : ℕ) → b < 256 → plain b ≡ false → byte_hex b ≢ h ∷ l ∷ []
CodeOf h l (Some b) = (plain b ≡ false) × (byte_hex b ≡ h ∷ l ∷ []) × (b < 256)

pub record EscapeLaw : Type 0 where
  -- two runs of bytes with one text are one
  pub one_to_one : (bs cs : List ℕ) → Bytes bs → Bytes cs → escaped bs ≡ escaped cs → bs ≡ cs
  -- the text is not empty, and each of its characters is printable and no blank
  pub printable : (bs : List ℕ) → Bytes bs → (0 < length (escaped bs)) × AllByRecursion (λ c. (33 ≤ c) × (c ≤ 126)) (escaped bs)
