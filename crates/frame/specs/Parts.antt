-- A whole packet's parts.
use Rattle.std.specs.Prelude.{◌≡◌, ℕ, ◌+◌, ◌-◌, ◌%◌, ◌<◌, ◌≤◌, cond, ◌&&◌, List, [], ◌∷◌, ◌++◌, length, drop, Some, None, Ok, Err, Option, Result, ◌==◌, nat_le}
use Rattle.frame.specs.declared.field.BadField.{BadField}
use Rattle.frame.specs.declared.field.Field.{Field}
use Rattle.frame.specs.declared.field.Field.TheVariants.{FirstByte, RemainingLength}
use Rattle.frame.specs.declared.first_byte.PacketType.{PacketType}
use Rattle.frame.specs.declared.parts.Parts.{Parts}
use Rattle.frame.specs.FirstByte.{type_in}
use Rattle.frame.specs.Length.{length_in, length_bytes}

-- the packet type, the flags, the body, and the index of the body's first byte
pub record Told : Type 0 where
  pub type_is : PacketType
  pub flags : ℕ
  pub body : List ℕ
  pub place : ℕ

-- the answer with the bytes in place of the borrowed part
abbrev pub told : Result Parts BadField → Result Told BadField
told (Ok p) = Ok (record { type_is = p.packet_type; flags = p.flags; body = p.body.now; place = p.place })
told (Err e) = Err e

-- a body of at most 540 bytes, which ends where the packet of n bytes does
abbrev pub Within : Result Parts BadField → ℕ → Type 0
Within (Ok p) n = (length p.body.now ≤ 540) × (p.place + length p.body.now ≡ n)
Within (Err e) n = Unit {0}

-- a bad field at a place
abbrev pub bad_at : {A : Type 0} → Field → ℕ → Result A BadField
bad_at f place = Err (record { field = f; place = place })

-- behind the length: it is at most 540 and equals the bytes that follow
abbrev pub after_length : PacketType → ℕ → List ℕ → Option (ℕ × ℕ) → Result Told BadField
after_length t flags rest None = bad_at RemainingLength 1
after_length t flags rest (Some p) =
    cond (nat_le p.0 540 && length rest == p.1 + p.0)
    (Ok (record { type_is = t; flags = flags; body = drop p.1 rest; place = 1 + p.1 }))
    (bad_at RemainingLength 1)

-- behind the first byte: the remaining length
unfoldable pub after_type : PacketType → ℕ → List ℕ → Result Told BadField
after_type t flags rest = after_length t flags rest (length_in rest)

-- behind what the first byte announces
abbrev pub after_first : Option PacketType → ℕ → List ℕ → Result Told BadField
after_first None flags rest = bad_at FirstByte 0
after_first (Some t) flags rest = after_type t flags rest

-- the parts of a whole packet: the first byte tells the type and the flags
unfoldable pub parts_in : List ℕ → Result Told BadField
parts_in [] = bad_at FirstByte 0
parts_in (first ∷ rest) = after_first (type_in first) (first % 16) rest

-- a packet's bytes from its first byte and its body
unfoldable pub packet_bytes : ℕ → List ℕ → List ℕ
packet_bytes first body = first ∷ length_bytes (length body) ++ body

-- what is put together so is told apart as that
abbrev pub ToldApart : Type 0
ToldApart =
    (first : ℕ) (t : PacketType) (body : List ℕ) → type_in first ≡ Some t → length body ≤ 540
    → parts_in (packet_bytes first body)
    ≡ Ok (record { type_is = t; flags = first % 16; body = body; place = 1 + length (length_bytes (length body)) })

-- what is told apart has a legal first byte of that type with those flags, and ends with the body, which begins at its place
abbrev pub IsThere : Type 0
IsThere =
    (first : ℕ) (rest : List ℕ) (p : Told) → parts_in (first ∷ rest) ≡ Ok p
    → (type_in first ≡ Some p.type_is) × (p.flags ≡ first % 16) × (p.body ≡ drop p.place (first ∷ rest)) × (length p.body ≤ 540)
    × (length_in rest ≡ Some (length p.body, p.place - 1)) × (1 < p.place)

pub record PartsLaw : Type 0 where
  pub told_apart : ToldApart
  pub is_there : IsThere
