-- The fields that packets have in common. Every step takes the bytes not yet read and the place of the first of them.
use Rattle.std.specs.Prelude.{◌≡◌, ℕ, ◌+◌, Bool, cond, List, [], ◌∷◌, length, take, drop, Some, None, Ok, Err, Option, Result, MatchResult, ◌==◌, nat_le}
use Rattle.std.specs.Borrow.{Bor}
use Rattle.frame.specs.declared.field.Field.{Field}
use Rattle.frame.specs.declared.field.Field.TheVariants.{PacketIdentifier, End}
use Rattle.frame.specs.Number.{number_in}
use Rattle.packets.specs.declared.packet.ReadError.{ReadError}
use Rattle.packets.specs.declared.packet.ReadError.TheVariants.{Bad}

-- a bad field at a place
abbrev pub bad_at : Field → ℕ → ReadError
bad_at f place = Bad (record { field = f; place = place })

-- a reading stops at a bad field
abbrev pub bad : {A : Type 0} → Field → ℕ → Result A ReadError
bad f place = Err (bad_at f place)

-- bytes are missing: the packet's end comes too early, at the packet's length
abbrev pub missing : {A : Type 0} → List ℕ → ℕ → Result A ReadError
missing bs at = bad End (at + length bs)

-- the next step, on what this step found
abbrev pub onward : {A B : Type 0} → (A → Result B ReadError) → Result A ReadError → Result B ReadError
onward f (Ok x) = f x
onward f (Err e) = Err e

-- nothing may be left over
abbrev pub ended : {A : Type 0} → List ℕ → ℕ → A → Result A ReadError
ended [] at c = Ok c
ended (b ∷ bs) at c = bad End at

-- the first byte and what follows
abbrev pub byte_in : List ℕ → Option (ℕ × List ℕ)
byte_in [] = None
byte_in (b ∷ rest) = Some (b, rest)

-- a packet identifier is not 0
abbrev pub identified : List ℕ → ℕ → Option (ℕ × List ℕ) → Result (ℕ × List ℕ) ReadError
identified bs at None = missing bs at
identified bs at (Some p) = cond (p.0 == 0) (bad PacketIdentifier at) (Ok p)

-- a packet identifier and what follows
unfoldable pub identifier_in : List ℕ → ℕ → Result (ℕ × List ℕ) ReadError
identifier_in bs at = identified bs at (number_in bs)

-- a packet identifier that nothing follows
unfoldable pub only_identifier : List ℕ → ℕ → Result ℕ ReadError
only_identifier bs at = onward (λ p. ended p.1 (at + 2) p.0) (identifier_in bs at)

-- so many bytes and what follows, if there are as many
abbrev pub cut : ℕ → List ℕ → Option (List ℕ × List ℕ)
cut n rest = cond (nat_le n (length rest)) (Some (take n rest, drop n rest)) None

-- so many bytes as the number says
abbrev pub announced : Option (ℕ × List ℕ) → Option (List ℕ × List ℕ)
announced None = None
announced (Some p) = cut p.0 p.1

-- the bytes that a two-byte length announces, and what follows
unfoldable pub length_prefixed : List ℕ → Option (List ℕ × List ℕ)
length_prefixed bs = announced (number_in bs)

-- announced bytes that pass the field's test, and what follows
abbrev pub judged : Field → (List ℕ → Bool) → List ℕ → ℕ → Option (List ℕ × List ℕ) → Result (List ℕ × List ℕ) ReadError
judged f test bs at None = missing bs at
judged f test bs at (Some p) = cond (test p.0) (Ok p) (bad f at)

-- a text field: its place is that of its two-byte length
unfoldable pub text_in : Field → (List ℕ → Bool) → List ℕ → ℕ → Result (List ℕ × List ℕ) ReadError
text_in f test bs at = judged f test bs at (length_prefixed bs)

-- where what follows a text begins
abbrev pub past : List ℕ → ℕ → ℕ
past text at = at + 2 + length text

-- ---- answers of the code

-- a step takes what stands first and leaves what follows, or bytes are missing
abbrev pub Takes : {A : Type 0} → Option (A × List ℕ) → List ℕ → ℕ → List ℕ → Result A ReadError → Type 0
Takes first bs at rest r = MatchResult r (λ x. first ≡ Some (x, rest)) (λ e. (first ≡ None) × (e ≡ bad_at End (at + length bs)))

-- a step finds what it ought to and leaves what follows, or stops as it ought to
abbrev pub Finds : {A : Type 0} → Result (A × List ℕ) ReadError → List ℕ → Result A ReadError → Type 0
Finds found rest r = MatchResult r (λ x. found ≡ Ok (x, rest)) (λ e. found ≡ Err e)

-- the bytes that an answer lends
abbrev pub lent : Result (Bor (List ℕ)) ReadError → Result (List ℕ) ReadError
lent (Ok b) = Ok b.now
lent (Err e) = Err e
