-- A packet's bytes in an out buffer.
use Rattle.std.specs.Prelude.{◌≡◌, ℕ, ◌-◌, ◌^◌, ◌<◌, ◌≤◌, min, Bool, true, false, ◌&&◌, List, ◌++◌, length, drop, Ok, Err, Result, nat_le}
use Rattle.std.specs.Borrow.{Bor}
use Rattle.std.specs.List.{flat_map}
use Rattle.frame.specs.Parts.{packet_bytes}
use Rattle.writer.specs.declared.out.WriteError.{WriteError}
use Rattle.writer.specs.declared.out.WriteError.TheVariants.{Short, Unlawful}

-- the buffer d with xs at its start, and the rest of it as it was
unfoldable pub front : List ℕ → List ℕ → List ℕ
front d xs = xs ++ drop (length xs) d

-- a length as far as 64 bits count
unfoldable pub counted : ℕ → ℕ
counted n = min n (2 ^ 64 - 1)

-- what writing these bytes into the buffer d answers, and the buffer e that it leaves: too short a buffer is found first,
-- then an unlawful packet, and both leave the buffer as it was; else the bytes stand at its start
abbrev pub Written : Bool → List ℕ → Result ℕ WriteError → List ℕ → List ℕ → Type 0
Written lawful bs (Err (Short needed)) d e = (length d < length bs) × (needed ≡ counted (length bs)) × (e ≡ d)
Written lawful bs (Err Unlawful) d e = (length bs ≤ length d) × (lawful ≡ false) × (e ≡ d)
Written lawful bs (Ok n) d e = (length bs ≤ length d) × (lawful ≡ true) × (n ≡ length bs) × (e ≡ front d bs)

-- ---- words of private functions

-- the same for a packet of a first byte and a body, which has at most 540 bytes where it is lawful
abbrev pub Sent : Bool → ℕ → List ℕ → Result ℕ WriteError → List ℕ → List ℕ → Type 0
Sent fields first body r d e = Written (fields && nat_le (length body) 540) (packet_bytes first body) r d e

-- the pieces one after the other
abbrev pub joined : List (Bor (List ℕ)) → List ℕ
joined ps = flat_map (λ p. p.now) ps
