-- Packets written into an out buffer.
use Rattle.std.specs.Prelude.{ℕ, ◌+◌, ◌*◌, cond, List, Result}
use Rattle.frame.specs.declared.first_byte.PacketType.{PacketType}
use Rattle.frame.specs.FirstByte.{allows, number_of}
use Rattle.packets.specs.Packet.{Content}
use Rattle.packets.specs.Bytes.{body_of, first_byte, lawful_fields}
use Rattle.writer.specs.declared.out.WriteError.{WriteError}
use Rattle.writer.specs.Out.{Sent}

-- ---- words of private functions

-- the first byte of a type: its number in the upper four bits, and in the lower four no flag where the type allows that, else 2
abbrev pub first_byte_of : PacketType → ℕ
first_byte_of t = 16 * number_of t + cond (allows t 0) 0 2

-- what writing a packet answers, and the buffer that it leaves
abbrev pub SentAs : Content → Result ℕ WriteError → List ℕ → List ℕ → Type 0
SentAs c r d e = Sent (lawful_fields c) (first_byte c) (body_of c) r d e
