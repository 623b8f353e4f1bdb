-- The fields of a packet by their numbers.
use Rattle.std.specs.Prelude.{ℕ}
use Rattle.frame.specs.declared.field.Field.{Field}
use Rattle.frame.specs.declared.field.Field.TheVariants.{FirstByte, RemainingLength, ProtocolName, Flags, ClientIdentifier, TopicName, PacketIdentifier, TopicFilter, QosOrCode, Payload, End}

-- the number of a field, as a refusal names it
abbrev pub field_number : Field → ℕ
field_number FirstByte = 1
field_number RemainingLength = 2
field_number ProtocolName = 3
field_number Flags = 4
field_number ClientIdentifier = 5
field_number TopicName = 6
field_number PacketIdentifier = 7
field_number TopicFilter = 8
field_number QosOrCode = 9
field_number Payload = 10
field_number End = 11
