-- What a packet says, as numbers.
use Rattle.std.specs.Prelude.{ℕ, Bool, cond, length, Some, None, Ok, Err, Option, Result}
use Rattle.std.specs.Option.{unwrap_or}
use Rattle.frame.specs.Field.{field_number}
use Rattle.topics.specs.declared.qos.Qos.{Qos}
use Rattle.topics.specs.Qos.{qos_number}
use Rattle.packets.specs.declared.packet.ReadError.{ReadError}
use Rattle.packets.specs.declared.packet.ReadError.TheVariants.{Level, Bad}
use Rattle.packets.specs.Filters.{Entry, nth}
use Rattle.packets.specs.Packet.{Content, connect, connack, publish, puback, pubrec, pubrel, pubcomp, subscribe, suback, unsubscribe, unsuback, pingreq, pingresp, disconnect}
use Rattle.exports.specs.declared.read.FilterOutcome.{FilterOutcome}
use Rattle.exports.specs.declared.read.ReadOutcome.{ReadOutcome}

-- type, flag, grade, identifier, and place and length of a text
abbrev pub told : ℕ → ℕ → ℕ → ℕ → ℕ → ℕ → ReadOutcome
told t flag grade id place long =
    record { packet_type = t; field = 0; flag = flag; grade = grade; id = id; place = place; length = long; payload_place = 0; payload_length = 0 }

-- a type and an identifier
abbrev pub named : ℕ → ℕ → ReadOutcome
named t id = told t 0 0 id 0 0

abbrev pub bit : Bool → ℕ
bit b = cond b 1 0

-- what a packet says but for its filters
abbrev pub numbers : Content → ReadOutcome
numbers (connect client at) = told 1 0 0 0 at (length client)
numbers (connack present code) = told 2 (bit present) code 0 0 0
numbers (publish dup qos topic topic-at id payload payload-at) =
    record { packet_type = 3; field = 0; flag = bit dup; grade = qos_number qos; id = unwrap_or id 0; place = topic-at; length = length topic; payload_place = payload-at; payload_length = length payload }
numbers (puback id) = named 4 id
numbers (pubrec id) = named 5 id
numbers (pubrel id) = named 6 id
numbers (pubcomp id) = named 7 id
numbers (subscribe id es) = named 8 id
numbers (suback id codes) = told 9 0 0 id 0 (length codes)
numbers (unsubscribe id es) = named 10 id
numbers (unsuback id) = named 11 id
numbers pingreq = named 12 0
numbers pingresp = named 13 0
numbers disconnect = named 14 0

-- a packet, 15 for another level, or the bad field's number and place
abbrev pub read_numbers : Result Content ReadError → ReadOutcome
read_numbers (Ok c) = numbers c
read_numbers (Err Level) = named 15 0
read_numbers (Err (Bad e)) =
    record { packet_type = 0; field = field_number e.field; flag = 0; grade = 0; id = 0; place = e.place; length = 0; payload_place = 0; payload_length = 0 }

-- the quality of service that a filter asks for, 3 for none
abbrev pub asks : Option Qos → ℕ
asks None = 3
asks (Some q) = qos_number q

abbrev pub no_filter : FilterOutcome
no_filter = record { present = 0; qos = 0; place = 0; length = 0 }

abbrev pub entry_numbers : Option Entry → FilterOutcome
entry_numbers None = no_filter
entry_numbers (Some e) = record { present = 1; qos = asks e.qos; place = e.place; length = length e.filter }

-- the filter with an index, of a SUBSCRIBE or an UNSUBSCRIBE
abbrev pub content_filter : Content → ℕ → FilterOutcome
content_filter (connect client at) k = no_filter
content_filter (connack present code) k = no_filter
content_filter (publish dup qos topic topic-at id payload payload-at) k = no_filter
content_filter (puback id) k = no_filter
content_filter (pubrec id) k = no_filter
content_filter (pubrel id) k = no_filter
content_filter (pubcomp id) k = no_filter
content_filter (subscribe id es) k = entry_numbers (nth k es)
content_filter (suback id codes) k = no_filter
content_filter (unsubscribe id es) k = entry_numbers (nth k es)
content_filter (unsuback id) k = no_filter
content_filter pingreq k = no_filter
content_filter pingresp k = no_filter
content_filter disconnect k = no_filter

abbrev pub filter_numbers : Result Content ReadError → ℕ → FilterOutcome
filter_numbers (Ok c) k = content_filter c k
filter_numbers (Err e) k = no_filter
