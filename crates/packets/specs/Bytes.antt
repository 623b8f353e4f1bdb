-- The bytes of a packet, which packets may be written, and where their parts then stand.
use Rattle.std.specs.Prelude.{ℕ, ◌+◌, ◌*◌, Bool, true, false, cond, not, ◌&&◌, List, [], ◌∷◌, ◌++◌, length, Some, None, Option, nat_le, nat_lt}
use Rattle.frame.specs.Length.{length_bytes}
use Rattle.frame.specs.Number.{number_bytes}
use Rattle.frame.specs.Parts.{packet_bytes}
use Rattle.topics.specs.declared.qos.Qos.{Qos}
use Rattle.topics.specs.declared.qos.Qos.TheVariants.{AtMostOnce, AtLeastOnce, ExactlyOnce}
use Rattle.topics.specs.Qos.{qos_number}
use Rattle.topics.specs.Text.{every, is_text}
use Rattle.topics.specs.Names.{is_topic_name, is_topic_filter}
use Rattle.packets.specs.Filters.{Entry}
use Rattle.packets.specs.Packet.{Content, connect, connack, publish, puback, pubrec, pubrel, pubcomp, subscribe, suback, unsubscribe, unsuback, pingreq, pingresp, disconnect}
use Rattle.packets.specs.Reads.{protocol_name, is_code}

-- ---- the bytes

-- a text behind its two-byte length
abbrev pub text_bytes : List ℕ → List ℕ
text_bytes text = number_bytes (length text) ++ text

-- an identifier, where there is one
abbrev pub id_bytes : Option ℕ → List ℕ
id_bytes None = []
id_bytes (Some id) = number_bytes id

-- a QoS byte, where one is asked for
abbrev pub qos_bytes : Option Qos → List ℕ
qos_bytes None = []
qos_bytes (Some q) = qos_number q ∷ []

abbrev pub entry_bytes : Entry → List ℕ
entry_bytes e = text_bytes e.filter ++ qos_bytes e.qos

abbrev pub entries_bytes : List Entry → List ℕ
entries_bytes [] = []
entries_bytes (e ∷ es) = entry_bytes e ++ entries_bytes es

-- 1 for true
abbrev pub bit : Bool → ℕ
bit b = cond b 1 0

-- the first byte: the type in the upper four bits; DUP is bit 3 and QoS bits 1 and 2 of a PUBLISH, RETAIN is 0
abbrev pub first_byte : Content → ℕ
first_byte (connect client at) = 16
first_byte (connack present code) = 32
first_byte (publish dup qos topic topic-at id payload payload-at) = 48 + 8 * bit dup + 2 * qos_number qos
first_byte (puback id) = 64
first_byte (pubrec id) = 80
first_byte (pubrel id) = 98
first_byte (pubcomp id) = 112
first_byte (subscribe id es) = 130
first_byte (suback id codes) = 144
first_byte (unsubscribe id es) = 162
first_byte (unsuback id) = 176
first_byte pingreq = 192
first_byte pingresp = 208
first_byte disconnect = 224

-- the body: a CONNECT has level 4, flags 0 and keep-alive 0
abbrev pub body_of : Content → List ℕ
body_of (connect client at) = protocol_name ++ 4 ∷ 0 ∷ 0 ∷ 0 ∷ text_bytes client
body_of (connack present code) = bit present ∷ code ∷ []
body_of (publish dup qos topic topic-at id payload payload-at) = text_bytes topic ++ id_bytes id ++ payload
body_of (puback id) = number_bytes id
body_of (pubrec id) = number_bytes id
body_of (pubrel id) = number_bytes id
body_of (pubcomp id) = number_bytes id
body_of (subscribe id es) = number_bytes id ++ entries_bytes es
body_of (suback id codes) = number_bytes id ++ codes
body_of (unsubscribe id es) = number_bytes id ++ entries_bytes es
body_of (unsuback id) = number_bytes id
body_of pingreq = []
body_of pingresp = []
body_of disconnect = []

-- a packet's bytes: first byte, shortest remaining length, body
unfoldable pub bytes_of : Content → List ℕ
bytes_of c = packet_bytes (first_byte c) (body_of c)

-- ---- what may be written

-- identifiers are 1 to 65,535
abbrev pub is_id : ℕ → Bool
is_id id = nat_lt 0 id && nat_le id 65535

-- an identifier stands exactly where QoS is above 0, and only there may DUP
abbrev pub lawful_flow : Bool → Qos → Option ℕ → Bool
lawful_flow dup AtMostOnce None = not dup
lawful_flow dup AtMostOnce (Some id) = false
lawful_flow dup AtLeastOnce None = false
lawful_flow dup AtLeastOnce (Some id) = is_id id
lawful_flow dup ExactlyOnce None = false
lawful_flow dup ExactlyOnce (Some id) = is_id id

-- a quality of service is asked for
abbrev pub is_asked : Option Qos → Bool
is_asked None = false
is_asked (Some q) = true

-- each filter is a topic filter, with a quality of service in a SUBSCRIBE and without in an UNSUBSCRIBE
abbrev pub lawful_entries : Bool → List Entry → Bool
lawful_entries graded [] = true
lawful_entries graded (e ∷ es) = is_topic_filter e.filter && cond graded (is_asked e.qos) (not (is_asked e.qos)) && lawful_entries graded es

-- one to eight
abbrev pub up_to_eight : ℕ → Bool
up_to_eight n = nat_lt 0 n && nat_le n 8

-- each field is lawful
abbrev pub lawful_fields : Content → Bool
lawful_fields (connect client at) = is_text client
lawful_fields (connack present code) = nat_le code 5
lawful_fields (publish dup qos topic topic-at id payload payload-at) = is_topic_name topic && lawful_flow dup qos id && nat_le (length payload) 256
lawful_fields (puback id) = is_id id
lawful_fields (pubrec id) = is_id id
lawful_fields (pubrel id) = is_id id
lawful_fields (pubcomp id) = is_id id
lawful_fields (subscribe id es) = is_id id && up_to_eight (length es) && lawful_entries true es
lawful_fields (suback id codes) = is_id id && up_to_eight (length codes) && every is_code codes
lawful_fields (unsubscribe id es) = is_id id && up_to_eight (length es) && lawful_entries false es
lawful_fields (unsuback id) = is_id id
lawful_fields pingreq = true
lawful_fields pingresp = true
lawful_fields disconnect = true

-- a packet that may be written: lawful fields in at most 540 bytes
unfoldable pub lawful : Content → Bool
lawful c = lawful_fields c && nat_le (length (body_of c)) 540

-- ---- where the parts stand

-- where the body begins
abbrev pub body_at : Content → ℕ
body_at c = 1 + length (length_bytes (length (body_of c)))

-- filters one behind the other from a place on
abbrev pub placed_from : ℕ → List Entry → List Entry
placed_from at [] = []
placed_from at (e ∷ es) = record { filter = e.filter; place = at; qos = e.qos } ∷ placed_from (at + length (entry_bytes e)) es

-- the packet with the places that its parts have in its bytes
abbrev pub placed : Content → Content
placed (connect client at) = connect client (body_at (connect client at) + 10)
placed (connack present code) = connack present code
placed (publish dup qos topic topic-at id payload payload-at) =
    publish dup qos topic (body_at (publish dup qos topic topic-at id payload payload-at)) id payload
    (body_at (publish dup qos topic topic-at id payload payload-at) + length (text_bytes topic ++ id_bytes id))
placed (puback id) = puback id
placed (pubrec id) = pubrec id
placed (pubrel id) = pubrel id
placed (pubcomp id) = pubcomp id
placed (subscribe id es) = subscribe id (placed_from (body_at (subscribe id es) + 2) es)
placed (suback id codes) = suback id codes
placed (unsubscribe id es) = unsubscribe id (placed_from (body_at (unsubscribe id es) + 2) es)
placed (unsuback id) = unsuback id
placed pingreq = pingreq
placed pingresp = pingresp
placed disconnect = disconnect
