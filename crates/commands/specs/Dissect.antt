-- What a packet is, as a line.
use Rattle.std.specs.Prelude.{ℕ, Bool, cond, List, [], ◌∷◌, ◌++◌, length, Some, None, Ok, Err, codes, decimal, Option, Result}
use Rattle.std.specs.List.{flat_map}
use Rattle.std.specs.Option.{unwrap_or}
use Rattle.frame.specs.Field.{field_number}
use Rattle.lines.specs.Escape.{escaped}
use Rattle.lines.specs.Hex.{hex_text}
use Rattle.packets.specs.declared.packet.ReadError.{ReadError}
use Rattle.packets.specs.declared.packet.ReadError.TheVariants.{Level, Bad}
use Rattle.packets.specs.Filters.{Entry}
use Rattle.packets.specs.Packet.{Content, connect, connack, publish, puback, pubrec, pubrel, pubcomp, subscribe, suback, unsubscribe, unsuback, pingreq, pingresp, disconnect}
use Rattle.topics.specs.declared.qos.Qos.{Qos}
use Rattle.topics.specs.Qos.{qos_number}

-- the quality of service that a filter asks for, if any
abbrev pub qos_text : Option Qos → List ℕ
qos_text None = []
qos_text (Some q) = codes " qos " ++ decimal (qos_number q)

-- a filter, its place, and what it asks for
abbrev pub entry_text : Entry → List ℕ
entry_text e = codes " " ++ (escaped e.filter ++ (codes " at " ++ (decimal e.place ++ qos_text e.qos)))

-- filters, one after the other
abbrev pub entries_text : List Entry → List ℕ
entries_text [] = []
entries_text (e ∷ es) = entry_text e ++ entries_text es

-- a code, and codes one after the other
abbrev pub code_text : ℕ → List ℕ
code_text c = codes " " ++ decimal c

abbrev pub codes_text : List ℕ → List ℕ
codes_text cs = flat_map code_text cs

-- a flag as a number
abbrev pub bit : Bool → ℕ
bit b = cond b 1 0

-- a name and an identifier
abbrev pub ack_text : List ℕ → ℕ → List ℕ
ack_text name id = name ++ (decimal id ++ codes "\n")

-- a name, an identifier, and filters with their count
abbrev pub filters_text : List ℕ → ℕ → List Entry → List ℕ
filters_text name id es = name ++ (codes " id " ++ (decimal id ++ (codes " filters " ++ (decimal (length es) ++ (entries_text es ++ codes "\n")))))

-- the flags and the identifier of a PUBLISH, 0 where there is none
abbrev pub publish_head : Bool → Qos → Option ℕ → List ℕ
publish_head dup qos id = codes "PUBLISH dup " ++ (decimal (bit dup) ++ (codes " qos " ++ (decimal (qos_number qos) ++ (codes " id " ++ decimal (unwrap_or id 0)))))

-- its topic and its payload with their places
abbrev pub publish_parts : List ℕ → ℕ → List ℕ → ℕ → List ℕ
publish_parts topic topic-at payload payload-at =
    codes " topic " ++ (escaped topic ++ (codes " at " ++ (decimal topic-at ++ (codes " payload " ++ (hex_text payload ++ (codes " at " ++ (decimal payload-at ++ codes "\n")))))))

-- a packet's type and content
abbrev pub content_text : Content → List ℕ
content_text (connect client at) = codes "CONNECT client " ++ (escaped client ++ (codes " at " ++ (decimal at ++ codes "\n")))
content_text (connack present code) = codes "CONNACK present " ++ (decimal (bit present) ++ (codes " code " ++ (decimal code ++ codes "\n")))
content_text (publish dup qos topic topic-at id payload payload-at) = publish_head dup qos id ++ publish_parts topic topic-at payload payload-at
content_text (puback id) = ack_text (codes "PUBACK id ") id
content_text (pubrec id) = ack_text (codes "PUBREC id ") id
content_text (pubrel id) = ack_text (codes "PUBREL id ") id
content_text (pubcomp id) = ack_text (codes "PUBCOMP id ") id
content_text (subscribe id es) =
    codes "SUBSCRIBE id " ++ (decimal id ++ (codes " filters " ++ (decimal (length es) ++ (entries_text es ++ codes "\n"))))
content_text (suback id cs) = codes "SUBACK id " ++ (decimal id ++ (codes " codes " ++ (decimal (length cs) ++ (codes_text cs ++ codes "\n"))))
content_text (unsubscribe id es) =
    codes "UNSUBSCRIBE id " ++ (decimal id ++ (codes " filters " ++ (decimal (length es) ++ (entries_text es ++ codes "\n"))))
content_text (unsuback id) = ack_text (codes "UNSUBACK id ") id
content_text pingreq = codes "PINGREQ\n"
content_text pingresp = codes "PINGRESP\n"
content_text disconnect = codes "DISCONNECT\n"

-- the packet, the word `level`, or the bad field and its place
abbrev pub dissect_text : Result Content ReadError → List ℕ
dissect_text (Ok c) = content_text c
dissect_text (Err Level) = codes "level\n"
dissect_text (Err (Bad e)) = codes "bad " ++ (decimal (field_number e.field) ++ (codes " " ++ (decimal e.place ++ codes "\n")))
