-- What holds of writing and reading together.
use Rattle.std.specs.Prelude.{◌≡◌, ℕ, ◌<◌, true, List, [], ◌∷◌, Ok}
use Rattle.std.specs.List.{AllByRecursion}
use Rattle.packets.specs.Filters.{Entry}
use Rattle.packets.specs.Packet.{Content, connect, connack, publish, puback, pubrec, pubrel, pubcomp, subscribe, suback, unsubscribe, unsuback, pingreq, pingresp, disconnect}
use Rattle.packets.specs.Reads.{reads}
use Rattle.packets.specs.Bytes.{bytes_of, lawful, placed}

-- a lawful packet's bytes are read as that packet, its parts at the places that they have in the shortest form
abbrev pub RoundTrip : Type 0
RoundTrip = (c : Content) → lawful c ≡ true → reads (bytes_of c) ≡ Ok (placed c)

-- filters but for their places
abbrev pub bare_entries : List Entry → List Entry
bare_entries [] = []
bare_entries (e ∷ es) = record { filter = e.filter; place = 0; qos = e.qos } ∷ bare_entries es

-- a packet but for the places of its parts
abbrev pub bare : Content → Content
bare (connect client at) = connect client 0
bare (connack present code) = connack present code
bare (publish dup qos topic topic-at id payload payload-at) = publish dup qos topic 0 id payload 0
bare (puback id) = puback id
bare (pubrec id) = pubrec id
bare (pubrel id) = pubrel id
bare (pubcomp id) = pubcomp id
bare (subscribe id es) = subscribe id (bare_entries es)
bare (suback id codes) = suback id codes
bare (unsubscribe id es) = unsubscribe id (bare_entries es)
bare (unsuback id) = unsuback id
bare pingreq = pingreq
bare pingresp = pingresp
bare disconnect = disconnect

-- all are bytes
abbrev pub Bytes : List ℕ → Type 0
Bytes bs = AllByRecursion (λ b. b < 256) bs

-- whatever is read of bytes is lawful
abbrev pub ReadsLawful : Type 0
ReadsLawful = (bs : List ℕ) (c : Content) → Bytes bs → reads bs ≡ Ok c → lawful c ≡ true

-- whatever is read, written again, reads back as a packet equal to it but for places
abbrev pub Again : Type 0
Again = (bs : List ℕ) (c : Content) → Bytes bs → reads bs ≡ Ok c → (d : Content) × (reads (bytes_of c) ≡ Ok d) × (bare d ≡ bare c)
