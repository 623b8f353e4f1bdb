-- What is read, written again, reads back.
use Rattle.std.proofs.Common.{◌≡◌, ℕ, ◌+◌, List, [], ◌∷◌, length, refl, ap}
use Rattle.packets.specs.Filters.{Entry}
use Rattle.packets.specs.Packet.{Content, connect, connack, publish, puback, pubrec, pubrel, pubcomp, subscribe, suback, unsubscribe, unsuback, pingreq, pingresp, disconnect}
use Rattle.packets.specs.Bytes.{body_at, entry_bytes, placed, placed_from}
use Rattle.writer.specs.Laws.{Again, bare, bare_entries}
use Rattle.writer.proofs.Accepted.{reads_lawful}
use Rattle.writer.proofs.Trips.{round_trip}

same_entries : (es : List Entry) (at : ℕ) → bare_entries (placed_from at es) ≡ bare_entries es
same_entries [] at = refl
same_entries (e ∷ es) at = ap (λ xs. record { filter = e.filter; place = 0; qos = e.qos } ∷ xs) (same_entries es (at + length (entry_bytes e)))

-- placing a packet's parts changes nothing else
same : (c : Content) → bare (placed c) ≡ bare c
same (connect client at) = refl
same (connack present code) = refl
same (publish dup qos topic ta id payload pa) = refl
same (puback id) = refl
same (pubrec id) = refl
same (pubrel id) = refl
same (pubcomp id) = refl
same (subscribe id es) = ap (λ xs. subscribe id xs) (same_entries es (body_at (subscribe id es) + 2))
same (suback id codes) = refl
same (unsubscribe id es) = ap (λ xs. unsubscribe id xs) (same_entries es (body_at (unsubscribe id es) + 2))
same (unsuback id) = refl
same pingreq = refl
same pingresp = refl
same disconnect = refl

pub again : Again
again bs c bytes read = (placed c, round_trip c (reads_lawful bs c bytes read), same c)
