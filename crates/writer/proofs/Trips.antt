-- What is written reads back.
use Rattle.std.proofs.Common.{◌≡◌, ℕ, zero, suc, ◌+◌, ◌*◌, ◌/◌, ◌%◌, ◌<◌, ◌≤◌, Bool, true, false, cond, not, ◌&&◌, ltb, leb, ◌≢◌, List, [], ◌∷◌, ◌++◌, length, Some, None, Ok, Option, sym, refl, ap, ◌∙◌, append_assoc, add-zero, arith, length-append}
use Rattle.std.proofs.lemmas.List.{take_at, drop_at, append-nil}
use Rattle.std.proofs.lemmas.Bool.{and_parts, both_ways, leb-true, ltb-true, le-leb, ne_eqb}
use Rattle.frame.specs.declared.field.Field.{Field}
use Rattle.frame.specs.declared.field.Field.TheVariants.{ClientIdentifier, TopicName, TopicFilter}
use Rattle.frame.specs.declared.first_byte.PacketType.{PacketType}
use Rattle.frame.specs.declared.first_byte.PacketType.TheVariants.{Connect, ConnAck, Publish, PubAck, PubRec, PubRel, PubComp, Subscribe, SubAck, Unsubscribe, UnsubAck, PingReq, PingResp, Disconnect}
use Rattle.frame.specs.FirstByte.{type_in}
use Rattle.frame.specs.Number.{number_bytes}
use Rattle.frame.proofs.Apart.{told_apart}
use Rattle.topics.specs.declared.qos.Qos.{Qos}
use Rattle.topics.specs.declared.qos.Qos.TheVariants.{AtMostOnce, AtLeastOnce, ExactlyOnce}
use Rattle.topics.specs.Qos.{qos_number, qos_of}
use Rattle.topics.specs.Text.{every, is_text}
use Rattle.topics.specs.Names.{is_topic_name, is_topic_filter}
use Rattle.topics.proofs.NameFacts.{filter_parts}
use Rattle.packets.specs.Fields.{only_identifier, onward, identifier_in, length_prefixed, text_in, past}
use Rattle.packets.specs.Filters.{Entry, Found, filter_in, filters_in, some_filters, before}
use Rattle.packets.specs.Packet.{Content, connect, connack, publish, puback, pubrec, pubrel, pubcomp, subscribe, suback, unsubscribe, unsuback, pingreq, pingresp, disconnect}
use Rattle.packets.specs.Reads.{protocol_name, is_code, body_in, after_parts, reads, connect_in, level_in, flags_in, keep_alive_in, client_in, connack_in, return_code_in, publish_in, topic_in, numbered_in, payload_in, after_topic, subscribe_in, filters_of, suback_in, codes_in, some_codes, ack_in}
use Rattle.packets.specs.Bytes.{text_bytes, id_bytes, qos_bytes, entry_bytes, entries_bytes, bit, first_byte, body_of, bytes_of, is_id, lawful_flow, is_asked, lawful_entries, up_to_eight, lawful_fields, lawful, body_at, placed_from, placed}
use Rattle.writer.specs.Laws.{RoundTrip}

two_bytes : (n : ℕ) → n < 65536 → 256 * (n / 256 % 256) + n % 256 ≡ n
two_bytes n h = omega arith

-- first byte and length told apart, the body is read by its type
framed : (c : Content) (t : PacketType) → type_in (first_byte c) ≡ Some t → lawful c ≡ true → reads (bytes_of c) ≡ body_in t (first_byte c % 16) (body_of c) (body_at c)
unfolding reads bytes_of lawful
framed c t et law =
    let short = leb-true (length (body_of c)) 540 (and_parts (lawful_fields c) (leb (length (body_of c)) 540) law).1 in
    ap after_parts (told_apart (first_byte c) t (body_of c) et short)

fields : (c : Content) → lawful c ≡ true → lawful_fields c ≡ true
unfolding lawful
fields c law = (and_parts (lawful_fields c) (leb (length (body_of c)) 540) law).0

small : (c : Content) → lawful c ≡ true → length (body_of c) ≤ 540
unfolding lawful
small c law = leb-true (length (body_of c)) 540 (and_parts (lawful_fields c) (leb (length (body_of c)) 540) law).1

-- an identifier before anything
identifier : (id : ℕ) (rest : List ℕ) (at : ℕ) → is_id id ≡ true → identifier_in (number_bytes id ++ rest) at ≡ Ok (id, rest)
unfolding identifier_in
identifier id rest at h =
    let parts = and_parts (ltb 0 id) (leb id 65535) h in
    let nz : id ≢ 0 = omega (arith, ltb-true 0 id parts.0) in
    let n = two_bytes id (omega (arith, leb-true id 65535 parts.1)) in
    rw (n, ne_eqb id 0 nz)

ack : (make : ℕ → Content) (id at : ℕ) → is_id id ≡ true → ack_in make (number_bytes id) at ≡ Ok (make id)
unfolding only_identifier
ack make id at h = rw (identifier id [] at h)

-- a text before anything
text : (f : Field) (test : List ℕ → Bool) (x rest : List ℕ) (at : ℕ) → length x < 65536 → test x ≡ true → text_in f test (text_bytes x ++ rest) at ≡ Ok (x, rest)
unfolding text_in length_prefixed
text f test x rest at short good =
    let n = two_bytes (length x) short in
    let room = le-leb (length x) (length (x ++ rest)) (rw length-append (omega arith)) in
    rw (n, room, take_at x rest (length x) refl, drop_at x rest (length x) refl, good)

-- a text at the end
text_all : (f : Field) (test : List ℕ → Bool) (x : List ℕ) (at : ℕ) → length x < 65536 → test x ≡ true → text_in f test (text_bytes x) at ≡ Ok (x, [])
text_all f test x at short good = ap (λ bs. text_in f test bs at) (sym (append-nil (text_bytes x))) ∙ text f test x [] at short good

connected : (client : List ℕ) (at : ℕ) → length client < 65536 → is_text client ≡ true → connect_in (protocol_name ++ 4 ∷ 0 ∷ 0 ∷ 0 ∷ text_bytes client) at ≡ Ok (connect client (at + 10))
unfolding connect_in level_in flags_in keep_alive_in client_in
connected client at short good =
    let six : leb 6 (length (protocol_name ++ 4 ∷ 0 ∷ 0 ∷ 0 ∷ text_bytes client)) ≡ true = le-leb 6 _ (omega arith) in
    let here : at + 6 + 1 + 1 + 2 ≡ at + 10 = omega arith in
    rw (six, text_all ClientIdentifier is_text client (at + 6 + 1 + 1 + 2) short good) (ap (λ k. Ok (connect client k)) here)

answered : (present : Bool) (code at : ℕ) → leb code 5 ≡ true → connack_in (bit present ∷ code ∷ []) at ≡ Ok (connack present code)
unfolding connack_in return_code_in
answered true code at h = rw h
answered false code at h = rw h

codes : (k : ℕ) (cs : List ℕ) (at : ℕ) → length cs ≤ k → every is_code cs ≡ true → codes_in k cs at ≡ Ok cs
codes zero [] at h e = refl
codes (suc k) [] at h e = refl
codes zero (c ∷ cs) at h e = absurd (omega arith)
codes (suc k) (c ∷ cs) at h e =
    let p = and_parts (is_code c) (every is_code cs) e in
    rw (p.0, codes k cs (at + 1) (omega arith) p.1)

some_codes_lem : (cs : List ℕ) (at : ℕ) → up_to_eight (length cs) ≡ true → every is_code cs ≡ true → some_codes cs at ≡ Ok cs
some_codes_lem [] at h e = grind arith
some_codes_lem (c ∷ cs) at h e =
    codes 8 (c ∷ cs) at (leb-true _ 8 (and_parts (ltb 0 (length (c ∷ cs))) (leb (length (c ∷ cs)) 8) h).1) e

granted : (id : ℕ) (cs : List ℕ) (at : ℕ) → is_id id ≡ true → up_to_eight (length cs) ≡ true → every is_code cs ≡ true → suback_in (number_bytes id ++ cs) at ≡ Ok (suback id cs)
unfolding suback_in
granted id cs at h few e =
    ap (λ r. onward (λ p. onward (λ ds. Ok (suback p.0 ds)) (some_codes p.1 (at + 2))) r) (identifier id cs at h)
    ∙ ap (λ r. onward (λ ds. Ok (suback id ds)) r) (some_codes_lem cs (at + 2) few e)

filter_short : (f : List ℕ) → is_topic_filter f ≡ true → length f < 65536
filter_short f h = omega (arith, (filter_parts f h).1)

-- the entry as it is found at a place
unfoldable pub found_at : List ℕ → Option Qos → ℕ → List ℕ → Found
found_at f q at rest = record { entry = record { filter = f; place = at; qos = q }; rest = rest; next = at + length (text_bytes f ++ qos_bytes q) }

graded_entry : (f : List ℕ) (q : Qos) (rest : List ℕ) (at : ℕ) → is_topic_filter f ≡ true → filter_in true ((text_bytes f ++ qos_bytes (Some q)) ++ rest) at ≡ Ok (found_at f (Some q) at rest)
unfolding filter_in found_at
graded_entry f q rest at good =
    let same : (text_bytes f ++ qos_bytes (Some q)) ++ rest ≡ text_bytes f ++ (qos_number q ∷ rest) = append_assoc (text_bytes f) (qos_bytes (Some q)) rest in
    let next : past f at + 1 ≡ at + length (text_bytes f ++ qos_bytes (Some q)) = rw (length-append f (qos_number q ∷ [])) (omega arith) in
    let known : qos_of (qos_number q) ≡ Some q = elim q as (λ x. qos_of (qos_number x) ≡ Some x) [ AtMostOnce ↦ refl | AtLeastOnce ↦ refl | ExactlyOnce ↦ refl ] in
    ap (λ bs. filter_in true bs at) same
    ∙ rw (text TopicFilter is_topic_filter f (qos_number q ∷ rest) at (filter_short f good) good, known)
    (ap (λ k. Ok (record { entry = record { filter = f; place = at; qos = Some q }; rest = rest; next = k })) next)

bare_entry : (f rest : List ℕ) (at : ℕ) → is_topic_filter f ≡ true → filter_in false ((text_bytes f ++ []) ++ rest) at ≡ Ok (found_at f None at rest)
unfolding filter_in found_at
bare_entry f rest at good =
    let same : (text_bytes f ++ []) ++ rest ≡ text_bytes f ++ rest = ap (λ bs. bs ++ rest) (append-nil (text_bytes f)) in
    let next : past f at ≡ at + length (text_bytes f ++ []) = rw (append-nil f) (omega arith) in
    ap (λ bs. filter_in false bs at) same
    ∙ rw (text TopicFilter is_topic_filter f rest at (filter_short f good) good)
    (ap (λ k. Ok (record { entry = record { filter = f; place = at; qos = None }; rest = rest; next = k })) next)

pub one_entry : (graded : Bool) (f : List ℕ) (q : Option Qos) (rest : List ℕ) (at : ℕ) → is_topic_filter f ≡ true → cond graded (is_asked q) (not (is_asked q)) ≡ true → filter_in graded ((text_bytes f ++ qos_bytes q) ++ rest) at ≡ Ok (found_at f q at rest)
one_entry true f (Some q) rest at good h = graded_entry f q rest at good
one_entry true f None rest at good h = grind arith
one_entry false f (Some q) rest at good h = grind arith
one_entry false f None rest at good h = bare_entry f rest at good

entries : (graded : Bool) (k : ℕ) (es : List Entry) (at : ℕ) → length es ≤ k → lawful_entries graded es ≡ true → filters_in graded k (entries_bytes es) at ≡ Ok (placed_from at es)
unfolding found_at
entries graded zero [] at h law = refl
entries graded (suc k) [] at h law = refl
entries graded zero (e ∷ es) at h law = absurd (omega arith)
entries graded (suc k) (e ∷ es) at h law =
    let outer = and_parts (is_topic_filter e.filter && cond graded (is_asked e.qos) (not (is_asked e.qos))) (lawful_entries graded es) law in
    let inner = and_parts (is_topic_filter e.filter) (cond graded (is_asked e.qos) (not (is_asked e.qos))) outer.0 in
    let next = at + length (entry_bytes e) in
    ap (λ r. onward (λ x. before x.entry (filters_in graded k x.rest x.next)) r) (one_entry graded e.filter e.qos (entries_bytes es) at inner.0 inner.1)
    ∙ ap (λ r. before (record { filter = e.filter; place = at; qos = e.qos }) r) (entries graded k es next (omega arith) outer.1)

some_entries : (graded : Bool) (es : List Entry) (at : ℕ) → up_to_eight (length es) ≡ true → lawful_entries graded es ≡ true → some_filters graded (entries_bytes es) at ≡ Ok (placed_from at es)
some_entries graded [] at h law = grind arith
some_entries graded (e ∷ es) at h law =
    entries graded 8 (e ∷ es) at (leb-true _ 8 (and_parts (ltb 0 (length (e ∷ es))) (leb (length (e ∷ es)) 8) h).1) law

asked : (graded : Bool) (id : ℕ) (es : List Entry) (at : ℕ) → (is_id id && up_to_eight (length es) && lawful_entries graded es) ≡ true
    → subscribe_in graded (number_bytes id ++ entries_bytes es) at ≡ Ok (filters_of graded id (placed_from (at + 2) es))
unfolding subscribe_in
asked graded id es at law =
    let outer = and_parts (is_id id && up_to_eight (length es)) (lawful_entries graded es) law in
    let inner = and_parts (is_id id) (up_to_eight (length es)) outer.0 in
    ap (λ r. onward (λ p. onward (λ xs. Ok (filters_of graded p.0 xs)) (some_filters graded p.1 (at + 2))) r) (identifier id (entries_bytes es) at inner.0)
    ∙ ap (λ r. onward (λ xs. Ok (filters_of graded id xs)) r) (some_entries graded es (at + 2) inner.1 outer.1)

paid : (dup : Bool) (q : Qos) (topic : List ℕ) (ta : ℕ) (id : Option ℕ) (payload : List ℕ) (at : ℕ) → leb (length payload) 256 ≡ true → payload_in dup q topic ta id payload at ≡ Ok (publish dup q topic ta id payload at)
unfolding payload_in
paid dup q topic ta id payload at h = rw h

numbered : (dup : Bool) (q : Qos) (topic : List ℕ) (ta id : ℕ) (payload : List ℕ) (at : ℕ) → is_id id ≡ true → leb (length payload) 256 ≡ true → numbered_in dup q topic ta (number_bytes id ++ payload) at ≡ Ok (publish dup q topic ta (Some id) payload (at + 2))
unfolding numbered_in
numbered dup q topic ta id payload at h few =
    ap (λ r. onward (λ p. payload_in dup q topic ta (Some p.0) p.1 (at + 2)) r) (identifier id payload at h) ∙ paid dup q topic ta (Some id) payload (at + 2) few

after : (dup : Bool) (q : Qos) (topic : List ℕ) (ta : ℕ) (id : Option ℕ) (payload : List ℕ) (at : ℕ) → lawful_flow dup q id ≡ true → leb (length payload) 256 ≡ true
    → after_topic dup q topic ta (id_bytes id ++ payload) at ≡ Ok (publish dup q topic ta id payload (at + length (id_bytes id)))
after dup AtMostOnce topic ta None payload at flow few = rw add-zero (paid dup AtMostOnce topic ta None payload at few)
after dup AtMostOnce topic ta (Some id) payload at flow few = grind arith
after dup AtLeastOnce topic ta None payload at flow few = grind arith
after dup AtLeastOnce topic ta (Some id) payload at flow few = numbered dup AtLeastOnce topic ta id payload at flow few
after dup ExactlyOnce topic ta None payload at flow few = grind arith
after dup ExactlyOnce topic ta (Some id) payload at flow few = numbered dup ExactlyOnce topic ta id payload at flow few

sent : (dup : Bool) (q : Qos) (topic : List ℕ) (id : Option ℕ) (payload : List ℕ) (at : ℕ) → length topic < 65536 → (is_topic_name topic && lawful_flow dup q id && leb (length payload) 256) ≡ true
    → topic_in dup q (text_bytes topic ++ id_bytes id ++ payload) at ≡ Ok (publish dup q topic at id payload (at + length (text_bytes topic ++ id_bytes id)))
unfolding topic_in
sent dup q topic id payload at short law =
    let outer = and_parts (is_topic_name topic && lawful_flow dup q id) (leb (length payload) 256) law in
    let inner = and_parts (is_topic_name topic) (lawful_flow dup q id) outer.0 in
    let same = append_assoc (text_bytes topic) (id_bytes id) payload in
    let next : past topic at + length (id_bytes id) ≡ at + length (text_bytes topic ++ id_bytes id) = rw (length-append topic (id_bytes id)) (omega arith) in
    ap (λ bs. topic_in dup q bs at) same
    ∙ ap (λ r. onward (λ p. after_topic dup q p.0 at p.1 (past p.0 at)) r) (text TopicName is_topic_name topic (id_bytes id ++ payload) at short inner.0)
    ∙ after dup q topic at id payload (past topic at) inner.1 outer.1
    ∙ ap (λ k. Ok (publish dup q topic at id payload k)) next

published : (dup : Bool) (q : Qos) (topic : List ℕ) (ta : ℕ) (id : Option ℕ) (payload : List ℕ) (pa : ℕ)
    → type_in (first_byte (publish dup q topic ta id payload pa)) ≡ Some Publish
    → ((bs : List ℕ) (at : ℕ) → publish_in (first_byte (publish dup q topic ta id payload pa) % 16) bs at ≡ topic_in dup q bs at)
    → lawful (publish dup q topic ta id payload pa) ≡ true → reads (bytes_of (publish dup q topic ta id payload pa)) ≡ Ok (placed (publish dup q topic ta id payload pa))
published dup q topic ta id payload pa et flags law =
    let c = publish dup q topic ta id payload pa in
    let few = simp length-append at (small c law) in
    framed c Publish et law ∙ flags (body_of c) (body_at c) ∙ sent dup q topic id payload (body_at c) (omega arith) (fields c law)

pub round_trip : RoundTrip
unfolding type_in publish_in
round_trip (connect client at) law =
    let c = connect client at in
    framed c Connect refl law ∙ connected client (body_at c) (omega (arith, small c law)) (fields c law)
round_trip (connack present code) law = let c = connack present code in framed c ConnAck refl law ∙ answered present code (body_at c) (fields c law)
round_trip (publish true AtMostOnce topic ta None payload pa) law =
    let outer = and_parts (is_topic_name topic && false) (leb (length payload) 256) (fields (publish true AtMostOnce topic ta None payload pa) law) in
    absurd (both_ways false refl (and_parts (is_topic_name topic) false outer.0).1)
round_trip (publish true AtMostOnce topic ta (Some id) payload pa) law =
    let outer = and_parts (is_topic_name topic && false) (leb (length payload) 256) (fields (publish true AtMostOnce topic ta (Some id) payload pa) law) in
    absurd (both_ways false refl (and_parts (is_topic_name topic) false outer.0).1)
round_trip (publish true AtLeastOnce topic ta id payload pa) law = published true AtLeastOnce topic ta id payload pa refl (λ bs at. refl) law
round_trip (publish true ExactlyOnce topic ta id payload pa) law = published true ExactlyOnce topic ta id payload pa refl (λ bs at. refl) law
round_trip (publish false AtMostOnce topic ta id payload pa) law = published false AtMostOnce topic ta id payload pa refl (λ bs at. refl) law
round_trip (publish false AtLeastOnce topic ta id payload pa) law = published false AtLeastOnce topic ta id payload pa refl (λ bs at. refl) law
round_trip (publish false ExactlyOnce topic ta id payload pa) law = published false ExactlyOnce topic ta id payload pa refl (λ bs at. refl) law
round_trip (puback id) law = framed (puback id) PubAck refl law ∙ ack puback id (body_at (puback id)) (fields (puback id) law)
round_trip (pubrec id) law = framed (pubrec id) PubRec refl law ∙ ack pubrec id (body_at (pubrec id)) (fields (pubrec id) law)
round_trip (pubrel id) law = framed (pubrel id) PubRel refl law ∙ ack pubrel id (body_at (pubrel id)) (fields (pubrel id) law)
round_trip (pubcomp id) law = framed (pubcomp id) PubComp refl law ∙ ack pubcomp id (body_at (pubcomp id)) (fields (pubcomp id) law)
round_trip (subscribe id es) law =
    let c = subscribe id es in framed c Subscribe refl law ∙ asked true id es (body_at c) (fields c law)
round_trip (suback id cs) law =
    let c = suback id cs in
    let outer = and_parts (is_id id && up_to_eight (length cs)) (every is_code cs) (fields c law) in
    let inner = and_parts (is_id id) (up_to_eight (length cs)) outer.0 in
    framed c SubAck refl law ∙ granted id cs (body_at c) inner.0 inner.1 outer.1
round_trip (unsubscribe id es) law =
    let c = unsubscribe id es in framed c Unsubscribe refl law ∙ asked false id es (body_at c) (fields c law)
round_trip (unsuback id) law = framed (unsuback id) UnsubAck refl law ∙ ack unsuback id (body_at (unsuback id)) (fields (unsuback id) law)
round_trip pingreq law = framed pingreq PingReq refl law
round_trip pingresp law = framed pingresp PingResp refl law
round_trip disconnect law = framed disconnect Disconnect refl law
