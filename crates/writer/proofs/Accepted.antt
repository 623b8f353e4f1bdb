-- Whatever is read of bytes is lawful.
use Rattle.std.proofs.Common.{◌≡◌, ℕ, zero, suc, ◌+◌, ◌*◌, ◌/◌, ◌%◌, ◌<◌, ◌≤◌, Bool, true, false, cond, not, ◌&&◌, eqb, ltb, leb, List, [], ◌∷◌, length, ◌++◌, take, drop, Some, None, Ok, Err, Option, Result, sym, refl, ap, ◌∙◌, append_assoc, subst, arith, length-append, length-drop, length-take, take-append-drop}
use Rattle.std.proofs.lemmas.List.{append-nil, length-take-le}
use Rattle.topics.proofs.Qualities.{qos_law}
use Rattle.std.proofs.ByRecursion.{All-drop}
use Rattle.std.proofs.lemmas.Bool.Decides.{nat_tests}
use Rattle.std.specs.Str.{bytes_eq}
use Rattle.frame.specs.declared.field.BadField.{BadField}
use Rattle.frame.specs.declared.field.Field.{Field}
use Rattle.frame.specs.declared.first_byte.PacketType.{PacketType}
use Rattle.frame.specs.declared.first_byte.PacketType.TheVariants.{Connect, ConnAck, Publish, PubAck, PubRec, PubRel, PubComp, Subscribe, SubAck, Unsubscribe, UnsubAck, PingReq, PingResp, Disconnect}
use Rattle.frame.specs.FirstByte.{allows, announced, numbered, type_in}
use Rattle.frame.specs.Number.{number_bytes, number_in}
use Rattle.frame.specs.Parts.{Told, parts_in}
use Rattle.frame.proofs.Apart.{is_there}
use Rattle.topics.specs.declared.qos.Qos.{Qos}
use Rattle.topics.specs.declared.qos.Qos.TheVariants.{AtMostOnce, AtLeastOnce, ExactlyOnce}
use Rattle.topics.specs.Qos.{qos_number, qos_of}
use Rattle.topics.specs.Names.{is_topic_filter, is_topic_name}
use Rattle.topics.specs.Text.{every, is_text}
use Rattle.packets.specs.declared.packet.ReadError.{ReadError}
use Rattle.packets.specs.Bytes.{body_of, entries_bytes, entry_bytes, is_asked, is_id, lawful, lawful_entries, lawful_fields, lawful_flow, text_bytes}
use Rattle.packets.specs.Fields.{byte_in, ended, identified, identifier_in, judged, length_prefixed, only_identifier, onward, text_in}
use Rattle.packets.specs.Filters.{Entry, Found, after_filter, asked, before, filter_in, filters_in, some_filters}
use Rattle.packets.specs.Packet.{Content, publish, puback, pubrec, pubrel, pubcomp, suback, unsuback, pingreq, pingresp, disconnect}
use Rattle.packets.specs.Reads.{ack_in, after_flags, after_keep_alive, after_level, after_name, after_parts, after_present, after_topic, body_in, client_in, codes_in, connack_in, connect_in, filters_of, flags_in, is_code, keep_alive_in, level_in, numbered_in, payload_in, protocol_name, publish_in, reads, return_code_in, some_codes, suback_in, subscribe_in, topic_in, with_qos}
use Rattle.packets.specs.Reads.{after_first}
use Rattle.writer.specs.Laws.{Bytes, ReadsLawful}

-- ---- a step that came to a value

never : {A B : Type 0} (e : ReadError) (x : A) → ◌≡◌ {A = Result A ReadError} (Err e) (Ok x) → B
never e x h = grind arith

pub ok_same : {A : Type 0} (x y : A) → ◌≡◌ {A = Result A ReadError} (Ok x) (Ok y) → x ≡ y
ok_same x y h = cc

onward_ok : {A B : Type 0} (f : A → Result B ReadError) (r : Result A ReadError) (c : B) → onward f r ≡ Ok c → (x : A) × ((r ≡ Ok x) × (f x ≡ Ok c))
onward_ok f (Ok x) c h = (x, (refl, h))
onward_ok f (Err e) c h = never e c h

passes : {A : Type 0} (b : Bool) (r : Result A ReadError) (e : ReadError) (c : A) → cond b r (Err e) ≡ Ok c → (b ≡ true) × (r ≡ Ok c)
passes true r e c h = (refl, h)
passes false r e c h = never e c h

fails : {A : Type 0} (b : Bool) (r : Result A ReadError) (e : ReadError) (c : A) → cond b (Err e) r ≡ Ok c → (b ≡ false) × (r ≡ Ok c)
fails true r e c h = never e c h
fails false r e c h = (refl, h)

ended_ok : {A : Type 0} (bs : List ℕ) (at : ℕ) (x c : A) → ended bs at x ≡ Ok c → (bs ≡ []) × (x ≡ c)
ended_ok [] at x c h = (refl, ok_same x c h)
ended_ok (b ∷ bs) at x c h = never _ c h

-- ---- fields

pub record Id (bs : List ℕ) (p : ℕ × List ℕ) : Type 0 where
  pub id : is_id p.0 ≡ true
  pub long : length bs ≡ 2 + length p.1
  pub bytes : Bytes p.1

id_by : (bs : List ℕ) (at : ℕ) (p : ℕ × List ℕ) → Bytes bs → identified bs at (number_in bs) ≡ Ok p → Id bs p
id_by [] at p b h = never _ p h
id_by (x ∷ []) at p b h = never _ p h
id_by (x ∷ y ∷ rest) at p b h =
    let f = fails (eqb (256 * x + y) 0) _ _ p h in
    let low : x < 256 = b.0 in
    let high : y < 256 = b.1.0 in
    let zero-not = f.0 in
    let good : is_id (256 * x + y) ≡ true = grind (arith, nat_tests) in
    subst (λ q. Id (x ∷ y ∷ rest) q) (ok_same _ p f.1) (record { id = good; long = omega arith; bytes = b.1.1 })

id_ok : (bs : List ℕ) (at : ℕ) (p : ℕ × List ℕ) → Bytes bs → identifier_in bs at ≡ Ok p → Id bs p
unfolding identifier_in
id_ok bs at p b h = id_by bs at p b h

pub record Text (test : List ℕ → Bool) (bs : List ℕ) (p : List ℕ × List ℕ) : Type 0 where
  pub passed : test p.0 ≡ true
  pub long : length bs ≡ 2 + length p.0 + length p.1
  pub whole : Bytes bs → bs ≡ text_bytes p.0 ++ p.1
  pub bytes : Bytes bs → Bytes p.1

text_by : (f : Field) (test : List ℕ → Bool) (x y : ℕ) (rest : List ℕ) (at n : ℕ) (p : List ℕ × List ℕ) (v : Bool) → n ≡ 256 * x + y → leb n (length rest) ≡ v
    → judged f test (x ∷ y ∷ rest) at (cond v (Some (take n rest, drop n rest)) None) ≡ Ok p → Text test (x ∷ y ∷ rest) p
text_by f test x y rest at n p true m e h =
    let q = passes (test (take n rest)) _ _ p h in
    let fit : n ≤ length rest = grind (arith, nat_tests) in
    let wide = length-take-le n rest fit in
    let sum : length rest ≡ length (take n rest) + length (drop n rest) = simp (length-take, length-drop) (omega arith) in
    let number : x < 256 → y < 256 → x ∷ y ∷ rest ≡ number_bytes (length (take n rest)) ++ rest = λ j k.
    let high : x ≡ length (take n rest) / 256 % 256 = omega arith in
    let low : y ≡ length (take n rest) % 256 = omega arith in
    λ i. high i ∷ low i ∷ rest in
    subst (λ r. Text test (x ∷ y ∷ rest) r) (ok_same _ p q.1) (record {
      passed = q.0;
      long = omega arith;
      whole = λ b. number b.0 b.1.0 ∙ ap (λ l. number_bytes (length (take n rest)) ++ l) (sym (take-append-drop n rest));
      bytes = λ b. All-drop (λ k. k < 256) n rest b.1.1;
    })
text_by f test x y rest at n p false m e h = never _ p h

text_list : (f : Field) (test : List ℕ → Bool) (bs : List ℕ) (at : ℕ) (p : List ℕ × List ℕ) → judged f test bs at (length_prefixed bs) ≡ Ok p → Text test bs p
unfolding length_prefixed
text_list f test [] at p h = never _ p h
text_list f test (x ∷ []) at p h = never _ p h
text_list f test (x ∷ y ∷ rest) at p h = text_by f test x y rest at (256 * x + y) p (leb (256 * x + y) (length rest)) refl refl h

text_ok : (f : Field) (test : List ℕ → Bool) (bs : List ℕ) (at : ℕ) (p : List ℕ × List ℕ) → text_in f test bs at ≡ Ok p → Text test bs p
unfolding text_in
text_ok f test bs at p h = text_list f test bs at p h

-- ---- packets: lawful fields, and a body as long as what was read

pub record Good (c : Content) (n : ℕ) : Type 0 where
  pub fields : lawful_fields c ≡ true
  pub long : length (body_of c) ≡ n

-- a CONNECT: what stands before the client identifier has ten bytes
client_ok : (bs : List ℕ) (at : ℕ) (c : Content) → Bytes bs → client_in bs at ≡ Ok c → Good c (10 + length bs)
unfolding client_in
client_ok bs at c b h =
    let o = onward_ok _ (text_in _ is_text bs at) c h in
    let t = text_ok _ is_text bs at o.0 o.1.0 in
    let e = ended_ok o.0.1 _ _ c o.1.1 in
    let none : length o.0.1 ≡ 0 = ap length e.0 in
    subst (λ x. Good x (10 + length bs)) e.1 (record { fields = t.passed; long = omega arith })

keep_ok : (bs : List ℕ) (at : ℕ) (c : Content) → Bytes bs → after_keep_alive bs at (number_in bs) ≡ Ok c → Good c (8 + length bs)
keep_ok [] at c b h = never _ c h
keep_ok (x ∷ []) at c b h = never _ c h
keep_ok (x ∷ y ∷ rest) at c b h = subst (λ n. Good c n) (omega arith) (client_ok rest (at + 2) c b.1.1 h)

flags_ok : (bs : List ℕ) (at : ℕ) (c : Content) → Bytes bs → after_flags bs at (byte_in bs) ≡ Ok c → Good c (7 + length bs)
unfolding keep_alive_in
flags_ok [] at c b h = never _ c h
flags_ok (x ∷ rest) at c b h = subst (λ n. Good c n) (omega arith) (keep_ok rest (at + 1) c b.1 (passes (eqb x 0) _ _ c h).1)

level_ok : (bs : List ℕ) (at : ℕ) (c : Content) → Bytes bs → after_level bs at (byte_in bs) ≡ Ok c → Good c (6 + length bs)
unfolding flags_in
level_ok [] at c b h = never _ c h
level_ok (x ∷ rest) at c b h = subst (λ n. Good c n) (omega arith) (flags_ok rest (at + 1) c b.1 (passes (eqb x 4) _ _ c h).1)

name_by : (bs : List ℕ) (at : ℕ) (c : Content) (v : Bool) → Bytes bs → leb 6 (length bs) ≡ v → after_name bs at (cond v (Some (take 6 bs, drop 6 bs)) None) ≡ Ok c → Good c (length bs)
unfolding level_in
name_by bs at c true b e h =
    let q = passes (bytes_eq (take 6 bs) protocol_name) _ _ c h in
    let fit : 6 ≤ length bs = grind (arith, nat_tests) in
    let sum : 6 + length (drop 6 bs) ≡ length bs = simp length-drop (omega arith) in
    subst (λ n. Good c n) sum (level_ok (drop 6 bs) (at + 6) c (All-drop (λ k. k < 256) 6 bs b) q.1)
name_by bs at c false b e h = never _ c h

connect_ok : (bs : List ℕ) (at : ℕ) (c : Content) → Bytes bs → connect_in bs at ≡ Ok c → Good c (length bs)
unfolding connect_in
connect_ok bs at c b h = name_by bs at c (leb 6 (length bs)) b refl h

-- CONNACK
code_ok : (present : Bool) (bs : List ℕ) (at : ℕ) (c : Content) → after_present present bs at (byte_in bs) ≡ Ok c → Good c (1 + length bs)
code_ok present [] at c h = never _ c h
code_ok present (x ∷ rest) at c h =
    let q = passes (leb x 5) _ _ c h in
    let e = ended_ok rest (at + 1) _ c q.1 in
    let none : length rest ≡ 0 = ap length e.0 in
    subst (λ y. Good y (1 + length (x ∷ rest))) e.1 (record { fields = q.0; long = omega arith })

connack_by : (bs : List ℕ) (at : ℕ) (c : Content) → after_first bs at (byte_in bs) ≡ Ok c → Good c (length bs)
unfolding return_code_in
connack_by [] at c h = never _ c h
connack_by (x ∷ rest) at c h = subst (λ n. Good c n) (omega arith) (code_ok (eqb x 1) rest (at + 1) c (passes (leb x 1) _ _ c h).1)

connack_ok : (bs : List ℕ) (at : ℕ) (c : Content) → connack_in bs at ≡ Ok c → Good c (length bs)
unfolding connack_in
connack_ok bs at c h = connack_by bs at c h

-- PUBLISH
payload_ok : (dup : Bool) (qos : Qos) (topic : List ℕ) (topic-at : ℕ) (id : Option ℕ) (bs : List ℕ) (at : ℕ) (c : Content) (n : ℕ)
    → is_topic_name topic ≡ true → lawful_flow dup qos id ≡ true → length (body_of (publish dup qos topic topic-at id bs at)) ≡ n
    → payload_in dup qos topic topic-at id bs at ≡ Ok c → Good c n
unfolding payload_in
payload_ok dup qos topic topic-at id bs at c n t f l h =
    let q = passes (leb (length bs) 256) _ _ c h in
    let good : lawful_fields (publish dup qos topic topic-at id bs at) ≡ true = simp (t, f, q.0) in
    subst (λ x. Good x n) (ok_same _ c q.1) (record { fields = good; long = l })

numbered_ok : (dup : Bool) (qos : Qos) (topic : List ℕ) (topic-at : ℕ) (bs : List ℕ) (at : ℕ) (c : Content) → Bytes bs
    → is_topic_name topic ≡ true → ((id : ℕ) → is_id id ≡ true → lawful_flow dup qos (Some id) ≡ true)
    → numbered_in dup qos topic topic-at bs at ≡ Ok c → Good c (2 + length topic + length bs)
unfolding numbered_in
numbered_ok dup qos topic topic-at bs at c b t f h =
    let o = onward_ok _ (identifier_in bs at) c h in
    let i = id_ok bs at o.0 b o.1.0 in
    let rest = o.0.1 in
    let sum : length (body_of (publish dup qos topic topic-at (Some o.0.0) rest (at + 2))) ≡ 2 + length topic + length bs = simp length-append (omega arith) in
    payload_ok dup qos topic topic-at (Some o.0.0) rest (at + 2) c _ t (f o.0.0 i.id) sum o.1.1

after_topic_lem : (dup : Bool) (qos : Qos) (topic : List ℕ) (topic-at : ℕ) (bs : List ℕ) (at : ℕ) (c : Content) → Bytes bs → is_topic_name topic ≡ true
    → (qos ≡ AtMostOnce → dup ≡ false) → after_topic dup qos topic topic-at bs at ≡ Ok c → Good c (2 + length topic + length bs)
after_topic_lem dup AtMostOnce topic topic-at bs at c b t d h =
    let sum : length (body_of (publish dup AtMostOnce topic topic-at None bs at)) ≡ 2 + length topic + length bs = simp length-append (omega arith) in
    payload_ok dup AtMostOnce topic topic-at None bs at c _ t (ap not (d refl)) sum h
after_topic_lem dup AtLeastOnce topic topic-at bs at c b t d h = numbered_ok dup AtLeastOnce topic topic-at bs at c b t (λ id i. i) h
after_topic_lem dup ExactlyOnce topic topic-at bs at c b t d h = numbered_ok dup ExactlyOnce topic topic-at bs at c b t (λ id i. i) h

topic_ok : (dup : Bool) (qos : Qos) (bs : List ℕ) (at : ℕ) (c : Content) → Bytes bs → (qos ≡ AtMostOnce → dup ≡ false) → topic_in dup qos bs at ≡ Ok c → Good c (length bs)
unfolding topic_in
topic_ok dup qos bs at c b d h =
    let o = onward_ok _ (text_in _ is_topic_name bs at) c h in
    let t = text_ok _ is_topic_name bs at o.0 o.1.0 in
    let g = after_topic_lem dup qos o.0.0 at o.0.1 _ c (t.bytes b) t.passed d o.1.1 in
    subst (λ n. Good c n) (sym t.long) g

-- DUP stands only with a QoS above 0
dup_by : (f : ℕ) (q : Qos) → allows Publish f ≡ true → qos_of (f / 2 % 4) ≡ Some q → q ≡ AtMostOnce → leb 8 f ≡ false
dup_by f AtMostOnce a e r = grind (arith, nat_tests)
dup_by f AtLeastOnce a e r = grind arith
dup_by f ExactlyOnce a e r = grind arith

qos_by : (f : ℕ) (bs : List ℕ) (at : ℕ) (c : Content) (o : Option Qos) → Bytes bs → allows Publish f ≡ true → qos_of (f / 2 % 4) ≡ o → with_qos (leb 8 f) bs at o ≡ Ok c → Good c (length bs)
qos_by f bs at c None b a e h = never _ c h
qos_by f bs at c (Some q) b a e h = topic_ok (leb 8 f) q bs at c b (dup_by f q a e) h

publish_ok : (f : ℕ) (bs : List ℕ) (at : ℕ) (c : Content) → Bytes bs → allows Publish f ≡ true → publish_in f bs at ≡ Ok c → Good c (length bs)
unfolding publish_in
publish_ok f bs at c b a h = qos_by f bs at c (qos_of (f / 2 % 4)) b a refl h

-- packets of nothing but an identifier
ack_ok : (ack : ℕ → Content) → ((id : ℕ) → is_id id ≡ true → Good (ack id) 2) → (bs : List ℕ) (at : ℕ) (c : Content) → Bytes bs → ack_in ack bs at ≡ Ok c → Good c (length bs)
unfolding only_identifier
ack_ok ack g bs at c b h =
    let o = onward_ok _ (only_identifier bs at) c h in
    let p = onward_ok _ (identifier_in bs at) o.0 o.1.0 in
    let i = id_ok bs at p.0 b p.1.0 in
    let e = ended_ok p.0.1 _ _ o.0 p.1.1 in
    let none : length p.0.1 ≡ 0 = ap length e.0 in
    let two : 2 ≡ length bs = omega arith in
    let id = subst (λ x. is_id x ≡ true) e.1 i.id in
    subst (λ x. Good x (length bs)) (ok_same _ c o.1.1) (subst (λ n. Good (ack o.0) n) two (g o.0 id))

-- SUBSCRIBE and UNSUBSCRIBE
pub record Filtered (graded : Bool) (bs : List ℕ) (at : ℕ) (x : Found) : Type 0 where
  pub filter : is_topic_filter x.entry.filter ≡ true
  pub qos : cond graded (is_asked x.entry.qos) (not (is_asked x.entry.qos)) ≡ true
  pub long : length bs ≡ length (entry_bytes x.entry) + length x.rest
  pub whole : Bytes bs → bs ≡ entry_bytes x.entry ++ x.rest
  pub bytes : Bytes bs → Bytes x.rest

asked_by : (text : List ℕ) (at q : ℕ) (rest : List ℕ) (x : Found) (o : Option Qos) (bs : List ℕ) → is_topic_filter text ≡ true → length bs ≡ 2 + length text + (1 + length rest)
    → (Bytes bs → bs ≡ text_bytes text ++ (q ∷ rest)) → (Bytes bs → Bytes (q ∷ rest)) → qos_of q ≡ o → asked text at rest o ≡ Ok x → Filtered true bs at x
asked_by text at q rest x None bs t l w b k h = never _ x h
asked_by text at q rest x (Some g) bs t l w b k h =
    let same : text_bytes text ++ (q ∷ rest) ≡ (text_bytes text ++ (qos_number g ∷ [])) ++ rest = ap (λ n. text_bytes text ++ (n ∷ rest)) (qos_law.back q g k) ∙ sym (append_assoc (text_bytes text) (qos_number g ∷ []) rest) in
    let long : length bs ≡ length (text_bytes text ++ (qos_number g ∷ [])) + length rest = simp length-append (omega arith) in
    subst (λ y. Filtered true bs at y) (ok_same _ x h) (record { filter = t; qos = refl; long = long; whole = λ v. w v ∙ same; bytes = λ v. (b v).1 })

after_ok : (graded : Bool) (text : List ℕ) (at : ℕ) (after : List ℕ) (x : Found) (bs : List ℕ) → is_topic_filter text ≡ true → length bs ≡ 2 + length text + length after
    → (Bytes bs → bs ≡ text_bytes text ++ after) → (Bytes bs → Bytes after) → after_filter graded text at after ≡ Ok x → Filtered graded bs at x
after_ok true text at [] x bs t l w b h = never _ x h
after_ok true text at (q ∷ rest) x bs t l w b h = asked_by text at q rest x (qos_of q) bs t (omega arith) w b refl h
after_ok false text at after x bs t l w b h =
    let same : text_bytes text ++ after ≡ (text_bytes text ++ []) ++ after = ap (λ l. l ++ after) (sym (append-nil (text_bytes text))) in
    let long : length bs ≡ length (text_bytes text ++ []) + length after = simp length-append (omega arith) in
    subst (λ y. Filtered false bs at y) (ok_same _ x h) (record { filter = t; qos = refl; long = long; whole = λ v. w v ∙ same; bytes = b })

pub filter_ok : (graded : Bool) (bs : List ℕ) (at : ℕ) (x : Found) → filter_in graded bs at ≡ Ok x → Filtered graded bs at x
unfolding filter_in
filter_ok graded bs at x h =
    let o = onward_ok _ (text_in _ is_topic_filter bs at) x h in
    let t = text_ok _ is_topic_filter bs at o.0 o.1.0 in
    after_ok graded o.0.0 at o.0.1 x bs t.passed t.long t.whole t.bytes o.1.1

pub record Listed (graded : Bool) (k n : ℕ) (es : List Entry) : Type 0 where
  pub few : length es ≤ k
  pub lawful-each : lawful_entries graded es ≡ true
  pub long : length (entries_bytes es) ≡ n

before_ok : (e : Entry) (r : Result (List Entry) ReadError) (es : List Entry) → before e r ≡ Ok es → (fs : List Entry) × ((r ≡ Ok fs) × (e ∷ fs ≡ es))
before_ok e (Ok fs) es h = (fs, (refl, ok_same _ es h))
before_ok e (Err x) es h = never x es h

filters_ok : (graded : Bool) (k : ℕ) (bs : List ℕ) (at : ℕ) (es : List Entry) → Bytes bs → filters_in graded k bs at ≡ Ok es → Listed graded k (length bs) es
filters_ok graded zero [] at es b h = subst (λ x. Listed graded 0 0 x) (ok_same _ es h) (record { few = omega arith; lawful-each = refl; long = refl })
filters_ok graded zero (x ∷ bs) at es b h = never _ es h
filters_ok graded (suc k) [] at es b h = subst (λ x. Listed graded (suc k) 0 x) (ok_same _ es h) (record { few = omega arith; lawful-each = refl; long = refl })
filters_ok graded (suc k) (x ∷ bs) at es b h =
    let o = onward_ok _ (filter_in graded (x ∷ bs) at) es h in
    let f = filter_ok graded (x ∷ bs) at o.0 o.1.0 in
    let g = before_ok o.0.entry _ es o.1.1 in
    let l = filters_ok graded k o.0.rest o.0.next g.0 (f.bytes b) g.1.0 in
    let each : lawful_entries graded (o.0.entry ∷ g.0) ≡ true = simp (f.filter, f.qos, l.lawful-each) in
    let rest : length (entry_bytes o.0.entry) + length (entries_bytes g.0) ≡ length (x ∷ bs) = omega (arith, f.long, l.long) in
    let sum : length (entries_bytes (o.0.entry ∷ g.0)) ≡ length (x ∷ bs) = length-append (entry_bytes o.0.entry) (entries_bytes g.0) ∙ rest in
    let most : length (o.0.entry ∷ g.0) ≤ suc k = omega (arith, l.few) in
    subst (λ y. Listed graded (suc k) (length (x ∷ bs)) y) g.1.1 (record { few = most; lawful-each = each; long = sum })

-- one filter at least where there are bytes
some_filters_lem : (graded : Bool) (bs : List ℕ) (at : ℕ) (es : List Entry) → Bytes bs → some_filters graded bs at ≡ Ok es → (0 < length bs) × Listed graded 8 (length bs) es
some_filters_lem graded [] at es b h = never _ es h
some_filters_lem graded (x ∷ bs) at es b h = (omega arith, filters_ok graded 8 (x ∷ bs) at es b h)

no_entry : (es : List Entry) (n : ℕ) → length (entries_bytes es) ≡ n → 0 < n → 0 < length es
no_entry [] n e h = absurd (omega arith)
no_entry (x ∷ es) n e h = omega arith

listed_by : (graded : Bool) (id : ℕ) (es : List Entry) (n : ℕ) → is_id id ≡ true → 0 < length es → length es ≤ 8 → lawful_entries graded es ≡ true → 2 + length (entries_bytes es) ≡ n → Good (filters_of graded id es) n
listed_by true id es n i some few each sum =
    let eight : (ltb 0 (length es) && leb (length es) 8) ≡ true = grind (arith, nat_tests) in
    record { fields = simp (i, eight, each); long = simp length-append (omega arith) }
listed_by false id es n i some few each sum =
    let eight : (ltb 0 (length es) && leb (length es) 8) ≡ true = grind (arith, nat_tests) in
    record { fields = simp (i, eight, each); long = simp length-append (omega arith) }

subscribe_ok : (graded : Bool) (bs : List ℕ) (at : ℕ) (c : Content) → Bytes bs → subscribe_in graded bs at ≡ Ok c → Good c (length bs)
unfolding subscribe_in
subscribe_ok graded bs at c b h =
    let o = onward_ok _ (identifier_in bs at) c h in
    let i = id_ok bs at o.0 b o.1.0 in
    let q = onward_ok _ (some_filters graded o.0.1 (at + 2)) c o.1.1 in
    let l = some_filters_lem graded o.0.1 (at + 2) q.0 i.bytes q.1.0 in
    let sum : 2 + length (entries_bytes q.0) ≡ length bs = omega (arith, i.long, l.1.long) in
    let some = no_entry q.0 (length o.0.1) l.1.long l.0 in
    subst (λ x. Good x (length bs)) (ok_same _ c q.1.1) (listed_by graded o.0.0 q.0 (length bs) i.id some l.1.few l.1.lawful-each sum)

-- SUBACK
pub record Coded (k : ℕ) (cs ds : List ℕ) : Type 0 where
  pub same : ds ≡ cs
  pub few : length cs ≤ k
  pub each : every is_code cs ≡ true

codes_ok : (k : ℕ) (cs : List ℕ) (at : ℕ) (ds : List ℕ) → codes_in k cs at ≡ Ok ds → Coded k cs ds
codes_ok zero [] at ds h = record { same = sym (ok_same _ ds h); few = omega arith; each = refl }
codes_ok zero (c ∷ cs) at ds h = never _ ds h
codes_ok (suc k) [] at ds h = record { same = sym (ok_same _ ds h); few = omega arith; each = refl }
codes_ok (suc k) (c ∷ cs) at ds h =
    let q = passes (is_code c) _ _ ds h in
    let o = onward_ok _ (codes_in k cs (at + 1)) ds q.1 in
    let r = codes_ok k cs (at + 1) o.0 o.1.0 in
    record { same = sym (ok_same _ ds o.1.1) ∙ ap (λ x. c ∷ x) r.same; few = omega (arith, r.few); each = simp (q.0, r.each) }

some_codes_lem : (cs : List ℕ) (at : ℕ) (ds : List ℕ) → some_codes cs at ≡ Ok ds → (0 < length cs) × Coded 8 cs ds
some_codes_lem [] at ds h = never _ ds h
some_codes_lem (c ∷ cs) at ds h = (omega arith, codes_ok 8 (c ∷ cs) at ds h)

suback_ok : (bs : List ℕ) (at : ℕ) (c : Content) → Bytes bs → suback_in bs at ≡ Ok c → Good c (length bs)
unfolding suback_in
suback_ok bs at c b h =
    let o = onward_ok _ (identifier_in bs at) c h in
    let i = id_ok bs at o.0 b o.1.0 in
    let q = onward_ok _ (some_codes o.0.1 (at + 2)) c o.1.1 in
    let s = some_codes_lem o.0.1 (at + 2) q.0 q.1.0 in
    let cs = o.0.1 in
    let k = i.id in
    let each = s.1.each in
    let low : 0 < length cs = s.0 in
    let few : length cs ≤ 8 = s.1.few in
    let eight : (ltb 0 (length cs) && leb (length cs) 8) ≡ true = grind (arith, nat_tests) in
    let sum : length (body_of (suback o.0.0 cs)) ≡ length bs = simp length-append (omega (arith, i.long)) in
    let good : Good (suback o.0.0 cs) (length bs) = record { fields = simp (k, eight, each); long = sum } in
    subst (λ x. Good x (length bs)) (ap (λ ds. suback o.0.0 ds) (sym s.1.same) ∙ ok_same _ c q.1.1) good

-- empty packets
empty_ok : (x : Content) → Good x 0 → (bs : List ℕ) (at : ℕ) (c : Content) → ended bs at x ≡ Ok c → Good c (length bs)
empty_ok x g bs at c h =
    let e = ended_ok bs at x c h in
    let none : 0 ≡ length bs = sym (ap length e.0) in
    subst (λ y. Good y (length bs)) e.1 (subst (λ n. Good x n) none g)

good_by : (t : PacketType) (flags : ℕ) (bs : List ℕ) (at : ℕ) (c : Content) → Bytes bs → allows t flags ≡ true → body_in t flags bs at ≡ Ok c → Good c (length bs)
good_by Connect flags bs at c b a h = connect_ok bs at c b h
good_by ConnAck flags bs at c b a h = connack_ok bs at c h
good_by Publish flags bs at c b a h = publish_ok flags bs at c b a h
good_by PubAck flags bs at c b a h = ack_ok puback (λ id i. record { fields = i; long = refl }) bs at c b h
good_by PubRec flags bs at c b a h = ack_ok pubrec (λ id i. record { fields = i; long = refl }) bs at c b h
good_by PubRel flags bs at c b a h = ack_ok pubrel (λ id i. record { fields = i; long = refl }) bs at c b h
good_by PubComp flags bs at c b a h = ack_ok pubcomp (λ id i. record { fields = i; long = refl }) bs at c b h
good_by Subscribe flags bs at c b a h = subscribe_ok true bs at c b h
good_by SubAck flags bs at c b a h = suback_ok bs at c b h
good_by Unsubscribe flags bs at c b a h = subscribe_ok false bs at c b h
good_by UnsubAck flags bs at c b a h = ack_ok unsuback (λ id i. record { fields = i; long = refl }) bs at c b h
good_by PingReq flags bs at c b a h = empty_ok pingreq (record { fields = refl; long = refl }) bs at c h
good_by PingResp flags bs at c b a h = empty_ok pingresp (record { fields = refl; long = refl }) bs at c h
good_by Disconnect flags bs at c b a h = empty_ok disconnect (record { fields = refl; long = refl }) bs at c h

-- the type that a first byte announces allows its flags
allowed-cond : (u t : PacketType) (f : ℕ) (v : Bool) → allows u f ≡ v → cond v (Some u) None ≡ Some t → allows t f ≡ true
allowed-cond u t f true e h = let same : u ≡ t = cc in subst (λ x. allows x f ≡ true) same e
allowed-cond u t f false e h = grind arith

allowed_by : (o : Option PacketType) (f : ℕ) (t : PacketType) → announced o f ≡ Some t → allows t f ≡ true
allowed_by None f t h = grind arith
allowed_by (Some u) f t h = allowed-cond u t f (allows u f) refl h

announces : (first : ℕ) (t : PacketType) → type_in first ≡ Some t → allows t (first % 16) ≡ true
unfolding type_in
announces first t h = allowed_by (numbered (first / 16)) (first % 16) t h

lawful_by : (bs : List ℕ) (c : Content) (r : Result Told BadField) → Bytes bs → parts_in bs ≡ r → after_parts r ≡ Ok c → lawful c ≡ true
unfolding lawful parts_in
lawful_by bs c (Err e) b p h = never _ c h
lawful_by [] c (Ok told) b p h = grind arith
lawful_by (first ∷ rest) c (Ok told) b p h =
    let there = is_there first rest told p in
    let allow = subst (λ f. allows told.type_is f ≡ true) (sym there.1) (announces first told.type_is there.0) in
    let bytes : Bytes told.body = subst (λ l. Bytes l) (sym there.2) (All-drop (λ k. k < 256) told.place (first ∷ rest) b) in
    let g = good_by told.type_is told.flags told.body told.place c bytes allow h in
    let fields = g.fields in
    let short : leb (length (body_of c)) 540 ≡ true = let l = g.long in let m = there.3 in grind (arith, nat_tests) in
    simp (fields, short)

pub reads_lawful : ReadsLawful
unfolding reads
reads_lawful bs c b h = lawful_by bs c (parts_in bs) b refl h
