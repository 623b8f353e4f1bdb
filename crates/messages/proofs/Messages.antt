-- Messages and their rows.
use Rattle.std.proofs.Common.{◌≡◌, ℕ, suc, ◌+◌, ◌*◌, ◌/◌, ◌%◌, ◌^◌, ◌<◌, ◌≤◌, Bool, true, false, cond, ◌&&◌, eqb, ltb, leb, ◌≢◌, List, [], ◌∷◌, ◌++◌, length, get_or, Some, None, Option, sym, refl, ap, ◌∙◌, subst, arith, length-append}
use Rattle.std.proofs.lemmas.Bool.{and_parts, and_from, eq-eqb, ne_eqb, eqb-true, ltb-true, lt-ltb, leb-true}
use Rattle.topics.specs.Text.{is_text}
use Rattle.topics.specs.Names.{is_topic_name, max_topic, plain, sized}
use Rattle.rows.specs.Text.{text_bytes, text_in}
use Rattle.rows.proofs.Texts.{text_there, text_back}
use Rattle.messages.specs.declared.parts.Origin.{Origin}
use Rattle.messages.specs.Target.{bind, lawful_targets, map_of, target_bytes, targets_in}
use Rattle.messages.specs.Message.{Message, MessageLaw, decode, encode, four_bytes, held, lawful_message, lawful_origin, max_payload, number_in, of_parts, origin_bytes, origin_in, origin_of, sessions}
use Rattle.messages.proofs.Targets.{bind_some, map_small, targets_back, targets_short, targets_there}
use Rattle.std.proofs.lemmas.Option.{cond_some, none-some, same_Some}

four : (n : ℕ) → n < 4294967296 → n / 16777216 % 256 * 16777216 + n / 65536 % 256 * 65536 + n / 256 % 256 * 256 + n % 256 ≡ n
four n h =
    let a : n / 65536 ≡ n / 256 / 256 = omega arith in
    let b : n / 16777216 ≡ n / 65536 / 256 = omega arith in
    let c : n / 16777216 % 256 ≡ n / 16777216 = omega arith in
    let d : n / 65536 ≡ n / 16777216 * 256 + n / 65536 % 256 = omega arith in
    let e : n / 256 ≡ n / 65536 * 256 + n / 256 % 256 = omega arith in
    let f : n ≡ n / 256 * 256 + n % 256 = omega arith in
    omega arith

pub number_there : (n : ℕ) (rest : List ℕ) → n < 4294967296 → number_in (four_bytes n ++ rest) ≡ Some (n, rest)
number_there n rest h = rw (four n h)

two : (n : ℕ) → n < 65536 → n / 256 % 256 * 256 + n % 256 ≡ n
two n h = omega arith

pub origin_there : (o : Option Origin) (rest : List ℕ) → lawful_origin o ≡ true → origin_in (origin_bytes o ++ rest) ≡ Some (o, rest)
origin_there None rest ok = refl
origin_there (Some o) rest ok =
    let p = and_parts (ltb o.session sessions) _ ok in
    let q = and_parts (ltb 0 o.identifier) (ltb o.identifier 65536) p.1 in
    let s = ltb-true o.session 32 p.0 in
    let i = ltb-true o.identifier 65536 q.1 in
    let n : o.session ≢ 255 = omega arith in
    rw (two o.identifier i, ne_eqb o.session 255 n, p.0, q.0)

pub message_there : (m : Message) → lawful_message m ≡ true → decode (encode m) ≡ Some m
unfolding decode
message_there m ok =
    let a = and_parts (ltb 0 m.rank && ltb m.rank 4294967296) _ ok in
    let r = and_parts (ltb 0 m.rank) (ltb m.rank 4294967296) a.0 in
    let b = and_parts (lawful_origin m.origin) _ a.1 in
    let c = and_parts (eqb (length m.targets) sessions && lawful_targets m.targets) _ b.1 in
    let t = and_parts (eqb (length m.targets) sessions) (lawful_targets m.targets) c.0 in
    let n = eqb-true (length m.targets) 32 t.0 in
    let tail = text_bytes m.topic ++ m.payload in
    let targets = target_bytes m.targets ++ tail in
    let map = four_bytes (map_of m.targets) ++ targets in
    let origin = origin_bytes m.origin ++ map in
    let small : map_of m.targets < 4294967296 = subst (λ k. map_of m.targets < 2 ^ k) n (map_small m.targets) in
    let held-ok = and_from (ltb 0 m.rank) _ r.0 c.1 in
    ap (λ x. bind x (λ r. bind (origin_in r.1) (λ o. bind (number_in o.1) (λ n. bind (targets_in sessions n.0 n.1) (λ t. bind (text_in t.1) (λ p. of_parts r.0 o.0 t.0 p.0 p.1)))))) (number_there m.rank origin (ltb-true _ 4294967296 r.1))
    ∙ ap (λ x. bind x (λ o. bind (number_in o.1) (λ n. bind (targets_in sessions n.0 n.1) (λ t. bind (text_in t.1) (λ p. of_parts m.rank o.0 t.0 p.0 p.1))))) (origin_there m.origin map b.0)
    ∙ ap (λ x. bind x (λ n. bind (targets_in sessions n.0 n.1) (λ t. bind (text_in t.1) (λ p. of_parts m.rank m.origin t.0 p.0 p.1)))) (number_there (map_of m.targets) targets small)
    ∙ ap (λ x. bind x (λ t. bind (text_in t.1) (λ p. of_parts m.rank m.origin t.0 p.0 p.1))) (ap (λ k. targets_in k (map_of m.targets) targets) (sym n) ∙ targets_there m.targets tail t.1)
    ∙ ap (λ x. bind x (λ p. of_parts m.rank m.origin m.targets p.0 p.1)) (text_there m.topic m.payload)
    ∙ ap (λ v. cond {A = Option Message} v (Some m) None) held-ok

-- ---- back

pub record NumberBack (bs : List ℕ) (p : ℕ × List ℕ) : Type 0 where
  pub bytes : bs ≡ four_bytes p.0 ++ p.1
  pub small : p.0 < 4294967296
  pub typed : (i : ℕ) → get_or p.1 i 0 < 256

pub number_back : (bs : List ℕ) (p : ℕ × List ℕ) → ((i : ℕ) → get_or bs i 0 < 256) → number_in bs ≡ Some p → NumberBack bs p
number_back [] p h e = absurd (none-some p e)
number_back (a ∷ []) p h e = absurd (none-some p e)
number_back (a ∷ b ∷ []) p h e = absurd (none-some p e)
number_back (a ∷ b ∷ c ∷ []) p h e = absurd (none-some p e)
number_back (a ∷ b ∷ c ∷ d ∷ bs) p h e =
    let a< : a < 256 = h 0 in
    let b< : b < 256 = h 1 in
    let c< : c < 256 = h 2 in
    let d< : d < 256 = h 3 in
    let n = a * 16777216 + b * 65536 + c * 256 + d in
    let na : a ≡ n / 16777216 % 256 = omega arith in
    let nb : b ≡ n / 65536 % 256 = omega arith in
    let nc : c ≡ n / 256 % 256 = omega arith in
    let nd : d ≡ n % 256 = omega arith in
    let s : n < 4294967296 = omega arith in
    subst (λ p. NumberBack (a ∷ b ∷ c ∷ d ∷ bs) p) (same_Some _ p e)
    (record { bytes = λ i. na i ∷ nb i ∷ nc i ∷ nd i ∷ bs; small = s; typed = λ i. h (suc (suc (suc (suc i)))) })

pub record OriginBack (bs : List ℕ) (p : Option Origin × List ℕ) : Type 0 where
  pub bytes : bs ≡ origin_bytes p.0 ++ p.1
  pub lawful : lawful_origin p.0 ≡ true
  pub typed : (i : ℕ) → get_or p.1 i 0 < 256

origin_by : (s a b : ℕ) (bs : List ℕ) (o : Option Origin) (u v : Bool) → a < 256 → b < 256 → ((i : ℕ) → get_or bs i 0 < 256) → (eqb s 255 && eqb (a * 256 + b) 0) ≡ u → (ltb s sessions && ltb 0 (a * 256 + b)) ≡ v → cond {A = Option (Option Origin)} u (Some None) (cond v (Some (Some (record { session = s; identifier = a * 256 + b }))) None) ≡ Some o → OriginBack (s ∷ a ∷ b ∷ bs) (o, bs)
origin_by s a b bs o true v a< b< h p q e =
    let k = and_parts (eqb s 255) (eqb (a * 256 + b) 0) p in
    let is = eqb-true s 255 k.0 in
    let ii = eqb-true (a * 256 + b) 0 k.1 in
    let az : a ≡ 0 = omega arith in
    let bz : b ≡ 0 = omega arith in
    subst (λ o. OriginBack (s ∷ a ∷ b ∷ bs) (o, bs)) (same_Some _ o e) (record { bytes = λ i. is i ∷ az i ∷ bz i ∷ bs; lawful = refl; typed = h })
origin_by s a b bs o false true a< b< h p q e =
    let k = and_parts (ltb s sessions) (ltb 0 (a * 256 + b)) q in
    let n = a * 256 + b in
    let na : a ≡ n / 256 % 256 = omega arith in
    let nb : b ≡ n % 256 = omega arith in
    let small : n < 65536 = omega arith in
    subst (λ o. OriginBack (s ∷ a ∷ b ∷ bs) (o, bs)) (same_Some _ o e)
    (record { bytes = λ i. s ∷ na i ∷ nb i ∷ bs; lawful = and_from _ _ k.0 (and_from _ _ k.1 (lt-ltb n 65536 small)); typed = h })
origin_by s a b bs o false false a< b< h p q e = absurd (none-some o e)

pub origin_back : (bs : List ℕ) (p : Option Origin × List ℕ) → ((i : ℕ) → get_or bs i 0 < 256) → origin_in bs ≡ Some p → OriginBack bs p
origin_back [] p h e = absurd (none-some p e)
origin_back (s ∷ []) p h e = absurd (none-some p e)
origin_back (s ∷ a ∷ []) p h e = absurd (none-some p e)
origin_back (s ∷ a ∷ b ∷ bs) p h e =
    let o = bind_some (origin_of s (a * 256 + b)) _ p e in
    let q : ◌≡◌ {A = Option Origin × List ℕ} (o.0, bs) p = same_Some _ p o.2 in
    subst (λ p. OriginBack (s ∷ a ∷ b ∷ bs) p) q (origin_by s a b bs o.0 _ _ (h 1) (h 2) (λ i. h (suc (suc (suc i)))) refl refl o.1)

pub message_back : (bs : List ℕ) (m : Message) → ((i : ℕ) → get_or bs i 0 < 256) → decode bs ≡ Some m → (encode m ≡ bs) × (lawful_message m ≡ true)
unfolding decode
message_back bs m h e =
    let r = bind_some (number_in bs) _ m e in
    let rb = number_back bs r.0 h r.1 in
    let o = bind_some (origin_in r.0.1) _ m r.2 in
    let ob = origin_back r.0.1 o.0 rb.typed o.1 in
    let n = bind_some (number_in o.0.1) _ m o.2 in
    let nb = number_back o.0.1 n.0 ob.typed n.1 in
    let t = bind_some (targets_in sessions n.0.0 n.0.1) _ m n.2 in
    let tb = targets_back 32 n.0.0 n.0.1 t.0 nb.small t.1 in
    let p = bind_some (text_in t.0.1) _ m t.2 in
    let pb = text_back t.0.1 p.0.0 p.0.1 p.1 in
    let k : Message = record { rank = r.0.0; origin = o.0.0; targets = t.0.0; topic = p.0.0; payload = p.0.1 } in
    let w = cond_some (ltb 0 k.rank && (is_topic_name k.topic && (leb (length k.payload) max_payload && held k.origin k.targets))) k m p.2 in
    let l = and_parts (ltb 0 k.rank) _ w.0 in
    let bytes : encode k ≡ bs =
    sym (rb.bytes ∙ ap (λ x. four_bytes k.rank ++ x) (ob.bytes ∙ ap (λ x. origin_bytes k.origin ++ x)
    (nb.bytes ∙ (λ i. four_bytes (tb.map i) ++ (tb.bytes ∙ ap (λ x. target_bytes k.targets ++ x) pb) i)))) in
    let good : lawful_message k ≡ true =
    and_from _ _ (and_from _ _ l.0 (lt-ltb k.rank 4294967296 rb.small))
    (and_from _ _ ob.lawful (and_from _ _ (and_from _ _ (eq-eqb (length k.targets) 32 tb.count) tb.lawful) l.1)) in
    (sym (ap encode w.1) ∙ bytes, sym (ap lawful_message w.1) ∙ good)

topic_short : (f : List ℕ) → is_topic_name f ≡ true → length f ≤ 64
unfolding is_topic_name
topic_short f e =
    let p = and_parts (sized max_topic f && is_text f) (plain f) e in
    let q = and_parts (sized max_topic f) (is_text f) p.0 in
    leb-true (length f) 64 (and_parts _ (leb (length f) 64) q.0).1

origin_short : (o : Option Origin) → length (origin_bytes o) ≡ 3
origin_short None = refl
origin_short (Some o) = refl

pub message_short : (m : Message) → lawful_message m ≡ true → length (encode m) ≤ 364
message_short m ok =
    let a = and_parts (ltb 0 m.rank && ltb m.rank 4294967296) _ ok in
    let b = and_parts (lawful_origin m.origin) _ a.1 in
    let c = and_parts (eqb (length m.targets) sessions && lawful_targets m.targets) _ b.1 in
    let t = and_parts (eqb (length m.targets) sessions) (lawful_targets m.targets) c.0 in
    let n = eqb-true (length m.targets) 32 t.0 in
    let d = and_parts (is_topic_name m.topic) _ c.1 in
    let f = and_parts (leb (length m.payload) max_payload) (held m.origin m.targets) d.1 in
    let g = topic_short m.topic d.0 in
    let h = leb-true (length m.payload) 256 f.0 in
    let k = targets_short m.targets in
    let o = origin_short m.origin in
    simp length-append (omega arith)

pub message_law : MessageLaw
message_law = record { there = message_there; back = message_back; short = message_short }
