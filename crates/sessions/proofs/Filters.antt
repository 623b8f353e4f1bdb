-- Filters in rows.
use Rattle.std.proofs.Common.{◌≡◌, ℕ, zero, suc, ◌*◌, ◌≤◌, Bool, true, false, cond, not, ◌&&◌, leb, List, [], ◌∷◌, ◌++◌, length, Some, None, Option, sym, refl, ap, ◌∙◌, subst, arith, length-append}
use Rattle.std.specs.List.{flat_map}
use Rattle.std.proofs.lemmas.Option.{none-some, same_Some}
use Rattle.std.proofs.lemmas.Bool.{and_parts, and_from, not-true, not_from_false, leb-true}
use Rattle.topics.specs.Levels.{levels}
use Rattle.topics.specs.Text.{is_text}
use Rattle.topics.specs.Names.{is_client_id, is_topic_filter, lawful, sized, max_topic, max_client_id}
use Rattle.topics.specs.Qos.{qos_of}
use Rattle.topics.specs.Subscription.{Subscribed}
use Rattle.topics.specs.declared.qos.Qos.{Qos}
use Rattle.topics.proofs.Qualities.{qos_law}
use Rattle.rows.specs.Text.{text_bytes, text_in}
use Rattle.rows.proofs.Texts.{text_there, text_back}
use Rattle.sessions.specs.View.{listed, listed_rest}
use Rattle.sessions.specs.Session.{Session, SessionLaw, after_client, decode, encode, filter_bytes, filter_in, filters_in, from_client, in_front, lawful_filters, lawful_session, max_filters, named, qualified, stands, then_rest}

-- a lawful subscription comes back from its bytes
pub filter_there : (s : Subscribed) (rest : List ℕ) → is_topic_filter s.filter ≡ true → filter_in (filter_bytes s ++ rest) ≡ Some (s, rest)
unfolding filter_in
filter_there s rest ok =
    (λ i. qualified (qos_law.there s.qos i) (text_there s.filter rest i))
    ∙ ap (λ v. cond {A = Option (Subscribed × List ℕ)} v (Some (s, rest)) None) ok

pub filters_there : (ss : List Subscribed) → lawful_filters ss ≡ true → filters_in (length ss) (flat_map filter_bytes ss) ≡ Some ss
filters_there [] ok = refl
filters_there (s ∷ ss) ok =
    let p = and_parts (is_topic_filter s.filter) _ ok in
    let q = and_parts (not (stands s.filter ss)) (lawful_filters ss) p.1 in
    ap (then_rest (filters_in (length ss))) (filter_there s (flat_map filter_bytes ss) p.0)
    ∙ ap (in_front s) (filters_there ss q.1)
    ∙ ap (λ v. cond {A = Option (List Subscribed)} v None (Some (s ∷ ss))) (not-true (stands s.filter ss) q.0)

pub session_there : (s : Session) → lawful_session s ≡ true → decode (encode s) ≡ Some s
unfolding decode
session_there s ok =
    let p = and_parts (is_client_id s.client) _ ok in
    let q = and_parts (leb (length s.filters) max_filters) (lawful_filters s.filters) p.1 in
    ap from_client (text_there s.client (length s.filters ∷ flat_map filter_bytes s.filters))
    ∙ ap (λ v. cond {A = Option Session} v (after_client s.client (length s.filters ∷ flat_map filter_bytes s.filters)) None) p.0
    ∙ ap (λ v. cond {A = Option Session} v (named s.client (filters_in (length s.filters) (flat_map filter_bytes s.filters))) None) q.0
    ∙ ap (named s.client) (filters_there s.filters q.1)

-- the subscription at the front stands there in its bytes
pub record FilterBack (bs : List ℕ) (p : Subscribed × List ℕ) : Type 0 where
  pub bytes : bs ≡ filter_bytes p.0 ++ p.1
  pub lawful : is_topic_filter p.0.filter ≡ true

qualified_by : (q : ℕ) (k : Qos) (bs : List ℕ) (t : List ℕ × List ℕ) (p : Subscribed × List ℕ) (v : Bool) → is_topic_filter t.0 ≡ v → qos_of q ≡ Some k → text_in bs ≡ Some t → cond {A = Option (Subscribed × List ℕ)} v (Some (record { filter = t.0; qos = k }, t.1)) None ≡ Some p → FilterBack (q ∷ bs) p
qualified_by q k bs t p true ok e f g =
    let n = qos_law.back q k e in
    let b = text_back bs t.0 t.1 f in
    subst (λ p. FilterBack (q ∷ bs) p) (same_Some _ p g) (record { bytes = λ i. n i ∷ b i; lawful = ok })
qualified_by q k bs t p false ok e f g = absurd (none-some p g)

qualified_back : (q : ℕ) (oq : Option Qos) (bs : List ℕ) (ot : Option (List ℕ × List ℕ)) (p : Subscribed × List ℕ) → qos_of q ≡ oq → text_in bs ≡ ot → qualified oq ot ≡ Some p → FilterBack (q ∷ bs) p
qualified_back q None bs ot p e f g = absurd (none-some p g)
qualified_back q (Some k) bs None p e f g = absurd (none-some p g)
qualified_back q (Some k) bs (Some t) p e f g = qualified_by q k bs t p (is_topic_filter t.0) refl e f g

pub filter_back : (bs : List ℕ) (p : Subscribed × List ℕ) → filter_in bs ≡ Some p → FilterBack bs p
unfolding filter_in
filter_back [] p g = absurd (none-some p g)
filter_back (q ∷ bs) p g = qualified_back q (qos_of q) bs (text_in bs) p refl refl g

-- what was read of so many subscriptions
pub record FiltersBack (n : ℕ) (bs : List ℕ) (ss : List Subscribed) : Type 0 where
  pub bytes : bs ≡ flat_map filter_bytes ss
  pub count : length ss ≡ n
  pub lawful : lawful_filters ss ≡ true
  pub list : listed n bs ≡ ss

front_by : (n : ℕ) (bs : List ℕ) (ss ts : List Subscribed) (p : Subscribed × List ℕ) (v : Bool) → stands p.0.filter ts ≡ v → filter_in bs ≡ Some p → FiltersBack n p.1 ts → cond {A = Option (List Subscribed)} v None (Some (p.0 ∷ ts)) ≡ Some ss → FiltersBack (suc n) bs ss
front_by n bs ss ts p true st f b e = absurd (none-some ss e)
front_by n bs ss ts p false st f b e =
    let h = filter_back bs p f in
    subst (λ ss. FiltersBack (suc n) bs ss) (same_Some _ ss e)
    (record {
      bytes = h.bytes ∙ ap (λ l. filter_bytes p.0 ++ l) b.bytes;
      count = ap suc b.count;
      lawful = and_from _ _ h.lawful (and_from _ _ (not_from_false _ st) b.lawful);
      list = ap (listed_rest (listed n)) f ∙ ap (λ l. p.0 ∷ l) b.list;
    })

front_back : (n : ℕ) (bs : List ℕ) (ss : List Subscribed) (p : Subscribed × List ℕ) (o : Option (List Subscribed)) → filter_in bs ≡ Some p → ((ts : List Subscribed) → o ≡ Some ts → FiltersBack n p.1 ts) → in_front p.0 o ≡ Some ss → FiltersBack (suc n) bs ss
front_back n bs ss p None f ih e = absurd (none-some ss e)
front_back n bs ss p (Some ts) f ih e = front_by n bs ss ts p (stands p.0.filter ts) refl f (ih ts refl) e

rest_back : (n : ℕ) (bs : List ℕ) (ss : List Subscribed) (o : Option (Subscribed × List ℕ)) → ((bs : List ℕ) (ts : List Subscribed) → filters_in n bs ≡ Some ts → FiltersBack n bs ts) → filter_in bs ≡ o → then_rest (filters_in n) o ≡ Some ss → FiltersBack (suc n) bs ss
rest_back n bs ss None ih f e = absurd (none-some ss e)
rest_back n bs ss (Some p) ih f e = front_back n bs ss p (filters_in n p.1) f (ih p.1) e

pub filters_back : (n : ℕ) (bs : List ℕ) (ss : List Subscribed) → filters_in n bs ≡ Some ss → FiltersBack n bs ss
filters_back zero [] ss e = subst (λ ss. FiltersBack 0 [] ss) (same_Some _ ss e) (record { bytes = refl; count = refl; lawful = refl; list = refl })
filters_back zero (b ∷ bs) ss e = absurd (none-some ss e)
filters_back (suc n) bs ss e = rest_back n bs ss (filter_in bs) (filters_back n) refl e

-- ---- whole rows

pub record SessionBack (bs : List ℕ) (s : Session) : Type 0 where
  pub bytes : encode s ≡ bs
  pub lawful : lawful_session s ≡ true

named_back : (client : List ℕ) (n : ℕ) (bs : List ℕ) (s : Session) (o : Option (List Subscribed)) → is_client_id client ≡ true → leb n max_filters ≡ true → filters_in n bs ≡ o → named client o ≡ Some s → SessionBack (text_bytes client ++ n ∷ bs) s
named_back client n bs s None c l f e = absurd (none-some s e)
named_back client n bs s (Some ss) c l f e =
    let b = filters_back n bs ss f in
    subst (λ s. SessionBack (text_bytes client ++ n ∷ bs) s) (same_Some _ s e)
    (record {
      bytes = λ i. text_bytes client ++ b.count i ∷ sym b.bytes i;
      lawful = and_from _ _ c (and_from _ _ (ap (λ k. leb k max_filters) b.count ∙ l) b.lawful);
    })

count_back : (client : List ℕ) (n : ℕ) (bs : List ℕ) (s : Session) (v : Bool) → leb n max_filters ≡ v → is_client_id client ≡ true → cond {A = Option Session} v (named client (filters_in n bs)) None ≡ Some s → SessionBack (text_bytes client ++ n ∷ bs) s
count_back client n bs s true l c e = named_back client n bs s (filters_in n bs) c l refl e
count_back client n bs s false l c e = absurd (none-some s e)

after_back : (client rest : List ℕ) (s : Session) (v : Bool) → is_client_id client ≡ v → cond {A = Option Session} v (after_client client rest) None ≡ Some s → SessionBack (text_bytes client ++ rest) s
after_back client [] s true c e = absurd (none-some s e)
after_back client (n ∷ bs) s true c e = count_back client n bs s (leb n max_filters) refl c e
after_back client rest s false c e = absurd (none-some s e)

client_back : (bs : List ℕ) (s : Session) (o : Option (List ℕ × List ℕ)) → text_in bs ≡ o → from_client o ≡ Some s → SessionBack bs s
client_back bs s None f e = absurd (none-some s e)
client_back bs s (Some t) f e =
    subst (λ l. SessionBack l s) (sym (text_back bs t.0 t.1 f)) (after_back t.0 t.1 s (is_client_id t.0) refl e)

pub session_back : (bs : List ℕ) (s : Session) → decode bs ≡ Some s → (encode s ≡ bs) × (lawful_session s ≡ true)
unfolding decode
session_back bs s e = let b = client_back bs s (text_in bs) refl e in (b.bytes, b.lawful)

-- ---- lengths

pub topic_short : (f : List ℕ) → is_topic_filter f ≡ true → length f ≤ 64
unfolding is_topic_filter
topic_short f e =
    let p = and_parts (sized max_topic f && is_text f) (lawful (levels f)) e in
    let q = and_parts (sized max_topic f) (is_text f) p.0 in
    leb-true (length f) 64 (and_parts _ (leb (length f) 64) q.0).1

pub client_short : (f : List ℕ) → is_client_id f ≡ true → length f ≤ 23
unfolding is_client_id
client_short f e =
    let p = and_parts (sized max_client_id f) _ e in
    leb-true (length f) 23 (and_parts _ (leb (length f) 23) p.0).1

filters_short : (ss : List Subscribed) → lawful_filters ss ≡ true → length (flat_map filter_bytes ss) ≤ 66 * length ss
filters_short [] e = omega arith
filters_short (s ∷ ss) e =
    let p = and_parts (is_topic_filter s.filter) _ e in
    let q = and_parts (not (stands s.filter ss)) (lawful_filters ss) p.1 in
    let a = topic_short s.filter p.0 in
    let b = filters_short ss q.1 in
    let c = length-append (filter_bytes s) (flat_map filter_bytes ss) in
    omega arith

pub session_short : (s : Session) → lawful_session s ≡ true → length (encode s) ≤ 553
session_short s ok =
    let p = and_parts (is_client_id s.client) _ ok in
    let q = and_parts (leb (length s.filters) max_filters) (lawful_filters s.filters) p.1 in
    let a = client_short s.client p.0 in
    let b = filters_short s.filters q.1 in
    let n = leb-true (length s.filters) 8 q.0 in
    let c = length-append (text_bytes s.client) (length s.filters ∷ flat_map filter_bytes s.filters) in
    omega arith

pub session_law : SessionLaw
session_law = record { there = session_there; back = session_back; short = session_short }
