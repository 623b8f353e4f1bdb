-- Sessions and the rows that hold them.
use Rattle.std.specs.Prelude.{◌≡◌, ℕ, zero, suc, ◌≤◌, Bool, true, false, cond, not, ◌&&◌, ◌||◌, List, [], ◌∷◌, ◌++◌, length, Some, None, Option, nat_le}
use Rattle.std.specs.List.{flat_map}
use Rattle.std.specs.Str.{bytes_eq}
use Rattle.topics.specs.Names.{is_client_id, is_topic_filter}
use Rattle.topics.specs.Qos.{qos_number, qos_of}
use Rattle.topics.specs.Subscription.{Subscribed}
use Rattle.topics.specs.declared.qos.Qos.{Qos}
use Rattle.rows.specs.Text.{text_bytes, text_in}

-- a session: its client identifier, and its subscriptions in their order
pub record Session : Type 0 where
  pub client : List ℕ
  pub filters : List Subscribed

-- the most filters that a session has
abbrev pub max_filters : ℕ
max_filters = 8

-- one of the subscriptions has this filter
abbrev pub stands : List ℕ → List Subscribed → Bool
stands f [] = false
stands f (s ∷ ss) = bytes_eq f s.filter || stands f ss

-- each filter is a topic filter, and none stands twice
abbrev pub lawful_filters : List Subscribed → Bool
lawful_filters [] = true
lawful_filters (s ∷ ss) = is_topic_filter s.filter && (not (stands s.filter ss) && lawful_filters ss)

-- a lawful session: a client identifier, and at most eight topic filters, none twice
abbrev pub lawful_session : Session → Bool
lawful_session s = is_client_id s.client && (nat_le (length s.filters) max_filters && lawful_filters s.filters)

-- a subscription in a row: the quality of service, then the filter behind its length
abbrev pub filter_bytes : Subscribed → List ℕ
filter_bytes s = qos_number s.qos ∷ text_bytes s.filter

-- a session's row: the client identifier behind its length, the number of filters, the filters
abbrev pub encode : Session → List ℕ
encode s = text_bytes s.client ++ length s.filters ∷ flat_map filter_bytes s.filters

-- a topic filter with its quality of service, and what follows
abbrev pub qualified : Option Qos → Option (List ℕ × List ℕ) → Option (Subscribed × List ℕ)
qualified None t = None
qualified (Some q) None = None
qualified (Some q) (Some p) = cond (is_topic_filter p.0) (Some (record { filter = p.0; qos = q }, p.1)) None

-- the subscription at the front, and what follows
unfoldable pub filter_in : List ℕ → Option (Subscribed × List ℕ)
filter_in [] = None
filter_in (q ∷ bs) = qualified (qos_of q) (text_in bs)

-- one more in front, unless its filter stands again later
abbrev pub in_front : Subscribed → Option (List Subscribed) → Option (List Subscribed)
in_front s None = None
in_front s (Some ss) = cond (stands s.filter ss) None (Some (s ∷ ss))

-- a subscription, and the rest read by f
abbrev pub then_rest : (List ℕ → Option (List Subscribed)) → Option (Subscribed × List ℕ) → Option (List Subscribed)
then_rest f None = None
then_rest f (Some p) = in_front p.0 (f p.1)

-- exactly so many subscriptions, no filter twice, and no byte left over
abbrev pub filters_in : ℕ → List ℕ → Option (List Subscribed)
filters_in zero [] = Some []
filters_in zero (b ∷ bs) = None
filters_in (suc n) bs = then_rest (filters_in n) (filter_in bs)

abbrev pub named : List ℕ → Option (List Subscribed) → Option Session
named client None = None
named client (Some ss) = Some (record { client = client; filters = ss })

-- behind the client identifier: the number of filters, and the filters
abbrev pub after_client : List ℕ → List ℕ → Option Session
after_client client [] = None
after_client client (n ∷ bs) = cond (nat_le n max_filters) (named client (filters_in n bs)) None

abbrev pub from_client : Option (List ℕ × List ℕ) → Option Session
from_client None = None
from_client (Some p) = cond (is_client_id p.0) (after_client p.0 p.1) None

-- the session that a row holds, or none where the bytes are against the layout
unfoldable pub decode : List ℕ → Option Session
decode bs = from_client (text_in bs)

-- lawful sessions come back from their rows, every row that is read is that of a lawful session,
-- and no row is longer than 553 bytes
pub record SessionLaw : Type 0 where
  pub there : (s : Session) → lawful_session s ≡ true → decode (encode s) ≡ Some s
  pub back : (bs : List ℕ) (s : Session) → decode bs ≡ Some s → (encode s ≡ bs) × (lawful_session s ≡ true)
  pub short : (s : Session) → lawful_session s ≡ true → length (encode s) ≤ 553
