-- SUBSCRIBE and UNSUBSCRIBE.
use Rattle.std.specs.Prelude.{ℕ, List, [], ◌∷◌, map, Some, None, Option}
use Rattle.store.specs.Disk.{Disk}
use Rattle.store.specs.declared.kind.Kind.TheVariants.{Session as session}
use Rattle.topics.specs.Qos.{qos_number}
use Rattle.topics.specs.Subscription.{Subscribed}
use Rattle.topics.specs.declared.qos.Qos.{Qos}
use Rattle.topics.specs.declared.qos.Qos.TheVariants.{AtMostOnce}
use Rattle.packets.specs.Filters.{Entry}
use Rattle.packets.specs.Packet.{Content, suback, unsuback}
use Rattle.sessions.specs.Session.{Session, encode}
use Rattle.session_edits.specs.Filters.{grants, subscribe_all, unsubscribe_all}
use Rattle.searches.specs.At.{session_at}
use Rattle.broker.specs.declared.answer.Refusal.TheVariants.{StoreGone}
use Rattle.broker.specs.Plan.{Plan, refuse, done, write}
use Rattle.broker.specs.Publish.{due}
use Rattle.broker.specs.State.{Broker, queued, stopped}

-- the quality of service that a filter of a packet asks for
abbrev pub asked_qos : Option Qos → Qos
asked_qos None = AtMostOnce
asked_qos (Some q) = q

-- the subscriptions that a packet asks for, in their order
abbrev pub asked : List Entry → List Subscribed
asked es = map (λ e. record { filter = e.filter; qos = asked_qos e.qos }) es

-- the filters of a packet, in their order
abbrev pub filters_of : List Entry → List (List ℕ)
filters_of es = map (λ e. e.filter) es

-- the return code for a filter: the quality of service granted, or 0x80 where there is no room for it
abbrev pub code_of : Option Qos → ℕ
code_of None = 128
code_of (Some q) = qos_number q

-- a session's row written with other filters, then the reply; a session without a row is the store gone
abbrev pub refilter : Broker → ℕ → ℕ → (List Subscribed → List Subscribed) → (List Subscribed → Content) → Option Session → Plan
refilter b l s change reply None = refuse StoreGone (stopped b)
refilter b l s change reply (Some x) =
    done 0 [] (write session s (encode (record { client = x.client; filters = change x.filters })) ∷ [])
    (queued b l (reply x.filters ∷ []))

-- SUBSCRIBE: the filters are taken one by one, with one write and a SUBACK
unfoldable pub subscribe_plan : Broker → Disk → ℕ → ℕ → ℕ → List Entry → Plan
subscribe_plan b d l s id es =
    due b l
    (refilter b l s (λ ss. subscribe_all ss (asked es)) (λ ss. suback id (map code_of (grants ss (asked es)))) (session_at d s))

-- UNSUBSCRIBE: equal filters go, with one write and an UNSUBACK
unfoldable pub unsubscribe_plan : Broker → Disk → ℕ → ℕ → ℕ → List Entry → Plan
unsubscribe_plan b d l s id es = due b l (refilter b l s (λ ss. unsubscribe_all ss (filters_of es)) (λ ss. unsuback id) (session_at d s))
