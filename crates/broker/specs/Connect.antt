-- CONNECT on an opened link.
use Rattle.std.specs.Prelude.{◌≡◌, ℕ, ◌<◌, true, false, cond, List, [], ◌∷◌, Some, None, Option, ◌==◌}
use Rattle.store.specs.Disk.{Disk}
use Rattle.store.specs.declared.kind.Kind.TheVariants.{Session as session}
use Rattle.topics.specs.Names.{is_client_id}
use Rattle.packets.specs.Packet.{connack}
use Rattle.messages.specs.Message.{sessions}
use Rattle.sessions.specs.Session.{encode}
use Rattle.searches.specs.At.{is_free}
use Rattle.searches.specs.Search.{free_session, session_of_client}
use Rattle.broker.specs.declared.link.Link.TheVariants.{Rejected}
use Rattle.broker.specs.declared.link.Rejection.{Rejection}
use Rattle.broker.specs.declared.link.Rejection.TheVariants.{Identifier, Full}
use Rattle.broker.specs.Plan.{Plan, done, write}
use Rattle.broker.specs.State.{Broker, connected, with_link}

-- rejected: one CONNACK is left to hand out; the call is done with 32, which is no session
abbrev pub reject : Broker → ℕ → Rejection → Plan
reject b l why = done sessions [] [] (with_link b l (Rejected why))

-- a new session needs a number and a free row: its row is written with the number k
abbrev pub begin : Broker → Disk → ℕ → ℕ → List ℕ → Option ℕ → Plan
begin b d k l client None = reject b l Full
begin b d k l client (Some n) =
    cond (d.free == 0) (reject b l Full)
    (done k [] (write session k (encode (record { client = client; filters = [] })) ∷ []) (connected b l k (connack false 0)))

-- a session that stands is carried on without a write
abbrev pub carry_on : Broker → Disk → ℕ → ℕ → List ℕ → Option ℕ → Plan
carry_on b d k l client (Some n) = done n [] [] (connected b l n (connack true 0))
carry_on b d k l client None = begin b d k l client (free_session d)

-- CONNECT: the client identifier is judged, then its session is looked for; k is the number of a new one
unfoldable pub connect_plan : Broker → Disk → ℕ → ℕ → List ℕ → Plan
connect_plan b d k l client = cond (is_client_id client) (carry_on b d k l client (session_of_client d client)) (reject b l Identifier)

-- k is a free session number if there is any
abbrev pub Chosen : Disk → ℕ → Type 0
Chosen d k = (n : ℕ) → n < sessions → is_free d session n ≡ true → (k < sessions) × (is_free d session k ≡ true)
