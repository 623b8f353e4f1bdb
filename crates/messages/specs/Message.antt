-- Messages and the rows that hold them.
use Rattle.std.specs.Prelude.{◌≡◌, ℕ, ◌+◌, ◌*◌, ◌/◌, ◌%◌, ◌<◌, ◌≤◌, Bool, true, cond, ◌&&◌, ◌||◌, List, [], ◌∷◌, ◌++◌, length, is_some, Some, None, Option, ◌==◌, nat_le, nat_lt, slice_index}
use Rattle.topics.specs.Names.{is_topic_name}
use Rattle.rows.specs.Text.{text_bytes, text_in}
use Rattle.messages.specs.declared.parts.Origin.{Origin}
use Rattle.messages.specs.declared.parts.Target.{Target}
use Rattle.messages.specs.Target.{bind, lawful_targets, map_of, some_target, target_bytes, targets_in}

-- a message: its rank, the publisher's session and identifier while that is open, what each session is owed, topic and payload
pub record Message : Type 0 where
  pub rank : ℕ
  pub origin : Option Origin
  pub targets : List (Option Target)
  pub topic : List ℕ
  pub payload : List ℕ

-- sessions are numbered below this
abbrev pub sessions : ℕ
sessions = 32

-- the most bytes that a payload has
abbrev pub max_payload : ℕ
max_payload = 256

-- four bytes, the high one first
abbrev pub four_bytes : ℕ → List ℕ
four_bytes n = (n / 16777216 % 256) ∷ (n / 65536 % 256) ∷ (n / 256 % 256) ∷ (n % 256) ∷ []

-- an origin: its session and its identifier, or 255 and 0 for none
abbrev pub origin_bytes : Option Origin → List ℕ
origin_bytes None = 255 ∷ 0 ∷ 0 ∷ []
origin_bytes (Some o) = o.session ∷ (o.identifier / 256 % 256) ∷ (o.identifier % 256) ∷ []

-- a session number and an identifier of 1 to 65,535, or none
abbrev pub lawful_origin : Option Origin → Bool
lawful_origin None = true
lawful_origin (Some o) = nat_lt o.session sessions && (nat_lt 0 o.identifier && nat_lt o.identifier 65536)

-- what a row must hold beside lawful targets: an origin or a target stands
abbrev pub held : Option Origin → List (Option Target) → Bool
held origin targets = is_some origin || some_target targets

-- a lawful message
abbrev pub lawful_message : Message → Bool
lawful_message m =
    (nat_lt 0 m.rank && nat_lt m.rank 4294967296) && (lawful_origin m.origin
    && ((length m.targets == sessions && lawful_targets m.targets)
    && (is_topic_name m.topic && (nat_le (length m.payload) max_payload && held m.origin m.targets))))

-- a message's row: rank, origin, map of the targets, their bytes, the topic behind its length, the payload
abbrev pub encode : Message → List ℕ
encode m =
    four_bytes m.rank ++ (origin_bytes m.origin ++ (four_bytes (map_of m.targets)
    ++ (target_bytes m.targets ++ (text_bytes m.topic ++ m.payload))))

-- a number of four bytes, and what follows
abbrev pub number_in : List ℕ → Option (ℕ × List ℕ)
number_in [] = None
number_in (a ∷ []) = None
number_in (a ∷ b ∷ []) = None
number_in (a ∷ b ∷ c ∷ []) = None
number_in (a ∷ b ∷ c ∷ d ∷ bs) = Some (a * 16777216 + b * 65536 + c * 256 + d, bs)

-- an origin by its session and identifier
abbrev pub origin_of : ℕ → ℕ → Option (Option Origin)
origin_of s i =
    cond (s == 255 && i == 0) (Some None)
    (cond (nat_lt s sessions && nat_lt 0 i) (Some (Some (record { session = s; identifier = i }))) None)

-- an origin or none, and what follows
abbrev pub origin_in : List ℕ → Option (Option Origin × List ℕ)
origin_in [] = None
origin_in (s ∷ []) = None
origin_in (s ∷ a ∷ []) = None
origin_in (s ∷ a ∷ b ∷ bs) = bind (origin_of s (a * 256 + b)) (λ o. Some (o, bs))

-- the message of these parts
abbrev pub of_parts : ℕ → Option Origin → List (Option Target) → List ℕ → List ℕ → Option Message
of_parts rank origin targets topic payload =
    cond (nat_lt 0 rank && (is_topic_name topic && (nat_le (length payload) max_payload && held origin targets)))
    (Some (record { rank = rank; origin = origin; targets = targets; topic = topic; payload = payload })) None

-- step by step: the topic and the payload, the targets, their map, the origin, the rank
abbrev pub from_topic : ℕ → Option Origin → List (Option Target) → List ℕ × List ℕ → Option Message
from_topic rank origin targets p = of_parts rank origin targets p.0 p.1

abbrev pub from_targets : ℕ → Option Origin → List (Option Target) × List ℕ → Option Message
from_targets rank origin t = bind (text_in t.1) (from_topic rank origin t.0)

abbrev pub from_map : ℕ → Option Origin → ℕ × List ℕ → Option Message
from_map rank origin m = bind (targets_in sessions m.0 m.1) (from_targets rank origin)

abbrev pub from_origin : ℕ → Option Origin × List ℕ → Option Message
from_origin rank o = bind (number_in o.1) (from_map rank o.0)

abbrev pub from_rank : ℕ × List ℕ → Option Message
from_rank r = bind (origin_in r.1) (from_origin r.0)

-- the message that a row holds, or none where the bytes are against the layout
unfoldable pub decode : List ℕ → Option Message
decode bs = bind (number_in bs) from_rank

-- lawful messages come back from their rows, every row that is read is that of a lawful message, and no row is longer than 364 bytes
pub record MessageLaw : Type 0 where
  pub there : (m : Message) → lawful_message m ≡ true → decode (encode m) ≡ Some m
  pub back : (bs : List ℕ) (m : Message) → ((i : ℕ) → slice_index bs i < 256) → decode bs ≡ Some m → (encode m ≡ bs) × (lawful_message m ≡ true)
  pub short : (m : Message) → lawful_message m ≡ true → length (encode m) ≤ 364
