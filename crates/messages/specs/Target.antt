-- Targets of a message.
use Rattle.std.specs.Prelude.{◌≡◌, ℕ, zero, suc, ◌+◌, ◌*◌, ◌/◌, ◌%◌, Bool, true, false, cond, ◌&&◌, List, [], ◌∷◌, Some, None, Option, Result, MatchResult, ◌==◌, nat_le}
use Rattle.topics.specs.Qos.{qos_number, qos_of}
use Rattle.messages.specs.declared.parts.State.{State}
use Rattle.messages.specs.declared.parts.State.TheVariants.{Waiting, Sent, Released}
use Rattle.messages.specs.declared.parts.UnknownState.{UnknownState}
use Rattle.messages.specs.declared.parts.Target.{Target}
use Rattle.messages.specs.declared.parts.UnknownTarget.{UnknownTarget}

-- one step, and the next on what it gives
abbrev pub bind : {A B : Type 0} → Option A → (A → Option B) → Option B
bind None f = None
bind (Some x) f = f x

-- the number that stands for a state
abbrev pub state_number : State → ℕ
state_number Waiting = 1
state_number Sent = 2
state_number Released = 3

-- the state with this number
abbrev pub state_of : ℕ → Option State
state_of n = cond (n == 1) (Some Waiting) (cond (n == 2) (Some Sent) (cond (n == 3) (Some Released) None))

-- the result is the state with this number, or the number itself where none has it
abbrev pub DecodesState : ℕ → Result State UnknownState → Type 0
DecodesState n r = MatchResult r (λ s. state_of n ≡ Some s) (λ e. (state_of n ≡ None) × (e.0 ≡ n))

-- quality of service 0 knows only waiting, 1 also sent, 2 also released
abbrev pub lawful_target : Target → Bool
lawful_target t = nat_le (state_number t.state) (qos_number t.qos + 1)

-- a target's byte: quality of service × 16 + state
abbrev pub target_byte : Target → ℕ
target_byte t = qos_number t.qos * 16 + state_number t.state

abbrev pub if_lawful : Target → Option Target
if_lawful t = cond (lawful_target t) (Some t) None

-- the target in a byte
unfoldable pub target_of : ℕ → Option Target
target_of b = bind (qos_of (b / 16)) (λ q. bind (state_of (b % 16)) (λ s. if_lawful (record { qos = q; state = s })))

-- the result is the target in this byte, or the byte itself where it is against the layout
abbrev pub DecodesTarget : ℕ → Result Target UnknownTarget → Type 0
DecodesTarget b r = MatchResult r (λ t. target_of b ≡ Some t) (λ e. (target_of b ≡ None) × (e.0 ≡ b))

-- the target at the front, and what follows
abbrev pub target_in : List ℕ → Option (Target × List ℕ)
target_in [] = None
target_in (b ∷ bs) = bind (target_of b) (λ t. Some (t, bs))

-- the map of the targets: the first session's bit is the lowest
abbrev pub map_of : List (Option Target) → ℕ
map_of [] = 0
map_of (None ∷ ts) = 2 * map_of ts
map_of (Some t ∷ ts) = 1 + 2 * map_of ts

-- the bytes of the targets, by session
abbrev pub target_bytes : List (Option Target) → List ℕ
target_bytes [] = []
target_bytes (None ∷ ts) = target_bytes ts
target_bytes (Some t ∷ ts) = target_byte t ∷ target_bytes ts

-- each target is in a state that its quality of service knows
abbrev pub lawful_targets : List (Option Target) → Bool
lawful_targets [] = true
lawful_targets (None ∷ ts) = lawful_targets ts
lawful_targets (Some t ∷ ts) = lawful_target t && lawful_targets ts

-- some session is a target
abbrev pub some_target : List (Option Target) → Bool
some_target [] = false
some_target (None ∷ ts) = some_target ts
some_target (Some t ∷ ts) = true

-- one more session in front
abbrev pub add_front : Option Target → Option (List (Option Target) × List ℕ) → Option (List (Option Target) × List ℕ)
add_front t None = None
add_front t (Some p) = Some (t ∷ p.0, p.1)

-- what so many sessions are owed, by the map, and what follows the targets
unfoldable pub targets_in : ℕ → ℕ → List ℕ → Option (List (Option Target) × List ℕ)
targets_in zero m bs = Some ([], bs)
targets_in (suc k) m bs =
    cond (m % 2 == 0) (add_front None (targets_in k (m / 2) bs))
    (bind (target_in bs) (λ p. add_front (Some p.0) (targets_in k (m / 2) p.1)))
