-- Messages as they begin and as deliveries change them.
use Rattle.std.specs.Prelude.{◌≡◌, ℕ, zero, suc, ◌<◌, ◌≤◌, Bool, true, false, cond, not, ◌≢◌, List, [], ◌∷◌, map, length, is_some, Some, None, Ok, Err, Option, Result, slice_index_or}
use Rattle.std.specs.Option.{option_map}
use Rattle.topics.specs.declared.qos.Qos.{Qos}
use Rattle.rows.specs.declared.write.Unwritten.{Unwritten}
use Rattle.rows.specs.declared.write.Unwritten.TheVariants.{Unlawful, Absent, Over}
use Rattle.messages.specs.declared.parts.Origin.{Origin}
use Rattle.messages.specs.declared.parts.State.{State}
use Rattle.messages.specs.declared.parts.State.TheVariants.{Waiting}
use Rattle.messages.specs.declared.parts.Target.{Target}
use Rattle.messages.specs.Message.{Message, encode, held, lawful_message, sessions}
use Rattle.messages.specs.Target.{lawful_target}

-- what a session of a message is owed, none where it is no target
abbrev pub target_of : Message → ℕ → Option Target
target_of m s = slice_index_or m.targets s None

-- a list with the element at a place replaced; beyond its end nothing is
abbrev pub replaced : List (Option Target) → ℕ → Option Target → List (Option Target)
replaced [] s t = []
replaced (x ∷ xs) zero t = t ∷ xs
replaced (x ∷ xs) (suc s) t = x ∷ replaced xs s t

-- the message with one session's target replaced
abbrev pub with_target : Message → ℕ → Option Target → Message
with_target m s t = record { rank = m.rank; origin = m.origin; targets = replaced m.targets s t; topic = m.topic; payload = m.payload }

-- the message without its origin
abbrev pub without_origin : Message → Message
without_origin m = record { rank = m.rank; origin = None; targets = m.targets; topic = m.topic; payload = m.payload }

-- neither an origin nor a target stands
abbrev pub is_over : Message → Bool
is_over m = not (held m.origin m.targets)

-- a target that waits for its first sending
abbrev pub waiting_at : Qos → Target
waiting_at q = record { qos = q; state = Waiting }

-- what each session is owed at first, by the quality of service that it is to get
abbrev pub waiting : List (Option Qos) → List (Option Target)
waiting qs = map (option_map waiting_at) qs

-- a new message: all its targets wait
abbrev pub new_message : ℕ → Option Origin → List (Option Qos) → List ℕ → List ℕ → Message
new_message rank origin qs topic payload = record { rank = rank; origin = origin; targets = waiting qs; topic = topic; payload = payload }

-- the row of a message, unless it is against the layout
abbrev pub row_of : Message → Result (List ℕ) Unwritten
row_of m = cond (lawful_message m) (Ok (encode m)) (Err Unlawful)

-- the row of a message of which something was finished, unless it is over
abbrev pub left_of : Message → Result (List ℕ) Unwritten
left_of m = cond (is_over m) (Err Over) (row_of m)

-- a target moved to another state
abbrev pub in_state : State → Target → Target
in_state st t = record { qos = t.qos; state = st }

-- the row after a session's target is in another state; refused where the session is no target
abbrev pub state_set : Message → ℕ → State → Result (List ℕ) Unwritten
state_set m s st = cond (is_some (target_of m s)) (row_of (with_target m s (option_map (in_state st) (target_of m s)))) (Err Absent)

-- the row after a session's target is finished; refused where the session is no target
abbrev pub target_finished : Message → ℕ → Result (List ℕ) Unwritten
target_finished m s = cond (is_some (target_of m s)) (left_of (with_target m s None)) (Err Absent)

-- the row after the origin is finished; refused where there is none
abbrev pub origin_finished : Message → Result (List ℕ) Unwritten
origin_finished m = cond (is_some m.origin) (left_of (without_origin m)) (Err Absent)

-- a replaced target is the session's, all other targets stay, and a lawful message stays lawful or is over
pub record EditLaw : Type 0 where
  pub own : (m : Message) (s : ℕ) (t : Option Target) → s < length m.targets → target_of (with_target m s t) s ≡ t
  pub others : (m : Message) (s k : ℕ) (t : Option Target) → k ≢ s → target_of (with_target m s t) k ≡ target_of m k
  pub beyond : (m : Message) (s : ℕ) (t : Option Target) → length m.targets ≤ s → with_target m s t ≡ m
  pub set : (m : Message) (s : ℕ) (t : Target) → lawful_message m ≡ true → s < sessions → lawful_target t ≡ true → lawful_message (with_target m s (Some t)) ≡ true
  pub finished : (m : Message) (s : ℕ) → lawful_message m ≡ true → lawful_message (with_target m s None) ≡ not (is_over (with_target m s None))
  pub released : (m : Message) → lawful_message m ≡ true → lawful_message (without_origin m) ≡ not (is_over (without_origin m))
  pub over : (m : Message) → is_over m ≡ true → lawful_message m ≡ false
