-- Message rows as views that borrow from them.
use Rattle.std.specs.Prelude.{ℕ, zero, suc, ◌/◌, ◌%◌, cond, List, [], ◌∷◌, Some, None, Option, ◌==◌}
use Rattle.std.specs.Borrow.{Bor}
use Rattle.messages.specs.declared.parts.Target.{Target}
use Rattle.messages.specs.declared.view.MessageRow.{MessageRow}
use Rattle.messages.specs.declared.view.Targets.{Targets}
use Rattle.messages.specs.Message.{Message, sessions}
use Rattle.messages.specs.Target.{target_in}

abbrev pub owed_rest : (List ℕ → List (Option Target)) → Option (Target × List ℕ) → List (Option Target)
owed_rest f None = None ∷ f []
owed_rest f (Some p) = Some p.0 ∷ f p.1

-- what so many sessions are owed, by the map and the targets at the front
unfoldable pub owed : ℕ → ℕ → List ℕ → List (Option Target)
owed zero m bs = []
owed (suc k) m bs = cond (m % 2 == 0) (None ∷ owed k (m / 2) bs) (owed_rest (owed k (m / 2)) (target_in bs))

-- what a view's sessions are owed
abbrev pub targets_of : Targets → List (Option Target)
targets_of v = owed sessions v.map v.tail.now

-- the message that a view shows
abbrev pub message_of : MessageRow → Message
message_of v =
    record { rank = v.rank; origin = v.origin; targets = targets_of v.targets; topic = v.topic.now; payload = v.payload.now }

-- what the borrowed rest holds
abbrev pub with_rest : {A : Type 0} → Option (A × Bor (List ℕ)) → Option (A × List ℕ)
with_rest None = None
with_rest (Some p) = Some (p.0, p.1.now)

-- the rest alone
abbrev pub rest_of : Option (List (Option Target) × List ℕ) → Option (List ℕ)
rest_of None = None
rest_of (Some p) = Some p.1
