-- Whole runs of pushes and pops, and the list queue that they are held to.
use Rattle.std.specs.Prelude.{◌≡◌, ℕ, cond, List, [], ◌∷◌, ◌++◌, length, drop, Ok, Err, nat_lt}
use Rattle.std.specs.Option.{option_to_list}
use Rattle.std.specs.List.{flat_map, slice_get}
use Rattle.ring.specs.declared.Ring.{Ring}
use Rattle.ring.specs.declared.run.Step.{Step}
use Rattle.ring.specs.declared.run.Step.TheVariants.{Push, Pop}
use Rattle.ring.specs.declared.run.Answer.{Answer}
use Rattle.ring.specs.declared.run.Answer.TheVariants.{OfPush, OfPop}
use Rattle.ring.specs.Ring.{Pushed, Popped}

-- one step is a push or a pop, with its own answer
abbrev pub Stepped : {T : Type 0} → Ring → List T → Step T → Answer T → Ring → List T → Type 0
Stepped r xs (Push x) (OfPush a) r' xs' = Pushed r xs x a r' xs'
Stepped r xs (Push x) (OfPop o) r' xs' = ⊥
Stepped r xs Pop (OfPush a) r' xs' = ⊥
Stepped r xs Pop (OfPop o) r' xs' = Popped r xs o r' × (xs' ≡ xs)

-- from the ring r and the memory xs, the steps got the answers one by one and led to the last ring and memory
pub data Runs {T : Type 0} (r : Ring) (xs : List T) : List (Step T) → List (Answer T) → Ring → List T → Type 0 where
  start : Runs r xs [] [] r xs
  next : {ss : List (Step T)} {bs : List (Answer T)} {r₁ r₂ : Ring} {xs₁ xs₂ : List T} (s : Step T) (a : Answer T)
      → Runs r xs ss bs r₁ xs₁ → Stepped r₁ xs₁ s a r₂ xs₂ → Runs r xs (ss ++ s ∷ []) (bs ++ a ∷ []) r₂ xs₂

-- what a queue that holds ws and never more than n answers: a push is refused exactly when it is full
abbrev pub answer_of : {T : Type 0} → ℕ → List T → Step T → Answer T
answer_of n ws (Push x) = OfPush (cond (nat_lt (length ws) n) (Ok tt) (Err x))
answer_of n ws Pop = OfPop (slice_get ws 0)

-- and what it holds then: a push that is not refused appends, a pop takes the head
abbrev pub held_after : {T : Type 0} → ℕ → List T → Step T → List T
held_after n ws (Push x) = cond (nat_lt (length ws) n) (ws ++ x ∷ []) ws
held_after n ws Pop = drop 1 ws

-- the same of steps in a row
abbrev pub answers_of : {T : Type 0} → ℕ → List T → List (Step T) → List (Answer T)
answers_of n ws [] = []
answers_of n ws (s ∷ ss) = answer_of n ws s ∷ answers_of n (held_after n ws s) ss

abbrev pub held_after_all : {T : Type 0} → ℕ → List T → List (Step T) → List T
held_after_all n ws [] = ws
held_after_all n ws (s ∷ ss) = held_after_all n (held_after n ws s) ss

-- the entry that a step puts in: that of a push that is not refused
abbrev pub entering : {T : Type 0} → Step T → Answer T → List T
entering (Push x) (OfPush (Ok u)) = x ∷ []
entering (Push x) (OfPush (Err y)) = []
entering (Push x) (OfPop o) = []
entering Pop a = []

-- the entry that comes out with an answer: that of a pop
abbrev pub leaving : {T : Type 0} → Answer T → List T
leaving (OfPush a) = []
leaving (OfPop o) = option_to_list o

-- all that went in, in order
abbrev pub entered : {T : Type 0} → List (Step T) → List (Answer T) → List T
entered [] bs = []
entered (s ∷ ss) [] = []
entered (s ∷ ss) (a ∷ bs) = entering s a ++ entered ss bs

-- all that came out, in order
abbrev pub left : {T : Type 0} → List (Answer T) → List T
left bs = flat_map leaving bs

-- a queue of capacity n that held ws gave these answers to these steps and holds ws' now
pub record Queues {T : Type 0} (n : ℕ) (ws : List T) (ss : List (Step T)) (bs : List (Answer T)) (ws' : List T) : Type 0 where
  -- each answer, and what is left, is the list queue's
  pub answers : bs ≡ answers_of n ws ss
  pub after : ws' ≡ held_after_all n ws ss
  -- first in first out: those that came out and then those that wait are those that waited and then those that went in
  pub order : left bs ++ ws' ≡ ws ++ entered ss bs
