-- Every call decides from what it finds, writes its rows, and only then changes what the broker keeps.
use Rattle.std.specs.Prelude.{ℕ, cond, List, [], ◌∷◌, Ok, Err, Result}
use Rattle.store.specs.Disk.{Disk, absent, put_answer, stands, drop_answer, removed}
use Rattle.store.specs.declared.kind.Kind.{Kind}
use Rattle.store.specs.declared.kind.Refusal.{Refusal as StoreRefusal}
use Rattle.broker.specs.declared.answer.Refusal.{Refusal}
use Rattle.broker.specs.Answer.{Answer, from_store}
use Rattle.broker.specs.State.{Broker, stopped}

-- one write: a row put, or dropped
pub data Write : Type 0 where
  write : Kind → ℕ → List ℕ → Write
  erase : Kind → ℕ → Write

-- what the store answers to a write
abbrev pub tried : Disk → Write → Result (Unit {0}) StoreRefusal
tried d (write k n row) = put_answer d k n row
tried d (erase k n) = drop_answer d k n

-- the disk after a write that the store took
abbrev pub written : Disk → Write → Disk
written d (write k n row) = stands d k n row
written d (erase k n) = cond (absent d k n) d (removed d k n)

-- writes performed until one is refused: all of them were taken, or why not; and the disk then
pub data Performed : Type 0 where
  all : Disk → Performed
  until : StoreRefusal → Disk → Performed

abbrev pub then_rest : Result (Unit {0}) StoreRefusal → Disk → Performed → Performed
then_rest (Ok u) d rest = rest
then_rest (Err r) d rest = until r d

abbrev pub perform : Disk → List Write → Performed
perform d [] = all d
perform d (w ∷ ws) = then_rest (tried d w) d (perform (written d w) ws)

-- what a call has decided before its first write: a refusal and the broker then; or its answer, the bytes that it hands out,
-- its writes, and the broker once they are taken
pub data Plan : Type 0 where
  refuse : Refusal → Broker → Plan
  done : ℕ → List ℕ → List Write → Broker → Plan

-- what a call comes to: answer, bytes handed out, broker and disk then
pub record After : Type 0 where
  pub answer : Answer
  pub bytes : List ℕ
  pub broker : Broker
  pub disk : Disk

abbrev pub after : Answer → List ℕ → Broker → Disk → After
after a bs b d = record { answer = a; bytes = bs; broker = b; disk = d }

-- a write that was not taken stops the broker, which keeps all else
abbrev pub settled : Broker → ℕ → List ℕ → Broker → Performed → After
settled b n bs b' (all d) = after (Ok n) bs b' d
settled b n bs b' (until r d) = after (Err (from_store r)) [] (stopped b) d

-- the plan of a call carried out
abbrev pub settle : Broker → Disk → Plan → After
settle b d (refuse r b') = after (Err r) [] b' d
settle b d (done n bs ws b') = settled b n bs b' (perform d ws)
