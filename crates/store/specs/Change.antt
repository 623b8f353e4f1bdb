-- Changes made to a store one after another: which are done, and what the done ones make of it.
use Rattle.std.specs.Prelude.{◌≡◌, ℕ, ◌<◌, ◌≤◌, cond, ◌⊎◌, List, [], ◌∷◌, length, is_ok, Ok, Err, vec_items, Decides, fold, Result, Vec}
use Rattle.std.specs.declared.alloc.AllocError.{AllocError}
use Rattle.std.specs.declared.alloc.Global.{Global}
use Rattle.store.specs.declared.kind.Kind.{Kind}
use Rattle.store.specs.declared.kind.Refusal.{Refusal}
use Rattle.store.specs.declared.change.Change.{Change}
use Rattle.store.specs.declared.change.Change.TheVariants.{Put, Remove}
use Rattle.store.specs.Disk.{Disk, absent, put_answer, stands, drop_answer, removed}

-- done, or why not
abbrev pub Outcome : Type 0
Outcome = Result (Unit {0}) Refusal

-- a put can be done: the key is good, the row has 1 to 560 bytes, a write is left, and the row stands or a row is free
pub record PutPossible (d : Disk) (k : Kind) (n : ℕ) (row : List ℕ) : Type 0 where
  pub key : n < d.limit k
  pub filled : 0 < length row
  pub short : length row ≤ 560
  pub write : 0 < d.writes
  pub room : (0 < length (d.rows k n)) ⊎ (0 < d.free)

-- a drop can be done: the key is good, and the row is absent or a write is left
pub record DropPossible (d : Disk) (k : Kind) (n : ℕ) : Type 0 where
  pub key : n < d.limit k
  pub write : (length (d.rows k n) ≡ 0) ⊎ (0 < d.writes)

-- a change can be done
abbrev pub Possible : Disk → Change → Type 0
Possible d (Put k n row) = PutPossible d k n (vec_items row)
Possible d (Remove k n) = DropPossible d k n

-- what a change that is done makes of the disk; dropping an absent row changes nothing
abbrev pub changed : Disk → Change → Disk
changed d (Put k n row) = stands d k n (vec_items row)
changed d (Remove k n) = cond (absent d k n) d (removed d k n)

-- the disk after a change that answered r
abbrev pub after : Outcome → Disk → Change → Disk
after r d c = cond (is_ok r) (changed d c) d

-- what one change answers
abbrev pub outcome : Disk → Change → Outcome
outcome d (Put k n row) = put_answer d k n (vec_items row)
outcome d (Remove k n) = drop_answer d k n

-- what each change answers on the disk that those before it left
abbrev pub outcomes : Disk → List Change → List Outcome
outcomes d [] = []
outcomes d (c ∷ cs) = outcome d c ∷ outcomes (after (outcome d c) d c) cs

-- there is one outcome for each change, done exactly when the change is possible on the disk then
abbrev pub DoneWhenPossible : Disk → List Change → List Outcome → Type 0
DoneWhenPossible d [] [] = Unit {0}
DoneWhenPossible d [] (r ∷ rs) = ⊥
DoneWhenPossible d (c ∷ cs) [] = ⊥
DoneWhenPossible d (c ∷ cs) (r ∷ rs) = Decides (is_ok r) (Possible d c) × DoneWhenPossible (after r d c) cs rs

-- the changes that were done, in order
abbrev pub done_of : List Change → List Outcome → List Change
done_of [] rs = []
done_of (c ∷ cs) [] = []
done_of (c ∷ cs) (r ∷ rs) = cond (is_ok r) (c ∷ done_of cs rs) (done_of cs rs)

-- the disk after a list of changes: the done ones, in order, make it what it is; want of memory leaves it as it was
abbrev pub apply_after : Result (Vec Outcome Global) AllocError → Disk → List Change → Disk
apply_after (Ok rs) d cs = fold changed d (done_of cs (vec_items rs))
apply_after (Err e) d cs = d
