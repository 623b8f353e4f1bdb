-- Operations on a store one after another.
use Rattle.std.specs.Prelude.{◌≡◌, ℕ, zero, suc, ◌<◌, ◌≤◌, cond, ◌⊎◌, List, [], ◌∷◌, ◌++◌, length, drop, is_ok, Ok, Err, Result, Vec}
use Rattle.std.specs.declared.alloc.AllocError.{AllocError}
use Rattle.std.specs.declared.alloc.Global.{Global}
use Rattle.store.specs.Disk.{Disk}
use Rattle.store.specs.Making.{empty_disk}
use Rattle.store.specs.declared.making.MakeError.{MakeError}
use Rattle.store.specs.declared.making.MakeError.TheVariants.{Bad, NoMemory}
use Rattle.exports.specs.Operation.{operation_in, reply, disk_after, buffer_after}

-- what each operation answers on the disk and the buffer that those before it left
abbrev pub replies : Disk → List ℕ → List ℕ → List ℕ → List ℕ
replies d pool b [] = []
replies d pool b (w ∷ ws) =
    reply d pool b (operation_in w) ∷ replies (disk_after d pool (operation_in w)) pool (buffer_after d b (operation_in w)) ws

-- the buffer that they leave
abbrev pub last_buffer : Disk → List ℕ → List ℕ → List ℕ → List ℕ
last_buffer d pool b [] = b
last_buffer d pool b (w ∷ ws) = last_buffer (disk_after d pool (operation_in w)) pool (buffer_after d b (operation_in w)) ws

-- without memory nothing is performed
abbrev pub buffer_once_run : Result (Vec ℕ Global) AllocError → Disk → List ℕ → List ℕ → List ℕ → List ℕ
buffer_once_run r d pool b ws = cond (is_ok r) (last_buffer d pool b ws) b

-- the number that tells how a script ended: 0 for performed, 1 for bad, 2 for no memory
abbrev pub code_of : Result (Unit {0}) MakeError → ℕ
code_of (Ok u) = 0
code_of (Err Bad) = 1
code_of (Err NoMemory) = 2

-- buffer and answers before (b, as) and after (b', as') a script on a disk, by the number that came: all performed, too few places, no memory
abbrev pub RanOn : Disk → List ℕ → List ℕ → List ℕ → List ℕ → ℕ → List ℕ → List ℕ → Type 0
RanOn d ws pool b xs zero b' xs' =
    (length ws ≤ length xs) × (b' ≡ last_buffer d pool b ws) × (xs' ≡ replies d pool b ws ++ drop (length ws) xs)
RanOn d ws pool b xs (suc zero) b' xs' = (length xs < length ws) × (b' ≡ b) × (xs' ≡ xs)
RanOn d ws pool b xs (suc (suc zero)) b' xs' = (length ws ≤ length xs) × (b' ≡ b) × (xs' ≡ xs)
RanOn d ws pool b xs (suc (suc (suc n))) b' xs' = ⊥

-- the same on a store made for a number of rows, of which more than 1,152 are bad
abbrev pub Ran : ℕ → List ℕ → List ℕ → List ℕ → List ℕ → ℕ → List ℕ → List ℕ → Type 0
Ran rows ws pool b xs zero b' xs' = (rows ≤ 1152) × RanOn (empty_disk rows) ws pool b xs 0 b' xs'
Ran rows ws pool b xs (suc zero) b' xs' = ((1152 < rows) ⊎ (length xs < length ws)) × (b' ≡ b) × (xs' ≡ xs)
Ran rows ws pool b xs (suc (suc zero)) b' xs' = (rows ≤ 1152) × (b' ≡ b) × (xs' ≡ xs)
Ran rows ws pool b xs (suc (suc (suc n))) b' xs' = ⊥
