-- Changes of rows in the order in which they were made, and what they come to.
use Rattle.std.specs.Prelude.{◌≡◌, ℕ, zero, suc, ◌+◌, ◌*◌, ◌<◌, ◌≤◌, Bool, false, cond, not, ◌&&◌, ◌||◌, List, [], ◌∷◌, ◌++◌, length, fold, ◌==◌, nat_lt}
use Rattle.std.specs.List.{AllByRecursion}
use Rattle.store.specs.declared.kind.Kind.{Kind}
use Rattle.store.specs.declared.kind.Kind.TheVariants.{Session, Message}
use Rattle.store.specs.Kind.{same_kind}
use Rattle.store.specs.Disk.{with_row}
use Rattle.store.specs.Making.{made_limit}

-- a row is put at a key; no bytes mean that the row at the key is dropped
pub record Change : Type 0 where
  pub kind : Kind
  pub number : ℕ
  pub row : List ℕ

-- the row at a key becomes these bytes
abbrev pub change_to : Kind → ℕ → List ℕ → Change
change_to k n row = record { kind = k; number = n; row = row }

-- the change is of this key
abbrev pub of_key : Change → Kind → ℕ → Bool
of_key c k n = same_kind k c.kind && n == c.number

-- the change puts a row
abbrev pub puts : Change → Bool
puts c = nat_lt 0 (length c.row)

-- the rows once a change is made
abbrev pub changed : (Kind → ℕ → List ℕ) → Change → Kind → ℕ → List ℕ
changed rows c = with_row rows c.kind c.number c.row

-- the rows once the changes are made in order, where none stood
abbrev pub replay : List Change → Kind → ℕ → List ℕ
replay cs = fold changed (λ k n. []) cs

-- some change is of this key
abbrev pub mentioned : List Change → Kind → ℕ → Bool
mentioned [] k n = false
mentioned (c ∷ cs) k n = of_key c k n || mentioned cs k n

-- the changes that put a row and that no later change of the same key supersedes, in order; the others are dead
abbrev pub live : List Change → List Change
live [] = []
live (c ∷ cs) = cond (puts c && not (mentioned cs c.kind c.number)) (c ∷ live cs) (live cs)

-- one change more; where all places are taken, dead changes are cleared first
abbrev pub appended : ℕ → List Change → Change → List Change
appended places cs c = cond (nat_lt (length cs) places) cs (live cs) ++ c ∷ []

-- 1 for a row that stands, 0 for none
abbrev pub weight : List ℕ → ℕ
weight row = cond (length row == 0) 0 1

-- how many rows stand at the numbers below a limit
unfoldable pub standing_below : ℕ → (ℕ → List ℕ) → ℕ
standing_below zero rows = 0
standing_below (suc n) rows = standing_below n rows + weight (rows n)

-- how many rows stand
abbrev pub standing : (Kind → ℕ → List ℕ) → ℕ
standing rows = standing_below 128 (rows Session) + standing_below 1024 (rows Message)

-- the key of a change lies within the limits
abbrev pub Inside : Change → Type 0
Inside c = c.number < made_limit c.kind

-- clearing the dead changes keeps every row, leaves nothing more to clear, and leaves as many changes as rows stand
pub record ClearingKeeps (cs : List Change) : Type 0 where
  pub rows : (k : Kind) (n : ℕ) → replay (live cs) k n ≡ replay cs k n
  pub again : live (live cs) ≡ live cs
  pub count : AllByRecursion Inside cs → length (live cs) ≡ standing (replay cs)

abbrev pub ClearingLaw : Type 0
ClearingLaw = (cs : List Change) → ClearingKeeps cs

-- where at most n rows stand and 2n + 1 changes have places, one change more always has a place, and after a clearing n more have
pub record RoomLeft (n : ℕ) (cs : List Change) (c : Change) : Type 0 where
  pub fits : length (appended (2 * n + 1) cs c) ≤ 2 * n + 1
  pub spare : 2 * n + 1 ≤ length cs → length (appended (2 * n + 1) cs c) + n ≤ 2 * n + 1

abbrev pub RoomLaw : Type 0
RoomLaw = (n : ℕ) (cs : List Change) (c : Change) → length (live cs) ≤ n → length cs ≤ 2 * n + 1 → RoomLeft n cs c
