-- Where the latest change of each key stands among the changes, and how far a clearing has come.
use Rattle.std.specs.Prelude.{◌≡◌, ℕ, ◌+◌, ◌<◌, ◌≤◌, true, false, cond, List, [], ◌∷◌, ◌++◌, length, take, drop, Some, None, Option, vec_items, slice_index_or}
use Rattle.store.specs.declared.kind.Kind.{Kind}
use Rattle.journal.specs.declared.index.Index.{Index}
use Rattle.store.specs.Making.{made_limit}
use Rattle.store.specs.Key.{slot}
use Rattle.journal.specs.Changes.{Change, of_key, puts, mentioned, live}

-- what it has in each slot
abbrev pub pointers : Index → List (Option ℕ)
pointers x = vec_items x.slots

-- what is known of a key once the change at place p is looked at, where o was known before
abbrev pub noted : ℕ → Change → Kind → ℕ → Option ℕ → Option ℕ
noted p c k n o = cond (of_key c k n) (cond (puts c) (Some p) None) o

-- the same once changes are looked at whose first is at place p
abbrev pub latest_from : ℕ → List Change → Kind → ℕ → Option ℕ → Option ℕ
latest_from p [] k n o = o
latest_from p (c ∷ cs) k n o = latest_from (p + 1) cs k n (noted p c k n o)

-- the place of a key's latest change, if that change puts a row
abbrev pub latest : List Change → Kind → ℕ → Option ℕ
latest cs k n = latest_from 0 cs k n None

-- the index has, at each key's slot, the place of the key's latest change
abbrev pub Knows : List (Option ℕ) → List Change → Type 0
Knows index cs = (k : Kind) (n : ℕ) → n < made_limit k → slice_index_or index (slot k n) None ≡ latest cs k n

-- a clearing of xs has looked at the first i changes and moved the k live ones among them to the front of ys
pub record Clearing (xs ys : List Change) (index : List (Option ℕ)) (k i : ℕ) : Type 0 where
  pub front : live xs ≡ take k ys ++ live (drop i xs)
  pub rest : drop i ys ≡ drop i xs
  pub behind : k ≤ i
  pub within : i ≤ length xs
  pub long : length ys ≡ length xs
  pub apart : (j : Kind) (m : ℕ) → mentioned (take k ys) j m ≡ true → mentioned (drop i xs) j m ≡ false
  pub keys : length index ≡ 1152
  pub knows : (j : Kind) (m : ℕ) → m < made_limit j → slice_index_or index (slot j m) None ≡ latest_from i (drop i xs) j m (latest (take k ys) j m)
