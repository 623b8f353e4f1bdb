-- The changes that places hold.
use Rattle.std.specs.Prelude.{◌≡◌, ℕ, ◌+◌, List, [], ◌∷◌, ◌++◌, map, length, take, drop, vec_items, Vec, slice_index_or}
use Rattle.std.specs.declared.alloc.Global.{Global}
use Rattle.store.specs.declared.kind.Kind.TheVariants.{Session}
use Rattle.store.specs.Row.{held}
use Rattle.store.specs.declared.key.Key.{Key}
use Rattle.journal.specs.declared.entry.Entry.{Entry}
use Rattle.store.specs.Key.{slot}
use Rattle.journal.specs.Changes.{Change, change_to}

-- a row put at a key, or dropped there
abbrev pub change_of : Key → List ℕ → Change
change_of key row = change_to key.kind key.number row

-- the change that a place holds
abbrev pub change : Entry → Change
change e = change_of e.key (held e.row)

-- the change in each place
abbrev pub written : Vec Entry Global → List Change
written v = map change (vec_items v)

-- the changes in the places that are taken, which come first
abbrev pub kept : Vec Entry Global → ℕ → List Change
kept v taken = take taken (written v)

-- what stands past the last place
abbrev pub no_change : Change
no_change = change_to Session 0 []

-- the slot of a change's key
abbrev pub slot_of : Change → ℕ
slot_of c = slot c.kind c.number

-- the change at `from` stands at `to`; those before `to` and those after `from` are as they were
pub record MovedDown (xs ys : List Change) (to from : ℕ) : Type 0 where
  pub front : take (to + 1) ys ≡ take to xs ++ slice_index_or xs from no_change ∷ []
  pub rest : drop (from + 1) ys ≡ drop (from + 1) xs
  pub long : length ys ≡ length xs
