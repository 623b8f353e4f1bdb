use Rattle.std.proofs.Common.{◌≡◌, ◌≤◌, ◌++◌, length, drop, vec_items, vec_len, vec_capacity}
use Rattle.store.specs.Change.{outcomes}
use Rattle.store.proofs.Changes.{final}
use Rattle.store.proofs.change.apply.Given as goal

abbrev pub invariant-loop-change : goal.invariant-loop-change
invariant-loop-change g l =
    (vec_items l.outcomes ++ outcomes (g.S.Store.disk l.store) (drop l.change-index l.changes) ≡ outcomes (g.S.Store.disk l.initial.store) l.changes)
    × (final (g.S.Store.disk l.store) (drop l.change-index l.changes) ≡ final (g.S.Store.disk l.initial.store) l.changes)
    × (g.S.Store.rest l.store ≡ g.S.Store.rest l.initial.store)
    × (vec_len l.outcomes ≡ l.change-index)
    × (length l.changes ≤ vec_capacity l.outcomes)
