use Rattle.std.proofs.Common.{◌≡◌, ◌≤◌, ◌++◌, length, drop, vec_items, vec_len, vec_capacity}
use Rattle.agreement.specs.Calls.{answers, final}
use Rattle.agreement.proofs.run.Given as goal

abbrev pub invariant-loop-call : goal.invariant-loop-call
invariant-loop-call g l =
    (vec_items l.answers ++ answers (g.S.Store.disk l.store) (drop l.call-index l.calls) ≡ answers (g.S.Store.disk l.initial.store) l.calls)
    × (final (g.S.Store.disk l.store) (drop l.call-index l.calls) ≡ final (g.S.Store.disk l.initial.store) l.calls)
    × (g.S.Store.rest l.store ≡ g.S.Store.rest l.initial.store)
    × (vec_len l.answers ≡ l.call-index)
    × (length l.calls ≤ vec_capacity l.answers)
