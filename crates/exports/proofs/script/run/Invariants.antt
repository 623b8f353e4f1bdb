use Rattle.std.proofs.Common.{◌≡◌, ◌≤◌, ◌++◌, length, drop, vec_items, vec_len, vec_capacity}
use Rattle.exports.specs.Script.{replies, last_buffer}
use Rattle.exports.proofs.script.run.Given as goal

abbrev pub invariant-loop-word : goal.invariant-loop-word
invariant-loop-word g l =
    (vec_items l.answers ++ replies (g.S.Store.disk l.store) l.pool l.buffer (drop l.word-index l.script) ≡ replies (g.S.Store.disk l.initial.store) l.pool l.initial.buffer l.script)
    × (last_buffer (g.S.Store.disk l.store) l.pool l.buffer (drop l.word-index l.script) ≡ last_buffer (g.S.Store.disk l.initial.store) l.pool l.initial.buffer l.script)
    × (vec_len l.answers ≡ l.word-index)
    × (length l.script ≤ vec_capacity l.answers)
