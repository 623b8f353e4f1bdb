use Rattle.std.proofs.Common.{◌≡◌, vec_len}
use Rattle.journal.specs.Entry.{written}
use Rattle.journal.specs.Index.{pointers, Clearing}
use Rattle.journal.proofs.places.Places.clear_dead.Given as goal

abbrev pub invariant-loop-from : goal.invariant-loop-from
invariant-loop-from l = record {
  places : vec_len l.self.entries ≡ vec_len l.initial.self.entries;
  clearing : Clearing (written l.initial.self.entries) (written l.self.entries) (pointers l.self.index) l.to l.from;
}
