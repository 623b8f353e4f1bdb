-- The proof that a window shows a sound disk; the store's contract cites it, and a reader may skip it.
use Rattle.std.specs.Prelude.{ℕ, ◌+◌, ◌≤◌, Bool, true, false, cond, List, [], length}
use Rattle.std.proofs.Common.{arith}
use Rattle.std.proofs.lemmas.Bool.{cond-false, le-ltb}
use Rattle.store.specs.Disk.{Disk, Sound}
use Rattle.window.specs.declared.span.Spans.{Spans}
use Rattle.window.specs.Span.{base_of}
use Rattle.window.specs.View.{view}

short_cond : (t : Bool) (r : List ℕ) → length r ≤ 560 → length (cond t r []) ≤ 560
short_cond true r h = h
short_cond false r h = omega arith

pub view_sound : (d : Disk) (s : Spans) → Sound d → Sound (view d s)
view_sound d s ok = record {
  short = λ k n. short_cond _ _ (ok.short k (base_of s k + n));
  inside = λ k n h. cond-false _ _ _ (le-ltb _ _ h);
}
