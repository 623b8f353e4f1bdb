-- Changes made through a window.
use Rattle.std.specs.Prelude.{◌≡◌, List, Ok, Err, vec_items, fold, Result, Vec}
use Rattle.std.specs.declared.alloc.Global.{Global}
use Rattle.store.specs.declared.change.Change.{Change}
use Rattle.store.specs.Disk.{Disk}
use Rattle.store.specs.Change.{Outcome, outcomes, changed, done_of, DoneWhenPossible}
use Rattle.window.specs.declared.span.Spans.{Spans}
use Rattle.window.specs.declared.through.ThroughError.{ThroughError}
use Rattle.window.specs.declared.through.ThroughError.TheVariants.{Beyond, NoMemory}
use Rattle.window.specs.Span.{Within}
use Rattle.window.specs.View.{view}

-- each change is judged on what the window shows then; a window beyond the limits is refused, else only want of memory refuses
abbrev pub Answers : Disk → Spans → List Change → Result (Vec Outcome Global) ThroughError → Type 0
Answers d s cs (Ok rs) = Within d s × (vec_items rs ≡ outcomes (view d s) cs) × DoneWhenPossible (view d s) cs (vec_items rs)
Answers d s cs (Err Beyond) = Within d s → ⊥
Answers d s cs (Err NoMemory) = Within d s

-- what the window shows after: the done changes, in order, make it what it is
abbrev pub through_after : Result (Vec Outcome Global) ThroughError → Disk → List Change → Disk
through_after (Ok rs) d cs = fold changed d (done_of cs (vec_items rs))
through_after (Err e) d cs = d
