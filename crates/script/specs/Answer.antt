-- The answer to a line: which store stands then, and what is printed.
use Rattle.std.specs.Prelude.{◌≡◌, ℕ, ◌≤◌, cond, List, [], ◌++◌, Some, None, Ok, Err, string_bytes, codes, Option, Result, String, nat_lt}
use Rattle.std.specs.declared.alloc.Global.{Global}
use Rattle.lines.specs.Escape.{escaped}
use Rattle.lines.specs.Hex.{hex_in}
use Rattle.store.specs.declared.kind.Kind.{Kind}
use Rattle.store.specs.Disk.{Disk, put_answer, put_after, drop_answer, drop_after, powered}
use Rattle.store.specs.Making.{empty_disk}
use Rattle.window.specs.declared.span.Spans.{Spans}
use Rattle.pile.specs.declared.Pile.{Pile}
use Rattle.pile.specs.declared.ops.StackRefusal.{StackRefusal}
use Rattle.pile.specs.declared.ops.StackRefusal.TheVariants.{Beyond, Full}
use Rattle.pile.specs.declared.ops.Unstacked.{Unstacked}
use Rattle.pile.specs.Pile.{pile_disk, pile_rest, OnTable, OnJournal, Stacks}
use Rattle.script.specs.declared.answer.Turn.{Turn}
use Rattle.script.specs.declared.command.BaseName.{BaseName}
use Rattle.script.specs.declared.command.BaseName.TheVariants.{Table, Journal}
use Rattle.script.specs.Command.{Asked, nothing, store, window, load, put, drop, power, free, limit, unknown, Asks}
use Rattle.script.specs.Texts.{load_text, put_text, drop_text, free_text, limit_text}

-- the store is what was asked for, without windows
abbrev pub On : BaseName → Pile → Type 0
On Table p = OnTable p
On Journal p = OnJournal p

-- the store that stood stands, and a text is printed
abbrev pub Prints : Option Pile → List ℕ → Turn → Type 0
Prints o text t = (t.pile ≡ o) × (string_bytes t.text ≡ text)

-- a store that shows a disk stands in the same windows, with what lay outside them as it was
abbrev pub Shows : Pile → Disk → Option Pile → Type 0
Shows p d None = ⊥
Shows p d (Some q) = (pile_disk q ≡ d) × (pile_rest q ≡ pile_rest p)

-- a store that shows a disk stands then, and a text is printed
abbrev pub Alters : Pile → Disk → List ℕ → Turn → Type 0
Alters p d text t = Shows p d t.pile × (string_bytes t.text ≡ text)

-- `? ` and the line as escaped text; what stood stands
abbrev pub NotUnderstood : Option Pile → List ℕ → Turn → Type 0
NotUnderstood o line t = Prints o (codes "? " ++ (escaped line ++ codes "\n")) t

-- `store`: an empty one stands, or none at all
abbrev pub StoreTurn : BaseName → ℕ → Option Pile → List ℕ → Type 0
StoreTurn base rows (Some p) text = (rows ≤ 1152) × ((pile_disk p ≡ empty_disk rows) × (On base p × (text ≡ codes "store done\n")))
StoreTurn base rows None text = text ≡ cond (nat_lt 1152 rows) (codes "store bad\n") (codes "store memory\n")

-- the text of a refused window: 13 beyond the limits, and a fourth is not understood
abbrev pub WindowRefused : StackRefusal → Pile → List ℕ → Turn → Type 0
WindowRefused Beyond p line t = Prints (Some p) (codes "window refused 13\n") t
WindowRefused Full p line t = NotUnderstood (Some p) line t

abbrev pub WindowTold : Result Pile Unstacked → List ℕ → Turn → Type 0
WindowTold (Ok q) line t = Prints (Some q) (codes "window done\n") t
WindowTold (Err e) line t = WindowRefused e.why e.pile line t

-- `window`: what stacking it answers is told
pub record WindowOn (s : Spans) (p : Pile) (line : List ℕ) (t : Turn) : Type 0 where
  pub result : Result Pile Unstacked
  pub stacks : Stacks p s result
  pub told : WindowTold result line t

abbrev pub WindowTurn : Spans → Option Pile → List ℕ → Turn → Type 0
WindowTurn s None line t = NotUnderstood None line t
WindowTurn s (Some p) line t = WindowOn s p line t

abbrev pub LoadTurn : Kind → ℕ → Option Pile → List ℕ → Turn → Type 0
LoadTurn k n None line t = NotUnderstood None line t
LoadTurn k n (Some p) line t = Prints (Some p) (load_text (pile_disk p) k n) t

-- `put` with the row that the word writes, if it writes one
abbrev pub PutTurn : Kind → ℕ → Option (List ℕ) → Option Pile → List ℕ → Turn → Type 0
PutTurn k n row None line t = NotUnderstood None line t
PutTurn k n None (Some p) line t = NotUnderstood (Some p) line t
PutTurn k n (Some row) (Some p) line t =
    Alters p (put_after (put_answer (pile_disk p) k n row) (pile_disk p) k n row) (put_text (pile_disk p) k n row) t

abbrev pub DropTurn : Kind → ℕ → Option Pile → List ℕ → Turn → Type 0
DropTurn k n None line t = NotUnderstood None line t
DropTurn k n (Some p) line t = Alters p (drop_after (drop_answer (pile_disk p) k n) (pile_disk p) k n) (drop_text (pile_disk p) k n) t

abbrev pub PowerTurn : ℕ → Option Pile → List ℕ → Turn → Type 0
PowerTurn w None line t = NotUnderstood None line t
PowerTurn w (Some p) line t = Alters p (powered (pile_disk p) w) (codes "power done 0\n") t

abbrev pub FreeTurn : Option Pile → List ℕ → Turn → Type 0
FreeTurn None line t = NotUnderstood None line t
FreeTurn (Some p) line t = Prints (Some p) (free_text (pile_disk p)) t

abbrev pub LimitTurn : Kind → Option Pile → List ℕ → Turn → Type 0
LimitTurn k None line t = NotUnderstood None line t
LimitTurn k (Some p) line t = Prints (Some p) (limit_text (pile_disk p) k) t

-- what each command does
abbrev pub Performs : Asked → Option Pile → List ℕ → Turn → Type 0
Performs nothing o line t = Prints o [] t
Performs (store base rows) o line t = StoreTurn base rows t.pile (string_bytes t.text)
Performs (window s) o line t = WindowTurn s o line t
Performs (load k n) o line t = LoadTurn k n o line t
Performs (put k n hex) o line t = PutTurn k n (hex_in hex) o line t
Performs (drop k n) o line t = DropTurn k n o line t
Performs (power w) o line t = PowerTurn w o line t
Performs free o line t = FreeTurn o line t
Performs (limit k) o line t = LimitTurn k o line t
Performs unknown o line t = NotUnderstood o line t

-- what a call on a store is told by, from the store before and after: a text, or none where it is not understood and alters nothing
abbrev pub Tells : Asked → Pile → Pile → Option (String Global) → Type 0
Tells q p r (Some text) = (line : List ℕ) → Performs q (Some p) line (record { pile = Some r; text = text })
Tells q p r None = (r ≡ p) × ((line : List ℕ) (t : Turn) → NotUnderstood (Some p) line t → Performs q (Some p) line t)

-- a line is answered as what it asks for
pub record Answers (o : Option Pile) (line : List ℕ) (t : Turn) : Type 0 where
  pub question : Asked
  pub asks : Asks line question
  pub performs : Performs question o line t
