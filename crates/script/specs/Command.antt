-- The commands of a script.
use Rattle.std.specs.Prelude.{◌≡◌, ℕ, Bool, cond, List, length, Some, None, Ok, Err, codes, Option, Result, ◌==◌}
use Rattle.std.specs.Str.{bytes_eq}
use Rattle.lines.specs.Decimal.{Reads}
use Rattle.lines.specs.Words.{skip_blanks, word_in, after_word}
use Rattle.store.specs.declared.kind.Kind.{Kind}
use Rattle.store.specs.Kind.{kind_of}
use Rattle.window.specs.declared.span.Span.{Span}
use Rattle.window.specs.declared.span.Spans.{Spans}
use Rattle.script.specs.declared.command.BaseName.{BaseName}
use Rattle.script.specs.declared.command.BaseName.TheVariants.{Table, Journal}
use Rattle.script.specs.declared.command.Command.{Command}
use Rattle.script.specs.declared.command.Command.TheVariants.{Nothing, Store, Window, Call}
use Rattle.script.specs.declared.command.Call.TheVariants.{Load, Put, Drop, Power, Free, Limit}
use Rattle.script.specs.declared.command.UnknownCommand.{UnknownCommand}

-- what a line asks for
pub data Asked : Type 0 where
  nothing : Asked
  store : BaseName → ℕ → Asked
  window : Spans → Asked
  load : Kind → ℕ → Asked
  put : Kind → ℕ → List ℕ → Asked
  drop : Kind → ℕ → Asked
  power : ℕ → Asked
  free : Asked
  limit : Kind → Asked
  unknown : Asked

-- a command with the bytes in place of the borrowed word
abbrev pub asked : Result Command UnknownCommand → Asked
asked (Ok Nothing) = nothing
asked (Ok (Store base rows)) = store base rows
asked (Ok (Window spans)) = window spans
asked (Ok (Call (Load kind number))) = load kind number
asked (Ok (Call (Put kind number hex))) = put kind number hex.now
asked (Ok (Call (Drop kind number))) = drop kind number
asked (Ok (Call (Power writes))) = power writes
asked (Ok (Call Free)) = free
asked (Ok (Call (Limit kind))) = limit kind
asked (Err e) = unknown

-- the kind with a number, if there is a number
abbrev pub kind_in : Option ℕ → Option Kind
kind_in None = None
kind_in (Some n) = kind_of n

-- a span of two numbers
abbrev pub span_in : Option ℕ → Option ℕ → Option Span
span_in None w = None
span_in (Some b) None = None
span_in (Some b) (Some w) = Some (record { base = b; width = w })

-- `free`
abbrev pub bare_of : List ℕ → Asked
bare_of name = cond (bytes_eq name (codes "free")) free unknown

-- `limit K`
abbrev pub limit_of : Option Kind → Asked
limit_of None = unknown
limit_of (Some k) = limit k

-- `power N` or `limit K`
abbrev pub one_of : List ℕ → Option ℕ → Asked
one_of name None = unknown
one_of name (Some n) = cond (bytes_eq name (codes "power")) (power n) (cond (bytes_eq name (codes "limit")) (limit_of (kind_of n)) unknown)

-- `table` or `journal`
abbrev pub base_in : List ℕ → Option BaseName
base_in what = cond (bytes_eq what (codes "table")) (Some Table) (cond (bytes_eq what (codes "journal")) (Some Journal) None)

-- `store table N` or `store journal N`
abbrev pub store_of : Option BaseName → ℕ → Asked
store_of None rows = unknown
store_of (Some base) rows = store base rows

-- `load K N` or `drop K N`
abbrev pub key_of : List ℕ → Option Kind → ℕ → Asked
key_of name None n = unknown
key_of name (Some k) n = cond (bytes_eq name (codes "load")) (load k n) (cond (bytes_eq name (codes "drop")) (drop k n) unknown)

abbrev pub two_of : List ℕ → List ℕ → Option ℕ → Option ℕ → Asked
two_of name first k None = unknown
two_of name first k (Some n) = cond (bytes_eq name (codes "store")) (store_of (base_in first) n) (key_of name (kind_in k) n)

-- `put K N HEX`
abbrev pub put_of : List ℕ → Option Kind → ℕ → List ℕ → Asked
put_of name None n hex = unknown
put_of name (Some k) n hex = cond (bytes_eq name (codes "put")) (put k n hex) unknown

abbrev pub three_of : List ℕ → Option ℕ → Option ℕ → List ℕ → Asked
three_of name k None hex = unknown
three_of name k (Some n) hex = put_of name (kind_in k) n hex

-- `window SBASE SWIDTH MBASE MWIDTH`
abbrev pub window_of : Option Span → Option Span → Asked
window_of None m = unknown
window_of (Some s) None = unknown
window_of (Some s) (Some m) = window (record { sessions = s; messages = m })

abbrev pub four_of : List ℕ → Option ℕ → Option ℕ → Option ℕ → Option ℕ → Asked
four_of name sb sw mb mw = cond (bytes_eq name (codes "window")) (window_of (span_in sb sw) (span_in mb mw)) unknown

-- the first word of a line, and what follows
abbrev pub word : List ℕ → List ℕ
word line = word_in (skip_blanks line)

abbrev pub after : List ℕ → List ℕ
after line = after_word (skip_blanks line)

-- there is no such word
abbrev pub none : List ℕ → Bool
none bs = length bs == 0

-- the command of a name, the words behind it, and the numbers that the first four of them write
abbrev pub named : (name a b c d e : List ℕ) → (i j k l : Option ℕ) → Asked
named name a b c d e i j k l =
    cond (none name) nothing
    (cond (none a) (bare_of name)
    (cond (none b) (one_of name i)
    (cond (none c) (two_of name a i j)
    (cond (none d) (three_of name i j c)
    (cond (none e) (four_of name i j k l) unknown)))))

-- what a line asks for by its words, of which some write numbers
pub record AsksBy (name a b c d e : List ℕ) (q : Asked) : Type 0 where
  pub i : Option ℕ
  pub j : Option ℕ
  pub k : Option ℕ
  pub l : Option ℕ
  pub first : Reads a i
  pub second : Reads b j
  pub third : Reads c k
  pub fourth : Reads d l
  pub command : q ≡ named name a b c d e i j k l

-- what a line asks for
abbrev pub Asks : List ℕ → Asked → Type 0
Asks line q =
    AsksBy (word line) (word (after line)) (word (after (after line))) (word (after (after (after line))))
    (word (after (after (after (after line))))) (word (after (after (after (after (after line)))))) q
