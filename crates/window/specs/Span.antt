-- Where windows lie.
use Rattle.std.specs.Prelude.{ℕ, ◌+◌, ◌<◌, ◌≤◌, ◌≢◌}
use Rattle.store.specs.declared.kind.Kind.{Kind}
use Rattle.store.specs.declared.kind.Kind.TheVariants.{Session, Message}
use Rattle.store.specs.Disk.{Disk}
use Rattle.window.specs.declared.span.Span.{Span}
use Rattle.window.specs.declared.span.Spans.{Spans}

-- the span of each kind
abbrev pub span_of : Spans → Kind → Span
span_of s Session = s.sessions
span_of s Message = s.messages

-- the first number below that belongs to the window
abbrev pub base_of : Spans → Kind → ℕ
base_of s k = (span_of s k).base

-- how many numbers below belong to it
abbrev pub width_of : Spans → Kind → ℕ
width_of s k = (span_of s k).width

-- the window lies within the limits below
abbrev pub Within : Disk → Spans → Type 0
Within d s = (k : Kind) → base_of s k + width_of s k ≤ d.limit k

-- no number below belongs to both windows
abbrev pub Apart : Spans → Spans → Type 0
Apart a b = (k : Kind) (m n : ℕ) → m < width_of a k → n < width_of b k → base_of a k + m ≢ base_of b k + n
