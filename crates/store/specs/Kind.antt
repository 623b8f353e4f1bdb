-- Kinds of rows by their numbers.
use Rattle.std.specs.Prelude.{◌≡◌, ℕ, Bool, cond, Some, None, Option, Result, MatchResult, ◌==◌}
use Rattle.store.specs.declared.kind.Kind.{Kind}
use Rattle.store.specs.declared.kind.Kind.TheVariants.{Session, Message}
use Rattle.store.specs.declared.kind.UnknownKind.{UnknownKind}

-- sessions are kind 0, messages kind 1
abbrev pub kind_number : Kind → ℕ
kind_number Session = 0
kind_number Message = 1

-- the kind with a number
abbrev pub kind_of : ℕ → Option Kind
kind_of n = cond (n == 0) (Some Session) (cond (n == 1) (Some Message) None)

-- the result is the kind with this number, or the number itself where none has it
abbrev pub Decodes : ℕ → Result Kind UnknownKind → Type 0
Decodes n r = MatchResult r (λ k. kind_of n ≡ Some k) (λ e. (kind_of n ≡ None) × (e.0 ≡ n))

-- two kinds are one
abbrev pub same_kind : Kind → Kind → Bool
same_kind j k = kind_number j == kind_number k
