-- Keys of rows, and their places in one line.
use Rattle.std.specs.Prelude.{◌≡◌, ℕ, ◌+◌, ◌≤◌, Result, MatchResult}
use Rattle.store.specs.declared.kind.Kind.{Kind}
use Rattle.store.specs.declared.kind.Kind.TheVariants.{Session, Message}
use Rattle.store.specs.declared.kind.Refusal.{Refusal}
use Rattle.store.specs.declared.kind.Refusal.TheVariants.{Bad}
use Rattle.store.specs.declared.key.Key.{Key}
use Rattle.store.specs.Making.{made_limit}

-- all keys in one line: sessions first, then messages
abbrev pub slot : Kind → ℕ → ℕ
slot Session n = n
slot Message n = 128 + n

-- the result is the key of this kind and number, or bad where the number is at or above the kind's limit
abbrev pub Keys : Kind → ℕ → Result Key Refusal → Type 0
Keys k n r = MatchResult r (λ key. (key.kind ≡ k) × (key.number ≡ n)) (λ e. (e ≡ Bad) × (made_limit k ≤ n))

-- it is session 0
abbrev pub IsFirst : Key → Type 0
IsFirst key = (key.kind ≡ Session) × (key.number ≡ 0)
