-- Texts in rows.
use Rattle.std.specs.Prelude.{◌≡◌, ℕ, cond, List, [], ◌∷◌, ◌++◌, length, take, drop, Some, None, Option, nat_le}
use Rattle.std.specs.Borrow.{Bor}

-- a text stands behind a byte with its length
abbrev pub text_bytes : List ℕ → List ℕ
text_bytes t = length t ∷ t

-- the text at the front and what follows it
abbrev pub text_in : List ℕ → Option (List ℕ × List ℕ)
text_in [] = None
text_in (n ∷ bs) = cond (nat_le n (length bs)) (Some (take n bs, drop n bs)) None

-- what the borrowed parts hold
abbrev pub texts : Option (Bor (List ℕ) × Bor (List ℕ)) → Option (List ℕ × List ℕ)
texts None = None
texts (Some p) = Some (p.0.now, p.1.now)

-- a text and what follows it are told apart again, and bytes are told apart only so
pub record TextLaw : Type 0 where
  pub there : (t rest : List ℕ) → text_in (text_bytes t ++ rest) ≡ Some (t, rest)
  pub back : (bs t rest : List ℕ) → text_in bs ≡ Some (t, rest) → bs ≡ text_bytes t ++ rest
