-- The levels of a topic name or a topic filter. 47 is '/'.
use Rattle.std.specs.Prelude.{◌≡◌, ℕ, Bool, true, cond, not, List, [], ◌∷◌, ◌++◌, ◌==◌}
use Rattle.std.specs.List.{AllByRecursion}
use Rattle.topics.specs.Text.{every}

-- one more byte in front of the first level
abbrev pub in_front : ℕ → List (List ℕ) → List (List ℕ)
in_front b [] = (b ∷ []) ∷ []
in_front b (l ∷ ls) = (b ∷ l) ∷ ls

-- a text cut at each '/': levels may be empty, and there is always one
abbrev pub levels : List ℕ → List (List ℕ)
levels [] = [] ∷ []
levels (b ∷ bs) = cond (b == 47) ([] ∷ levels bs) (in_front b (levels bs))

-- the levels with a '/' between each two
abbrev pub with_slashes : List (List ℕ) → List ℕ
with_slashes [] = []
with_slashes (l ∷ []) = l
with_slashes (l ∷ m ∷ ls) = l ++ 47 ∷ with_slashes (m ∷ ls)

-- no byte is '/'
abbrev pub unslashed : List ℕ → Bool
unslashed l = every (λ b. not (b == 47)) l

-- the levels are free of '/' and make the text again, and no other levels, at least one, do
pub record LevelsLaw : Type 0 where
  pub free : (bs : List ℕ) → AllByRecursion (λ l. unslashed l ≡ true) (levels bs)
  pub rejoined : (bs : List ℕ) → with_slashes (levels bs) ≡ bs
  pub only : (l : List ℕ) (ls : List (List ℕ)) → AllByRecursion (λ m. unslashed m ≡ true) (l ∷ ls) → levels (with_slashes (l ∷ ls)) ≡ l ∷ ls
