-- Levels and slashes.
use Rattle.std.proofs.Common.{◌≡◌, ℕ, true, false, cond, eqb, List, [], ◌∷◌, ◌++◌, refl, ap, ◌∙◌, arith}
use Rattle.std.specs.List.{AllByRecursion}
use Rattle.std.proofs.lemmas.Bool.Decides.{nat_tests}
use Rattle.topics.specs.Levels.{LevelsLaw, levels, in_front, with_slashes, unslashed}

-- there is always a first level
pub first_level : (bs : List ℕ) → (l : List ℕ) × (ls : List (List ℕ)) × (levels bs ≡ l ∷ ls)
first_level [] = ([], [], refl)
first_level (b ∷ bs) =
    let next = first_level bs in
    elim (eqb b 47) as (λ v. (l : List ℕ) × (ls : List (List ℕ)) × (cond v ([] ∷ levels bs) (in_front b (levels bs)) ≡ l ∷ ls)) [
      | true ↦ ([], levels bs, refl)
      | false ↦ (b ∷ next.0, next.1, ap (in_front b) next.2)
    ]

free : (bs : List ℕ) → AllByRecursion (λ l. unslashed l ≡ true) (levels bs)
free [] = (refl, tt)
free (b ∷ bs) = let next = first_level bs in let tail = free bs in grind (arith, nat_tests)

pub rejoined : (bs : List ℕ) → with_slashes (levels bs) ≡ bs
rejoined [] = refl
rejoined (b ∷ bs) = let next = first_level bs in grind (arith, nat_tests, rejoined bs)

-- a level without a slash in front of a slash, or at the end, is the first level
level_then_slash : (l bs : List ℕ) → unslashed l ≡ true → levels (l ++ 47 ∷ bs) ≡ l ∷ levels bs
level_then_slash [] bs e = refl
level_then_slash (b ∷ l) bs e = grind (arith, nat_tests, level_then_slash l bs)

last_level : (l : List ℕ) → unslashed l ≡ true → levels l ≡ l ∷ []
last_level [] e = refl
last_level (b ∷ l) e = grind (arith, nat_tests, last_level l)

only : (l : List ℕ) (ls : List (List ℕ)) → AllByRecursion (λ m. unslashed m ≡ true) (l ∷ ls) → levels (with_slashes (l ∷ ls)) ≡ l ∷ ls
only l [] h = last_level l h.0
only l (m ∷ ls) h = level_then_slash l (with_slashes (m ∷ ls)) h.0 ∙ ap (λ ms. l ∷ ms) (only m ls h.1)

pub levels_law : LevelsLaw
levels_law = record { free = free; rejoined = rejoined; only = only }
