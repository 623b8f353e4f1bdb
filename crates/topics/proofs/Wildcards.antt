-- Where wildcards stand: the first bytes of a filter, in the words of a slice pattern, decide on its levels.
use Rattle.std.proofs.Common.{◌≡◌, ℕ, ◌-◌, ◌<◌, Bool, true, false, not, ◌&&◌, eqb, List, [], ◌∷◌, length, get_or, take, drop, is_some, Some, None, Option, arith}
use Rattle.std.proofs.lemmas.List.{take_rest}
use Rattle.std.proofs.lemmas.List.Folds.{list_all_at}
use Rattle.std.proofs.lemmas.Bool.Decides.{nat_tests}
use Rattle.topics.specs.Levels.{levels}
use Rattle.topics.specs.Names.{FirstWildcard, lawful, lawful_from, plain, wildcard}
use Rattle.topics.proofs.Cuts.{first_level}

-- what is left after k bytes, as a slice pattern binds it
abbrev pub after : ℕ → List ℕ → List ℕ
after k xs = take (length xs - k) (drop k xs)

pub first_wildcard : (bs : List ℕ) (o : Option ℕ) (r : Bool) → FirstWildcard bs o → is_some o ≡ not r → r ≡ plain bs
first_wildcard bs None r h e = grind arith
first_wildcard bs (Some i) r h e = let found = list_all_at (λ b. not (wildcard b)) bs i 0 h.0 in grind arith

pub lawful_empty : (s : Bool) (fs : List ℕ) → length fs < 1 → true ≡ lawful_from s (levels fs)
lawful_empty s [] p = grind arith
lawful_empty s (f ∷ fs) p = absurd (omega arith)

pub lawful_alone : (s : Bool) (fs : List ℕ) → length fs ≡ 1 → wildcard (get_or fs 0 0) ≡ true → s ≡ lawful_from s (levels fs)
lawful_alone s [] p w = absurd (omega arith)
lawful_alone s (f ∷ []) p w = grind (arith, nat_tests)
lawful_alone s (f ∷ g ∷ fs) p w = absurd (omega arith)

pub lawful_plus_slash : (s : Bool) (fs : List ℕ) → 1 < length fs → get_or fs 0 0 ≡ 43 → get_or fs 1 0 ≡ 47 → (s && lawful (levels (after 2 fs))) ≡ lawful_from s (levels fs)
lawful_plus_slash s [] p q r = absurd (omega arith)
lawful_plus_slash s (f ∷ []) p q r = absurd (omega arith)
lawful_plus_slash s (f ∷ g ∷ fs) p q r = let rest = take_rest (f ∷ g ∷ fs) 2 in grind (arith, nat_tests)

-- a wildcard with another byte in its level
pub lawful_plus_byte : (s : Bool) (fs : List ℕ) → 1 < length fs → get_or fs 0 0 ≡ 43 → (get_or fs 1 0 ≡ 47 → ⊥) → false ≡ lawful_from s (levels fs)
lawful_plus_byte s [] p q r = absurd (omega arith)
lawful_plus_byte s (f ∷ []) p q r = absurd (omega arith)
lawful_plus_byte s (f ∷ g ∷ fs) p q r = let next = first_level fs in grind (arith, nat_tests)

pub lawful_hash_byte : (s : Bool) (fs : List ℕ) → 1 < length fs → wildcard (get_or fs 0 0) ≡ true → (get_or fs 0 0 ≡ 43 → ⊥) → false ≡ lawful_from s (levels fs)
lawful_hash_byte s [] p w n = absurd (omega arith)
lawful_hash_byte s (f ∷ []) p w n = absurd (omega arith)
lawful_hash_byte s (f ∷ g ∷ fs) p w n = let next = first_level fs in grind (arith, nat_tests)

-- a byte that is no wildcard in front of a level
pub lawful_byte : (s : Bool) (fs : List ℕ) → 0 < length fs → wildcard (get_or fs 0 0) ≡ false → lawful_from (eqb (get_or fs 0 0) 47) (levels (after 1 fs)) ≡ lawful_from s (levels fs)
lawful_byte s [] p w = absurd (omega arith)
lawful_byte s (f ∷ fs) p w = let rest = take_rest (f ∷ fs) 1 in let next = first_level fs in grind (arith, nat_tests)

-- what has_lawful_levels cites
pub ruleset lawful_steps = (lawful_empty, lawful_alone, lawful_plus_slash, lawful_plus_byte, lawful_hash_byte, lawful_byte)
