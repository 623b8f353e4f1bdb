-- Matching by the first bytes of filter and topic, in the words of a slice pattern.
use Rattle.std.proofs.Common.{◌≡◌, ℕ, ◌<◌, ◌≤◌, Bool, true, false, eqb, List, [], ◌∷◌, length, get_or, drop, refl, arith}
use Rattle.std.proofs.lemmas.List.{take_rest}
use Rattle.std.proofs.lemmas.Bool.Decides.{nat_tests}
use Rattle.topics.specs.declared.matching.Level.TheVariants.{Plus, Hash, Plain}
use Rattle.topics.specs.Levels.{levels}
use Rattle.topics.specs.Matching.{level_at, past_level, takes_from}
use Rattle.topics.proofs.Cuts.{first_level}
use Rattle.topics.proofs.Wildcards.{after}

-- ---- past a level

pub past_empty : (bs : List ℕ) → length bs < 1 → bs ≡ past_level bs
past_empty [] p = refl
past_empty (b ∷ bs) p = absurd (omega arith)

pub past_slash : (bs : List ℕ) → 0 < length bs → get_or bs 0 0 ≡ 47 → bs ≡ past_level bs
past_slash [] p e = absurd (omega arith)
past_slash (b ∷ bs) p e = grind (arith, nat_tests)

pub past_byte : (bs : List ℕ) → 0 < length bs → (get_or bs 0 0 ≡ 47 → ⊥) → past_level (after 1 bs) ≡ past_level bs
past_byte [] p n = absurd (omega arith)
past_byte (b ∷ bs) p n = let rest = take_rest (b ∷ bs) 1 in grind (arith, nat_tests)

-- the first level is emptied
past-levels : (bs : List ℕ) → levels (past_level bs) ≡ [] ∷ drop 1 (levels bs)
past-levels [] = refl
past-levels (b ∷ bs) = let on = past-levels bs in let next = first_level bs in grind (arith, nat_tests)

length-past : (bs : List ℕ) → length (past_level bs) ≤ length bs
length-past [] = omega arith
length-past (b ∷ bs) = grind (arith, nat_tests, length-past bs)

-- ---- the kind of the level in front

pub level_hash : (fs : List ℕ) → length fs ≡ 1 → get_or fs 0 0 ≡ 35 → Hash ≡ level_at true (levels fs)
level_hash [] p q = absurd (omega arith)
level_hash (f ∷ []) p q = grind (arith, nat_tests)
level_hash (f ∷ g ∷ fs) p q = absurd (omega arith)

pub level_plus : (fs : List ℕ) → length fs ≡ 1 → get_or fs 0 0 ≡ 43 → Plus ≡ level_at true (levels fs)
level_plus [] p q = absurd (omega arith)
level_plus (f ∷ []) p q = grind (arith, nat_tests)
level_plus (f ∷ g ∷ fs) p q = absurd (omega arith)

pub level_plus_slash : (fs : List ℕ) → 1 < length fs → get_or fs 0 0 ≡ 43 → get_or fs 1 0 ≡ 47 → Plus ≡ level_at true (levels fs)
level_plus_slash [] p q r = absurd (omega arith)
level_plus_slash (f ∷ []) p q r = absurd (omega arith)
level_plus_slash (f ∷ g ∷ fs) p q r = grind (arith, nat_tests)

pub level_plain : (fs : List ℕ) → (length fs ≡ 1 → get_or fs 0 0 ≡ 35 → ⊥) → (length fs ≡ 1 → get_or fs 0 0 ≡ 43 → ⊥)
    → (1 < length fs → get_or fs 0 0 ≡ 43 → get_or fs 1 0 ≡ 47 → ⊥) → Plain ≡ level_at true (levels fs)
level_plain [] h p s = refl
level_plain (f ∷ []) h p s = grind (arith, nat_tests)
level_plain (f ∷ g ∷ fs) h p s = let next = first_level fs in grind (arith, nat_tests)

-- ---- what each kind takes

pub takes_plus : (s : Bool) (fs ts : List ℕ) → Plus ≡ level_at s (levels fs)
    → takes_from false (levels (past_level fs)) (levels (past_level ts)) ≡ takes_from s (levels fs) (levels ts)
takes_plus s fs ts e =
    let f = first_level fs in
    let t = first_level ts in
    let past = past-levels fs in
    let gone = past-levels ts in
    grind (arith, nat_tests)

-- a '+' is past
pub past_shorter : (s : Bool) (fs : List ℕ) → Plus ≡ level_at s (levels fs) → length (past_level fs) < length fs
past_shorter s [] e = grind arith
past_shorter s (f ∷ fs) e = let next = first_level fs in grind (arith, nat_tests, length-past fs)

-- ---- a plain level: byte by byte

pub takes_step : (s : Bool) (fs ts : List ℕ) → Plain ≡ level_at s (levels fs) → 0 < length fs → 0 < length ts → get_or fs 0 0 ≡ get_or ts 0 0
    → takes_from (eqb (get_or fs 0 0) 47) (levels (after 1 fs)) (levels (after 1 ts)) ≡ takes_from s (levels fs) (levels ts)
takes_step s [] ts n p r q = absurd (omega arith)
takes_step s (f ∷ fs) [] n p r q = absurd (omega arith)
takes_step s (f ∷ fs) (t ∷ ts) n p r q =
    let rest = take_rest (f ∷ fs) 1 in
    let more = take_rest (t ∷ ts) 1 in
    let next = first_level fs in
    let then = first_level ts in
    grind (arith, nat_tests)

pub takes_apart : (s : Bool) (fs ts : List ℕ) → Plain ≡ level_at s (levels fs) → 0 < length fs → 0 < length ts → (get_or fs 0 0 ≡ get_or ts 0 0 → ⊥)
    → false ≡ takes_from s (levels fs) (levels ts)
takes_apart s [] ts n p r q = absurd (omega arith)
takes_apart s (f ∷ fs) [] n p r q = absurd (omega arith)
takes_apart s (f ∷ fs) (t ∷ ts) n p r q = let next = first_level fs in let then = first_level ts in grind (arith, nat_tests)

-- ---- at the end of one

pub end_other : (fs : List ℕ) → 0 < length fs → (length fs ≡ 2 → get_or fs 0 0 ≡ 47 → get_or fs 1 0 ≡ 35 → ⊥) → false ≡ takes_from false (levels fs) (levels [])
end_other [] p r = absurd (omega arith)
end_other (f ∷ []) p r = grind (arith, nat_tests)
end_other (f ∷ g ∷ []) p r = grind (arith, nat_tests)
end_other (f ∷ g ∷ h ∷ fs) p r = let next = first_level fs in grind (arith, nat_tests)

pub takes_short : (s : Bool) (fs ts : List ℕ) → Plain ≡ level_at s (levels fs) → length fs < 1 → 0 < length ts → false ≡ takes_from s (levels fs) (levels ts)
takes_short s [] [] n p q = absurd (omega arith)
takes_short s [] (t ∷ ts) n p q = let next = first_level ts in grind (arith, nat_tests)
takes_short s (f ∷ fs) ts n p q = absurd (omega arith)

pub takes_end : (s : Bool) (fs ts : List ℕ) → Plain ≡ level_at s (levels fs) → length ts < 1 → takes_from false (levels fs) (levels []) ≡ takes_from s (levels fs) (levels ts)
takes_end s fs [] n q = let next = first_level fs in grind (arith, nat_tests)
takes_end s fs (t ∷ ts) n q = absurd (omega arith)

-- what past_level, level_at and takes_from cite
pub ruleset past = (past_empty, past_slash, past_byte)

pub ruleset kinds = (level_hash, level_plus, level_plus_slash, level_plain)

pub ruleset steps = (past_shorter, takes_plus, takes_step, takes_apart, takes_end)
