-- Whether a topic filter takes a topic: any bytes as the filter, any bytes as the topic. 43 is '+', 35 is '#' and 47 is '/'.
use Rattle.std.specs.Prelude.{◌≡◌, ℕ, Bool, true, false, cond, ◌&&◌, ◌||◌, ◌⊎◌, List, [], ◌∷◌, ◌++◌, length, codes, Decides, ◌==◌}
use Rattle.std.specs.List.{AllZip}
use Rattle.std.specs.Str.{bytes_eq}
use Rattle.topics.specs.declared.matching.Level.{Level}
use Rattle.topics.specs.declared.matching.Level.TheVariants.{Plus, Hash, Plain}
use Rattle.topics.specs.Levels.{levels, unslashed}
use Rattle.topics.specs.Names.{is_end, is_hash, is_plus, plain}

-- one level of a filter takes one of a topic: "+" takes any, every other level its own bytes
abbrev pub takes_level : List ℕ → List ℕ → Bool
takes_level f t = is_plus f || bytes_eq f t

-- level by level; "#" as the last level takes the rest, also where nothing is left (the parent)
abbrev pub takes_levels : List (List ℕ) → List (List ℕ) → Bool
takes_levels [] [] = true
takes_levels [] (t ∷ ts) = false
takes_levels (f ∷ fs) [] = is_hash f && is_end fs
takes_levels (f ∷ fs) (t ∷ ts) = is_hash f && is_end fs || takes_level f t && takes_levels fs ts

-- whether a topic filter takes a topic
unfoldable pub takes : List ℕ → List ℕ → Bool
takes f t = takes_levels (levels f) (levels t)

-- a level of a filter takes a level of a topic
abbrev pub TakesLevel : List ℕ → List ℕ → Type 0
TakesLevel f t = (is_plus f ≡ true) ⊎ (f ≡ t)

-- the levels of the filter end in "#", and those before it take the first ones of the topic, be it all
pub record TakesRest (fs ts : List (List ℕ)) : Type 0 where
  pub before : List (List ℕ)
  pub first : List (List ℕ)
  pub rest : List (List ℕ)
  pub filter : fs ≡ before ++ codes "#" ∷ []
  pub topic : ts ≡ first ++ rest
  pub each : AllZip TakesLevel before first

-- a filter takes a topic exactly when each of its levels takes one, or all but its last, "#", take the first ones
abbrev pub MatchingLaw : Type 0
MatchingLaw = (f t : List ℕ) → Decides (takes f t) (AllZip TakesLevel (levels f) (levels t) ⊎ TakesRest (levels f) (levels t))

-- "#" takes every topic
abbrev pub HashLaw : Type 0
HashLaw = (t : List ℕ) → takes (codes "#") t ≡ true

-- a filter with neither '+' nor '#' takes its own bytes and nothing else
abbrev pub PlainLaw : Type 0
PlainLaw = (f t : List ℕ) → plain f ≡ true → Decides (takes f t) (f ≡ t)

-- the last level is "#"
abbrev pub last_is_hash : List (List ℕ) → Bool
last_is_hash [] = false
last_is_hash (l ∷ []) = is_hash l
last_is_hash (l ∷ m ∷ ls) = last_is_hash (m ∷ ls)

-- what a filter takes, the same filter with "/#" takes too, and everything below it
abbrev pub BelowLaw : Type 0
BelowLaw =
    (f t : List ℕ) → last_is_hash (levels f) ≡ false → takes f t ≡ true
    → (takes (f ++ codes "/#") t ≡ true) × ((u : List ℕ) → takes (f ++ codes "/#") (t ++ 47 ∷ u) ≡ true)

-- a filter that does not end in "#" takes only topics with as many levels; so "+" takes exactly what has no '/'
pub record CountLaw : Type 0 where
  pub same : (f t : List ℕ) → last_is_hash (levels f) ≡ false → takes f t ≡ true → length (levels f) ≡ length (levels t)
  pub plus : (t : List ℕ) → takes (codes "+") t ≡ unslashed t

-- the parent belongs to "#", "+" wants a level, an empty one will do, and takes no more than one
pub record Examples : Type 0 where
  pub parent : takes (codes "a/#") (codes "a") ≡ true
  pub wanting : takes (codes "a/+") (codes "a") ≡ false
  pub empty : takes (codes "a/+") (codes "a/") ≡ true
  pub two : takes (codes "+") (codes "/a") ≡ false

-- ---- words of private functions, on which nothing above stands

-- the same from a level's start on, or from within a level on that agrees so far
abbrev pub takes_from : Bool → List (List ℕ) → List (List ℕ) → Bool
takes_from true fs ts = takes_levels fs ts
takes_from false [] ts = false
takes_from false (f ∷ fs) [] = false
takes_from false (f ∷ fs) (t ∷ ts) = bytes_eq f t && takes_levels fs ts

-- the kind of a filter's first level: "#" as the last level, "+", or plain; from within a level on it is plain
abbrev pub level_at : Bool → List (List ℕ) → Level
level_at false ls = Plain
level_at true [] = Plain
level_at true (l ∷ ls) = cond (is_hash l && is_end ls) Hash (cond (is_plus l) Plus Plain)

-- what is left once the first level is taken
abbrev pub past_level : List ℕ → List ℕ
past_level [] = []
past_level (b ∷ bs) = cond (b == 47) (b ∷ bs) (past_level bs)
