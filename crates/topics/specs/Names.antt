-- Topic names, topic filters and client identifiers. 43 is '+' and 35 is '#'.
use Rattle.std.specs.Prelude.{◌≡◌, ℕ, ◌<◌, Bool, true, false, not, ◌&&◌, ◌||◌, List, [], ◌∷◌, length, take, Some, None, Option, ◌==◌, nat_le, nat_lt, slice_index}
use Rattle.std.specs.Char.{is_ascii_alphanumeric}
use Rattle.topics.specs.Text.{every, is_text}
use Rattle.topics.specs.Levels.{levels}

-- the most bytes that a topic name or a topic filter has
abbrev pub max_topic : ℕ
max_topic = 64

-- the most bytes that a client identifier has
abbrev pub max_client_id : ℕ
max_client_id = 23

-- 1 to this many bytes
abbrev pub sized : ℕ → List ℕ → Bool
sized most bs = nat_lt 0 (length bs) && nat_le (length bs) most

-- a '+' or a '#'
abbrev pub wildcard : ℕ → Bool
wildcard b = b == 43 || b == 35

-- neither '+' nor '#' in any byte
abbrev pub plain : List ℕ → Bool
plain bs = every (λ b. not (wildcard b)) bs

-- exactly "+"
abbrev pub is_plus : List ℕ → Bool
is_plus [] = false
is_plus (b ∷ []) = b == 43
is_plus (b ∷ c ∷ bs) = false

-- exactly "#"
abbrev pub is_hash : List ℕ → Bool
is_hash [] = false
is_hash (b ∷ []) = b == 35
is_hash (b ∷ c ∷ bs) = false

-- nothing follows
abbrev pub is_end : List (List ℕ) → Bool
is_end [] = true
is_end (l ∷ ls) = false

-- every level is exactly "+", or exactly "#" and the last, or has neither byte
abbrev pub lawful : List (List ℕ) → Bool
lawful [] = true
lawful (l ∷ ls) = (is_plus l || (is_hash l && is_end ls) || plain l) && lawful ls

-- a topic name: 1 to 64 bytes, text, without wildcards
unfoldable pub is_topic_name : List ℕ → Bool
is_topic_name bs = sized max_topic bs && is_text bs && plain bs

-- a topic filter: 1 to 64 bytes, text, wildcards only as whole levels, '#' only as the last
unfoldable pub is_topic_filter : List ℕ → Bool
is_topic_filter bs = sized max_topic bs && is_text bs && lawful (levels bs)

-- a client identifier: 1 to 23 bytes of 0-9, A-Z and a-z
unfoldable pub is_client_id : List ℕ → Bool
is_client_id bs = sized max_client_id bs && every is_ascii_alphanumeric bs

-- a client identifier is text, and every topic name is a topic filter
pub record NamesLaw : Type 0 where
  pub clients : (bs : List ℕ) → is_client_id bs ≡ true → is_text bs ≡ true
  pub topics : (bs : List ℕ) → is_topic_name bs ≡ true → is_topic_filter bs ≡ true

-- ---- words of private functions, on which nothing above stands

-- the same from within a level on that is no wildcard so far, or from a level's start
abbrev pub lawful_from : Bool → List (List ℕ) → Bool
lawful_from true ls = lawful ls
lawful_from false [] = true
lawful_from false (l ∷ ls) = plain l && lawful ls

-- the place of the first wildcard, or none where there is none
abbrev pub FirstWildcard : List ℕ → Option ℕ → Type 0
FirstWildcard bs None = plain bs ≡ true
FirstWildcard bs (Some i) = (i < length bs) × (wildcard (slice_index bs i) ≡ true) × (plain (take i bs) ≡ true)
