-- The laws of matching.
use Rattle.std.proofs.Common.{◌≡◌, ℕ, suc, true, false, ◌&&◌, ◌⊎◌, List, [], ◌∷◌, ◌++◌, length, drop, Decides, sym, refl, ap, ◌∙◌, inl, inr, arith}
use Rattle.std.proofs.lemmas.List.{append-nil}
use Rattle.std.specs.List.{AllZip, AllByRecursion}
use Rattle.std.specs.Str.{bytes_eq}
use Rattle.std.proofs.lemmas.Slice.Eq.{bytes_eq-Decides}
use Rattle.std.proofs.lemmas.Bool.{and_parts, or_cases, or_left, or_right, both_ways}
use Rattle.std.proofs.lemmas.Bool.Decides.{nat_tests}
use Rattle.topics.specs.Levels.{levels, unslashed, with_slashes}
use Rattle.topics.specs.Names.{is_end, is_hash, is_plus, plain}
use Rattle.topics.specs.Matching.{BelowLaw, CountLaw, Examples, HashLaw, MatchingLaw, PlainLaw, TakesLevel, TakesRest, last_is_hash, takes, takes_level, takes_levels}
use Rattle.topics.proofs.Cuts.{first_level, rejoined}

-- ---- one level

level_takes : (f t : List ℕ) → Decides (takes_level f t) (TakesLevel f t)
level_takes f t = (
  λ e. elim (or_cases (is_plus f) (bytes_eq f t) e) [ inl p ↦ inl p | inr s ↦ inr ((bytes_eq-Decides f t).0 s) ],
  λ h. elim h [ inl p ↦ or_left (is_plus f) (bytes_eq f t) p | inr s ↦ or_right (is_plus f) (bytes_eq f t) ((bytes_eq-Decides f t).1 s) ],
)

-- "#" as the only level is the text "#"
hash_is : (l : List ℕ) → is_hash l ≡ true → l ≡ 35 ∷ []
hash_is [] e = grind arith
hash_is (b ∷ []) e = grind (arith, nat_tests)
hash_is (b ∷ c ∷ l) e = grind arith

-- ---- the definition by a relation

at_hash : (f : List ℕ) (fs ts : List (List ℕ)) → (is_hash f && is_end fs) ≡ true → TakesRest (f ∷ fs) ts
at_hash f [] ts e = record { before = []; first = []; rest = ts; filter = ap (λ l. l ∷ []) (hash_is f (and_parts (is_hash f) true e).0); topic = refl; each = tt }
at_hash f (g ∷ fs) ts e = absurd (both_ways false refl (and_parts (is_hash f) false e).1)

further : (f t : List ℕ) (fs ts : List (List ℕ)) → TakesLevel f t → TakesRest fs ts → TakesRest (f ∷ fs) (t ∷ ts)
further f t fs ts l h =
    record {
      before = f ∷ h.before;
      first = t ∷ h.first;
      rest = h.rest;
      filter = ap (λ ls. f ∷ ls) h.filter;
      topic = ap (λ ls. t ∷ ls) h.topic;
      each = (l, h.each);
    }

by_level : (fs ts : List (List ℕ)) → takes_levels fs ts ≡ true → AllZip TakesLevel fs ts ⊎ TakesRest fs ts
by_level [] [] e = inl tt
by_level [] (t ∷ ts) e = absurd (both_ways false refl e)
by_level (f ∷ fs) [] e = inr (at_hash f fs [] e)
by_level (f ∷ fs) (t ∷ ts) e =
    elim (or_cases (is_hash f && is_end fs) (takes_level f t && takes_levels fs ts) e) [
      | inl h ↦ inr (at_hash f fs (t ∷ ts) h)
      | inr b ↦
          let p = and_parts (takes_level f t) (takes_levels fs ts) b in
          let l = (level_takes f t).0 p.0 in
          elim (by_level fs ts p.1) [ inl r ↦ inl (l, r) | inr r ↦ inr (further f t fs ts l r) ]
    ]

all_take : (fs ts : List (List ℕ)) → AllZip TakesLevel fs ts → takes_levels fs ts ≡ true
all_take [] [] h = refl
all_take [] (t ∷ ts) h = absurd h
all_take (f ∷ fs) [] h = absurd h
all_take (f ∷ fs) (t ∷ ts) h = let level = (level_takes f t).1 h.0 in grind (arith, all_take fs ts h.1)

hash_rest : (ts : List (List ℕ)) → takes_levels ((35 ∷ []) ∷ []) ts ≡ true
hash_rest [] = refl
hash_rest (t ∷ ts) = refl

front-takes : (before first rest : List (List ℕ)) → AllZip TakesLevel before first → takes_levels (before ++ (35 ∷ []) ∷ []) (first ++ rest) ≡ true
front-takes [] [] rest h = hash_rest rest
front-takes [] (t ∷ ts) rest h = absurd h
front-takes (f ∷ fs) [] rest h = absurd h
front-takes (f ∷ fs) (t ∷ ts) rest h = let level = (level_takes f t).1 h.0 in grind (arith, front-takes fs ts rest h.1)

pub matching_law : MatchingLaw
unfolding takes
matching_law f t = (
  by_level (levels f) (levels t),
  λ r.
      elim r [
        | inl h ↦ all_take (levels f) (levels t) h
        | inr h ↦
            ap (λ fs. takes_levels fs (levels t)) h.filter ∙ ap (takes_levels (h.before ++ (35 ∷ []) ∷ [])) h.topic ∙ front-takes h.before h.first h.rest h.each
      ],
)

-- ---- "#"

pub hash_law : HashLaw
unfolding takes
hash_law t = hash_rest (levels t)

-- ---- no wildcards

-- a level without wildcards takes itself alone
plain_level : (l : List ℕ) → plain l ≡ true → (is_hash l ≡ false) × (is_plus l ≡ false)
plain_level [] e = (refl, refl)
plain_level (b ∷ []) e = (grind (arith, nat_tests), grind (arith, nat_tests))
plain_level (b ∷ c ∷ l) e = (refl, refl)

pub plain-levels : (bs : List ℕ) → plain bs ≡ true → AllByRecursion (λ l. plain l ≡ true) (levels bs)
plain-levels [] e = (refl, tt)
plain-levels (b ∷ bs) e = let next = first_level bs in grind (arith, nat_tests, plain-levels bs)

plain-takes : (fs ts : List (List ℕ)) → AllByRecursion (λ l. plain l ≡ true) fs → takes_levels fs ts ≡ true → fs ≡ ts
plain-takes [] [] h e = refl
plain-takes [] (t ∷ ts) h e = absurd (both_ways false refl e)
plain-takes (f ∷ fs) [] h e = let n = plain_level f h.0 in grind arith
plain-takes (f ∷ fs) (t ∷ ts) h e =
    let n = plain_level f h.0 in
    let both : (bytes_eq f t && takes_levels fs ts) ≡ true = grind arith in
    let p = and_parts (bytes_eq f t) (takes_levels fs ts) both in
    ap (λ l. l ∷ fs) ((bytes_eq-Decides f t).0 p.0) ∙ ap (λ ls. t ∷ ls) (plain-takes fs ts h.1 p.1)

each_itself : (fs : List (List ℕ)) → AllZip TakesLevel fs fs
each_itself [] = tt
each_itself (f ∷ fs) = (inr refl, each_itself fs)

pub plain_law : PlainLaw
unfolding takes
plain_law f t e = (
  λ h. sym (rejoined f) ∙ ap with_slashes (plain-takes (levels f) (levels t) (plain-levels f e) h) ∙ rejoined t,
  λ same. ap (λ x. takes_levels (levels f) (levels x)) (sym same) ∙ all_take (levels f) (levels f) (each_itself (levels f)),
)

-- ---- below

-- two texts with a slash between them have the levels of both
pub levels-append : (xs ys : List ℕ) → levels (xs ++ 47 ∷ ys) ≡ levels xs ++ levels ys
levels-append [] ys = refl
levels-append (b ∷ xs) ys = let next = first_level xs in grind (arith, nat_tests, levels-append xs ys)

below : (fs ts us : List (List ℕ)) → last_is_hash fs ≡ false → takes_levels fs ts ≡ true → takes_levels (fs ++ (35 ∷ []) ∷ []) (ts ++ us) ≡ true
below [] [] us n e = hash_rest us
below [] (t ∷ ts) us n e = absurd (both_ways false refl e)
below (f ∷ []) [] us n e = grind arith
below (f ∷ g ∷ fs) [] us n e = grind arith
below (f ∷ []) (t ∷ ts) us n e = grind (arith, below [] ts us refl)
below (f ∷ g ∷ fs) (t ∷ ts) us n e = grind (arith, below (g ∷ fs) ts us n)

pub below_law : BelowLaw
unfolding takes
below_law f t n e = (
  ap (λ fs. takes_levels fs (levels t)) (levels-append f (35 ∷ []))
      ∙ ap (takes_levels (levels f ++ (35 ∷ []) ∷ [])) (sym (append-nil (levels t)))
      ∙ below (levels f) (levels t) [] n e,
  λ u.
      ap (λ fs. takes_levels fs (levels (t ++ 47 ∷ u))) (levels-append f (35 ∷ []))
      ∙ ap (takes_levels (levels f ++ (35 ∷ []) ∷ [])) (levels-append t u)
      ∙ below (levels f) (levels t) (levels u) n e,
)

-- ---- as many levels

as_many : (fs ts : List (List ℕ)) → last_is_hash fs ≡ false → takes_levels fs ts ≡ true → length fs ≡ length ts
as_many [] [] n e = refl
as_many [] (t ∷ ts) n e = absurd (both_ways false refl e)
as_many (f ∷ []) [] n e = grind arith
as_many (f ∷ g ∷ fs) [] n e = grind arith
as_many (f ∷ []) (t ∷ ts) n e = grind (arith, as_many [] ts refl)
as_many (f ∷ g ∷ fs) (t ∷ ts) n e =
    elim (or_cases (is_hash f && false) (takes_level f t && takes_levels (g ∷ fs) ts) e) [
      | inl h ↦ absurd (both_ways false refl (and_parts (is_hash f) false h).1)
      | inr b ↦ ap suc (as_many (g ∷ fs) ts n (and_parts (takes_level f t) (takes_levels (g ∷ fs) ts) b).1)
    ]

one_level : (bs : List ℕ) → is_end (drop 1 (levels bs)) ≡ unslashed bs
one_level [] = refl
one_level (b ∷ bs) = let next = first_level bs in grind (arith, nat_tests, one_level bs)

none_left : (ts : List (List ℕ)) → takes_levels [] ts ≡ is_end ts
none_left [] = refl
none_left (t ∷ ts) = refl

pub count_law : CountLaw
unfolding takes
count_law =
    record {
      same = λ f t n e. as_many (levels f) (levels t) n e;
      plus = λ t. let next = first_level t in grind (arith, none_left next.1, one_level t);
    }

pub examples : Examples
unfolding takes
examples = record { parent = refl; wanting = refl; empty = refl; two = refl }
