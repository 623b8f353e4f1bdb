-- The first word of a line.
use Rattle.std.proofs.Common.{◌≡◌, ℕ, suc, ◌+◌, Bool, true, false, cond, not, List, [], ◌∷◌, length, take, drop, Some, None, eqb, refl, ap, ◌∙◌, arith}
use Rattle.std.proofs.lemmas.List.Sums.{prefix_len-le-length}
use Rattle.std.proofs.lemmas.Bool.Decides.{nat_tests}
use Rattle.std.specs.List.{position, position_or_len}
use Rattle.std.specs.Option.{unwrap_or}
use Rattle.lines.specs.Words.{skip_blanks, word_in, after_word}

-- is it a blank, or none?
abbrev pub blank : ℕ → Bool
blank c = eqb c 32

abbrev pub solid : ℕ → Bool
solid c = not (eqb c 32)

-- the first place at which a test passes, or the length
place_by : (v : Bool) (n l : ℕ) → (v ≡ false → n ≡ l) → unwrap_or (cond v (Some n) None) l ≡ n
place_by true n l h = refl
place_by false n l h = let e = h refl in omega arith

pub place : (p : ℕ → Bool) (xs : List ℕ) → unwrap_or (position p xs) (length xs) ≡ position_or_len p xs
place p xs = place_by _ (position_or_len p xs) (length xs) (λ e. let h = prefix_len-le-length (λ x. not (p x)) xs in grind (arith, nat_tests))

one_more : (n : ℕ) → 1 + n ≡ suc n
one_more n = omega arith

take_by : (v : Bool) (n c : ℕ) (cs : List ℕ) → take (cond (not v) (1 + n) 0) (c ∷ cs) ≡ cond v [] (c ∷ take n cs)
take_by true n c cs = refl
take_by false n c cs = ap (λ k. take k (c ∷ cs)) (one_more n)

pub word_is : (line : List ℕ) → take (position_or_len blank line) line ≡ word_in line
word_is [] = refl
word_is (c ∷ cs) = take_by (blank c) (position_or_len blank cs) c cs ∙ ap (λ l. cond (blank c) [] (c ∷ l)) (word_is cs)

drop_by : (v : Bool) (n c : ℕ) (cs : List ℕ) → drop (cond (not v) (1 + n) 0) (c ∷ cs) ≡ cond v (c ∷ cs) (drop n cs)
drop_by true n c cs = refl
drop_by false n c cs = ap (λ k. drop k (c ∷ cs)) (one_more n)

pub after_is : (line : List ℕ) → drop (position_or_len blank line) line ≡ after_word line
after_is [] = refl
after_is (c ∷ cs) = drop_by (blank c) (position_or_len blank cs) c cs ∙ ap (λ l. cond (blank c) (c ∷ cs) l) (after_is cs)

blanks_by : (v : Bool) (n c : ℕ) (cs : List ℕ) → drop (cond (not (not v)) (1 + n) 0) (c ∷ cs) ≡ cond v (drop n cs) (c ∷ cs)
blanks_by true n c cs = ap (λ k. drop k (c ∷ cs)) (one_more n)
blanks_by false n c cs = refl

pub blanks_are : (line : List ℕ) → drop (position_or_len solid line) line ≡ skip_blanks line
blanks_are [] = refl
blanks_are (c ∷ cs) = blanks_by (blank c) (position_or_len solid cs) c cs ∙ ap (λ l. cond (blank c) l (c ∷ cs)) (blanks_are cs)
