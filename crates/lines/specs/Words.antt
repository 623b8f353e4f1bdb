-- The words of a line.
use Rattle.std.specs.Prelude.{ℕ, cond, List, [], ◌∷◌, ◌==◌}

-- a line from its first byte that is no blank
abbrev pub skip_blanks : List ℕ → List ℕ
skip_blanks [] = []
skip_blanks (c ∷ cs) = cond (c == 32) (skip_blanks cs) (c ∷ cs)

-- the bytes before the first blank
abbrev pub word_in : List ℕ → List ℕ
word_in [] = []
word_in (c ∷ cs) = cond (c == 32) [] (c ∷ word_in cs)

-- the bytes from the first blank on
abbrev pub after_word : List ℕ → List ℕ
after_word [] = []
after_word (c ∷ cs) = cond (c == 32) (c ∷ cs) (after_word cs)
