-- Texts behind a length byte.
use Rattle.std.proofs.Common.{◌≡◌, ℕ, ◌-◌, ◌≤◌, Bool, true, false, cond, leb, List, [], ◌∷◌, ◌++◌, length, get_or, take, drop, Some, None, Option, sym, refl, ap, ◌∙◌, arith, length-append}
use Rattle.std.proofs.lemmas.List.{take_at, drop_at, take_all, take-append-drop, length-take-le}
use Rattle.std.proofs.lemmas.Bool.{le-leb, leb-true}
use Rattle.rows.specs.Text.{TextLaw, text_in, text_bytes}

-- a list by its first element and the rest, as a slice pattern has it
pub one : (xs : List ℕ) → 1 ≤ length xs → xs ≡ get_or xs 0 0 ∷ take (length xs - 1) (drop 1 xs)
one [] h = absurd (omega arith)
one (a ∷ xs) h = ap (λ l. a ∷ l) (sym (take_all _ xs (omega arith)))

pub text_there : (t rest : List ℕ) → text_in (text_bytes t ++ rest) ≡ Some (t, rest)
text_there t rest =
    let in-it : length t ≤ length (t ++ rest) = rw length-append (omega arith) in
    rw (le-leb (length t) (length (t ++ rest)) in-it, take_at t rest (length t) refl, drop_at t rest (length t) refl)

first_of : Option (List ℕ × List ℕ) → List ℕ
first_of None = []
first_of (Some p) = p.0

second_of : Option (List ℕ × List ℕ) → List ℕ
second_of None = []
second_of (Some p) = p.1

pub same_first : (a b c d : List ℕ) → ◌≡◌ {A = Option (List ℕ × List ℕ)} (Some (a, b)) (Some (c, d)) → a ≡ c
unfolding first_of
same_first a b c d e = ap first_of e

pub same_second : (a b c d : List ℕ) → ◌≡◌ {A = Option (List ℕ × List ℕ)} (Some (a, b)) (Some (c, d)) → b ≡ d
unfolding second_of
same_second a b c d e = ap second_of e

back_by : (n : ℕ) (bs t rest : List ℕ) (v : Bool) → leb n (length bs) ≡ v → cond {A = Option (List ℕ × List ℕ)} v (Some (take n bs, drop n bs)) None ≡ Some (t, rest) → n ∷ bs ≡ text_bytes t ++ rest
back_by n bs t rest true e f =
    let p = same_first (take n bs) (drop n bs) t rest f in
    let q = same_second (take n bs) (drop n bs) t rest f in
    let k : length t ≡ n = ap length (sym p) ∙ length-take-le n bs (leb-true n (length bs) e) in
    (λ i. sym k i ∷ sym (take-append-drop n bs) i) ∙ (λ i. length t ∷ (p i ++ q i))
back_by n bs t rest false e f = let z : ◌≡◌ {A = ℕ} 0 1 = cc in absurd (omega arith)

pub text_back : (bs t rest : List ℕ) → text_in bs ≡ Some (t, rest) → bs ≡ text_bytes t ++ rest
text_back [] t rest f = let z : ◌≡◌ {A = ℕ} 0 1 = cc in absurd (omega arith)
text_back (n ∷ bs) t rest f = back_by n bs t rest (leb n (length bs)) refl f

pub text_law : TextLaw
text_law = record { there = text_there; back = text_back }
