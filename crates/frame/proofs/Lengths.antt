-- A length that is written reads back, and no shorter form does.
use Rattle.std.proofs.Common.{◌≡◌, ℕ, zero, suc, ◌+◌, ◌*◌, ◌/◌, ◌%◌, ◌^◌, ◌<◌, ◌≤◌, Bool, true, false, cond, ltb, List, [], ◌∷◌, ◌++◌, length, Some, None, Option, sym, refl, ap, subst, div-lt_iff_lt-mul, pow-suc, add-one, arith, lit<, ltb-false, le-ltb}
use Rattle.frame.specs.Length.{before, length_within, length_in, form_within, LengthLaw, ReadsBack, IsShortest}

back_by : (k n : ℕ) (rest : List ℕ) (v : Bool) → ltb n 128 ≡ v → n < 128 ^ suc k → length_within (suc k) (form_within (suc k) n ++ rest) ≡ Some (n, length (form_within (suc k) n))
back_by k n rest true e h = simp e
back_by zero n rest false e h = absurd (omega (arith, ltb-false n 128 e))
back_by (suc k) n rest false e h =
    let low : n / 128 < 128 ^ suc k = (div-lt_iff_lt-mul {k = 128} (lit< tt)).1 (subst (λ m. n < m) (pow-suc 128 (suc k)) h) in
    let ih = back_by k (n / 128) rest (ltb (n / 128) 128) refl low in
    let more = le-ltb (128 + n % 128) 128 (omega arith) in
    let p : (128 + n % 128) % 128 + 128 * (n / 128) ≡ n = omega arith in
    let q = add-one (length (form_within (suc k) (n / 128))) in
    rw (e, more, ih) (λ i. Some (p i, q i))

pub reads_back : ReadsBack
reads_back n rest h = back_by 3 n rest (ltb n 128) refl h

some_first : (a b : ℕ × ℕ) → Some a ≡ Some b → a ≡ b
some_first a b e = cc

-- the form of n has one byte, or one more than that of what is left of n
form_bound : (k n : ℕ) (v : Bool) (m : ℕ) → ltb n 128 ≡ v → 1 ≤ m → length (form_within k (n / 128)) + 1 ≤ m → length (form_within (suc k) n) ≤ m
form_bound k n true m e h l = rw e h
form_bound k n false m e h l = rw e (rw (sym (add-one (length (form_within k (n / 128))))) l)

-- what is read of bs with at most k bytes is no shorter than the form of the number
Shortest : ℕ → List ℕ → Type 0
Shortest k bs = (n m : ℕ) → length_within k bs ≡ Some (n, m) → (1 ≤ m) × (length (form_within k n) ≤ m)

shortest_on : (k n m b : ℕ) (bs : List ℕ) (r : Option (ℕ × ℕ)) → Shortest k bs → length_within k bs ≡ r → before b r ≡ Some (n, m) → (1 ≤ m) × (length (form_within (suc k) n) ≤ m)
unfolding Shortest
shortest_on k n m b bs None s e f = let z : ◌≡◌ {A = ℕ} 0 1 = cc in absurd (omega arith)
shortest_on k n m b bs (Some p) s e f =
    let ih = s p.0 p.1 e in
    let g = some_first _ _ f in
    let gn : b % 128 + 128 * p.0 ≡ n = ap (λ x. x.0) g in
    let gm : p.1 + 1 ≡ m = ap (λ x. x.1) g in
    let q : n / 128 ≡ p.0 = omega arith in
    let l : length (form_within k (n / 128)) + 1 ≤ m = rw q (omega (arith, ih.1)) in
    (omega arith, form_bound k n (ltb n 128) m refl (omega arith) l)

shortest_by : (k n m b : ℕ) (bs : List ℕ) (v : Bool) → Shortest k bs → ltb b 128 ≡ v → cond v (Some (b, 1)) (before b (length_within k bs)) ≡ Some (n, m) → (1 ≤ m) × (length (form_within (suc k) n) ≤ m)
shortest_by k n m b bs true s e f =
    let g = some_first _ _ f in
    let gn : b ≡ n = ap (λ x. x.0) g in
    let gm : 1 ≤ m = omega (arith, ap (λ x. x.1) g) in
    let t : ltb n 128 ≡ true = rw (sym gn) e in
    (gm, rw t gm)
shortest_by k n m b bs false s e f = shortest_on k n m b bs (length_within k bs) s refl f

shortest : (k : ℕ) (bs : List ℕ) → Shortest k bs
unfolding Shortest
shortest zero bs n m e = let z : ◌≡◌ {A = ℕ} 0 1 = cc in absurd (omega arith)
shortest (suc k) [] n m e = let z : ◌≡◌ {A = ℕ} 0 1 = cc in absurd (omega arith)
shortest (suc k) (b ∷ bs) n m e = shortest_by k n m b bs (ltb b 128) (shortest k bs) refl e

pub is_shortest : IsShortest
unfolding Shortest
is_shortest n k bs e = (shortest 4 bs n k e).1

-- a length takes at least one byte
pub shortest_some : (bs : List ℕ) (n k : ℕ) → length_in bs ≡ Some (n, k) → 1 ≤ k
unfolding Shortest
shortest_some bs n k e = (shortest 4 bs n k e).0

pub length_law : LengthLaw
length_law = record { reads_back = reads_back; is_shortest = is_shortest }
