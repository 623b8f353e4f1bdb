-- How long a packet is, as far as 64 bits count.
use Rattle.std.proofs.Common.{◌≡◌, ℕ, suc, ◌+◌, ◌-◌, ◌/◌, ◌%◌, ◌^◌, ◌<◌, ◌≤◌, min, Bool, true, false, cond, ◌&&◌, ltb, leb, ◌⊎◌, List, [], ◌∷◌, ◌++◌, length, sym, refl, ap, ◌∙◌, ⊎_elim, arith, length-append, add-zero, zero-add, Bor}
use Rattle.std.specs.List.{fold}
use Rattle.std.proofs.lemmas.Bool.{and_from, and_left, and_right, cases_lt, le-leb, le-ltb, lt-leb}
use Rattle.frame.specs.Length.{length_bytes}
use Rattle.frame.specs.Parts.{packet_bytes}
use Rattle.writer.specs.Out.{counted, front, joined}

pub counted_small : (n : ℕ) → n ≤ 2 ^ 64 - 1 → counted n ≡ n
unfolding counted
counted_small n h = omega arith

counted_large : (n : ℕ) → 2 ^ 64 - 1 ≤ n → counted n ≡ 2 ^ 64 - 1
unfolding counted
counted_large n h = omega arith

-- what a buffer has room for is counted exactly
pub counted_room : (n room : ℕ) → room < 2 ^ 63 → counted n ≤ room → n ≤ room
unfolding counted
counted_room n room small h = omega arith

pub counted_short : (n room : ℕ) → room < counted n → room < n
unfolding counted
counted_short n room h = omega arith

one_more : (v : Bool) (a b : ℕ) → length (cond v (a ∷ []) (b ∷ [])) ≡ 1
one_more true a b = refl
one_more false a b = refl

width_four : (n : ℕ) → 2097152 ≤ n → length (length_bytes n) ≡ 4
width_four n h =
    let a = le-ltb n 128 (omega arith) in
    let b = le-ltb (n / 128) 128 (omega arith) in
    let c = le-ltb (n / 128 / 128) 128 (omega arith) in
    let d = one_more (ltb (n / 128 / 128 / 128) 128) (n / 128 / 128 / 128) (128 + n / 128 / 128 / 128 % 128) in
    rw (a, b, c) (ap (λ k. suc (suc (suc k))) d)

width_counted : (n : ℕ) → length (length_bytes (counted n)) ≡ length (length_bytes n)
width_counted n =
    ⊎_elim
    (λ h. ap (λ k. length (length_bytes k)) (counted_small n (omega arith)))
    (λ h. ap (λ k. length (length_bytes k)) (counted_large n h) ∙ sym (width_four n (omega arith)))
    (cases_lt n (2 ^ 64 - 1))

pub length_packet : (first : ℕ) (body : List ℕ) → length (packet_bytes first body) ≡ length body + (1 + length (length_bytes (length body)))
unfolding packet_bytes
length_packet first body = simp length-append (omega arith)

counted-sum : (n k : ℕ) → min (counted n + k) (2 ^ 64 - 1) ≡ counted (n + k)
unfolding counted
counted-sum n k = omega arith

-- the length needed, from the body's
pub needed : (first : ℕ) (body : List ℕ) {n w sum : ℕ} → n ≡ counted (length body) → w ≡ length (length_bytes n) → sum ≡ min (n + (1 + w)) (2 ^ 64 - 1) → sum ≡ counted (length (packet_bytes first body))
needed first body {n} {w} en ew es =
    let same : w ≡ length (length_bytes (length body)) = ew ∙ ap (λ k. length (length_bytes k)) en ∙ width_counted (length body) in
    es ∙ (λ i. min (en i + (1 + same i)) (2 ^ 64 - 1)) ∙ counted-sum (length body) (1 + length (length_bytes (length body))) ∙ ap counted (sym (length_packet first body))

-- the lengths of pieces added up
summed : (ps : List (Bor (List ℕ))) (n : ℕ) → fold (λ k p. min (k + length p.now) (2 ^ 64 - 1)) (counted n) ps ≡ counted (n + length (joined ps))
summed [] n = ap counted (sym (add-zero n))
summed (p ∷ ps) n =
    let long : n + length p.now + length (joined ps) ≡ n + length (joined (p ∷ ps)) = rw (length-append p.now (joined ps)) (omega arith) in
    ap (λ k. fold (λ k p. min (k + length p.now) (2 ^ 64 - 1)) k ps) (counted-sum n (length p.now)) ∙ summed ps (n + length p.now) ∙ ap counted long

pub added : (ps : List (Bor (List ℕ))) → fold (λ k p. min (k + length p.now) (2 ^ 64 - 1)) 0 ps ≡ counted (length (joined ps))
unfolding counted
added ps = summed ps 0 ∙ ap counted (zero-add (length (joined ps)))

-- where there is room the body's length is counted exactly, and the whole packet goes in
pub roomy : (first : ℕ) (body : List ℕ) (room : ℕ) {n w sum : ℕ} → room < 2 ^ 63 → n ≡ counted (length body) → w ≡ length (length_bytes n) → sum ≡ min (n + (1 + w)) (2 ^ 64 - 1) → sum ≤ room
    → (length (packet_bytes first body) ≤ room) × (n ≡ length body)
roomy first body room small en ew es h =
    let all = counted_room (length (packet_bytes first body)) room small (omega (arith, needed first body en ew es)) in
    let part : length body ≤ room = omega (arith, length_packet first body) in
    (all, en ∙ counted_small (length body) (omega arith))

pub unlawful : (fields : Bool) (n m : ℕ) → n ≡ m → (fields ≡ false) ⊎ ((fields ≡ true) × (540 < n)) → (fields && leb m 540) ≡ false
unlawful fields n m e h =
    ⊎_elim (λ f. and_left fields (leb m 540) f) (λ f. and_right fields (leb m 540) (lt-leb m 540 (omega (arith, f.1)))) h

pub lawful_now : (fields : Bool) (n m : ℕ) → n ≡ m → fields ≡ true → n ≤ 540 → (fields && leb m 540) ≡ true
lawful_now fields n m e t h = and_from fields (leb m 540) t (le-leb m 540 (omega arith))

-- what was written is the packet
pub whole : (first : ℕ) (body d : List ℕ) {l e : List ℕ} {n r : ℕ} → n ≡ length body → l ≡ length_bytes n → r ≡ length (first ∷ (l ++ body)) → e ≡ front d (first ∷ (l ++ body))
    → (r ≡ length (packet_bytes first body)) × (e ≡ front d (packet_bytes first body))
unfolding packet_bytes
whole first body d {l} en el er ee =
    let same : first ∷ (l ++ body) ≡ first ∷ (length_bytes (length body) ++ body) = ap (λ k. first ∷ (k ++ body)) (el ∙ ap (λ k. length_bytes k) en) in
    (er ∙ ap length same, ee ∙ ap (λ xs. front d xs) same)
