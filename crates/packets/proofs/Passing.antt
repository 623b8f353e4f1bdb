-- Codes up to a packet's end, passed one by one.
use Rattle.std.proofs.Common.{◌≡◌, ℕ, zero, suc, ◌+◌, ◌-◌, ◌<◌, ◌≤◌, true, false, eqb, List, [], ◌∷◌, length, get_or, drop, Ok, Err, Result, refl, ap, ◌∙◌, add-one, drop-cons, arith}
use Rattle.std.proofs.lemmas.List.{drop_all}
use Rattle.frame.specs.declared.field.Field.TheVariants.{End, QosOrCode}
use Rattle.packets.specs.declared.packet.ReadError.{ReadError}
use Rattle.packets.specs.Fields.{bad, onward}
use Rattle.packets.specs.Reads.{is_code, codes_in, some_codes, passed}

pub some_codes_full : (cs : List ℕ) (at : ℕ) → false ≡ eqb (length cs) 0 → codes_in 8 cs at ≡ some_codes cs at
some_codes_full [] at e = absurd (let z : ◌≡◌ {A = ℕ} 0 1 = cc in omega arith)
some_codes_full (c ∷ cs) at e = refl

with_code : ℕ → Result (List ℕ) ReadError → Result (List ℕ) ReadError
with_code c r = onward (λ ds. Ok (c ∷ ds)) r

pass_more : (c : ℕ) (cs : List ℕ) (r : Result (Unit {0}) ReadError) → passed (c ∷ cs) r ≡ with_code c (passed cs r)
unfolding with_code
pass_more c cs (Ok u) = refl
pass_more c cs (Err e) = refl

-- the first i codes pass: what the others come to, all come to
pub Passing : List ℕ → ℕ → ℕ → Type 0
Passing cs at i = (r : Result (Unit {0}) ReadError) → passed (drop i cs) r ≡ codes_in (8 - i) (drop i cs) (at + i) → passed cs r ≡ codes_in 8 cs at

pub passing_none : (cs : List ℕ) (at : ℕ) → Passing cs at 0
unfolding Passing
passing_none cs at r h = let z : at + 0 ≡ at = omega arith in h ∙ ap (λ n. codes_in 8 cs n) z

next_code : (cs : List ℕ) (i : ℕ) → i < length cs → drop i cs ≡ get_or cs i 0 ∷ drop (i + 1) cs
next_code cs i h = rw (add-one, drop-cons cs i 0)

module _ (cs : List ℕ) (at i : ℕ) (p : Passing cs at i) where
  pub passing_more : i < length cs → i < 8 → is_code (get_or cs i 0) ≡ true → Passing cs at (i + 1)
  unfolding Passing with_code
  passing_more h few e r f =
      let k : 8 - i ≡ suc (8 - (i + 1)) = omega arith in
      let place : at + (i + 1) ≡ at + i + 1 = omega arith in
      p r (rw (next_code cs i h, k, e) (pass_more _ (drop (i + 1) cs) r ∙ ap (with_code (get_or cs i 0)) (f ∙ ap (λ n. codes_in (8 - (i + 1)) (drop (i + 1) cs) n) place)))

  pub passing_bad : i < length cs → i < 8 → is_code (get_or cs i 0) ≡ false → bad QosOrCode (at + i) ≡ codes_in 8 cs at
  unfolding Passing
  passing_bad h few e = let k : 8 - i ≡ suc (8 - (i + 1)) = omega arith in p (bad QosOrCode (at + i)) (rw (next_code cs i h, k, e))

  pub passing_over : i < length cs → i ≡ 8 → bad End (at + i) ≡ codes_in 8 cs at
  unfolding Passing
  passing_over h e = let k : 8 - i ≡ 0 = omega arith in p (bad End (at + i)) (rw (next_code cs i h, k))

  done : (k : ℕ) (u : Unit {0}) → passed [] (Ok u) ≡ codes_in k [] (at + i)
  done zero u = refl
  done (suc k) u = refl

  pub passing_all : (u : Unit {0}) → length cs ≤ i → Ok cs ≡ codes_in 8 cs at
  unfolding Passing
  passing_all u h = p (Ok u) (rw (drop_all i cs h) (done (8 - i) u))
