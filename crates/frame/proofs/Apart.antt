-- Telling a packet's parts apart.
use Rattle.std.proofs.Common.{◌≡◌, ℕ, ◌+◌, ◌-◌, ◌%◌, ◌<◌, ◌≤◌, Bool, true, false, cond, ◌&&◌, eqb, leb, ◌≢◌, ◌⊎◌, List, [], ◌∷◌, ◌++◌, length, take, drop, Some, None, Ok, Option, Result, sym, refl, ap, ◌∙◌, subst, one-add, arith, length-append, length-drop}
use Rattle.std.proofs.lemmas.List.{drop_at, take_rest}
use Rattle.std.proofs.lemmas.Bool.Decides.{nat_tests}
use Rattle.frame.specs.declared.field.BadField.{BadField}
use Rattle.frame.specs.declared.field.Field.TheVariants.{FirstByte, RemainingLength}
use Rattle.frame.specs.declared.first_byte.PacketType.{PacketType}
use Rattle.frame.specs.FirstByte.{type_in}
use Rattle.frame.specs.Length.{length_in, length_bytes}
use Rattle.frame.specs.Parts.{Told, bad_at, after_length, after_type, after_first, parts_in, packet_bytes, ToldApart, IsThere, PartsLaw}
use Rattle.frame.proofs.Lengths.{reads_back, shortest_some}

module _ (t : PacketType) (flags : ℕ) (rest : List ℕ) where
  pub no_length : None ≡ length_in rest → bad_at RemainingLength 1 ≡ after_type t flags rest
  unfolding after_type
  no_length e = ap (after_length t flags rest) e

  module _ (n k : ℕ) (read : Some (n, k) ≡ length_in rest) where
    pub bad-length : (540 < n) ⊎ (length rest ≢ k + n) → bad_at RemainingLength 1 ≡ after_type t flags rest
    unfolding after_type
    bad-length h =
        let no : (leb n 540 && eqb (length rest) (k + n)) ≡ false = grind (arith, nat_tests) in
        let test : bad_at RemainingLength 1 ≡ after_length t flags rest (Some (n, k)) = simp no in
        test ∙ ap (after_length t flags rest) read

    pub good_length : n ≤ 540 → length rest ≡ k + n
        → Ok (record { type_is = t; flags = flags; body = take (length rest - k) (drop k rest); place = 1 + k }) ≡ after_type t flags rest
    unfolding after_type
    good_length h l =
        let yes : (leb n 540 && eqb (length rest) (k + n)) ≡ true = grind (arith, nat_tests) in
        let test : Ok (record { type_is = t; flags = flags; body = drop k rest; place = 1 + k }) ≡ after_length t flags rest (Some (n, k)) = simp yes in
        ap (λ b. Ok (record { type_is = t; flags = flags; body = b; place = 1 + k })) (take_rest rest k) ∙ test ∙ ap (after_length t flags rest) read

pub no_first : (bytes : List ℕ) → length bytes < 1 → bad_at FirstByte 0 ≡ parts_in bytes
unfolding parts_in
no_first [] h = refl
no_first (b ∷ bs) h = absurd (omega arith)

pub told_apart : ToldApart
unfolding parts_in packet_bytes
told_apart first t body et h =
    let n = length body in
    let rest = length_bytes n ++ body in
    let k = length (length_bytes n) in
    let read = sym (reads_back n body (omega arith)) in
    let len : length rest ≡ k + n = length-append (length_bytes n) body in
    ap (λ o. after_first o (first % 16) rest) et
    ∙ sym (good_length t (first % 16) rest n k read h len)
    ∙ ap (λ b. Ok (record { type_is = t; flags = first % 16; body = b; place = 1 + k })) (take_rest rest k ∙ drop_at (length_bytes n) body k refl)

-- what a packet that is told apart was
There : ℕ → List ℕ → Told → Type 0
There first rest p =
    (type_in first ≡ Some p.type_is) × (p.flags ≡ first % 16) × (p.body ≡ drop p.place (first ∷ rest)) × (length p.body ≤ 540)
    × (length_in rest ≡ Some (length p.body, p.place - 1)) × (1 < p.place)

same_ok : (p q : Told) → ◌≡◌ {A = Result Told BadField} (Ok p) (Ok q) → p ≡ q
same_ok p q e = cc

there_by : (first : ℕ) (t : PacketType) (rest : List ℕ) (n k : ℕ) (p : Told) → type_in first ≡ Some t → length_in rest ≡ Some (n, k) → 1 ≤ k
    → (v : Bool) → (leb n 540 && eqb (length rest) (k + n)) ≡ v
    → cond v (Ok (record { type_is = t; flags = first % 16; body = drop k rest; place = 1 + k })) (bad_at RemainingLength 1) ≡ Ok p → There first rest p
unfolding There
there_by first t rest n k p et el h true e f =
    let q : Told = record { type_is = t; flags = first % 16; body = drop k rest; place = 1 + k } in
    let g : q ≡ p = same_ok q p f in
    let small : n ≤ 540 = grind (arith, nat_tests) in
    let long : length rest ≡ k + n = grind (arith, nat_tests) in
    let body : length (drop k rest) ≡ n = rw length-drop (omega arith) in
    let back : 1 + k - 1 ≡ k = omega arith in
    let all : There first rest q =
    (et, refl, sym (ap (λ i. drop i (first ∷ rest)) (one-add k)), rw body small, el ∙ (λ i. Some (sym body i, sym back i)), omega arith) in
    subst (λ x. There first rest x) g all
there_by first t rest n k p et el h false e f = absurd (let z : ◌≡◌ {A = ℕ} 0 1 = cc in omega arith)

there_length : (first : ℕ) (t : PacketType) (rest : List ℕ) (o : Option (ℕ × ℕ)) (p : Told) → type_in first ≡ Some t → length_in rest ≡ o
    → after_length t (first % 16) rest o ≡ Ok p → There first rest p
there_length first t rest None p et el f = absurd (let z : ◌≡◌ {A = ℕ} 0 1 = cc in omega arith)
there_length first t rest (Some x) p et el f = there_by first t rest x.0 x.1 p et el (shortest_some rest x.0 x.1 el) _ refl f

there_type : (first : ℕ) (o : Option PacketType) (rest : List ℕ) (p : Told) → type_in first ≡ o → after_first o (first % 16) rest ≡ Ok p → There first rest p
unfolding after_type
there_type first None rest p et f = absurd (let z : ◌≡◌ {A = ℕ} 0 1 = cc in omega arith)
there_type first (Some t) rest p et f = there_length first t rest (length_in rest) p et refl f

pub is_there : IsThere
unfolding parts_in There
is_there first rest p e = there_type first (type_in first) rest p refl e

pub parts_law : PartsLaw
parts_law = record { told_apart = told_apart; is_there = is_there }
