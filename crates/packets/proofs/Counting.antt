-- Filters up to a packet's end, counted one by one, and found again by their count.
use Rattle.std.proofs.Common.{◌≡◌, ℕ, zero, suc, ◌+◌, ◌-◌, ◌^◌, ◌<◌, ◌≤◌, Bool, true, false, cond, eqb, ltb, List, [], ◌∷◌, length, Some, None, Ok, Err, Result, sym, refl, ap, ◌∙◌, add-one, arith}
use Rattle.std.proofs.lemmas.Bool.{eqb-true, lt-ltb}
use Rattle.std.specs.Result.{result_ok}
use Rattle.packets.specs.declared.packet.Filter.{Filter}
use Rattle.packets.specs.declared.packet.Filters.{Filters}
use Rattle.packets.specs.declared.packet.ReadError.{ReadError}
use Rattle.packets.specs.Fields.{onward, ended}
use Rattle.packets.specs.Filters.{Entry, Found, filter_in, before, filters_in, heading, first_filters, entries_of, nth, entry_of, maybe_entry, found}

filters_none : (g : Bool) (k : ℕ) (bs : List ℕ) (at : ℕ) → true ≡ eqb (length bs) 0 → Ok [] ≡ filters_in g k bs at
filters_none g zero [] at e = refl
filters_none g (suc k) [] at e = refl
filters_none g k (b ∷ bs) at e = let z = eqb-true (length (b ∷ bs)) 0 (sym e) in absurd (omega arith)

-- where no filter may follow
no_more : (g : Bool) (bs : List ℕ) (at : ℕ) (r : Result (Unit {0}) ReadError) → r ≡ ended bs at tt → onward (λ u. Ok []) r ≡ filters_in g 0 bs at
no_more g [] at r e = ap (onward (λ (u : Unit {0}). Ok [])) e
no_more g (b ∷ bs) at r e = ap (onward (λ (u : Unit {0}). Ok [])) e

filters_step : Bool → ℕ → Result Found ReadError → Result (List Entry) ReadError
filters_step g k x = onward (λ y. before y.entry (filters_in g k y.rest y.next)) x

from_step : (g : Bool) (k : ℕ) (bs : List ℕ) (at : ℕ) → false ≡ eqb (length bs) 0 → filters_step g k (filter_in g bs at) ≡ filters_in g (suc k) bs at
unfolding filters_step
from_step g k [] at e = absurd (let z : ◌≡◌ {A = ℕ} 0 1 = cc in omega arith)
from_step g k (b ∷ bs) at e = refl

-- n filters stand in front of a place: how the rest is read, the whole is read
pub record Counting (g : Bool) (bs : List ℕ) (at n : ℕ) (rest : List ℕ) (next : ℕ) : Type 0 where
  pub few : n ≤ 8
  pub more : (m : ℕ) → Ok (first_filters g m rest next) ≡ filters_in g (8 - n) rest next → Ok (first_filters g (n + m) bs at) ≡ filters_in g 8 bs at
  pub stop : (e : ReadError) → Err e ≡ filters_in g (8 - n) rest next → Err e ≡ filters_in g 8 bs at

module _ (g : Bool) (bs : List ℕ) (at n : ℕ) (rest : List ℕ) (next : ℕ) (c : Counting g bs at n rest next) where
  pub counting_done : true ≡ eqb (length rest) 0 → Ok (first_filters g n bs at) ≡ filters_in g 8 bs at
  counting_done e = let z : n + 0 ≡ n = omega arith in ap (λ k. Ok (first_filters g k bs at)) (sym z) ∙ c.more 0 (filters_none g (8 - n) rest next e)

  pub counting_end : (u : Unit {0}) → 8 ≤ n → Ok u ≡ ended rest next tt → Ok (first_filters g 8 bs at) ≡ filters_in g 8 bs at
  counting_end u h e =
      let few = c.few in
      let k : 8 - n ≡ 0 = omega arith in
      let z : n + 0 ≡ 8 = omega arith in
      ap (λ j. Ok (first_filters g j bs at)) (sym z) ∙ c.more 0 (rw k (no_more g rest next (Ok u) e))

  pub counting_over : (x : ReadError) → 8 ≤ n → Err x ≡ ended {A = Unit {0}} rest next tt → Err x ≡ filters_in g 8 bs at
  counting_over x h e = let few = c.few in let k : 8 - n ≡ 0 = omega arith in c.stop x (rw k (no_more g rest next (Err x) e))

  module _ (some : n < 8) (full : false ≡ eqb (length rest) 0) where
    pub counting_stop : (x : ReadError) → Err x ≡ filter_in g rest next → Err x ≡ filters_in g 8 bs at
    unfolding filters_step
    counting_stop x h =
        let k : 8 - n ≡ suc (8 - (n + 1)) = omega arith in
        c.stop x (rw k (ap (filters_step g (8 - (n + 1))) h ∙ from_step g (8 - (n + 1)) rest next full))

    pub counting_more : (x : Found) → Ok x ≡ filter_in g rest next → Counting g bs at (n + 1) x.rest x.next
    unfolding filters_step
    counting_more x h =
        let k : 8 - n ≡ suc (8 - (n + 1)) = omega arith in
        let step = ap (filters_step g (8 - (n + 1))) h ∙ from_step g (8 - (n + 1)) rest next full in
        record {
          few = omega arith;
          more = λ m f.
              let one : n + 1 + m ≡ n + (m + 1) = omega arith in
              ap (λ j. Ok (first_filters g j bs at)) one
              ∙ c.more (m + 1) (rw (k, add-one) (ap (λ y. Ok (heading (first_filters g m) y)) (sym h) ∙ ap (before x.entry) f ∙ step));
          stop = λ e f. c.stop e (rw k (ap (before x.entry) f ∙ step));
        }

-- ---- the filter with an index

nth_beyond_step : (g : Bool) (n : ℕ) (k : ℕ) → ((bs : List ℕ) (at : ℕ) (j : ℕ) → n ≤ j → None ≡ nth j (first_filters g n bs at)) → suc n ≤ k
    → (r : Result Found ReadError) → None ≡ nth k (heading (first_filters g n) r)
nth_beyond_step g n zero ih h r = absurd (omega arith)
nth_beyond_step g n (suc k) ih h (Ok x) = ih x.rest x.next k (omega arith)
nth_beyond_step g n (suc k) ih h (Err e) = refl

pub nth_beyond : (g : Bool) (n : ℕ) (bs : List ℕ) (at : ℕ) (k : ℕ) → n ≤ k → None ≡ nth k (first_filters g n bs at)
nth_beyond g zero bs at k h = refl
nth_beyond g (suc n) bs at k h = nth_beyond_step g n k (λ bs at j h. nth_beyond g n bs at j h) h (filter_in g bs at)

pub entries_fit : (f : Filters) → f.place + length f.part.now < 2 ^ 64 → first_filters f.with_qos f.count f.part.now f.place ≡ entries_of f
entries_fit f h = rw (lt-ltb _ (2 ^ 64) h) refl

beyond_by : (f : Filters) (k : ℕ) → f.count ≤ k → (v : Bool) → None ≡ nth k (cond v (first_filters f.with_qos f.count f.part.now f.place) [])
beyond_by f k h true = nth_beyond f.with_qos f.count f.part.now f.place k h
beyond_by f k h false = refl

pub entries_beyond : (f : Filters) (k : ℕ) → f.count ≤ k → None ≡ nth k (entries_of f)
entries_beyond f k h = beyond_by f k h (ltb (f.place + length f.part.now) (2 ^ 64))

-- what a reading of one filter found
pub found_some : {f : Filter} {x : Result Found ReadError} (rest : List ℕ) (next : ℕ) (r : Result Filter ReadError) → Some f ≡ result_ok r → found rest next r ≡ x
    → Ok (record { entry = entry_of f; rest = rest; next = next }) ≡ x
found_some {f} rest next (Ok g) e h = let same : f ≡ g = cc in ap (λ y. Ok (record { entry = entry_of y; rest = rest; next = next })) same ∙ h
found_some rest next (Err d) e h = absurd (let z : ◌≡◌ {A = ℕ} 0 1 = cc in omega arith)

pub found_none : {x : Result Found ReadError} (rest : List ℕ) (next : ℕ) (r : Result Filter ReadError) → None ≡ result_ok r → found rest next r ≡ x
    → (d : ReadError) × (Err d ≡ x)
found_none rest next (Ok g) e h = absurd (let z : ◌≡◌ {A = ℕ} 0 1 = cc in omega arith)
found_none rest next (Err d) e h = (d, h)

first_of : (rest : List ℕ) (next : ℕ) (others : List ℕ → ℕ → List Entry) (r : Result Filter ReadError) → maybe_entry (result_ok r) ≡ nth 0 (heading others (found rest next r))
first_of rest next others (Ok f) = refl
first_of rest next others (Err e) = refl

-- i filters stand in front of a place: the filter wanted is one of those from there on
pub Finding : Bool → List ℕ → ℕ → ℕ → ℕ → ℕ → List ℕ → ℕ → Type 0
Finding g bs at n k i rest next = nth (k - i) (first_filters g (n - i) rest next) ≡ nth k (first_filters g n bs at)

pub finding_first : (g : Bool) (bs : List ℕ) (at n k : ℕ) {rest : List ℕ} {next : ℕ} → rest ≡ bs → next ≡ at → Finding g bs at n k 0 rest next
unfolding Finding
finding_first g bs at n k e f = let a : k - 0 ≡ k = omega arith in let b : n - 0 ≡ n = omega arith in rw (e, f, a, b) refl

module _ (g : Bool) (bs : List ℕ) (at n k i : ℕ) (rest : List ℕ) (next : ℕ) (f : Finding g bs at n k i rest next) where
  pub finding_more : (x : Found) → k < n → i < k → Ok x ≡ filter_in g rest next → Finding g bs at n k (i + 1) x.rest x.next
  unfolding Finding
  finding_more x h l e =
      let a : k - i ≡ suc (k - (i + 1)) = omega arith in
      let b : n - i ≡ suc (n - (i + 1)) = omega arith in
      (rw (a, b, ← e) refl) ∙ f

  pub finding_stop : (x : ReadError) → Err x ≡ filter_in g rest next → k < n → i ≤ k → None ≡ nth k (first_filters g n bs at)
  unfolding Finding
  finding_stop x e h l = let b : n - i ≡ suc (n - (i + 1)) = omega arith in (rw (b, ← e) refl) ∙ f

  pub finding_found : (after : List ℕ) (behind : ℕ) (r : Result Filter ReadError) → k < n → k ≡ i → found after behind r ≡ filter_in g rest next
      → maybe_entry (result_ok r) ≡ nth k (first_filters g n bs at)
  unfolding Finding
  finding_found after behind r h l e =
      let a : k - i ≡ 0 = omega arith in
      let b : n - i ≡ suc (n - (i + 1)) = omega arith in
      (rw (a, b, ← e) (first_of after behind _ r)) ∙ f
