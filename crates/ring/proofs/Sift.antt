-- Moving the entries that stay together in place: what holds after the first i were looked at.
use Rattle.std.proofs.Common.{◌≡◌, ℕ, ◌+◌, ◌-◌, ◌%◌, ◌<◌, ◌≤◌, min, Bool, true, false, cond, not, List, [], ◌∷◌, ◌++◌, length, get_or, take, drop, set, filter, sym, refl, ap, ◌∙◌, subst, append_assoc, append-nil, arith}
use Rattle.std.proofs.lemmas.List.Elements.{filter_more}
use Rattle.std.proofs.lemmas.List.Filters.{length-filter_both}
use Rattle.std.proofs.lemmas.List.{get_or-append_right, get_or-drop, set-append_right, length_push, take_at, drop_more}
use Rattle.ring.specs.declared.Ring.{Ring}
use Rattle.ring.specs.Ring.{round, waiting}
use Rattle.ring.specs.Remove.{unpicked, Removed}
use Rattle.ring.proofs.Round.{length-round, get_or-round, set-round}
use Rattle.ring.proofs.Waiting.{waiting-length, waiting_clamped}

-- ws is the list as it was, ys as it is now: k of the first i passed p and stand in front, and behind them nothing is written
pub record Sifted {T : Type 0} (p : T → Bool) (ws ys : List T) (k i : ℕ) : Type 0 where
  pub count : k ≡ length (filter p (take i ws))
  pub list : ys ≡ filter p (take i ws) ++ drop k ws
  pub behind : k ≤ i

-- a test's answer b is what it picks, c
pub stays_from : (b c : Bool) → b ≡ c → b ≡ false → not c ≡ true
stays_from b c e h = ap not (sym e ∙ h)

pub goes_from : (b c : Bool) → b ≡ c → b ≡ true → not c ≡ false
goes_from b c e h = ap not (sym e ∙ h)

module _ {T : Type 0} (p : T → Bool) (ws ys : List T) (k i : ℕ) (x : T) (s : Sifted p ws ys k i) (in-i : i < length ws) (read : x ≡ get_or ys i x) where
  -- the entry that is read is the one that stood there at first
  same : x ≡ get_or ws i x
  same =
      let K = filter p (take i ws) in
      let at : k + (i - k) ≡ i = omega (arith, s.behind) in
      read
      ∙ ap (λ zs. get_or zs i x) s.list
      ∙ get_or-append_right K (drop k ws) k i x (sym s.count) s.behind
      ∙ get_or-drop k ws (i - k) x
      ∙ ap (λ j. get_or ws j x) at

  step : filter p (take (i + 1) ws) ≡ filter p (take i ws) ++ cond (p x) (x ∷ []) []
  step = filter_more p ws i x in-i ∙ ap (λ y. filter p (take i ws) ++ cond (p y) (y ∷ []) []) (sym same)

  pub sifted_stays : p x ≡ true → Sifted p ws (set ys k x) (k + 1) (i + 1)
  sifted_stays e =
      let K = filter p (take i ws) in
      let more : filter p (take (i + 1) ws) ≡ K ++ x ∷ [] = step ∙ ap (λ b. K ++ cond b (x ∷ []) []) e in
      let room : k < length ws = omega (arith, s.behind) in
      let zero : k - k ≡ 0 = omega arith in
      record {
        count = ap (λ j. j + 1) s.count ∙ sym (length_push K x) ∙ ap length (sym more);
        list =
            ap (λ zs. set zs k x) s.list
            ∙ set-append_right K (drop k ws) k k x (sym s.count) (omega arith)
            ∙ ap (λ j. K ++ set (drop k ws) j x) zero
            ∙ ap (λ zs. K ++ set zs 0 x) (drop_more ws k x room)
            ∙ sym (append_assoc K (x ∷ []) (drop (k + 1) ws))
            ∙ ap (λ zs. zs ++ drop (k + 1) ws) (sym more);
        behind = omega (arith, s.behind);
      }

  pub sifted_goes : p x ≡ false → Sifted p ws ys k (i + 1)
  sifted_goes e =
      let K = filter p (take i ws) in
      let more : filter p (take (i + 1) ws) ≡ K = step ∙ ap (λ b. K ++ cond b (x ∷ []) []) e ∙ append-nil K in
      record {
        count = s.count ∙ ap length (sym more);
        list = s.list ∙ ap (λ zs. zs ++ drop k ws) (sym more);
        behind = omega (arith, s.behind);
      }

-- one turn in a ring: the entry in the place `at` is looked at, and written to the place `to` if it stays
module _ {T : Type 0} (p : T → Bool) (first : ℕ) (xs ys : List T) (k i : ℕ) (x : T) (long : length ys ≡ length xs)
    (s : Sifted p (round (first % length xs) xs) (round (first % length xs) ys) k i) (in-i : i < length xs)
    (at : ℕ) (at-is : at ≡ (first + i) % length ys) (read : x ≡ get_or ys at x) where
  inside : i < length (round (first % length xs) xs)
  inside = omega (arith, length-round (first % length xs) xs)

  read-round : x ≡ get_or (round (first % length xs) ys) i x
  read-round =
      read
      ∙ ap (λ j. get_or ys j x) at-is
      ∙ sym (get_or-round first ys i (omega arith) x)
      ∙ ap (λ n. get_or (round (first % n) ys) i x) long

  pub turn_stays : p x ≡ true → (to : ℕ) → to ≡ (first + k) % length ys → Sifted p (round (first % length xs) xs) (round (first % length xs) (set ys to x)) (k + 1) (i + 1)
  turn_stays e to to_is =
      let ws = round (first % length xs) xs in
      let wrote : set (round (first % length xs) ys) k x ≡ round (first % length xs) (set ys to x) =
      ap (λ n. set (round (first % n) ys) k x) (sym long)
      ∙ sym (set-round first ys k (omega (arith, s.behind)) x)
      ∙ ap (λ n. round (first % n) (set ys ((first + k) % length ys) x)) long
      ∙ ap (λ j. round (first % length xs) (set ys j x)) (sym to_is) in
      let P : List T → Type 0 = λ zs. Sifted p ws zs (k + 1) (i + 1) in
      subst P wrote (sifted_stays p ws (round (first % length xs) ys) k i x s inside read-round e)

  pub turn_goes : p x ≡ false → Sifted p (round (first % length xs) xs) (round (first % length xs) ys) k (i + 1)
  turn_goes e = sifted_goes p (round (first % length xs) xs) (round (first % length xs) ys) k i x s inside read-round e

-- when all were looked at
module _ {T : Type 0} (picked : T → Bool) (r : Ring) (xs ys : List T) (k : ℕ) (long : length ys ≡ length xs)
    (s : Sifted (λ x. not (picked x)) (round (r.first % length xs) xs) (round (r.first % length xs) ys) k (min r.count (length xs))) where
  kept_is : filter (λ x. not (picked x)) (take (min r.count (length xs)) (round (r.first % length xs) xs)) ≡ unpicked picked r xs
  kept_is = ap (filter (λ x. not (picked x))) (sym (waiting_clamped r xs))

  left_is : k ≡ length (unpicked picked r xs)
  left_is = s.count ∙ ap length kept_is

  list_is : round (r.first % length xs) ys ≡ unpicked picked r xs ++ drop k (round (r.first % length xs) xs)
  list_is = s.list ∙ ap (λ zs. zs ++ drop k (round (r.first % length xs) xs)) kept_is

  pub gone : min r.count (length xs) - k ≡ length (filter picked (waiting r xs))
  gone = omega (arith, left_is, waiting-length r xs, length-filter_both picked (λ x. not (picked x)) (λ x. refl) (waiting r xs))

  pub removed : Removed picked r xs (record { first = r.first; count = k }) ys
  unfolding waiting
  removed =
      record {
        after =
            ap (λ n. take k (round (r.first % n) ys)) long
            ∙ ap (take k) list_is
            ∙ take_at (unpicked picked r xs) (drop k (round (r.first % length xs) xs)) k (sym left_is);
        ring = λ j. record { first = r.first; count = left_is j };
        memory = list_is ∙ ap (λ j. unpicked picked r xs ++ drop j (round (r.first % length xs) xs)) left_is;
        size = long;
      }
