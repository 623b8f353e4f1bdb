-- Facts on what waits in a ring, for the calls here and for callers.
use Rattle.std.proofs.Common.{◌≡◌, ℕ, suc, ◌+◌, ◌-◌, ◌%◌, ◌<◌, ◌≤◌, min, List, [], ◌∷◌, ◌++◌, length, get_or, take, drop, set, sym, refl, ap, ◌∙◌, ⊎_elim, add-zero, mod-lt, mod-eq_of_lt, arith, length-set, length-take}
use native.Mathlib.Nat.{mod-add-mod, mod_self, mod-mod}
use lib.Seq.{take-set-lt}
use Rattle.std.proofs.lemmas.List.{take_more_set, take-append-le, get_or-take, take_all, nil_from_length}
use Rattle.std.proofs.lemmas.Bool.{cases_lt}
use Rattle.ring.specs.declared.Ring.{Ring}
use Rattle.ring.specs.Ring.{round, waiting, place, empty, grown, advanced, Taken}
use Rattle.ring.proofs.Round.{length-round, get_or-round, set-round, others, length_others, round_here, round-next, round_last}

pub waiting-empty : {T : Type 0} (xs : List T) → waiting empty xs ≡ []
unfolding waiting
waiting-empty xs = refl

module _ {T : Type 0} (r : Ring) (xs : List T) where
  pub waiting-length : length (waiting r xs) ≡ min r.count (length xs)
  unfolding waiting
  waiting-length = length-take r.count (round (r.first % length xs) xs) ∙ ap (min r.count) (length-round (r.first % length xs) xs)

  pub waiting_fits : length (waiting r xs) ≤ length xs
  waiting_fits = omega (arith, waiting-length)

  pub waiting_none : min r.count (length xs) ≡ 0 → waiting r xs ≡ []
  waiting_none e = nil_from_length (waiting r xs) (waiting-length ∙ e)

  pub get_or-waiting : (i : ℕ) (d : T) → i < length (waiting r xs) → get_or (waiting r xs) i d ≡ get_or xs (place r (length xs) i) d
  unfolding waiting
  get_or-waiting i d h =
      let in_c : i < r.count = omega (arith, waiting-length) in
      let in-n : i < length xs = omega (arith, waiting-length) in
      get_or-take r.count (round (r.first % length xs) xs) i d in_c ∙ get_or-round r.first xs i in-n d

  pub waiting-set : (i : ℕ) (x : T) → i < length (waiting r xs) → waiting r (set xs (place r (length xs) i) x) ≡ set (waiting r xs) i x
  unfolding waiting
  waiting-set i x h =
      let p = place r (length xs) i in
      let in_c : i < r.count = omega (arith, waiting-length) in
      let in-n : i < length xs = omega (arith, waiting-length) in
      ap (λ n. take r.count (round (r.first % n) (set xs p x))) (length-set xs p x)
      ∙ ap (take r.count) (set-round r.first xs i in-n x)
      ∙ take-set-lt r.count (round (r.first % length xs) xs) i x in_c

  pub waiting_push : (x : T) → r.count < length xs → waiting (grown r) (set xs (place r (length xs) r.count) x) ≡ waiting r xs ++ x ∷ []
  unfolding waiting
  waiting_push x h =
      let p = place r (length xs) r.count in
      let f = r.first % length xs in
      let in-n : r.count < length (round f xs) = omega (arith, length-round f xs) in
      ap (λ n. take (r.count + 1) (round (r.first % n) (set xs p x))) (length-set xs p x)
      ∙ ap (take (r.count + 1)) (set-round r.first xs r.count h x)
      ∙ take_more_set (round f xs) r.count x in-n

  take_clamped : (ys : List T) → length ys ≡ length xs → take r.count ys ≡ take (min r.count (length xs)) ys
  take_clamped ys e =
      ⊎_elim
      (λ (h : r.count < length xs). let c : r.count ≡ min r.count (length xs) = omega arith in ap (λ k. take k ys) c)
      (λ (h : length xs ≤ r.count). let c : length xs ≡ min r.count (length xs) = omega arith in
      take_all r.count ys (omega arith) ∙ sym (take_all (length xs) ys (omega arith)) ∙ ap (λ k. take k ys) c)
      (cases_lt r.count (length xs))

  pub waiting_clamped : waiting r xs ≡ take (min r.count (length xs)) (round (r.first % length xs) xs)
  unfolding waiting
  waiting_clamped = take_clamped (round (r.first % length xs) xs) (length-round (r.first % length xs) xs)

  -- one step on, the entries but the first stand in front
  round-advanced : (d : T) (in_f : r.first % length xs < length xs) → round (place r (length xs) 1 % length xs) xs ≡ others (r.first % length xs) xs ++ get_or xs (r.first % length xs) d ∷ []
  round-advanced d in_f =
      let f = r.first % length xs in
      let n = length xs in
      let next : place r n 1 % n ≡ (f + 1) % n = mod-mod (r.first + 1) n ∙ sym (mod-add-mod r.first n 1) in
      ⊎_elim
      (λ (h : f + 1 < n). ap (λ k. round k xs) (next ∙ mod-eq_of_lt h) ∙ round-next f xs d in_f h)
      (λ (h : n ≤ f + 1). let e : f + 1 ≡ n = omega arith in
      ap (λ k. round k xs) (next ∙ ap (λ k. k % n) e ∙ mod_self n) ∙ round_last f xs d in_f e)
      (cases_lt (f + 1) n)

  pub waiting_pop : (d : T) → 0 < min r.count (length xs) → waiting r xs ≡ get_or xs (place r (length xs) 0) d ∷ waiting (advanced (length xs) r) xs
  unfolding waiting
  waiting_pop d h =
      let n = length xs in
      let f = r.first % n in
      let m = min r.count n - 1 in
      let some : 0 < n = omega arith in
      let in_f : f < n = mod-lt r.first some in
      let x = get_or xs f d in
      let os = others f xs in
      let count : min r.count n ≡ suc m = omega arith in
      let short : m ≤ length os = omega (arith, length_others f xs d in_f) in
      let at : f ≡ place r n 0 = ap (λ k. k % n) (sym (add-zero r.first)) in
      waiting_clamped
      ∙ ap (λ k. take k (round f xs)) count
      ∙ ap (take (suc m)) (round_here f xs d in_f)
      ∙ ap (λ ys. x ∷ ys) (sym (take-append-le m os (x ∷ []) short))
      ∙ ap (λ ys. x ∷ take m ys) (sym (round-advanced d in_f))
      ∙ ap (λ k. get_or xs k d ∷ take m (round (place r n 1 % n) xs)) at

  -- where an entry is the first of those that wait, the memory has a place, and the entry leaves the others
  pub popped_room : (x : T) → waiting r xs ≡ x ∷ drop 1 (waiting r xs) → 0 < length xs
  popped_room x e = omega (arith, ap length e, waiting-length)

  pub popped : (x : T) → waiting r xs ≡ x ∷ drop 1 (waiting r xs)
      → Taken r xs x (record { first = (r.first % length xs + 1) % length xs; count = length (waiting r xs) - 1 })
  popped x e =
      let n = length xs in
      let some : 0 < min r.count n = omega (arith, ap length e, waiting-length) in
      let head = waiting_pop x some in
      let is : get_or xs (place r n 0) x ≡ x = cc in
      let r' : Ring = record { first = (r.first % n + 1) % n; count = length (waiting r xs) - 1 } in
      let moved : r' ≡ advanced n r = (λ i. record { first = mod-add-mod r.first n 1 i; count = waiting-length i - 1 }) in
      record {
        after = head ∙ ap (λ y. y ∷ waiting (advanced n r) xs) is ∙ ap (λ s. x ∷ waiting s xs) (sym moved);
        ring = moved;
      }

-- what the calls cite
pub ruleset lengths = (waiting-length)

pub ruleset pops = (popped_room, popped)

pub ruleset pushes = (waiting-length, waiting_push)

pub ruleset reads = (waiting-length, get_or-waiting)

pub ruleset sets = (waiting-length, waiting-set)
