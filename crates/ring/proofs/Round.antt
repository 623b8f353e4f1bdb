-- The memory read round: its length, what stands where, a write into it, and one step on.
use Rattle.std.proofs.Common.{◌≡◌, ℕ, ◌+◌, ◌-◌, ◌%◌, ◌<◌, ◌≤◌, List, [], ◌∷◌, ◌++◌, length, get_or, take, drop, set, sym, ap, ◌∙◌, ⊎_elim, append_assoc, append-nil, mod-lt, mod-eq_of_lt, arith, length-append, length-drop, length-take, drop-set-lt}
use native.Mathlib.Nat.{mod-add-mod, mod-eq-sub-mod}
use lib.Seq.{take-set-lt, take-set-le, drop-set-add}
use Rattle.std.proofs.lemmas.List.{take_more, drop_more, drop_all, take_all, get_or-append_right, set-append_left, set-append_right}
use Rattle.std.proofs.lemmas.Bool.{cases_lt}
use Rattle.std.proofs.lemmas.Grind.{common_steps}
use Rattle.ring.specs.Ring.{round}

-- the i-th place after `first` in n places: short of the end it is that sum, past the end it begins again
pub place_near : (first n i : ℕ) → first % n + i < n → (first + i) % n ≡ first % n + i
place_near first n i h = sym (mod-add-mod first n i) ∙ mod-eq_of_lt h

pub place_far : (first n i : ℕ) → i < n → n ≤ first % n + i → (first + i) % n ≡ first % n + i - n
place_far first n i in-i h =
    let some : 0 < n = omega arith in
    let in_f : first % n < n = mod-lt first some in
    let less : first % n + i - n < n = omega arith in
    sym (mod-add-mod first n i) ∙ mod-eq-sub-mod h ∙ mod-eq_of_lt less

pub ruleset places = (place_near, place_far)

-- two numbers below n have two places
pub place-apart : (first n i j : ℕ) → i < n → j < n → (first + i) % n ≡ (first + j) % n → i ≡ j
place-apart first n i j in-i in-j e =
    let some : 0 < n = omega arith in
    let in_f = mod-lt first some in
    grind (arith, place_near first n i, place_near first n j, place_far first n i in-i, place_far first n j in-j)

pub length-round : {T : Type 0} (f : ℕ) (xs : List T) → length (round f xs) ≡ length xs
unfolding round
length-round f xs = simp (length-append, length-drop, length-take) (omega arith)

module _ {T : Type 0} (f : ℕ) (xs : List T) (i : ℕ) (in_f : f < length xs) (in-i : i < length xs) where
  get_or_near : (d : T) → f + i < length xs → get_or (round f xs) i d ≡ get_or xs (f + i) d
  unfolding round
  get_or_near d h = grind (arith, common_steps)

  get_or_far : (d : T) → length xs ≤ f + i → get_or (round f xs) i d ≡ get_or xs (f + i - length xs) d
  unfolding round
  get_or_far d h =
      let right = get_or-append_right (drop f xs) (take f xs) (length xs - f) i d (length-drop f xs) (omega arith) in
      grind (arith, common_steps)

  set_near : (x : T) → f + i < length xs → round f (set xs (f + i) x) ≡ set (round f xs) i x
  unfolding round
  set_near x h =
      let short : i < length (drop f xs) = simp length-drop (omega arith) in
      ap (λ ys. ys ++ take f (set xs (f + i) x)) (drop-set-add f xs i x)
      ∙ ap (λ ys. set (drop f xs) i x ++ ys) (take-set-le f xs (f + i) x (omega arith))
      ∙ sym (set-append_left (drop f xs) (take f xs) i x short)

  set_far : (x : T) → length xs ≤ f + i → round f (set xs (f + i - length xs) x) ≡ set (round f xs) i x
  unfolding round
  set_far x h =
      let n = length xs - f in
      let p = f + i - length xs in
      let same : i - n ≡ p = omega arith in
      let less : p < f = omega arith in
      ap (λ ys. ys ++ take f (set xs p x)) (drop-set-lt f xs p x less)
      ∙ ap (λ ys. drop f xs ++ ys) (take-set-lt f xs p x less)
      ∙ ap (λ k. drop f xs ++ set (take f xs) k x) (sym same)
      ∙ sym (set-append_right (drop f xs) (take f xs) n i x (length-drop f xs) (omega arith))

-- the i-th entry of the memory read round, and a write there, by its place
module _ {T : Type 0} (first : ℕ) (xs : List T) (i : ℕ) (in-i : i < length xs) where
  some : 0 < length xs
  some = omega arith

  pub get_or-round : (d : T) → get_or (round (first % length xs) xs) i d ≡ get_or xs ((first + i) % length xs) d
  get_or-round d =
      let f = first % length xs in
      let in_f : f < length xs = mod-lt first some in
      ⊎_elim
      (λ h. get_or_near f xs i in_f in-i d h ∙ ap (λ k. get_or xs k d) (sym (place_near first (length xs) i h)))
      (λ h. get_or_far f xs i in_f in-i d h ∙ ap (λ k. get_or xs k d) (sym (place_far first (length xs) i in-i h)))
      (cases_lt (f + i) (length xs))

  pub set-round : (x : T) → round (first % length xs) (set xs ((first + i) % length xs) x) ≡ set (round (first % length xs) xs) i x
  set-round x =
      let f = first % length xs in
      let in_f : f < length xs = mod-lt first some in
      ⊎_elim
      (λ h. ap (λ k. round f (set xs k x)) (place_near first (length xs) i h) ∙ set_near f xs i in_f in-i x h)
      (λ h. ap (λ k. round f (set xs k x)) (place_far first (length xs) i in-i h) ∙ set_far f xs i in_f in-i x h)
      (cases_lt (f + i) (length xs))

-- the memory read round from the place after f, up to f
abbrev pub others : {T : Type 0} → ℕ → List T → List T
others f xs = drop (f + 1) xs ++ take f xs

-- one step on: what stood first stands last
module _ {T : Type 0} (f : ℕ) (xs : List T) (d : T) (in_f : f < length xs) where
  pub length_others : length (others f xs) + 1 ≡ length xs
  length_others = simp (length-append, length-drop, length-take) (omega arith)

  pub round_here : round f xs ≡ get_or xs f d ∷ others f xs
  unfolding round
  round_here = ap (λ ys. ys ++ take f xs) (drop_more xs f d in_f)

  pub round-next : f + 1 < length xs → round (f + 1) xs ≡ others f xs ++ get_or xs f d ∷ []
  unfolding round
  round-next h =
      ap (λ ys. drop (f + 1) xs ++ ys) (take_more xs f d in_f)
      ∙ sym (append_assoc (drop (f + 1) xs) (take f xs) (get_or xs f d ∷ []))

  pub round_last : f + 1 ≡ length xs → round 0 xs ≡ others f xs ++ get_or xs f d ∷ []
  unfolding round
  round_last e =
      append-nil xs
      ∙ sym (take_all (f + 1) xs (omega arith))
      ∙ take_more xs f d in_f
      ∙ ap (λ ys. (ys ++ take f xs) ++ get_or xs f d ∷ []) (sym (drop_all (f + 1) xs (omega arith)))
