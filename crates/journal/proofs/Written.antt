-- A change among the places.
use Rattle.std.proofs.Common.{◌≡◌, ℕ, ◌+◌, ◌<◌, ◌≤◌, List, [], ◌∷◌, ◌++◌, map, length, get_or, take, drop, set, Ok, vec_items, vec_len, Result, Vec, sym, ap, ◌∙◌, subst, inl, inr, arith}
use Rattle.std.proofs.lemmas.List.{get_or-map, map-set, length-map, length-set, set-set, take_more_set, take-set-le, drop-set-lt, length-take-le}
use Rattle.std.proofs.lemmas.Bool.{cases_eq, cond-true, le-leb}
use Rattle.std.specs.List.{swap}
use Rattle.std.specs.Vec.{with_item}
use Rattle.std.specs.declared.alloc.Global.{Global}
use Rattle.store.specs.declared.kind.Refusal.{Refusal}
use Rattle.store.specs.Row.{read_answer, read_buffer, write_answer, write_after}
use Rattle.journal.specs.declared.entry.Entry.{Entry}
use Rattle.journal.specs.Changes.{Change}
use Rattle.journal.specs.Entry.{change, written, kept, no_change, MovedDown}

pub at_place : (v : Vec Entry Global) (i : ℕ) (x : Entry) → x ≡ get_or (vec_items v) i x → i < vec_len v → get_or (written v) i no_change ≡ change x
at_place v i x e h =
    let p : i < length (vec_items v) = omega (arith, v.ok.0) in
    get_or-map change (vec_items v) i x no_change p ∙ ap change (sym e)

pub set-place : (v : Vec Entry Global) (i : ℕ) (w : Entry) (c : Change) → change w ≡ c → written (with_item v i w) ≡ set (written v) i c
set-place v i w c e = map-set change (vec_items v) i w ∙ ap (set (written v) i) e

pub length-written : (v : Vec Entry Global) → length (written v) ≡ vec_len v
length-written v = length-map (vec_items v) change ∙ sym v.ok.0

moved : (zs : List Change) (to from : ℕ) (b : Change) → to ≤ from → from < length zs → (to ≡ from → b ≡ get_or zs from no_change) → MovedDown zs (set (set zs to (get_or zs from no_change)) from b) to from
moved zs to from b l h s = record {
  front = elim (cases_eq to from) [
    | inl e ↦
        ap (λ i. take (to + 1) (set (set zs to (get_or zs from no_change)) i b)) (sym e) ∙ ap (take (to + 1)) (set-set zs to (get_or zs from no_change) b) ∙ take_more_set zs to b (omega arith) ∙ ap (λ c. take to zs ++ c ∷ []) (s e)
    | inr d ↦
        take-set-le (to + 1) (set zs to (get_or zs from no_change)) from b (omega arith) ∙ take_more_set zs to (get_or zs from no_change) (omega arith)
  ];
  rest = drop-set-lt (from + 1) (set zs to (get_or zs from no_change)) from b (omega arith) ∙ drop-set-lt (from + 1) zs to (get_or zs from no_change) (omega arith);
  long = length-set (set zs to (get_or zs from no_change)) from b ∙ length-set zs to (get_or zs from no_change);
}

swapped : (xs : List Entry) (to from : ℕ) → to ≤ from → from < length xs → MovedDown (map change xs) (map change (swap xs to from)) to from
swapped [] to from l h = absurd (omega arith)
swapped (d ∷ xs) to from l h =
    let ys : List Entry = d ∷ xs in
    let a : change (get_or ys from d) ≡ get_or (map change ys) from no_change = sym (get_or-map change ys from d no_change h) in
    let e : map change (set (set ys to (get_or ys from d)) from (get_or ys to d)) ≡ set (set (map change ys) to (get_or (map change ys) from no_change)) from (change (get_or ys to d)) = map-set change (set ys to (get_or ys from d)) from (get_or ys to d) ∙ ap (λ l. set l from (change (get_or ys to d))) (map-set change ys to (get_or ys from d)) ∙ ap (λ c. set (set (map change ys) to c) from (change (get_or ys to d))) a in
    subst (λ zs. MovedDown (map change ys) zs to from) (sym e)
    (moved (map change ys) to from (change (get_or ys to d)) l (omega (arith, length-map ys change)) (λ q. ap (λ i. change (get_or ys i d)) q ∙ a))

pub moved_down : (v w : Vec Entry Global) (to from : ℕ) → vec_items w ≡ swap (vec_items v) to from → to ≤ from → from < vec_len v → MovedDown (written v) (written w) to from
moved_down v w to from e l h =
    subst (λ zs. MovedDown (written v) (map change zs) to from) (sym e)
    (swapped (vec_items v) to from l (omega (arith, v.ok.0)))

-- a read into a buffer that is long enough
pub read_whole : (r : Result ℕ Refusal) (row buffer after : List ℕ) → r ≡ read_answer row buffer → 560 ≤ length buffer → after ≡ read_buffer r row buffer → (r ≡ Ok (length row)) × (after ≡ row ++ drop (length row) buffer)
read_whole r row buffer after e l f =
    let a = e ∙ cond-true _ _ _ (le-leb 560 (length buffer) l) in (a, f ∙ ap (λ o. read_buffer o row buffer) a)

-- a row that is short enough is taken
pub row_written : (r : Result (Unit {0}) Refusal) (old row new : List ℕ) → r ≡ write_answer row → length row ≤ 560 → new ≡ write_after r old row → new ≡ row
row_written r old row new e l f =
    f ∙ ap (λ o. write_after o old row) (e ∙ cond-true _ _ _ (le-leb (length row) 560 l))

pub length-kept : (v : Vec Entry Global) (n : ℕ) → n ≤ vec_len v → length (kept v n) ≡ n
length-kept v n l = length-take-le n (written v) (omega (arith, length-written v))

-- a change written behind those that are kept
pub kept_more : (v w : Vec Entry Global) (p : ℕ) (c : Change) → p < vec_len v → written w ≡ set (written v) p c → kept w (p + 1) ≡ kept v p ++ c ∷ []
kept_more v w p c l e = ap (take (p + 1)) e ∙ take_more_set (written v) p c (omega (arith, length-written v))
