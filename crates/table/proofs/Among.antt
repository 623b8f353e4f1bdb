-- One row among many.
use Rattle.std.proofs.Common.{◌≡◌, ℕ, Bool, true, false, cond, List, [], ◌∷◌, ◌++◌, map, get_or, set, take, replicate, length, vec_items, vec_len, Vec, refl, ap, ◌∙◌, arith}
use Rattle.std.specs.List.{FoldsTo, AppendsResults}
use Rattle.std.proofs.Math.Seq.{map-set_same}
use Rattle.std.proofs.lemmas.List.{map-set, take_all, length-map}
use Rattle.std.specs.Vec.{with_item}
use Rattle.std.specs.declared.alloc.Global.{Global}
use Rattle.store.specs.declared.row.RowBuffer.{RowBuffer}
use Rattle.store.specs.Row.{held}
use Rattle.table.specs.declared.rows.Rows.{Rows}
use Rattle.table.specs.Rows.{contents}

pub held-set : (v : Vec RowBuffer Global) (i s : ℕ) (w : RowBuffer) (b : List ℕ) → i ≡ s → held w ≡ b → map held (vec_items (with_item v i w)) ≡ set (map held (vec_items v)) s b
held-set v i s w b p e =
    map-set held (vec_items v) i w ∙ ap (set (map held (vec_items v)) i) e ∙ ap (λ j. set (map held (vec_items v)) j b) p

-- the same where a row that is refused alters nothing
pub held-written : (t : Bool) (v : Vec RowBuffer Global) (i s : ℕ) (w : RowBuffer) (row : List ℕ) (x : RowBuffer) → i ≡ s → x ≡ get_or (vec_items v) i x → held w ≡ cond t row (held x) → map held (vec_items (with_item v i w)) ≡ cond t (set (map held (vec_items v)) s row) (map held (vec_items v))
held-written true v i s w row x p q e = held-set v i s w row p e
held-written false v i s w row x p q e = map-set_same held (vec_items v) i w x (e ∙ ap held q)

-- rows made one after another, each of them empty
pub all_empty : {P : Type 0} (R : P → RowBuffer → P → Type 0) → ((p q : P) (x : RowBuffer) → R p x q → held x ≡ []) → (ys : List RowBuffer) (p q : P) → FoldsTo R p ys q → map held ys ≡ replicate (length ys) []
all_empty R h [] p q f = refl
all_empty R h (y ∷ ys) p q f = ap (λ x. x ∷ map held ys) (h p f.0 y f.1) ∙ ap (λ xs. [] ∷ xs) (all_empty R h ys f.0 q f.2)

-- all of the memory is made so
pub made_empty : {P : Type 0} (R : P → RowBuffer → P → Type 0) → ((p q : P) (x : RowBuffer) → R p x q → held x ≡ []) → (new : Vec RowBuffer Global) (old : List RowBuffer) (n : ℕ) (p : P) → old ≡ [] → vec_len new ≡ n → AppendsResults R (take n old) (vec_items new) p → map held (vec_items new) ≡ replicate n []
made_empty R h new old n p e l a =
    let s : vec_items new ≡ a.0 = a.2 ∙ ap (λ xs. take n xs ++ a.0) e ∙ ap (λ xs. xs ++ a.0) (take_all n [] (omega arith)) in
    ap (map held) s ∙ all_empty R h a.0 p a.1 a.3 ∙ ap (λ m. replicate m []) (omega (arith, ap length s, new.ok.0, l))

pub length-contents : (rows : Rows) → length (contents rows) ≡ 1152
length-contents rows = omega (arith, length-map (vec_items rows.places) held, rows.places.ok.0, rows.keys)
