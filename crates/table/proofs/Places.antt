-- What a put does to the disk that a table shows.
use Rattle.std.proofs.Common.{◌≡◌, ℕ, ◌<◌, Bool, cond, eqb, ltb, List, [], length, get_or, set, sym, refl, ap, ◌∙◌, arith}
use Rattle.std.proofs.lemmas.Bool.{lt-ltb, cond-true}
use Rattle.std.proofs.lemmas.Grind.{common_steps}
use Rattle.store.proofs.Rows.{same_disk}
use Rattle.store.specs.declared.budget.Budget.{Budget}
use Rattle.store.specs.declared.key.Key.{Key}
use Rattle.store.specs.declared.kind.Kind.{Kind}
use Rattle.store.specs.declared.kind.Kind.TheVariants.{Session, Message}
use Rattle.store.specs.Budget.{taken}
use Rattle.store.specs.Disk.{with_row, stands}
use Rattle.store.specs.Key.{slot}
use Rattle.store.specs.Making.{made_limit}
use Rattle.table.specs.Rows.{row_at}
use Rattle.table.specs.Disk.{rows_disk}

-- the row at a key once one was placed
placed : (ts : List (List ℕ)) → length ts ≡ 1152 → (k : Kind) (n : ℕ) → n < made_limit k → (row : List ℕ) (j : Kind) (m : ℕ) → cond (ltb m (made_limit j)) (get_or (set ts (slot k n) row) (slot j m) []) [] ≡ with_row (λ j m. cond (ltb m (made_limit j)) (get_or ts (slot j m) []) []) k n row j m
placed ts l Session n h row Session m = grind (arith, common_steps)
placed ts l Session n h row Message m = grind (arith, common_steps)
placed ts l Message n h row Session m = grind (arith, common_steps)
placed ts l Message n h row Message m = grind (arith, common_steps)

-- the disk once a row was put at a key
pub put_disk : (ts us : List (List ℕ)) (old new : Budget) (key : Key) (row : List ℕ) (absent : Bool) → length ts ≡ 1152 → us ≡ set ts (slot key.kind key.number) row → absent ≡ eqb (length (row_at ts key)) 0 → new ≡ taken old absent → rows_disk us new.free new.writes ≡ stands (rows_disk ts old.free old.writes) key.kind key.number row
put_disk ts us old new key row absent l e a b =
    let stood = cond-true _ (row_at ts key) [] (lt-ltb key.number (made_limit key.kind) key.inside) in
    (λ i. rows_disk (e i) (b i).free (b i).writes) ∙ same_disk _ _ (placed ts l key.kind key.number key.inside row) (λ _. refl) (ap (λ t. (taken old t).free) (a ∙ ap (λ r. eqb (length r) 0) (sym stood))) refl
