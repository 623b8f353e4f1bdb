-- What a log's index finds, and what a log keeps after one change more.
use Rattle.std.proofs.Common.{◌≡◌, ℕ, ◌+◌, ◌<◌, Bool, true, false, cond, not, eqb, ltb, List, [], ◌∷◌, ◌++◌, length, get_or, set, is_some, Some, None, vec_len, Option, Vec, sym, ap, ◌∙◌, subst, arith}
use Rattle.std.proofs.lemmas.List.{get_or-take}
use Rattle.std.proofs.lemmas.Bool.{true≢false, false≢true, eq-eqb, ne_eqb}
use Rattle.std.specs.declared.alloc.Global.{Global}
use Rattle.journal.specs.declared.entry.Entry.{Entry}
use Rattle.store.specs.declared.key.Key.{Key}
use Rattle.journal.specs.declared.index.Index.{Index}
use Rattle.journal.specs.declared.log.Log.{Log}
use Rattle.store.specs.Key.{slot}
use Rattle.journal.specs.Changes.{Change, replay}
use Rattle.journal.specs.Entry.{change_of, written, kept, no_change}
use Rattle.journal.specs.Log.{logged, places_of}
use Rattle.journal.proofs.Written.{length-kept, kept_more}
use Rattle.journal.specs.Index.{pointers, Knows}
use Rattle.journal.proofs.Latest.{Tells, tells, knows_push}

-- what is found at a key's slot tells of the key's row
pub found_tells : (l : Log) (key : Key) (o : Option ℕ) → o ≡ get_or (pointers l.places.index) (slot key.kind key.number) None → Tells (logged l) o (replay (logged l) key.kind key.number)
found_tells l key o f =
    subst (λ x. Tells (logged l) x (replay (logged l) key.kind key.number))
    (sym (f ∙ l.knows key.kind key.number key.inside))
    (tells (logged l) key.kind key.number)

pub none_tells : (cs : List Change) (o : Option ℕ) (row : List ℕ) (r : Bool) → Tells cs o row → is_some o ≡ not r → r ≡ eqb (length row) 0
none_tells cs None row true h e = sym (eq-eqb (length row) 0 (ap length h))
none_tells cs None row false h e = absurd (false≢true e)
none_tells cs (Some p) row true h e = absurd (true≢false e)
none_tells cs (Some p) row false h e = sym (ne_eqb (length row) 0 (λ q. omega (arith, h.2)))

pub length-logged : (l : Log) → length (logged l) ≡ l.taken
length-logged l = length-kept l.places.entries l.taken l.within

-- the change at the place that was found
pub found_row : (l : Log) (p : ℕ) (row : List ℕ) → Tells (logged l) (Some p) row → (p < places_of l) × ((get_or (written l.places.entries) p no_change).row ≡ row)
found_row l p row t =
    let h : p < l.taken = omega (arith, t.0, length-logged l) in (
      omega (arith, l.within),
      ap (λ (x : Change). x.row) (sym (get_or-take l.taken (written l.places.entries) p no_change h)) ∙ t.1,
    )

-- the index knows of it once it has been told
pub appended_knows : (v w : Vec Entry Global) (index : Index) (after : List (Option ℕ)) (key : Key) (row : List ℕ) (p : ℕ) → p < vec_len v → Knows (pointers index) (kept v p) → written w ≡ set (written v) p (change_of key row) → after ≡ set (pointers index) (slot key.kind key.number) (cond (ltb 0 (length row)) (Some p) None) → Knows after (kept w (p + 1))
appended_knows v w index after key row p l h e f =
    let c = change_of key row in
    subst (λ cs. Knows after cs) (sym (kept_more v w p c l e))
    (subst (λ xs. Knows xs (kept v p ++ c ∷ [])) (sym f)
    (knows_push (pointers index) (kept v p) c p (sym index.slots.ok.0 ∙ index.keys) key.inside (sym (length-kept v p (omega arith))) h))
