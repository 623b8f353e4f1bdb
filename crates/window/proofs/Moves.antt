-- What a put or a drop below does to what a window shows.
use Rattle.std.proofs.Common.{◌≡◌, ℕ, ◌+◌, ◌-◌, ◌<◌, Bool, true, false, cond, ◌&&◌, eqb, ltb, List, [], length, is_ok, refl, ap, ◌∙◌, sym, arith}
use Rattle.std.proofs.lemmas.Bool.Decides.{nat_tests}
use Rattle.std.proofs.lemmas.Bool.{lt-ltb, cond-true}
use Rattle.store.proofs.Rows.{same_disk, same_kind_lem}
use Rattle.store.specs.declared.kind.Kind.{Kind}
use Rattle.store.specs.Kind.{same_kind}
use Rattle.store.specs.Disk.{Disk, with_row, absent, put_after, stands, drop_after, removed}
use Rattle.store.specs.Change.{Outcome}
use Rattle.window.specs.declared.span.Spans.{Spans}
use Rattle.window.specs.Span.{base_of}
use Rattle.window.specs.View.{view, view_limit}

-- the row written, by its number in the window or below, where s says that the kinds are one
moved : (s : Bool) (bj bk lj lk m n : ℕ) (b r : List ℕ) → (s ≡ true → bj ≡ bk) → (s ≡ true → lj ≡ lk) → n < lk → cond (ltb m lj) (cond (s && eqb (bj + m) (bk + n)) b r) [] ≡ cond (s && eqb m n) b (cond (ltb m lj) r [])
moved true bj bk lj lk m n b r e f h = let p = e refl in let q = f refl in grind (arith, nat_tests)
moved false bj bk lj lk m n b r e f h = refl

-- number n of the window, which lies at `at` below
module _ (d : Disk) (s : Spans) (k : Kind) (n at : ℕ) (h : n < view_limit d s k) (a : at ≡ base_of s k + n) where
  row_in : d.rows k at ≡ (view d s).rows k n
  row_in = ap (d.rows k) a ∙ sym (cond-true _ _ _ (lt-ltb _ _ h))

  row_moved : (b : List ℕ) (j : Kind) (m : ℕ) → (view (stands d k at b) s).rows j m ≡ with_row (view d s).rows k n b j m
  row_moved b j m =
      ap (λ x. cond (ltb m (view_limit d s j)) (with_row d.rows k x b j (base_of s j + m)) []) a ∙ moved (same_kind j k) (base_of s j) (base_of s k) (view_limit d s j) (view_limit d s k) m n b (d.rows j (base_of s j + m)) (λ e. ap (base_of s) (same_kind_lem j k e)) (λ e. ap (view_limit d s) (same_kind_lem j k e)) h

  stands_in : (b : List ℕ) → view (stands d k at b) s ≡ stands (view d s) k n b
  stands_in b =
      same_disk _ _ (row_moved b) (λ j. refl) (ap (λ r. cond (eqb (length r) 0) (d.free - 1) d.free) row_in) refl

  put_either : (t : Bool) (b : List ℕ) → view (cond t (stands d k at b) d) s ≡ cond t (stands (view d s) k n b) (view d s)
  put_either true b = stands_in b
  put_either false b = refl

  -- after a put below that answered r
  pub put-after : (e : Disk) (r : Outcome) (b : List ℕ) → e ≡ put_after r d k at b → view e s ≡ put_after r (view d s) k n b
  put-after e r b q = ap (λ x. view x s) q ∙ put_either (is_ok r) b

  removed_in : view (removed d k at) s ≡ removed (view d s) k n
  removed_in = same_disk _ _ (row_moved []) (λ j. refl) refl refl

  drop_either : (t u : Bool) → view (cond t (cond u d (removed d k at)) d) s ≡ cond t (cond u (view d s) (removed (view d s) k n)) (view d s)
  drop_either true true = refl
  drop_either true false = removed_in
  drop_either false u = refl

  -- after a drop below that answered r
  pub drop-after : (e : Disk) (r : Outcome) → e ≡ drop_after r d k at → view e s ≡ drop_after r (view d s) k n
  drop-after e r q =
      ap (λ x. view x s) q ∙ drop_either (is_ok r) (absent d k at) ∙ ap (λ row. cond (is_ok r) (cond (eqb (length row) 0) (view d s) (removed (view d s) k n)) (view d s)) row_in
