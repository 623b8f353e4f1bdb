-- What calls through one window leave of another, and of a store that was lent.
use Rattle.std.proofs.Common.{◌≡◌, ℕ, ◌+◌, ◌-◌, ◌<◌, min, Bool, true, false, cond, ltb, leb, List, [], sym, refl, ap, ◌∙◌, inl, inr, arith}
use Rattle.std.proofs.lemmas.Bool.{cases_Bool, ltb-true, leb-true, and_parts, cond-false}
use Rattle.store.specs.declared.kind.Kind.{Kind}
use Rattle.store.specs.Disk.{Disk}
use Rattle.window.specs.declared.span.Spans.{Spans}
use Rattle.window.specs.Span.{base_of, width_of, Apart}
use Rattle.window.specs.View.{view_limit, covers, around, Beside}

-- a number of one window is covered by no window apart from it
uncovered : (d : Disk) (s o : Spans) → Apart s o → (k : Kind) (n : ℕ) → n < width_of o k → covers d s k (base_of o k + n) ≡ false
uncovered d s o apart k n h =
    elim (cases_Bool (covers d s k (base_of o k + n))) [
      | inl e ↦ let p = and_parts (leb (base_of s k) (base_of o k + n)) (ltb (base_of o k + n - base_of s k) (view_limit d s k)) e in
          let low = leb-true (base_of s k) (base_of o k + n) p.0 in
          let high = ltb-true (base_of o k + n - base_of s k) (view_limit d s k) p.1 in
          absurd (apart k (base_of o k + n - base_of s k) n (omega (arith, high)) h (omega (arith, low)))
      | inr e ↦ e
    ]

either_row : (t u : Bool) (x y : List ℕ) → t ≡ u → (u ≡ true → x ≡ y) → cond t x [] ≡ cond u y []
either_row true true x y e f = f refl
either_row true false x y e f = cc
either_row false true x y e f = cc
either_row false false x y e f = refl

outside_row : (t u : Bool) (x y : List ℕ) → t ≡ false → u ≡ false → cond t [] x ≡ cond u [] y → x ≡ y
outside_row t u x y p q e = sym (cond-false t [] x p) ∙ e ∙ cond-false u [] y q

-- whatever leaves what lies around a window leaves every window apart from it
module _ {F : Type 0} (d e : Disk) (f g : F) (s o : Spans) (r : around e g s ≡ around d f s) (apart : Apart s o) where
  same_limits : (k : Kind) → view_limit e o k ≡ view_limit d o k
  same_limits k = ap (λ a. min (width_of o k) (a.limit k - base_of o k)) r

  same_row : (k : Kind) (n : ℕ) → ltb n (view_limit d o k) ≡ true → e.rows k (base_of o k + n) ≡ d.rows k (base_of o k + n)
  same_row k n t =
      let h : n < width_of o k = omega (arith, ltb-true n (view_limit d o k) t) in
      outside_row (covers e s k (base_of o k + n)) (covers d s k (base_of o k + n)) (e.rows k (base_of o k + n)) (d.rows k (base_of o k + n)) (uncovered e s o apart k n h) (uncovered d s o apart k n h) (ap (λ a. a.outside k (base_of o k + n)) r)

  pub others : Beside d e o
  others = record {
    rows = λ k n. either_row (ltb n (view_limit e o k)) (ltb n (view_limit d o k)) (e.rows k (base_of o k + n)) (d.rows k (base_of o k + n)) (ap (ltb n) (same_limits k)) (same_row k n);
    limit = same_limits;
    free = refl;
    writes = refl;
  }

-- the same of what a store shows
pub shown_others : {X F : Type 0} (disk : X → Disk) (rest : X → F) (x first : X) (s o : Spans) → around (disk x) (rest x) s ≡ around (disk first) (rest first) s → Apart s o → Beside (disk first) (disk x) o
shown_others disk rest x first s o r apart = others (disk first) (disk x) (rest first) (rest x) s o r apart
