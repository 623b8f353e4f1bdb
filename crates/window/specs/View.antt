-- What a window shows of the disk below, and what it leaves alone.
use Rattle.std.specs.Prelude.{◌≡◌, ℕ, ◌+◌, ◌-◌, min, Bool, cond, ◌&&◌, List, [], nat_le, nat_lt}
use Rattle.store.specs.declared.kind.Kind.{Kind}
use Rattle.store.specs.Disk.{Disk}
use Rattle.window.specs.declared.span.Spans.{Spans}
use Rattle.window.specs.Span.{base_of, width_of}

-- numbers lie below the width, as far as the limit below reaches
abbrev pub view_limit : Disk → Spans → Kind → ℕ
view_limit d s k = min (width_of s k) (d.limit k - base_of s k)

-- number n of the window is base + n below; free rows and writes left are those below
abbrev pub view : Disk → Spans → Disk
view d s = record {
  rows = λ k n. cond (nat_lt n (view_limit d s k)) (d.rows k (base_of s k + n)) [];
  limit = view_limit d s;
  free = d.free;
  writes = d.writes;
}

-- a number below belongs to the window
abbrev pub covers : Disk → Spans → Kind → ℕ → Bool
covers d s k n = nat_le (base_of s k) n && nat_lt (n - base_of s k) (view_limit d s k)

-- what no call through a window alters: where it lies, the rows outside, the limits below, and what lies outside the store below
pub record Around (F : Type 0) : Type 0 where
  pub spans : Spans
  pub outside : Kind → ℕ → List ℕ
  pub limit : Kind → ℕ
  pub below : F

-- what a disk, with what lies outside it, has around a window
abbrev pub around : {F : Type 0} → Disk → F → Spans → Around F
around d f s = record {
  spans = s;
  outside = λ k n. cond (covers d s k n) [] (d.rows k n);
  limit = d.limit;
  below = f;
}

-- another window shows the rows and limits that it showed before; free rows and writes left are common to all windows
pub record Beside (d e : Disk) (s : Spans) : Type 0 where
  pub rows : (k : Kind) (n : ℕ) → (view e s).rows k n ≡ (view d s).rows k n
  pub limit : (k : Kind) → (view e s).limit k ≡ (view d s).limit k
  pub free : (view e s).free ≡ e.free
  pub writes : (view e s).writes ≡ e.writes
