use Rattle.std.proofs.Common.{◌≡◌, ℕ, ◌<◌, List, [], ◌∷◌, IfOk, length, get_or, Some, None, Ok, Err, vec_items, Option, Result, Vec, ap, arith, ltb-false, ltb-true}
use Rattle.std.specs.declared.alloc.Global.{Global}
use Rattle.std.specs.declared.alloc.AllocError.{AllocError}
use Rattle.std.specs.List.{flat_map}
use Rattle.lines.specs.Escape.{escaped, escaped_byte, Undoes}
use Rattle.lines.proofs.Escapes.{not-empty, read-each, none_each}
use Rattle.lines.proofs.escape.escaped_bytes.Goals as goal
use Rattle.lines.proofs.escape.escaped_bytes.Goals.{in_default-via-then-text-lt2+in_default-1, in_default-via-else-text-lt2+then-text-lt4, in_default-via-else-text-lt2+else-text-lt4+then-text-lt5+in-92+in-120+in-50+in_default-1, in_default-via-else-text-lt2+else-text-lt4+then-text-lt5+in-92+in-120+in_default-1, in_default-via-else-text-lt2+else-text-lt4+then-text-lt5+in-92+in_default-1, in_default-via-else-text-lt2+else-text-lt4+then-text-lt5+in_default-1, in_default-via-else-text-lt2+else-text-lt4+else-text-lt5}

pub returns-in-empty : goal.returns-in-empty
returns-in-empty c = record { answer = λ bs h e. not-empty bs c.args.text.now h (omega (arith, ltb-true, ltb-false)) e }

-- a text other than the two words, by its bytes
record Other (text : List ℕ) : Type 0 where
  some : 0 < length text
  dash : length text ≡ 1 → get_or text 0 0 ≡ 45 → ⊥
  code : length text ≡ 4 → get_or text 0 0 ≡ 92 → get_or text 1 0 ≡ 120 → get_or text 2 0 ≡ 50 → get_or text 3 0 ≡ 100 → ⊥

no-dash : (text : List ℕ) → Other text → text ≡ 45 ∷ [] → ⊥
no-dash text o e = o.dash (ap length e) (ap (λ l. get_or l 0 0) e)

no-code : (text : List ℕ) → Other text → text ≡ 92 ∷ 120 ∷ 50 ∷ 100 ∷ [] → ⊥
no-code text o e = o.code (ap length e) (ap (λ l. get_or l 0 0) e) (ap (λ l. get_or l 1 0) e) (ap (λ l. get_or l 2 0) e) (ap (λ l. get_or l 3 0) e)

other : (text : List ℕ) → Other text → (r : Result (Option (Vec ℕ Global)) AllocError) → IfOk r (Undoes (flat_map escaped_byte) text) → IfOk r (Undoes escaped text)
other text o (Ok (Some bytes)) s = (read-each text o.some (no-dash text o) (no-code text o) (vec_items bytes) s.0, s.1)
other text o (Ok None) s = λ bs h e. none_each text o.some (no-dash text o) (no-code text o) bs (s bs h) e
other text o (Err e) s = tt

pub returns-in_default : goal.returns-in_default
returns-in_default c =
    let o : Other c.args.text.now = elim c.in_default.branch [
      | in_default-via-then-text-lt2+in_default-1 w ↦ record { some = omega (arith, ltb-true, ltb-false); dash = λ l a. omega (arith, ltb-true, ltb-false); code = λ l a b d e. omega (arith, ltb-true, ltb-false) }
      | in_default-via-else-text-lt2+then-text-lt4 w ↦ record { some = omega (arith, ltb-true, ltb-false); dash = λ l a. omega (arith, ltb-true, ltb-false); code = λ l a b d e. omega (arith, ltb-true, ltb-false) }
      | in_default-via-else-text-lt2+else-text-lt4+then-text-lt5+in-92+in-120+in-50+in_default-1 w ↦ record { some = omega (arith, ltb-true, ltb-false); dash = λ l a. omega (arith, ltb-true, ltb-false); code = λ l a b d e. omega (arith, ltb-true, ltb-false) }
      | in_default-via-else-text-lt2+else-text-lt4+then-text-lt5+in-92+in-120+in_default-1 w ↦ record { some = omega (arith, ltb-true, ltb-false); dash = λ l a. omega (arith, ltb-true, ltb-false); code = λ l a b d e. omega (arith, ltb-true, ltb-false) }
      | in_default-via-else-text-lt2+else-text-lt4+then-text-lt5+in-92+in_default-1 w ↦ record { some = omega (arith, ltb-true, ltb-false); dash = λ l a. omega (arith, ltb-true, ltb-false); code = λ l a b d e. omega (arith, ltb-true, ltb-false) }
      | in_default-via-else-text-lt2+else-text-lt4+then-text-lt5+in_default-1 w ↦ record { some = omega (arith, ltb-true, ltb-false); dash = λ l a. omega (arith, ltb-true, ltb-false); code = λ l a b d e. omega (arith, ltb-true, ltb-false) }
      | in_default-via-else-text-lt2+else-text-lt4+else-text-lt5 w ↦ record { some = omega (arith, ltb-true, ltb-false); dash = λ l a. omega (arith, ltb-true, ltb-false); code = λ l a b d e. omega (arith, ltb-true, ltb-false) }
    ] in
    record { answer = other c.args.text.now o c.unescape_each.result c.unescape_each.ensures.answer }
