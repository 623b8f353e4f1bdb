use Rattle.std.proofs.Common.{◌≡◌, ℕ, true, false, get_or, sym, subst, arith, ltb-false, ltb-true}
use Rattle.lines.specs.Escape.{plain, UnitIn}
use Rattle.lines.proofs.Escapes.{plain-front, code_front, no_unit}
use Rattle.lines.proofs.escape.read_unit.Goals as goal
use Rattle.lines.proofs.escape.read_unit.Goals.{in_default-via-then-text-lt1, in_default-via-in-len1-up+else-is_plain+then-text-lt4, in_default-via-in-len1-up+else-is_plain+else-text-lt4+in-92+in_default-1, in_default-via-in-len1-up+else-is_plain+else-text-lt4+in_default-1}

-- a test that is true and false
both : {A : Type 0} (b : ℕ) → false ≡ plain b → plain b ≡ true → A
both b f t = let z : ◌≡◌ {A = ℕ} 0 1 = cc in absurd (omega arith)

pub returns-in-len1-up : goal.returns-in-len1-up
returns-in-len1-up c = record {
  answer = (plain-front c.args.text.now (omega (arith, ltb-true, ltb-false)) (sym c.if-is_plain.ensures.answer), omega (arith, c.type_inv.text 0));
}

pub returns-in_ok-read_code-in-92 : goal.returns-in_ok-read_code-in-92
returns-in_ok-read_code-in-92 c =
    let code = c.in_ok-read_code-in-92.ensures.answer in
    record {
      answer = (code_front c.args.text.now c.in_ok-read_code-in-92.field-0 (omega (arith, ltb-true, ltb-false)) (omega (arith, ltb-true, ltb-false)) (omega (arith, ltb-true, ltb-false)) code.0 code.1, code.2);
    }

pub returns-in_err-read_code-in-92 : goal.returns-in_err-read_code-in-92
returns-in_err-read_code-in-92 c = record {
  answer = subst (λ r. UnitIn c.args.text.now r) (sym c.from_residual.ensures)
      (no_unit c.args.text.now (λ _ p. both (get_or c.args.text.now 0 0) c.if-is_plain.ensures.answer p) (λ _ _ _. c.in_err-read_code-in-92.ensures.answer));
}

pub returns-in_default : goal.returns-in_default
returns-in_default c =
    let text = c.args.text.now in
    record {
      answer = no_unit text
          (λ some p. elim c.in_default.branch [
            | in_default-via-then-text-lt1 w ↦ omega (arith, ltb-true, ltb-false)
            | in_default-via-in-len1-up+else-is_plain+then-text-lt4 w ↦ both (get_or text 0 0) w.if-is_plain.ensures.answer p
            | in_default-via-in-len1-up+else-is_plain+else-text-lt4+in-92+in_default-1 w ↦ both (get_or text 0 0) w.if-is_plain.ensures.answer p
            | in_default-via-in-len1-up+else-is_plain+else-text-lt4+in_default-1 w ↦ both (get_or text 0 0) w.if-is_plain.ensures.answer p
          ])
          (λ four slash x b h n e. elim c.in_default.branch [
            | in_default-via-then-text-lt1 w ↦ omega (arith, ltb-true, ltb-false)
            | in_default-via-in-len1-up+else-is_plain+then-text-lt4 w ↦ omega (arith, ltb-true, ltb-false)
            | in_default-via-in-len1-up+else-is_plain+else-text-lt4+in-92+in_default-1 w ↦ omega (arith, ltb-true, ltb-false)
            | in_default-via-in-len1-up+else-is_plain+else-text-lt4+in_default-1 w ↦ omega (arith, ltb-true, ltb-false)
          ]);
    }
