use Rattle.std.proofs.Common.{◌≡◌, ℕ, None, Ok, Err, Result, sym, subst, arith}
use Rattle.std.proofs.lemmas.Fmt.{IsAscii-from_digits}
use Rattle.std.proofs.lemmas.Str.{IsUtf8-from_ascii}
use Rattle.std.specs.Result.{MatchResult, result_ok}
use Rattle.lines.specs.Decimal.{Reads}
use Rattle.lines.proofs.decimal.read_decimal.Goals as goal

-- where there is no text, the error says why
no_text : {A E : Type 0} (P : A → Type 0) (N : Type 0) (Q : E → Type 0) (r : Result A E) → None ≡ result_ok r → MatchResult r P (λ e. N × Q e) → N
no_text P N Q (Ok x) e m = let z : ◌≡◌ {A = ℕ} 0 1 = cc in absurd (omega arith)
no_text P N Q (Err x) e m = m.0

pub returns-in_err-ok : goal.returns-in_err-ok
returns-in_err-ok c = record {
  answer = subst (λ r. Reads c.args.word.now r) (sym c.from_residual.ensures)
      (λ n v. no_text _ _ _ c.from_utf8.result c.in_err-ok.ensures.value c.from_utf8.ensures.cases (IsUtf8-from_ascii _ (IsAscii-from_digits _ n.1)));
}
