use Rattle.std.proofs.Common.{◌≡◌, ℕ, ◌+◌, ◌%◌, List, [], ◌∷◌, ◌++◌, cond, ◌==◌, string_bytes, decimal, sym, refl, ap, ◌∙◌, add-one, arith}
use Rattle.frame.specs.FirstByte.{type_number}
use Rattle.commands.specs.Types.{types_text}
use Rattle.commands.proofs.types.types_text.Goals as goal
use Rattle.commands.proofs.types.types_text.Goals.{else-loop-first-test, then-loop-first-test+in_ok-write+else-first-lt255}

none : [] ≡ types_text 0
unfolding types_text
none = refl

-- one number more
more : (n t : ℕ) (s old new : List ℕ) → new ≡ old ++ (decimal t ++ s) → t ≡ type_number n → s ≡ cond (n % 16 == 15) 10 32 ∷ [] → old ≡ types_text n → new ≡ types_text (n + 1)
unfolding types_text
more n t s old new e et es h = e ∙ (λ i. h i ++ (decimal (et i) ++ es i)) ∙ ap types_text (sym (add-one n))

pub loop-first-init : goal.loop-first-init
loop-first-init c = c.new-text.ensures.bytes ∙ none

pub loop-first-preserved : goal.loop-first-preserved
loop-first-preserved c = more c.loop-first.first _ _ _ _ c.in_ok-write.ensures.bytes c.type_number.ensures.answer c.separator.ensures.answer c.loop-first.invariant

pub returns : goal.returns
returns c = record {
  answer = elim c.loop-first-test.branch [
    | else-loop-first-test w ↦ (let all : c.loop-first.first ≡ 256 = omega arith in ap string_bytes w.text-is ∙ c.loop-first.invariant ∙ ap types_text all)
    | then-loop-first-test+in_ok-write+else-first-lt255 w ↦
        (let last : c.loop-first.first + 1 ≡ 256 = omega arith in
        ap string_bytes w.text-is
        ∙ more c.loop-first.first _ _ _ _ w.in_ok-write.ensures.bytes w.type_number.ensures.answer w.separator.ensures.answer c.loop-first.invariant
        ∙ ap types_text last)
  ];
}
