use Rattle.std.proofs.Common.{rules, tests, ◌≡◌, ◌-◌, length, drop, ap, ◌∙◌, arith, length-drop}
use Rattle.std.proofs.lemmas.List.{take_all}
use Rattle.std.proofs.lemmas.Iterator.{YieldsList-from_slice}
use Rattle.std.proofs.lemmas.Iterator.Search.{position_from_yields_List}
use Rattle.std.specs.List.{position}
use Rattle.std.specs.Option.{unwrap_or}
use Rattle.lines.proofs.Wordings.{solid, place, blanks_are}
use Rattle.lines.proofs.words.skip_blanks.Goals as goal

pub returns : goal.returns
returns c =
    let line = c.args.line.now in
    let n = c.unwrap_or.result in
    let found : c.position-blanks.result ≡ position solid line = position_from_yields_List solid _ _ c.position-blanks.result c.position-blanks.ensures.ran (YieldsList-from_slice line c.iter.ensures.rest) (λ x b q k. search (rules, tests)) in
    let at = c.unwrap_or.ensures ∙ ap (λ r. unwrap_or r (length line)) found ∙ place solid line in
    record { answer = take_all (length line - n) (drop n line) (omega (arith, length-drop n line)) ∙ ap (λ k. drop k line) at ∙ blanks_are line }
