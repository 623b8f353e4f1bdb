use Rattle.std.proofs.Common.{rules, tests, ◌≡◌, length, take, drop, ap, ◌∙◌}
use Rattle.std.proofs.lemmas.Iterator.{YieldsList-from_slice}
use Rattle.std.proofs.lemmas.Iterator.Search.{position_from_yields_List}
use Rattle.std.specs.List.{position}
use Rattle.std.specs.Option.{unwrap_or}
use Rattle.lines.proofs.Wordings.{blank, place, word_is, after_is}
use Rattle.lines.proofs.words.word_length.Goals as goal

pub returns-clause-word : goal.returns-clause-word
returns-clause-word c =
    let line = c.args.line.now in
    let found : c.position-blank.result ≡ position blank line = position_from_yields_List blank _ _ c.position-blank.result c.position-blank.ensures.ran (YieldsList-from_slice line c.iter.ensures.rest) (λ x b q k. search (rules, tests)) in
    ap (λ k. take k line) (c.unwrap_or.ensures ∙ ap (λ r. unwrap_or r (length line)) found ∙ place blank line) ∙ word_is line

pub returns-clause-after : goal.returns-clause-after
returns-clause-after c =
    let line = c.args.line.now in
    let found : c.position-blank.result ≡ position blank line = position_from_yields_List blank _ _ c.position-blank.result c.position-blank.ensures.ran (YieldsList-from_slice line c.iter.ensures.rest) (λ x b q k. search (rules, tests)) in
    ap (λ k. drop k line) (c.unwrap_or.ensures ∙ ap (λ r. unwrap_or r (length line)) found ∙ place blank line) ∙ after_is line
