use Rattle.std.proofs.Common.{◌≡◌, ℕ, List, vec_items, string_bytes, sym, ◌∙◌, subst, ⊎_elim}
use Rattle.std.proofs.lemmas.Result.{IfOk-weaker}
use Rattle.lines.specs.Escape.{Bytes, escaped, Undoes}
use Rattle.lines.proofs.Escapes.{escape_law}
use Rattle.commands.specs.Answer.{verdict, MatchAnswer}
use Rattle.commands.proofs.answer.match_answer.Goals as goal

-- the verdict on the filter and the topic of which the words are the escaped texts
judged : (filter topic line text : List ℕ) (fs ts : List ℕ) → (escaped fs ≡ filter) × Bytes fs → (escaped ts ≡ topic) × Bytes ts → text ≡ verdict fs ts → MatchAnswer filter topic line text
judged filter topic line text fs ts a b e = record {
  judged = λ f t hf ht ef et. e ∙ (λ i. verdict (escape_law.one_to_one fs f a.1 hf (a.0 ∙ sym ef) i) (escape_law.one_to_one ts t b.1 ht (b.0 ∙ sym et) i));
  other = λ no. absurd (⊎_elim (λ n. n fs a.1 a.0) (λ n. n ts b.1 b.0) no);
}

pub returns : goal.returns
returns c =
    let filter = c.args.filter.now in
    let topic = c.args.topic.now in
    let fs = vec_items c.in-Some.filter in
    let ts = vec_items c.in-Some-2.topic in
    let f : (escaped fs ≡ filter) × Bytes fs = subst (λ o. Undoes escaped filter o) c.in-Some.is c.in_ok-filter.ensures.answer in
    let t : (escaped ts ≡ topic) × Bytes ts = subst (λ o. Undoes escaped topic o) c.in-Some-2.is c.in_ok-topic.ensures.answer in
    let said : c.judge.result.now ≡ verdict fs ts = c.judge.ensures.answer ∙ (λ i. verdict (c.as_slice.ensures.value i) (c.as_slice-2.ensures.value i)) in
    record {
      answer = IfOk-weaker _ _ _ (λ text e. judged filter topic c.args.line.now (string_bytes text) fs ts f t (e ∙ said)) c.from_str.ensures.ok;
    }
