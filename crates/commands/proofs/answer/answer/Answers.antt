use Rattle.std.proofs.Common.{IfOk, string_bytes, sym, ap, ◌∙◌, subst}
use Rattle.commands.specs.Command.{asked}
use Rattle.commands.specs.Answer.{AnswerOf, Answers}
use Rattle.commands.proofs.answer.answer.Goals as goal

pub returns-in-Ok-Nothing : goal.returns-in-Ok-Nothing
unfolding Answers
returns-in-Ok-Nothing c = record {
  answer = subst (λ a. AnswerOf a c.args.line.now (string_bytes c.new.result)) (sym (ap asked c.in-Ok-Nothing.field-0-is) ∙ c.in-Ok-Nothing.ensures.answer) c.new.ensures.bytes;
}

pub returns-in-Ok-Types : goal.returns-in-Ok-Types
unfolding Answers
returns-in-Ok-Types c = record {
  answer = subst (λ a. IfOk c.types_text.result (λ text. AnswerOf a c.args.line.now (string_bytes text))) (sym (ap asked c.in-Ok-Types.field-0-is) ∙ c.in-Ok-Types.ensures.answer) c.types_text.ensures.answer;
}

pub returns-in-Ok-Dissect : goal.returns-in-Ok-Dissect
unfolding Answers
returns-in-Ok-Dissect c = record {
  answer = subst (λ a. IfOk c.dissect_answer.result (λ text. AnswerOf a c.args.line.now (string_bytes text))) (sym (ap asked c.in-Ok-Dissect.field-0-is) ∙ c.in-Ok-Dissect.ensures.answer) c.dissect_answer.ensures.answer;
}

pub returns-in-Ok-Match : goal.returns-in-Ok-Match
unfolding Answers
returns-in-Ok-Match c = record {
  answer = subst (λ a. IfOk c.match_answer.result (λ text. AnswerOf a c.args.line.now (string_bytes text))) (sym (ap asked c.in-Ok-Match.field-0-is) ∙ c.in-Ok-Match.ensures.answer) c.match_answer.ensures.answer;
}

pub returns-in-Err : goal.returns-in-Err
unfolding Answers
returns-in-Err c = record {
  answer = subst (λ a. IfOk c.not_understood.result (λ text. AnswerOf a c.args.line.now (string_bytes text))) c.in-Err.ensures.answer c.not_understood.ensures.answer;
}
