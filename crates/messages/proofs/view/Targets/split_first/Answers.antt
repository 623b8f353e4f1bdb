use Rattle.std.proofs.Common.{◌≡◌, ℕ, suc, None, Some, get_or, rules}
use Rattle.messages.specs.Target.{targets_in}
use Rattle.messages.specs.View.{owed}
use Rattle.messages.proofs.Steps.{first_even, first_odd, owed_even, owed_odd, owed_bad}
use Rattle.messages.proofs.view.Targets.split_first.Goals as goal

pub returns-then-self-eq0-clause-read : goal.returns-then-self-eq0-clause-read
returns-then-self-eq0-clause-read c n = first_even n _ _ c.if-self-eq0.true

pub returns-then-self-eq0-clause-owed : goal.returns-then-self-eq0-clause-owed
returns-then-self-eq0-clause-owed c n = owed_even n _ _ c.if-self-eq0.true

pub returns-in_err-target-clause-read : goal.returns-in_err-target-clause-read
returns-in_err-target-clause-read c =
    let h : (n : ℕ) → targets_in (suc n) c.args.self.now.map c.args.self.now.tail.now ≡ None = λ n. first_odd n _ _ None c.if-self-eq0.false c.in_err-target.ensures.answer in
    search rules

pub returns-in_err-target-clause-owed : goal.returns-in_err-target-clause-owed
returns-in_err-target-clause-owed c =
    let h : (n s : ℕ) → get_or (owed (suc n) c.args.self.now.map c.args.self.now.tail.now) s None ≡ None = λ n s. owed_bad n _ _ s c.if-self-eq0.false c.in_err-target.ensures.answer in
    search rules

pub returns-clause-read : goal.returns-clause-read
returns-clause-read c n = first_odd n _ _ (Some (c.in_ok-target.target, c.in_ok-target.tail.now)) c.if-self-eq0.false c.in_ok-target.ensures.answer

pub returns-clause-owed : goal.returns-clause-owed
returns-clause-owed c n = owed_odd n _ _ (Some (c.in_ok-target.target, c.in_ok-target.tail.now)) c.if-self-eq0.false c.in_ok-target.ensures.answer
