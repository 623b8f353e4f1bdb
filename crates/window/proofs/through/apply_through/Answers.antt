use Rattle.std.proofs.Common.{rules}
use Rattle.window.proofs.Others.{shown_others}
use Rattle.window.proofs.through.apply_through.Goals as goal

pub returns-clause-beside : goal.returns-clause-beside
returns-clause-beside g c = λ o apart. shown_others g.S.Store.disk g.S.Store.rest _ c.args.store.now c.args.spans o (search rules) apart

pub returns-in_err-apply-clause-beside : goal.returns-in_err-apply-clause-beside
returns-in_err-apply-clause-beside g c = λ o apart. shown_others g.S.Store.disk g.S.Store.rest _ c.args.store.now c.args.spans o (search rules) apart
