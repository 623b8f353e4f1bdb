use Rattle.std.proofs.Common.{sym}
use Rattle.topics.specs.Subscription.{subscribed}
use Rattle.sessions.proofs.Steps.{whole_more}
use Rattle.sessions.proofs.view.Filters.+are_whole.Goals as goal

pub returns-then-are_whole : goal.returns-then-are_whole
returns-then-are_whole t c =
    record { answer = whole_more c.args.self.now (subscribed c.in-Some.first) c.in-Some.rest _ c.in-Some.ensures.front (sym c.if-are_whole.ensures.answer) c.contain.ensures.answer }
