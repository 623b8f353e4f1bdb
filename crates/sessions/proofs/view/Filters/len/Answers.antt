use Rattle.std.proofs.Common.{refl}
use Rattle.sessions.proofs.Steps.{listed_count}
use Rattle.sessions.proofs.view.Filters.len.Goals as goal

pub returns : goal.returns
returns c = record { answer = refl; listed = λ e. listed_count c.args.self.now.count c.args.self.now.part.now e }
