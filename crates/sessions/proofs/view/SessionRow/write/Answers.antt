use Rattle.std.proofs.Common.{arith, ◌<◌, length}
use Rattle.sessions.proofs.Steps.{row_written, client_fits}
use Rattle.sessions.proofs.view.SessionRow.write.Goals as goal

pub overflow_cast-self : goal.overflow_cast-self
overflow_cast-self c = let h : length c.args.self.now.client.now < 256 = client_fits c.args.self.now c.if-not-is_lawful.ensures.answer in omega arith

pub returns : goal.returns
returns c = record { buffer = row_written c.args.self.now _ _ _ c.if-not-is_lawful.ensures.answer c.write_all.ensures.buffer }
