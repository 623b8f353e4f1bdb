use Rattle.packets.proofs.Counting.{Finding}
use Rattle.packets.proofs.packet.Filters.get.Given as goal

abbrev pub invariant-loop : goal.invariant-loop
invariant-loop l = Finding l.self.with_qos l.self.part.now l.self.place l.self.count l.index l.counter l.cursor.bytes.now l.cursor.at
