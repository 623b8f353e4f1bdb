use Rattle.std.proofs.Common.{◌+◌, ◌^◌, ◌<◌, length, ap, ◌∙◌, arith}
use Rattle.packets.specs.Filters.{nth}
use Rattle.packets.proofs.Counting.{entries_fit, entries_beyond, found_some, found_none, finding_first, finding_more, finding_stop, finding_found}
use Rattle.packets.proofs.packet.Filters.get.Goals as goal

pub returns-then-index-self : goal.returns-then-index-self
returns-then-index-self c = record { answer = entries_beyond c.args.self c.args.index c.if-index-self.true }

pub loop-init : goal.loop-init
loop-init c =
    let a = c.in_ok-cursor.ensures.answer in
    finding_first c.args.self.with_qos c.args.self.part.now c.args.self.place c.args.self.count c.args.index a.0 a.1

pub returns-in_err-ok : goal.returns-in_err-ok
returns-in_err-ok c =
    let a = c.in_ok-cursor.ensures.answer in
    let long = ap length a.0 in
    let fits : c.args.self.place + length c.args.self.part.now < 2 ^ 64 = omega (arith, a.1, c.in_ok-cursor.cursor.fits) in
    let e = found_none _ _ c.read_filter.result c.in_err-ok.ensures.value c.read_filter.ensures.answer in
    record {
      answer = rw c.from_residual-in_err-ok.ensures (finding_stop _ _ _ _ _ _ _ _ c.loop.invariant e.0 e.1 (omega arith) (omega arith) ∙ ap (nth c.args.index) (entries_fit c.args.self fits));
    }

pub loop-preserved : goal.loop-preserved
loop-preserved c =
    finding_more _ _ _ _ _ _ _ _ c.loop.invariant _ (omega arith) (omega arith) (found_some _ _ c.read_filter.result c.in_ok-ok.ensures.value c.read_filter.ensures.answer)

pub returns : goal.returns
returns c =
    let a = c.in_ok-cursor.ensures.answer in
    let long = ap length a.0 in
    let fits : c.args.self.place + length c.args.self.part.now < 2 ^ 64 = omega (arith, a.1, c.in_ok-cursor.cursor.fits) in
    record {
      answer = rw c.ok-2.ensures.value
          (finding_found _ _ _ _ _ _ _ _ c.loop.invariant _ _ c.read_filter-2.result (omega arith) (omega arith) c.read_filter-2.ensures.answer
          ∙ ap (nth c.args.index) (entries_fit c.args.self fits));
    }
