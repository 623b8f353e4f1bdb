use Rattle.std.proofs.Common.{◌≡◌, length, rules, arith}
use Rattle.packets.specs.Bytes.{qos_bytes}
use Rattle.packets.specs.Filters.{entry_of}
use Rattle.writer.proofs.Firsts.{led}
use Rattle.writer.proofs.filters.behind.Goals as goal

pub slice_bounds-result-count : goal.slice_bounds-result-count
slice_bounds-result-count c =
    let e = entry_of c.args.first in
    let k : c.from.result ≡ length (qos_bytes e.qos) = search rules in
    (led c.args.part.now e c.from.result c.requires.leads k).room

pub slice_bounds-result-start : goal.slice_bounds-result-start
slice_bounds-result-start c =
    let e = entry_of c.args.first in
    let k : c.from.result ≡ length (qos_bytes e.qos) = search rules in
    omega (arith, (led c.args.part.now e c.from.result c.requires.leads k).room)

pub returns : goal.returns
returns c =
    let e = entry_of c.args.first in
    let k : c.from.result ≡ length (qos_bytes e.qos) = search rules in
    record { answer = (led c.args.part.now e c.from.result c.requires.leads k).bytes c.type_inv.part }
