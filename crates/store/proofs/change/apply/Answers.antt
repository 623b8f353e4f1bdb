use Rattle.std.proofs.Common.{◌≡◌, vec_items}
use Rattle.store.specs.Change.{outcomes}
use Rattle.store.proofs.Changes.{outcomes-all, done_all, final-all}
use Rattle.store.proofs.change.apply.Goals as goal

pub returns : goal.returns
returns g c =
    let d = g.S.Store.disk c.args.store.now in
    let e = g.S.Store.disk c.loop-change.store in
    let cs = c.args.changes.now in
    let i = c.loop-change.change-index in
    let os = vec_items c.loop-change.outcomes in
    let v = c.loop-change.invariant in
    let a : os ≡ outcomes d cs = outcomes-all d e cs i c.loop-change-test.false os v.0 in
    record {
      answer = a;
      done = done_all d cs os a;
      after = final-all d e cs i c.loop-change-test.false os a v.1;
      rest = v.2;
    }
