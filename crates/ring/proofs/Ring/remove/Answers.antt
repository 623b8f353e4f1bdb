use Rattle.std.proofs.Common.{◌≡◌, ℕ, ◌-◌, ◌%◌, ◌<◌, min, Bool, true, false, not, length, ap, ◌∙◌, subst, arith}
use Rattle.ring.specs.Ring.{round}
use Rattle.ring.proofs.Waiting.{waiting-length, waiting_fits}
use Rattle.ring.proofs.Sift.{Sifted, stays_from, goes_from, turn_stays, turn_goes, gone, removed}
use Rattle.ring.proofs.Ring.remove.Goals as goal
use Rattle.ring.proofs.Ring.remove.Goals.{then-not-goes, else-not-goes}

pub place-requires : goal.place-requires
place-requires g c = omega (arith, waiting_fits c.args.self.now c.args.memory.now)

pub place-at-requires : goal.place-at-requires
place-at-requires g c = omega (arith, c.loop-i.invariant.behind, waiting_fits c.args.self.now c.args.memory.now)

pub loop-i-preserved : goal.loop-i-preserved
loop-i-preserved g c =
    let p : g.row.T.Denot → Bool = λ x. not (g.P.Pick.picked c.args.pick.now x) in
    let first = c.args.self.now.first in
    let xs = c.args.memory.now in
    let ys = c.loop-i.memory in
    let f = first % length xs in
    let k = c.loop-i.stay in
    let i = c.loop-i.i in
    let x = c.index-memory-place.result in
    let inside : i < length xs = omega (arith, waiting_fits c.args.self.now xs) in
    let at = c.place.result in
    elim c.if-not-goes.branch [
      | then-not-goes w ↦
          (let stays : p x ≡ true = stays_from c.picks-goes.result (g.P.Pick.picked c.args.pick.now x) c.picks-goes.ensures w.if-not-goes.true in
          let now = turn_stays p first xs ys k i x c.loop-i.auto.memory c.loop-i.invariant inside at c.place.ensures.answer c.index-memory-place.is stays w.place-at.result w.place-at.ensures.answer in
          rw (w.memory-is, w.stay-is) now)
      | else-not-goes w ↦
          (let goes : p x ≡ false = goes_from c.picks-goes.result (g.P.Pick.picked c.args.pick.now x) c.picks-goes.ensures w.if-not-goes.false in
          let now = turn_goes p first xs ys k i x c.loop-i.auto.memory c.loop-i.invariant inside at c.place.ensures.answer c.index-memory-place.is goes in
          rw (w.memory-is, w.stay-is) now)
    ]

pub returns : goal.returns
returns g c =
    let picked = g.P.Pick.picked c.args.pick.now in
    let r = c.args.self.now in
    let xs = c.args.memory.now in
    let ys = c.loop-i.memory in
    let k = c.loop-i.stay in
    let P : ℕ → Type 0 = λ n. Sifted (λ x. not (picked x)) (round (r.first % length xs) xs) (round (r.first % length xs) ys) k n in
    let all : c.loop-i.i ≡ min r.count (length xs) = omega (arith, waiting-length r xs) in
    let done = subst P all c.loop-i.invariant in
    record {
      answer = ap (λ n. n - k) (c.len-count.ensures ∙ waiting-length r xs) ∙ gone picked r xs ys k c.loop-i.auto.memory done;
      after = removed picked r xs ys k c.loop-i.auto.memory done;
    }
