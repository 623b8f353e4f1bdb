use Rattle.std.proofs.Common.{◌≡◌, ℕ, take, subst, refl, arith}
use Rattle.ring.specs.Run.{Runs, start}
use Rattle.ring.proofs.Queue.{runs_queues, runs_more, rest_more}
use Rattle.ring.proofs.Ring.run.Goals as goal

pub loop-i-init : goal.loop-i-init
loop-i-init g c = (start, refl)

pub loop-i-preserved : goal.loop-i-preserved
loop-i-preserved g c = (
  runs_more c.args.self.now c.args.memory.now c.args.steps.now c.loop-i.answers c.loop-i.i c.loop-i.self c.step.new.self c.loop-i.memory c.step.new.memory
      c.index-steps-i.result c.step.result (omega arith) (omega arith) c.index-steps-i.is c.loop-i.invariant.0 c.step.ensures,
  rest_more c.loop-i.answers c.args.answers.now c.loop-i.i c.step.result c.loop-i.invariant.1,
)

pub returns-clause-queue : goal.returns-clause-queue
returns-clause-queue g c =
    let P : ℕ → Type 0 = λ i. Runs c.args.self.now c.args.memory.now (take i c.args.steps.now) (take i c.loop-i.answers) c.loop-i.self c.loop-i.memory in
    let all : c.loop-i.i ≡ c.min-count.result = omega arith in
    runs_queues (subst P all c.loop-i.invariant.0)
