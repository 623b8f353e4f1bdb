use Rattle.std.proofs.Common.{sym, ap, ◌∙◌}
use Rattle.store.specs.Disk.{put_after}
use Rattle.pile.specs.Pile.{pile_disk, pile_rest, three}
use Rattle.pile.proofs.ops.PileStore.put.Goals as goal

pub returns-in-Three-clause-after : goal.returns-in-Three-clause-after
returns-in-Three-clause-after c =
    c.put-in-Three.ensures.after ∙ ap (λ p. put_after c.put-in-Three.result (pile_disk p) c.args.kind c.args.number c.args.row.now) (sym c.in-Three.is)

pub returns-in-Three-clause-rest : goal.returns-in-Three-clause-rest
returns-in-Three-clause-rest c = ap three c.put-in-Three.ensures.rest ∙ ap pile_rest (sym c.in-Three.is)
