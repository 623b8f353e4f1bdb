use Rattle.std.proofs.Common.{◌+◌, ◌<◌, length, get_or, set, Some, None, sym, ap, ◌∙◌, subst, arith}
use Rattle.journal.specs.Changes.{Inside}
use Rattle.journal.specs.Entry.{written, slot_of}
use Rattle.journal.specs.Index.{pointers, Clearing}
use Rattle.journal.proofs.Written.{length-written, at_place, moved_down}
use Rattle.journal.proofs.Steps.{found_here, found_elsewhere, turn_pass, turn_keep}
use Rattle.journal.proofs.places.Places.settle.Goals as goal

pub returns-then-ne-clause-turn : goal.returns-then-ne-clause-turn
returns-then-ne-clause-turn c =
    let p = c.args.self.now in
    let from = c.args.from in
    let e = sym (at_place p.entries from _ c.index.ensures c.requires.place) in
    λ xs g.
    let l : from < length xs = omega (arith, g.long, length-written p.entries, c.requires.place) in
    turn_pass xs (written p.entries) (pointers p.index) c.args.to from g l (subst Inside e c.index.result.now.key.inside)
    (λ q. found_elsewhere c.find.result from c.if-ne.ensures (c.find.ensures ∙ ap (λ i. get_or (pointers p.index) i None) (ap slot_of e) ∙ q))

pub returns-clause-turn : goal.returns-clause-turn
returns-clause-turn c =
    let p = c.args.self.now in
    let to = c.args.to in
    let from = c.args.from in
    let e = sym (at_place p.entries from _ c.index.ensures c.requires.place) in
    λ xs g.
    let l : from < length xs = omega (arith, g.long, length-written p.entries, c.requires.place) in
    subst (λ ix. Clearing xs (written c.swap.new.self) ix (to + 1) (from + 1))
    (ap (λ i. set (pointers p.index) i (Some to)) (ap slot_of (sym e)) ∙ sym c.note.ensures)
    (turn_keep xs (written p.entries) (pointers p.index) to from g l (written c.swap.new.self) (subst Inside e c.index.result.now.key.inside)
    (ap (λ i. get_or (pointers p.index) i None) (ap slot_of (sym e)) ∙ sym c.find.ensures ∙ found_here c.find.result from c.if-ne.ensures)
    (moved_down p.entries c.swap.new.self to from c.swap.ensures.items c.requires.order c.requires.place))
