use Rattle.std.proofs.Common.{◌++◌, length, drop, Some, None, Ok, sym, ap, ◌∙◌}
use Rattle.journal.specs.Changes.{Change}
use Rattle.journal.proofs.Logs.{found_tells, found_row}
use Rattle.journal.proofs.Written.{at_place, read_whole}
use Rattle.journal.proofs.log.Log.read.Goals as goal

pub index-requires : goal.index-requires
index-requires c =
    let l = c.args.self.now in
    (found_row l c.in-Some.place _ (found_tells l c.args.key (Some c.in-Some.place) c.in-Some.ensures)).0

pub returns-in-Some : goal.returns-in-Some
returns-in-Some c =
    let l = c.args.self.now in
    let f = found_row l c.in-Some.place _ (found_tells l c.args.key (Some c.in-Some.place) c.in-Some.ensures) in
    let e = ap (λ (x : Change). x.row) (sym (at_place l.places.entries c.in-Some.place _ c.index.ensures f.0)) ∙ f.1 in
    let w = read_whole _ _ _ _ c.read.ensures.answer c.requires c.read.ensures.buffer in
    record {
      answer = w.0 ∙ ap (λ row. Ok (length row)) e;
      buffer = w.1 ∙ ap (λ row. row ++ drop (length row) c.args.buffer.now) e;
    }

pub returns-in-None : goal.returns-in-None
returns-in-None c =
    let t = found_tells c.args.self.now c.args.key None c.in-None.ensures in
    record { answer = sym (ap (λ row. Ok (length row)) t); buffer = sym (ap (λ row. row ++ drop (length row) c.args.buffer.now) t) }
