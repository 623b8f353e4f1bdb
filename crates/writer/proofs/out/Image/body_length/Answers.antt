use Rattle.std.proofs.Common.{◌≡◌, ◌+◌, ◌-◌, ◌^◌, min, length, rules, ◌∙◌}
use Rattle.std.specs.List.{fold}
use Rattle.writer.proofs.Counts.{added}
use Rattle.writer.proofs.out.Image.body_length.Goals as goal

pub returns : goal.returns
returns c =
    let pieces = c.args.self.body.now in
    let sum : c.fold.result ≡ fold (λ k p. min (k + length p.now) (2 ^ 64 - 1)) 0 pieces = search rules in
    record { answer = sum ∙ added pieces }
