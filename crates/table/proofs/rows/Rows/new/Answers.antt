use Rattle.std.proofs.Common.{rules}
use Rattle.table.proofs.Among.{made_empty}
use Rattle.table.proofs.rows.Rows.new.Goals as goal

pub returns : goal.returns
returns c = record {
  answer = made_empty _ (λ p q x h. search rules) c.try_resize_with.new.self c.in_ok-places.places.items 1152 _ c.in_ok-places.ensures.items c.in_ok-try_resize_with.ensures.len c.try_resize_with.ensures.items;
}
