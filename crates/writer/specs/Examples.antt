-- Examples of the rules that are easily got wrong.
use Rattle.std.specs.Prelude.{◌≡◌, true, false, [], ◌∷◌, Some, None, codes}
use Rattle.frame.specs.FirstByte.{type_in}
use Rattle.frame.specs.Length.{length_in}
use Rattle.topics.specs.Matching.{takes}

pub record Examples : Type 0 where
  -- "#" takes the parent too
  pub parent : takes (codes "a/#") (codes "a") ≡ true
  -- "+" wants a level of its own
  pub wanting : takes (codes "a/+") (codes "a") ≡ false
  -- which may be empty
  pub empty : takes (codes "a/+") (codes "a/") ≡ true
  -- and takes no more than one
  pub two : takes (codes "+") (codes "/a") ≡ false
  -- the largest length of one byte, and of two
  pub one_byte : length_in (0x7f ∷ []) ≡ Some (127, 1)
  pub two_bytes : length_in (0xff ∷ 0x7f ∷ []) ≡ Some (16383, 2)
  -- a PUBLISH with QoS 3, and one with DUP at QoS 0
  pub qos_three : type_in 0x36 ≡ None
  pub dup_at_zero : type_in 0x38 ≡ None
