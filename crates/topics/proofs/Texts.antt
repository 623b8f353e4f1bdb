-- The text rule as a test.
use Rattle.std.proofs.Common.{◌≡◌, ℕ, true, false, List, IsUtf8, sym, ap, ◌∙◌, arith}
use lib.Utf8.{encodes, scalars}
use Rattle.std.specs.Str.{chars, bytes_eq}
use Rattle.std.proofs.lemmas.Slice.Eq.{bytes_eq-Decides}
use Rattle.std.proofs.lemmas.Bool.{and_parts, and_from}
use Rattle.std.proofs.lemmas.Str.{encodes-chars, scalars-chars, chars_from_encodes}
use Rattle.topics.specs.Text.{TextLaw, allowed, every, is_text, well_formed}

from_utf8 : (bs : List ℕ) → IsUtf8 bs → well_formed bs ≡ true
unfolding well_formed
from_utf8 bs u =
    and_from (scalars (chars bs)) (bytes_eq (encodes (chars bs)) bs) (scalars-chars bs u) ((bytes_eq-Decides (encodes (chars bs)) bs).1 (encodes-chars bs u))

to_utf8 : (bs : List ℕ) → well_formed bs ≡ true → IsUtf8 bs
unfolding well_formed
to_utf8 bs e =
    let p = and_parts (scalars (chars bs)) (bytes_eq (encodes (chars bs)) bs) e in
    (chars bs, (p.0, (bytes_eq-Decides (encodes (chars bs)) bs).0 p.1))

-- UTF-8 is text exactly when its characters are allowed
pub text_utf8 : (bs : List ℕ) → IsUtf8 bs → every allowed (chars bs) ≡ is_text bs
unfolding is_text
text_utf8 bs u = let e = from_utf8 bs u in grind arith

pub text_not_utf8 : (bs : List ℕ) → (IsUtf8 bs → ⊥) → false ≡ is_text bs
unfolding is_text
text_not_utf8 bs n = let e : well_formed bs ≡ true → ⊥ = λ e. n (to_utf8 bs e) in grind arith

-- text is UTF-8
pub utf8_from_text : (bs : List ℕ) → is_text bs ≡ true → IsUtf8 bs
unfolding is_text
utf8_from_text bs e = to_utf8 bs (and_parts (well_formed bs) (every allowed (chars bs)) e).0

pub text_law : TextLaw
unfolding is_text
text_law bs = (
  λ e.
      let p = and_parts (well_formed bs) (every allowed (chars bs)) e in
      let u = to_utf8 bs p.0 in
      (chars bs, scalars-chars bs u, p.1, encodes-chars bs u),
  λ s.
      let u : IsUtf8 bs = (s.0, (s.1, s.3)) in
      let same = chars_from_encodes s.0 bs u s.3 in
      and_from (well_formed bs) (every allowed (chars bs)) (from_utf8 bs u) (ap (every allowed) (sym same) ∙ s.2),
)
