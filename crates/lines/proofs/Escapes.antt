-- Escaped bytes can be told apart again.
use Rattle.std.proofs.Common.{◌≡◌, ℕ, ◌+◌, ◌-◌, ◌/◌, ◌%◌, ◌<◌, ◌≤◌, Bool, true, false, cond, eqb, List, [], ◌∷◌, ◌++◌, length, get_or, take, drop, sym, refl, ap, ◌∙◌, subst, append_assoc, arith, lit<, lit≤, length-append, eqb-true}
use borrow.Author.Tests.{eqb-false}
use Rattle.std.proofs.ByRecursion.{All-append}
use Rattle.std.proofs.lemmas.Bool.Decides.{nat_tests}
use Rattle.std.proofs.lemmas.List.{append-nil, take_all}
use Rattle.std.proofs.lemmas.Str.Ascii.{IsAscii-nil, IsAscii-cons}
use Rattle.std.specs.Str.{IsAscii}
use Rattle.std.specs.List.{AllByRecursion, flat_map}
use Rattle.lines.specs.Hex.{digit, byte_hex}
use Rattle.lines.proofs.Hexes.{front_one, hex_ascii}
use Rattle.lines.specs.Escape.{plain, escaped_byte, escaped, Bytes, EscapeLaw}

-- a digit is that of one number
same_digit : (m n : ℕ) → m < 16 → n < 16 → digit m ≡ digit n → m ≡ n
same_digit m n a b e = grind (arith, nat_tests)

pub same_hex : (a b : ℕ) → a < 256 → b < 256 → byte_hex a ≡ byte_hex b → a ≡ b
same_hex a b p q e =
    let high : digit (a / 16) ≡ digit (b / 16) = ap (λ l. get_or l 0 0) e in
    let low : digit (a % 16) ≡ digit (b % 16) = ap (λ l. get_or l 1 0) e in
    let h = same_digit (a / 16) (b / 16) (omega arith) (omega arith) high in
    let l = same_digit (a % 16) (b % 16) (omega arith) (omega arith) low in
    omega arith

pub plain_is : (b : ℕ) → plain b ≡ true → escaped_byte b ≡ b ∷ []
unfolding escaped_byte
plain_is b e = simp e

pub other_is : (b : ℕ) → plain b ≡ false → escaped_byte b ≡ 92 ∷ 120 ∷ byte_hex b
unfolding escaped_byte
other_is b e = simp e

ascii_by : (b : ℕ) (v : Bool) → b < 256 → plain b ≡ v → IsAscii (cond v (b ∷ []) (92 ∷ 120 ∷ byte_hex b))
ascii_by b true h e = IsAscii-cons b [] (grind (arith, nat_tests)) IsAscii-nil
ascii_by b false h e = IsAscii-cons 92 (120 ∷ byte_hex b) (lit< tt) (IsAscii-cons 120 (byte_hex b) (lit< tt) (hex_ascii b h))

pub escaped_ascii : (b : ℕ) → b < 256 → IsAscii (escaped_byte b)
unfolding escaped_byte
escaped_ascii b h = ascii_by b (plain b) h refl

-- two texts that begin with an escaped byte
Same : ℕ → ℕ → List ℕ → List ℕ → Type 0
Same a b s t = (a ≡ b) × (s ≡ t)

cons_same : (a b : ℕ) (s t : List ℕ) → a ∷ s ≡ b ∷ t → (a ≡ b) × (s ≡ t)
cons_same a b s t e = (cc, cc)

unit_by : (a b : ℕ) (s t : List ℕ) → a < 256 → b < 256 → (u v : Bool) → plain a ≡ u → plain b ≡ v
    → cond u (a ∷ []) (92 ∷ 120 ∷ byte_hex a) ++ s ≡ cond v (b ∷ []) (92 ∷ 120 ∷ byte_hex b) ++ t → Same a b s t
unfolding Same
unit_by a b s t p q true true eu ev e = cons_same a b s t e
unit_by a b s t p q true false eu ev e =
    let h : a ≡ 92 = ap (λ l. get_or l 0 0) e in absurd (grind (arith, nat_tests))
unit_by a b s t p q false true eu ev e =
    let h : 92 ≡ b = ap (λ l. get_or l 0 0) e in absurd (grind (arith, nat_tests))
unit_by a b s t p q false false eu ev e =
    let high : digit (a / 16) ≡ digit (b / 16) = ap (λ l. get_or l 2 0) e in
    let low : digit (a % 16) ≡ digit (b % 16) = ap (λ l. get_or l 3 0) e in
    (same_hex a b p q (λ i. high i ∷ low i ∷ []), ap (drop 4) e)

pub same_unit : (a b : ℕ) (s t : List ℕ) → a < 256 → b < 256 → escaped_byte a ++ s ≡ escaped_byte b ++ t → (a ≡ b) × (s ≡ t)
unfolding escaped_byte Same
same_unit a b s t p q e = unit_by a b s t p q (plain a) (plain b) refl refl e

some_by : (b : ℕ) (v : Bool) → 0 < length (cond v (b ∷ []) (92 ∷ 120 ∷ byte_hex b))
some_by b true = omega arith
some_by b false = omega arith

pub unit_some : (b : ℕ) → 0 < length (escaped_byte b)
unfolding escaped_byte
unit_some b = some_by b (plain b)

-- the front of a text in the words of a slice pattern
pub plain-front : (text : List ℕ) → 1 ≤ length text → plain (get_or text 0 0) ≡ true → escaped_byte (get_or text 0 0) ++ take (length text - 1) (drop 1 text) ≡ text
plain-front text h e = ap (λ l. l ++ take (length text - 1) (drop 1 text)) (plain_is (get_or text 0 0) e) ∙ sym (front_one text h)

pub code_front : (text : List ℕ) (b : ℕ) → 4 ≤ length text → get_or text 0 0 ≡ 92 → get_or text 1 0 ≡ 120 → plain b ≡ false
    → byte_hex b ≡ get_or text 2 0 ∷ get_or text 3 0 ∷ [] → escaped_byte b ++ take (length text - 4) (drop 4 text) ≡ text
code_front [] b h e f n x = absurd (omega arith)
code_front (c ∷ []) b h e f n x = absurd (omega arith)
code_front (c ∷ d ∷ []) b h e f n x = absurd (omega arith)
code_front (c ∷ d ∷ g ∷ []) b h e f n x = absurd (omega arith)
code_front (c ∷ d ∷ g ∷ k ∷ text) b h e f n x =
    ap (λ l. l ++ take (length (c ∷ d ∷ g ∷ k ∷ text) - 4) text) (other_is b n)
    ∙ (λ i. sym e i ∷ sym f i ∷ (x i ++ take_all (length (c ∷ d ∷ g ∷ k ∷ text) - 4) text (omega arith) i))

-- a text begins with an escaped byte only as a plain byte or as `\\x` and the digits of another
pub no_front : (text : List ℕ) → (1 ≤ length text → plain (get_or text 0 0) ≡ true → ⊥)
    → (4 ≤ length text → get_or text 0 0 ≡ 92 → get_or text 1 0 ≡ 120 → (b : ℕ) → b < 256 → plain b ≡ false → byte_hex b ≡ get_or text 2 0 ∷ get_or text 3 0 ∷ [] → ⊥)
    → (b : ℕ) (rest : List ℕ) → b < 256 → (v : Bool) → plain b ≡ v → cond v (b ∷ []) (92 ∷ 120 ∷ byte_hex b) ++ rest ≡ text → ⊥
no_front text f g b rest h true ev e =
    f (subst (λ l. 1 ≤ length l) e (omega arith)) (subst (λ l. plain (get_or l 0 0) ≡ true) e ev)
no_front text f g b rest h false ev e =
    g (subst (λ l. 4 ≤ length l) e (omega arith)) (ap (λ l. get_or l 0 0) (sym e)) (ap (λ l. get_or l 1 0) (sym e)) b h ev
    (λ i. get_or (e i) 2 0 ∷ get_or (e i) 3 0 ∷ [])

pub no_unit : (text : List ℕ) → (1 ≤ length text → plain (get_or text 0 0) ≡ true → ⊥)
    → (4 ≤ length text → get_or text 0 0 ≡ 92 → get_or text 1 0 ≡ 120 → (b : ℕ) → b < 256 → plain b ≡ false → byte_hex b ≡ get_or text 2 0 ∷ get_or text 3 0 ∷ [] → ⊥)
    → (b : ℕ) (rest : List ℕ) → b < 256 → escaped_byte b ++ rest ≡ text → ⊥
unfolding escaped_byte
no_unit text f g b rest h e = no_front text f g b rest h (plain b) refl e

-- if the bytes bs are spelled by xs and a rest, then the rest is spelled by bytes
pub record Left (bs xs rest : List ℕ) : Type 0 where
  pub more : List ℕ
  pub bytes : Bytes more
  pub spelled : flat_map escaped_byte more ≡ rest
  pub whole : bs ≡ xs ++ more

pub left : (bs xs rest : List ℕ) → Bytes bs → Bytes xs → flat_map escaped_byte bs ≡ flat_map escaped_byte xs ++ rest → Left bs xs rest
left bs [] rest b x e = record { more = bs; bytes = b; spelled = e; whole = refl }
left [] (x ∷ xs) rest b h e =
    let l : 0 ≡ length ((escaped_byte x ++ flat_map escaped_byte xs) ++ rest) = ap length e in
    let z : 0 ≡ length (escaped_byte x) + length (flat_map escaped_byte xs) + length rest = l ∙ simp length-append in
    absurd (omega (arith, unit_some x))
left (c ∷ bs) (x ∷ xs) rest b h e =
    let f = same_unit c x (flat_map escaped_byte bs) (flat_map escaped_byte xs ++ rest) b.0 h.0 (e ∙ append_assoc (escaped_byte x) (flat_map escaped_byte xs) rest) in
    let l = left bs xs rest b.1 h.1 f.1 in
    record { more = l.more; bytes = l.bytes; spelled = l.spelled; whole = λ i. f.0 i ∷ l.whole i }

begins : (more rest : List ℕ) → Bytes more → flat_map escaped_byte more ≡ rest → 0 < length rest
    → ((b : ℕ) (t : List ℕ) → b < 256 → escaped_byte b ++ t ≡ rest → ⊥) → ⊥
begins [] rest h e some none = let z = ap length e in omega arith
begins (b ∷ more) rest h e some none = none b (flat_map escaped_byte more) h.0 e

-- what is left begins with no escaped byte, so the text is written of no bytes
pub no_bytes : (text bs xs rest : List ℕ) → Bytes bs → Bytes xs → flat_map escaped_byte xs ++ rest ≡ text → 0 < length rest
    → ((b : ℕ) (t : List ℕ) → b < 256 → escaped_byte b ++ t ≡ rest → ⊥) → flat_map escaped_byte bs ≡ text → ⊥
no_bytes text bs xs rest hb hx e some none w =
    let l = left bs xs rest hb hx (w ∙ sym e) in
    begins l.more rest l.bytes l.spelled some none

pub unit_shorter : (b : ℕ) (more rest : List ℕ) → escaped_byte b ++ more ≡ rest → length more < length rest
unit_shorter b more rest e =
    let l : length (escaped_byte b) + length more ≡ length rest = sym (length-append (escaped_byte b) more) ∙ ap length e in
    omega (arith, unit_some b)

rest_none : (xs more : List ℕ) → flat_map escaped_byte more ≡ [] → xs ++ more ≡ xs
rest_none xs [] e = append-nil xs
rest_none xs (b ∷ more) e =
    let z : length (escaped_byte b) + length (flat_map escaped_byte more) ≡ 0 = sym (length-append (escaped_byte b) (flat_map escaped_byte more)) ∙ ap length e in
    absurd (omega (arith, unit_some b))

-- two runs of bytes with one spelling are one
same_spelled : (bs cs : List ℕ) → Bytes bs → Bytes cs → flat_map escaped_byte bs ≡ flat_map escaped_byte cs → bs ≡ cs
same_spelled bs cs hb hc e =
    let l = left bs cs [] hb hc (e ∙ sym (append-nil (flat_map escaped_byte cs))) in
    l.whole ∙ rest_none cs l.more l.spelled

-- no byte but `-` is spelled `-`
pub is_dash : (bs : List ℕ) → Bytes bs → flat_map escaped_byte bs ≡ 45 ∷ [] → bs ≡ 45 ∷ []
is_dash bs h e = same_spelled bs (45 ∷ []) h (lit< tt, tt) (e ∙ sym (ap (λ l. l ++ []) (plain_is 45 refl)))

code_by : (b : ℕ) (t : List ℕ) → b < 256 → (v : Bool) → plain b ≡ v → cond v (b ∷ []) (92 ∷ 120 ∷ byte_hex b) ++ t ≡ 92 ∷ 120 ∷ 50 ∷ 100 ∷ [] → ⊥
code_by b t h true ev e = let z : b ≡ 92 = ap (λ l. get_or l 0 0) e in grind (arith, nat_tests)
code_by b t h false ev e =
    let z : b ≡ 45 = same_hex b 45 h (lit< tt) (ap (λ l. take 2 (drop 2 l)) e) in
    grind (arith, nat_tests)

-- no bytes are spelled `\\x2d`
pub no_code : (bs : List ℕ) → Bytes bs → flat_map escaped_byte bs ≡ 92 ∷ 120 ∷ 50 ∷ 100 ∷ [] → ⊥
unfolding escaped_byte
no_code [] h e = let z = ap length e in omega arith
no_code (b ∷ bs) h e = code_by b (flat_map escaped_byte bs) h.0 (plain b) refl e

-- no bytes, a lone `-`, or bytes each of which is escaped
pub data Way (bs : List ℕ) : Type 0 where
  none : bs ≡ [] → Way bs
  lone : bs ≡ 45 ∷ [] → Way bs
  spelled : escaped bs ≡ flat_map escaped_byte bs → (bs ≡ [] → ⊥) → (bs ≡ 45 ∷ [] → ⊥) → Way bs

way_by : (b : ℕ) (v : Bool) → eqb b 45 ≡ v → Way (b ∷ [])
way_by b true e = lone (ap (λ x. x ∷ []) (eqb-true b 45 e))
way_by b false e = spelled (simp e) (λ z. let n = ap length z in omega arith) (λ z. let n : b ≡ 45 = ap (λ l. get_or l 0 0) z in eqb-false b 45 e n)

pub way : (bs : List ℕ) → Way bs
way [] = none refl
way (b ∷ []) = way_by b (eqb b 45) refl
way (b ∷ c ∷ bs) = spelled refl (λ z. let n = ap length z in omega arith) (λ z. let n = ap length z in omega arith)

module _ (bs cs : List ℕ) (hb : Bytes bs) (hc : Bytes cs) (e : escaped bs ≡ escaped cs) where
  one_by : Way bs → Way cs → bs ≡ cs
  one_by (none p) (none q) = p ∙ sym q
  one_by (none p) (lone q) = let z = ap length (sym (ap escaped p) ∙ e ∙ ap escaped q) in absurd (omega arith)
  one_by (none p) (spelled w n d) = absurd (d (is_dash cs hc (sym w ∙ sym e ∙ ap escaped p)))
  one_by (lone p) (none q) = let z = ap length (sym (ap escaped p) ∙ e ∙ ap escaped q) in absurd (omega arith)
  one_by (lone p) (lone q) = p ∙ sym q
  one_by (lone p) (spelled w n d) = absurd (no_code cs hc (sym w ∙ sym e ∙ ap escaped p))
  one_by (spelled w n d) (none q) = absurd (d (is_dash bs hb (sym w ∙ e ∙ ap escaped q)))
  one_by (spelled w n d) (lone q) = absurd (no_code bs hb (sym w ∙ e ∙ ap escaped q))
  one_by (spelled w n d) (spelled w' n' d') = same_spelled bs cs hb hc (sym w ∙ e ∙ w')

Printable : ℕ → Type 0
Printable c = (33 ≤ c) × (c ≤ 126)

digit_prints : (n : ℕ) → n < 16 → Printable (digit n)
unfolding Printable
digit_prints n h = (grind (arith, nat_tests), grind (arith, nat_tests))

unit_prints : (b : ℕ) (v : Bool) → b < 256 → plain b ≡ v → AllByRecursion Printable (cond v (b ∷ []) (92 ∷ 120 ∷ byte_hex b))
unfolding Printable
unit_prints b true h e = ((grind (arith, nat_tests), grind (arith, nat_tests)), tt)
unit_prints b false h e =
    ((lit≤ tt, lit≤ tt), ((lit≤ tt, lit≤ tt), (digit_prints (b / 16) (omega arith), (digit_prints (b % 16) (omega arith), tt))))

each_prints : (bs : List ℕ) → Bytes bs → AllByRecursion Printable (flat_map escaped_byte bs)
unfolding escaped_byte
each_prints [] h = tt
each_prints (b ∷ bs) h = All-append Printable (escaped_byte b) (flat_map escaped_byte bs) (unit_prints b (plain b) h.0 refl) (each_prints bs h.1)

some_spelled : (bs : List ℕ) → (bs ≡ [] → ⊥) → 0 < length (flat_map escaped_byte bs)
some_spelled [] n = absurd (n refl)
some_spelled (b ∷ bs) n = let l = length-append (escaped_byte b) (flat_map escaped_byte bs) in omega (arith, unit_some b)

prints_by : (bs : List ℕ) → Bytes bs → Way bs → (0 < length (escaped bs)) × AllByRecursion Printable (escaped bs)
unfolding Printable
prints_by bs h (none p) = subst (λ l. (0 < length (escaped l)) × AllByRecursion Printable (escaped l)) (sym p) (lit< tt, ((lit≤ tt, lit≤ tt), tt))
prints_by bs h (lone p) =
    subst (λ l. (0 < length (escaped l)) × AllByRecursion Printable (escaped l)) (sym p)
    (lit< tt, ((lit≤ tt, lit≤ tt), ((lit≤ tt, lit≤ tt), ((lit≤ tt, lit≤ tt), ((lit≤ tt, lit≤ tt), tt)))))
prints_by bs h (spelled w n d) = subst (λ l. (0 < length l) × AllByRecursion Printable l) (sym w) (some_spelled bs n, each_prints bs h)

pub escape_law : EscapeLaw
unfolding Printable
escape_law = record {
  one_to_one = λ bs cs hb hc e. one_by bs cs hb hc e (way bs) (way cs);
  printable = λ bs h. prints_by bs h (way bs);
}

-- a text other than the two words is read byte by byte
module _ (text : List ℕ) (not_none : 0 < length text) (not_dash : text ≡ 45 ∷ [] → ⊥) (not_code : text ≡ 92 ∷ 120 ∷ 50 ∷ 100 ∷ [] → ⊥) where
  read_by : (bs : List ℕ) → flat_map escaped_byte bs ≡ text → Way bs → escaped bs ≡ text
  read_by bs e (none p) = let z = ap length (sym e ∙ ap (flat_map escaped_byte) p) in absurd (omega arith)
  read_by bs e (lone p) = absurd (not_dash (sym e ∙ ap (flat_map escaped_byte) p ∙ ap (λ l. l ++ []) (plain_is 45 refl)))
  read_by bs e (spelled w n d) = w ∙ e

  pub read-each : (bs : List ℕ) → flat_map escaped_byte bs ≡ text → escaped bs ≡ text
  read-each bs e = read_by bs e (way bs)

  none_by : (bs : List ℕ) → (flat_map escaped_byte bs ≡ text → ⊥) → escaped bs ≡ text → Way bs → ⊥
  none_by bs f e (none p) = not_dash (sym e ∙ ap escaped p)
  none_by bs f e (lone p) = not_code (sym e ∙ ap escaped p)
  none_by bs f e (spelled w n d) = f (sym w ∙ e)

  pub none_each : (bs : List ℕ) → (flat_map escaped_byte bs ≡ text → ⊥) → escaped bs ≡ text → ⊥
  none_each bs f e = none_by bs f e (way bs)

-- no text that is written is empty
pub not-empty : (bs text : List ℕ) → Bytes bs → length text < 1 → escaped bs ≡ text → ⊥
not-empty bs text h short e = let p = (prints_by bs h (way bs)).0 in let l = ap length e in omega arith
