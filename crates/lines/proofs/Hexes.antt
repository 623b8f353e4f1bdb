-- Hexadecimal digits, two by two.
use Rattle.std.proofs.Common.{◌≡◌, ℕ, suc, ◌+◌, ◌-◌, ◌*◌, ◌/◌, ◌%◌, ◌<◌, ◌≤◌, List, [], ◌∷◌, ◌++◌, length, get_or, take, drop, Some, None, Option, sym, refl, ap, ◌∙◌, subst, append_assoc, arith}
use Rattle.std.proofs.lemmas.List.{take_more, take_all, flat_map_more}
use Rattle.std.proofs.lemmas.Grind.{flat_map-append}
use Rattle.std.proofs.lemmas.Str.{IsAscii-append, IsUtf8-from_ascii}
use Rattle.std.proofs.lemmas.Str.Ascii.{IsAscii-nil, IsAscii-cons}
use Rattle.std.specs.Str.{IsAscii, IsUtf8}
use Rattle.std.proofs.lemmas.Bool.Decides.{nat_tests}
use Rattle.std.specs.List.{AllByRecursion, flat_map}
use Rattle.lines.specs.Hex.{digit, byte_hex, digit_value, byte_before, pairs_in, HexLaw}

-- a list by its first element and the rest, as a slice pattern has them
pub front_one : (xs : List ℕ) → 1 ≤ length xs → xs ≡ get_or xs 0 0 ∷ take (length xs - 1) (drop 1 xs)
front_one [] h = absurd (omega arith)
front_one (a ∷ xs) h = ap (λ l. a ∷ l) (sym (take_all _ xs (omega arith)))

-- what was read before what is left to read
abbrev pub prepend : List ℕ → Option (List ℕ) → Option (List ℕ)
prepend xs None = None
prepend xs (Some ys) = Some (xs ++ ys)

prepend_byte : (xs : List ℕ) (a b : ℕ) (r : Option (List ℕ)) → prepend xs (byte_before (Some a) (Some b) r) ≡ prepend (xs ++ (16 * a + b) ∷ []) r
prepend_byte xs a b None = refl
prepend_byte xs a b (Some ys) = ap (λ l. Some l) (sym (append_assoc xs ((16 * a + b) ∷ []) ys))

-- one byte more
pub more_read : (xs rest : List ℕ) (a b : ℕ) (r : Option (List ℕ)) → 2 ≤ length rest → Some a ≡ digit_value (get_or rest 0 0) → Some b ≡ digit_value (get_or rest 1 0)
    → prepend xs (pairs_in rest) ≡ r → prepend (xs ++ (16 * a + b) ∷ []) (pairs_in (take (length rest - 2) (drop 2 rest))) ≡ r
more_read xs [] a b r h ea eb e = absurd (omega arith)
more_read xs (c ∷ []) a b r h ea eb e = absurd (omega arith)
more_read xs (c ∷ d ∷ rest) a b r h ea eb e =
    ap (λ l. prepend (xs ++ (16 * a + b) ∷ []) (pairs_in l)) (take_all _ rest (omega arith))
    ∙ sym (prepend_byte xs a b (pairs_in rest)) ∙ (λ i. prepend xs (byte_before (ea i) (eb i) (pairs_in rest))) ∙ e

-- what is written in ASCII of each byte is a text
each_ascii : (f : ℕ → List ℕ) → ((b : ℕ) → b < 256 → IsAscii (f b)) → (bs : List ℕ) → ((k : ℕ) → get_or bs k 0 < 256) → IsAscii (flat_map f bs)
each_ascii f h [] k = IsAscii-nil
each_ascii f h (b ∷ bs) k = IsAscii-append (f b) (flat_map f bs) (h b (k 0)) (each_ascii f h bs (λ i. k (suc i)))

pub chunk_text : (f : ℕ → List ℕ) → ((b : ℕ) → b < 256 → IsAscii (f b)) → (text bs : List ℕ) (n i : ℕ) → take n text ≡ flat_map f (take i bs) → length bs ≤ i
    → ((k : ℕ) → get_or bs k 0 < 256) → IsUtf8 (take n text)
chunk_text f h text bs n i e all k = subst IsUtf8 (sym (e ∙ ap (flat_map f) (take_all i bs all))) (IsUtf8-from_ascii (flat_map f bs) (each_ascii f h bs k))

digit_ascii : (n : ℕ) → n < 16 → digit n < 128
digit_ascii n h = grind (arith, nat_tests)

pub hex_ascii : (b : ℕ) → b < 256 → IsAscii (byte_hex b)
hex_ascii b h = IsAscii-cons (digit (b / 16)) (digit (b % 16) ∷ []) (digit_ascii (b / 16) (omega arith)) (IsAscii-cons (digit (b % 16)) [] (digit_ascii (b % 16) (omega arith)) IsAscii-nil)

-- what is written of the first bytes and one more
pub each_more : (f : ℕ → List ℕ) (bs : List ℕ) (i : ℕ) → i < length bs → flat_map f (take i bs) ++ f (get_or bs i 0) ≡ flat_map f (take (i + 1) bs)
each_more f bs i h = flat_map_more f [] (take i bs) (get_or bs i 0) ∙ ap (flat_map f) (sym (take_more bs i 0 h))

-- the text of one chunk more
pub chunk_more : (f : ℕ → List ℕ) (done chunk rest more all : List ℕ) → rest ≡ chunk ++ more → done ++ flat_map f rest ≡ all
    → (done ++ flat_map f chunk) ++ flat_map f more ≡ all
chunk_more f done chunk rest more all e h =
    append_assoc done (flat_map f chunk) (flat_map f more) ∙ ap (λ l. done ++ l) (sym (flat_map-append f chunk more) ∙ ap (flat_map f) (sym e)) ∙ h

-- a digit's number
pub digit_back : (n : ℕ) → n < 16 → digit_value (digit n) ≡ Some n
digit_back n h = grind (arith, nat_tests)

pairs_back : (bs : List ℕ) → AllByRecursion (λ b. b < 256) bs → pairs_in (flat_map byte_hex bs) ≡ Some bs
pairs_back [] a = refl
pairs_back (b ∷ bs) a =
    let high = digit_back (b / 16) (omega arith) in
    let low = digit_back (b % 16) (omega arith) in
    let whole : 16 * (b / 16) + b % 16 ≡ b = omega arith in
    (λ i. byte_before (high i) (low i) (pairs_back bs a.1 i)) ∙ ap (λ x. Some (x ∷ bs)) whole

pub hex_law : HexLaw
hex_law [] a = refl
hex_law (b ∷ bs) a = pairs_back (b ∷ bs) a
