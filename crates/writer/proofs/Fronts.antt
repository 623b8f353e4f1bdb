-- Pieces written one after another, from the start of a buffer on.
use Rattle.std.proofs.Common.{◌≡◌, ℕ, ◌+◌, ◌-◌, ◌<◌, ◌≤◌, List, [], ◌∷◌, ◌++◌, length, get_or, set, take, drop, sym, refl, ap, ◌∙◌, append_assoc, take_all, arith, length-append, length-drop, Bor}
use borrow.Rule.Slice.PartMut.{put_mid}
use Rattle.std.proofs.lemmas.List.{drop-drop, take_at, drop_at, append-nil, take_more}
use Rattle.std.proofs.lemmas.Grind.{flat_map-append}
use Rattle.std.proofs.lemmas.List.Folds.{length-flat_map-take}
use Rattle.writer.specs.Out.{front, joined}

-- the first byte put at the start
pub begun : (d : List ℕ) (x : ℕ) → 0 < length d → set d 0 x ≡ front d (x ∷ [])
unfolding front
begun [] x h = absurd (omega arith)
begun (y ∷ d) x h = refl

-- what a copy behind xs leaves
pub next : (d xs ys zs : List ℕ) {at end : ℕ} → at ≡ length xs → end ≡ at + length ys → zs ≡ ys → put_mid at (end - at) (front d xs) zs ≡ front d (xs ++ ys)
unfolding front
next d xs ys zs {at} {end} a e z =
    let k : end - at ≡ length ys = omega arith in
    let t = take_at xs (drop (length xs) d) at (sym a) in
    let r = drop_at xs (drop (length xs) d) at (sym a) in
    let u = drop-drop (length ys) (length xs) d ∙ ap (λ n. drop n d) (sym (length-append xs ys)) in
    (λ i. t i ++ (z i ++ drop (k i) (r i))) ∙ ap (λ l. xs ++ (ys ++ l)) u ∙ sym (append_assoc xs ys (drop (length (xs ++ ys)) d))

-- one piece more
pub piece_more : (ps : List (Bor (List ℕ))) (i : ℕ) (z : Bor (List ℕ)) → i < length ps → joined (take (i + 1) ps) ≡ joined (take i ps) ++ (get_or ps i z).now
piece_more ps i z h = ap joined (take_more ps i z h) ∙ flat_map-append (λ p. p.now) (take i ps) (get_or ps i z ∷ []) ∙ ap (λ l. joined (take i ps) ++ l) (append-nil (get_or ps i z).now)

-- a piece more stands behind the head and the pieces before it
pub record Put (h : List ℕ) (ps : List (Bor (List ℕ))) (i : ℕ) (d e : List ℕ) (end : ℕ) : Type 0 where
  pub place : end ≡ length (h ++ joined (take i ps))
  pub buffer : e ≡ front d (h ++ joined (take i ps))

-- the next piece has room where all have
pub put_room : (h : List ℕ) (ps : List (Bor (List ℕ))) (i : ℕ) (z : Bor (List ℕ)) (d e : List ℕ) (end : ℕ) → length h + length (joined ps) ≤ length d → i < length ps → Put h ps i d e end
    → (end + length (get_or ps i z).now ≤ length d) × (length e ≡ length d)
unfolding front
put_room h ps i z d e end room less p =
    let done = h ++ joined (take i ps) in
    let one = length-flat_map-take (λ p. p.now) ps i z less in
    let sum = length-append h (joined (take i ps)) in
    let fits : end + length (get_or ps i z).now ≤ length d = omega (arith, p.place) in
    let rest = length-append done (drop (length done) d) in
    (fits, ap length p.buffer ∙ rest ∙ (let l = length-drop (length done) d in omega (arith, p.place)))

pub put_none : (x : ℕ) (ys zs : List ℕ) (ps : List (Bor (List ℕ))) (d : List ℕ) → 0 < length d → zs ≡ ys → Put (x ∷ ys) ps 0 d (put_mid 1 (1 + length ys - 1) (set d 0 x) zs) (1 + length ys)
put_none x ys zs ps d some same =
    record {
      place = rw (append-nil ys) (omega arith);
      buffer = ap (λ l. put_mid 1 (1 + length ys - 1) l zs) (begun d x some) ∙ next d (x ∷ []) ys zs refl refl same ∙ ap (λ l. front d (x ∷ l)) (sym (append-nil ys));
    }

pub put_more : (h : List ℕ) (ps : List (Bor (List ℕ))) (i : ℕ) (z : Bor (List ℕ)) (d e zs : List ℕ) (end : ℕ) → i < length ps → zs ≡ (get_or ps i z).now → Put h ps i d e end
    → Put h ps (i + 1) d (put_mid end (end + length (get_or ps i z).now - end) e zs) (end + length (get_or ps i z).now)
put_more h ps i z d e zs end less same p =
    let piece = (get_or ps i z).now in
    let done = h ++ joined (take i ps) in
    let all : done ++ piece ≡ h ++ joined (take (i + 1) ps) = append_assoc h (joined (take i ps)) piece ∙ ap (λ l. h ++ l) (sym (piece_more ps i z less)) in
    record {
      place = ap (λ k. k + length piece) p.place ∙ sym (length-append done piece) ∙ ap length all;
      buffer = ap (λ l. put_mid end (end + length piece - end) l zs) p.buffer ∙ next d done piece zs p.place refl same ∙ ap (λ l. front d l) all;
    }
