-- Writing over a list, and after what was written.
use Rattle.std.proofs.Common.{◌≡◌, ℕ, ◌+◌, ◌-◌, ◌<◌, ◌≤◌, true, false, cond, leb, Err, Result, List, ◌++◌, length, get_or, take, drop, Ok, sym, refl, ap, ◌∙◌, append_assoc, arith, length-append, Bor}
use borrow.Rule.Slice.PartMut.{put_mid}
use Rattle.std.proofs.lemmas.List.{drop-drop, take_at, drop_at, at_drop_more}
use Rattle.std.proofs.lemmas.Bool.{leb-true}
use Rattle.rows.specs.Write.{pieced}
use Rattle.rows.specs.declared.write.Unwritten.{Unwritten}
use Rattle.rows.specs.declared.write.Unwritten.TheVariants.{Short}

-- the bytes xs written over d from a place on
abbrev over : List ℕ → ℕ → List ℕ → List ℕ
over d at xs = take at d ++ (xs ++ drop (at + length xs) d)

-- what the store of a part leaves
pub over_part : (d : List ℕ) (at : ℕ) (xs ys : List ℕ) → ys ≡ xs → put_mid at (at + length xs - at) d ys ≡ over d at xs
over_part d at xs ys e =
    let k : at + length xs - at ≡ length xs = omega arith in
    rw (e, k) (ap (λ l. take at d ++ (xs ++ l)) (drop-drop (length xs) at d))

-- one more piece after what stands at the start
pub start_more : (d xs ys : List ℕ) → length xs ≤ length d → over (xs ++ drop (length xs) d) (length xs) ys ≡ (xs ++ ys) ++ drop (length (xs ++ ys)) d
start_more d xs ys h =
    let n = length xs in
    let t : take n (xs ++ drop n d) ≡ xs = take_at xs (drop n d) n refl in
    let r : drop n (xs ++ drop n d) ≡ drop n d = drop_at xs (drop n d) n refl in
    let u = sym (drop-drop (length ys) n (xs ++ drop n d)) ∙ ap (λ l. drop (length ys) l) r ∙ drop-drop (length ys) n d ∙ ap (λ i. drop i d) (sym (length-append xs ys)) in
    (λ i. t i ++ (ys ++ u i)) ∙ sym (append_assoc xs ys (drop (length (xs ++ ys)) d))

-- the next piece and those after it
next : (ps : List (Bor (List ℕ))) (i : ℕ) (d : Bor (List ℕ)) → i < length ps → pieced (drop i ps) ≡ (get_or ps i d).now ++ pieced (drop (i + 1) ps)
next ps i d h = at_drop_more pieced ps i d h

-- the pieces from i on fit what is left exactly when all fit the room
abbrev pub Left : List (Bor (List ℕ)) → ℕ → ℕ → ℕ → Type 0
Left ps i left room = leb (length (pieced (drop i ps))) left ≡ leb (length (pieced ps)) room

-- where the room was not refused, it is large enough
pub fits_room : (n room : ℕ) → Ok tt ≡ cond {A = Result (Unit {0}) Unwritten} (leb n room) (Ok tt) (Err Short) → n ≤ room
fits_room n room e = elim (leb n room) as (λ v. leb n room ≡ v → Ok tt ≡ cond {A = Result (Unit {0}) Unwritten} v (Ok tt) (Err Short) → n ≤ room) [
  | true ↦ λ f g. leb-true n room f
  | false ↦ λ f g. let z : ◌≡◌ {A = ℕ} 0 1 = cc in absurd (omega arith)
] refl e

-- the pieces before i stand at the start, the rest is as it was
pub record Sofar (ps : List (Bor (List ℕ))) (i : ℕ) (d e : List ℕ) (at : ℕ) : Type 0 where
  pub done : List ℕ
  pub whole : done ++ pieced (drop i ps) ≡ pieced ps
  pub end : at ≡ length done
  pub stands : e ≡ done ++ drop (length done) d

sofar_length : (ps : List (Bor (List ℕ))) (i : ℕ) (d e : List ℕ) (at : ℕ) → (s : Sofar ps i d e at) → length s.done + length (pieced (drop i ps)) ≡ length (pieced ps)
sofar_length ps i d e at s = sym (length-append s.done (pieced (drop i ps))) ∙ ap length s.whole

pub sofar_more : (ps : List (Bor (List ℕ))) (i : ℕ) (d e : List ℕ) (at : ℕ) (z : Bor (List ℕ)) {e' : List ℕ} {at' : ℕ} → i < length ps → length (pieced ps) ≤ length d → Sofar ps i d e at → e' ≡ over e at (get_or ps i z).now → at' ≡ at + length (get_or ps i z).now → Sofar ps (i + 1) d e' at'
sofar_more ps i d e at z h room s f g =
    let piece = (get_or ps i z).now in
    let a = sofar_length ps i d e at s in
    let k : length s.done ≤ length d = omega arith in
    record {
      done = s.done ++ piece;
      whole = append_assoc s.done piece (pieced (drop (i + 1) ps)) ∙ ap (λ l. s.done ++ l) (sym (next ps i z h)) ∙ s.whole;
      end = g ∙ ap (λ n. n + length piece) s.end ∙ sym (length-append s.done piece);
      stands = f ∙ (λ j. over (s.stands j) (s.end j) piece) ∙ start_more d s.done piece k;
    }
