-- Where the latest change of a key stands.
use Rattle.std.proofs.Common.{◌≡◌, ℕ, ◌+◌, ◌<◌, ◌≤◌, Bool, true, false, cond, ◌&&◌, ◌||◌, eqb, List, [], ◌∷◌, ◌++◌, length, get_or, set, Some, None, Option, sym, refl, ap, ◌∙◌, subst, inl, inr, arith}
use Rattle.std.proofs.lemmas.List.{get_or_append_left, get_or_push, get_or-set_same, get_or-set_other, length_push}
use Rattle.std.proofs.lemmas.Bool.{true≢false, false≢true, both_ways, cases_Bool, cond-true, cond-false, ltb-true, eqb-false}
use Rattle.store.specs.declared.kind.Kind.{Kind}
use Rattle.store.specs.declared.kind.Kind.TheVariants.{Session, Message}
use Rattle.store.specs.Kind.{same_kind}
use Rattle.store.specs.Making.{made_limit}
use Rattle.store.specs.Key.{slot}
use Rattle.journal.specs.Changes.{Change, of_key, puts, replay, mentioned, Inside}
use Rattle.journal.specs.Entry.{no_change, slot_of}
use Rattle.journal.specs.Index.{noted, latest_from, latest, Knows}
use Rattle.journal.proofs.Folds.{by_push, at_key, replay_push, no_row}

-- changes that do not speak of a key tell nothing new of it
pub latest_unmentioned : (p : ℕ) (cs : List Change) (k : Kind) (n : ℕ) (o : Option ℕ) → mentioned cs k n ≡ false → latest_from p cs k n o ≡ o
latest_unmentioned p [] k n o e = refl
latest_unmentioned p (c ∷ cs) k n o e =
    (elim (of_key c k n) as (λ t. (t || mentioned cs k n) ≡ false → latest_from (p + 1) cs k n (cond t (cond (puts c) (Some p) None) o) ≡ o)
    [ true ↦ λ f. absurd (true≢false f) | false ↦ λ f. latest_unmentioned (p + 1) cs k n o f ])
    e

-- where changes speak of a key, it does not matter what was known before
pub latest-mentioned : (p : ℕ) (cs : List Change) (k : Kind) (n : ℕ) (o q : Option ℕ) → mentioned cs k n ≡ true → latest_from p cs k n o ≡ latest_from p cs k n q
latest-mentioned p [] k n o q e = absurd (false≢true e)
latest-mentioned p (c ∷ cs) k n o q e =
    (elim (of_key c k n) as (λ t. (t || mentioned cs k n) ≡ true → latest_from (p + 1) cs k n (cond t (cond (puts c) (Some p) None) o) ≡ latest_from (p + 1) cs k n (cond t (cond (puts c) (Some p) None) q))
    [ true ↦ λ f. refl | false ↦ λ f. latest-mentioned (p + 1) cs k n o q f ])
    e

or_first : (t u : Bool) → (t || u) ≡ true → u ≡ false → t ≡ true
or_first true u e f = refl
or_first false u e f = absurd (both_ways u f e)

-- what is found stands at or after the first place looked at, or was known before
abbrev From : ℕ → Option ℕ → Type 0
From p None = Unit {0}
From p (Some q) = p ≤ q

from_later : (p : ℕ) (o : Option ℕ) → From (p + 1) o → From p o
from_later p None h = tt
from_later p (Some q) h = omega arith

from_put : (p : ℕ) (t : Bool) → From p (cond t (Some p) None)
from_put p true = omega arith
from_put p false = tt

found_from : (p : ℕ) (cs : List Change) (k : Kind) (n : ℕ) (o : Option ℕ) → mentioned cs k n ≡ true → From p (latest_from p cs k n o)
found_from p [] k n o e = absurd (false≢true e)
found_from p (c ∷ cs) k n o e =
    elim (cases_Bool (mentioned cs k n)) [
      | inl m ↦ from_later p _ (found_from (p + 1) cs k n (noted p c k n o) m)
      | inr m ↦
          let t : of_key c k n ≡ true = or_first (of_key c k n) (mentioned cs k n) e m in
          subst (From p)
          (sym (latest_unmentioned (p + 1) cs k n (noted p c k n o) m ∙ cond-true (of_key c k n) (cond (puts c) (Some p) None) o t))
          (from_put p (puts c))
    ]

-- no later change of a key stands at an earlier place
pub found_later : (p : ℕ) (cs : List Change) (k : Kind) (n : ℕ) (o : Option ℕ) (q : ℕ) → mentioned cs k n ≡ true → latest_from p cs k n o ≡ Some q → p ≤ q
found_later p cs k n o q m e = subst (From p) e (found_from p cs k n o m)

pub latest_push : (p : ℕ) (cs : List Change) (c : Change) (k : Kind) (n : ℕ) (o : Option ℕ) → latest_from p (cs ++ c ∷ []) k n o ≡ noted (p + length cs) c k n (latest_from p cs k n o)
latest_push p [] c k n o = ap (λ i. noted i c k n o) (omega arith)
latest_push p (x ∷ cs) c k n o =
    latest_push (p + 1) cs c k n (noted p x k n o) ∙ ap (λ i. noted i c k n (latest_from (p + 1) cs k n (noted p x k n o))) (omega arith)

-- what an index entry tells of its key's row
abbrev pub Tells : List Change → Option ℕ → List ℕ → Type 0
Tells cs None row = row ≡ []
Tells cs (Some p) row = (p < length cs) × ((get_or cs p no_change).row ≡ row) × (0 < length row)

tells_push : (cs : List Change) (c : Change) (o : Option ℕ) (row : List ℕ) (t : Bool) → Tells cs o row → Tells (cs ++ c ∷ []) (cond t (cond (puts c) (Some (length cs)) None) o) (cond t c.row row)
tells_push cs c o row true h =
    elim (cases_Bool (puts c)) [
      | inl p ↦ rw p (omega (arith, length_push cs c), ap (λ (x : Change). x.row) (get_or_push cs c no_change (length cs) refl), ltb-true 0 (length c.row) p)
      | inr p ↦ rw p (no_row c p)
    ]
tells_push cs c None row false h = h
tells_push cs c (Some p) row false h =
    (omega (arith, h.0, length_push cs c), ap (λ (x : Change). x.row) (get_or_append_left cs (c ∷ []) no_change p h.0) ∙ h.1, h.2)

pub tells : (cs : List Change) (k : Kind) (n : ℕ) → Tells cs (latest cs k n) (replay cs k n)
tells cs k n =
    by_push (λ xs. Tells xs (latest xs k n) (replay xs k n)) refl
    (λ xs c h.
    let e : latest (xs ++ c ∷ []) k n ≡ noted (length xs) c k n (latest xs k n) = latest_push 0 xs c k n None ∙ ap (λ i. noted i c k n (latest xs k n)) (omega arith) in
    subst (λ o. Tells (xs ++ c ∷ []) o (replay (xs ++ c ∷ []) k n)) (sym e)
    (subst (λ f. Tells (xs ++ c ∷ []) (noted (length xs) c k n (latest xs k n)) (f k n)) (sym (replay_push xs c))
    (tells_push xs c (latest xs k n) (replay xs k n) (of_key c k n) h)))
    cs

-- two keys within the limits have one slot only if they are one key
pub slot_apart : (c : Change) (k : Kind) (n : ℕ) → Inside c → n < made_limit k → of_key c k n ≡ false → slot k n ≡ slot_of c → ⊥
slot_apart c k n i l e s = apart k n c.kind c.number l i e s
  where
    apart : (j : Kind) (m : ℕ) (k : Kind) (n : ℕ) → m < made_limit j → n < made_limit k → (same_kind j k && eqb m n) ≡ false → slot j m ≡ slot k n → ⊥
    apart Session m Session n l h e s = eqb-false m n e s
    apart Session m Message n l h e s = omega arith
    apart Message m Session n l h e s = omega arith
    apart Message m Message n l h e s = eqb-false m n e (omega arith)

pub slot_same : (c : Change) (k : Kind) (n : ℕ) → of_key c k n ≡ true → slot k n ≡ slot_of c
slot_same c k n e = at_key (λ j m. slot j m ≡ slot_of c) c k n e refl

pub slot_bound : (c : Change) → Inside c → slot_of c < 1152
slot_bound c h = bound c.kind c.number h
  where
    bound : (k : Kind) (n : ℕ) → n < made_limit k → slot k n < 1152
    bound Session n h = omega arith
    bound Message n h = omega arith

-- the index is told of one change more
pub knows_push : (index : List (Option ℕ)) (cs : List Change) (c : Change) (p : ℕ) → length index ≡ 1152 → Inside c → p ≡ length cs → Knows index cs → Knows (set index (slot_of c) (cond (puts c) (Some p) None)) (cs ++ c ∷ [])
knows_push index cs c p l i q h k n m =
    let o : Option ℕ = cond (puts c) (Some p) None in
    let e : noted p c k n (latest cs k n) ≡ latest (cs ++ c ∷ []) k n = ap (λ x. noted x c k n (latest cs k n)) (omega arith) ∙ sym (latest_push 0 cs c k n None) in
    elim (cases_Bool (of_key c k n)) [
      | inl t ↦
          ap (λ s. get_or (set index (slot_of c) o) s None) (slot_same c k n t) ∙ get_or-set_same index (slot_of c) o None (omega (arith, slot_bound c i)) ∙ sym (cond-true (of_key c k n) o (latest cs k n) t) ∙ e
      | inr t ↦
          get_or-set_other index (slot_of c) (slot k n) o None (slot_apart c k n i m t) ∙ h k n m ∙ sym (cond-false (of_key c k n) o (latest cs k n) t) ∙ e
    ]
