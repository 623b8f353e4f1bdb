-- A clearing, change by change.
use Rattle.std.proofs.Common.{◌≡◌, ℕ, ◌+◌, ◌<◌, Bool, true, false, cond, not, eqb, List, [], ◌∷◌, ◌++◌, length, get_or, take, drop, set, Some, None, Option, sym, refl, ap, ◌∙◌, inl, inr, arith}
use Rattle.std.proofs.lemmas.List.{append_assoc, drop_more, drop-drop, length-set, length-take, get_or-set_same, get_or-set_other}
use Rattle.std.proofs.lemmas.Bool.{true≢false, false≢true, both_ways, cases_Bool, cond-true, cond-false, or_parts, or_cases, or_left, eq-eqb, eqb-true}
use Rattle.std.specs.Option.{option_eq}
use Rattle.store.specs.declared.kind.Kind.{Kind}
use Rattle.store.specs.Key.{slot}
use Rattle.journal.specs.Changes.{Change, of_key, puts, mentioned, live, Inside}
use Rattle.journal.specs.Entry.{no_change, slot_of, MovedDown}
use Rattle.journal.specs.Index.{noted, latest_from, latest, Clearing}
use Rattle.journal.proofs.Folds.{own_key, mentioned_push, same_mentioned}
use Rattle.journal.proofs.Clears.{lives, live_last, lives_puts}
use Rattle.journal.proofs.Latest.{latest_unmentioned, latest-mentioned, latest_push, found_later, slot_apart, slot_same, slot_bound}

none_some : (p : ℕ) → ◌≡◌ {A = Option ℕ} None (Some p) → ⊥
none_some p e = let z : ◌≡◌ {A = ℕ} 0 1 = cc in omega arith

put_some : (t : Bool) (p : ℕ) → cond t (Some p) None ≡ Some p → t ≡ true
put_some true p e = refl
put_some false p e = absurd (none_some p e)

-- what the test of what was found says
pub found_here : (o : Option ℕ) (p : ℕ) → false ≡ not (option_eq eqb o (Some p)) → o ≡ Some p
found_here None p e = absurd (false≢true e)
found_here (Some q) p e = elim (cases_Bool (eqb q p)) [ inl t ↦ ap Some (eqb-true q p t) | inr f ↦ absurd (false≢true (e ∙ ap not f)) ]

pub found_elsewhere : (o : Option ℕ) (p : ℕ) → true ≡ not (option_eq eqb o (Some p)) → o ≡ Some p → ⊥
found_elsewhere o p e s =
    true≢false (e ∙ ap (λ x. not (option_eq eqb x (Some p))) s ∙ ap not (eq-eqb p p refl))

-- the index has the place of a change at its key exactly where the change is live
live_here : (x : Change) (rest : List Change) (i : ℕ) (o : Option ℕ) → latest_from i (x ∷ rest) x.kind x.number o ≡ Some i → lives x rest ≡ true
live_here x rest i o e =
    let k = x.kind in
    let n = x.number in
    elim (cases_Bool (mentioned rest k n)) [
      | inl m ↦ absurd (omega (arith, found_later (i + 1) rest k n (noted i x k n o) i m e))
      | inr m ↦
          let f : cond (puts x) (Some i) None ≡ Some i = sym (latest_unmentioned (i + 1) rest k n (noted i x k n o) m ∙ cond-true (of_key x k n) (cond (puts x) (Some i) None) o (own_key x)) ∙ e in
          lives_puts x rest m ∙ put_some (puts x) i f
    ]

dead_here : (x : Change) (rest : List Change) (i : ℕ) (o : Option ℕ) → (latest_from i (x ∷ rest) x.kind x.number o ≡ Some i → ⊥) → lives x rest ≡ false
dead_here x rest i o d =
    let k = x.kind in
    let n = x.number in
    elim (cases_Bool (lives x rest)) [
      | inl e ↦
          let p = live_last x rest e in
          absurd (d (latest_unmentioned (i + 1) rest k n (noted i x k n o) p.1 ∙ cond-true (of_key x k n) (cond (puts x) (Some i) None) o (own_key x) ∙ cond-true (puts x) (Some i) None p.0))
      | inr e ↦ e
    ]

-- a dead change tells the index nothing
dead_tells : (x : Change) (rest : List Change) (i : ℕ) (o : Option ℕ) (k : Kind) (n : ℕ) → lives x rest ≡ false → (of_key x k n ≡ true → o ≡ None) → latest_from i (x ∷ rest) k n o ≡ latest_from (i + 1) rest k n o
dead_tells x rest i o k n d f =
    elim (cases_Bool (of_key x k n)) [
      | inl t ↦
          elim (cases_Bool (mentioned rest k n)) [
            | inl m ↦ latest-mentioned (i + 1) rest k n (noted i x k n o) o m
            | inr m ↦
                let p : puts x ≡ false = sym (lives_puts x rest (sym (same_mentioned rest x k n t) ∙ m)) ∙ d in
                ap (latest_from (i + 1) rest k n) (cond-true (of_key x k n) (cond (puts x) (Some i) None) o t ∙ cond-false (puts x) (Some i) None p ∙ sym (f t))
          ]
      | inr t ↦ ap (latest_from (i + 1) rest k n) (cond-false (of_key x k n) (cond (puts x) (Some i) None) o t)
    ]

-- what is to come begins with the change at place i
split : (xs ys : List Change) (i : ℕ) → drop i ys ≡ drop i xs → length ys ≡ length xs → i < length xs → (drop i xs ≡ get_or ys i no_change ∷ drop (i + 1) xs) × (drop (i + 1) ys ≡ drop (i + 1) xs)
split xs ys i r e l =
    let more : drop (i + 1) ys ≡ drop (i + 1) xs = sym (drop-drop 1 i ys) ∙ ap (drop 1) r ∙ drop-drop 1 i xs in
    (sym r ∙ drop_more ys i no_change (omega arith) ∙ ap (λ zs. get_or ys i no_change ∷ zs) more, more)

-- no change at the front has the key of one to come
unknown : (front rest : List Change) (x : Change) (k : Kind) (n : ℕ) → (mentioned front k n ≡ true → mentioned (x ∷ rest) k n ≡ false) → of_key x k n ≡ true → latest front k n ≡ None
unknown front rest x k n h t =
    elim (cases_Bool (mentioned front k n)) [
      | inl m ↦ absurd (both_ways (mentioned (x ∷ rest) k n) (h m) (or_left (of_key x k n) (mentioned rest k n) t))
      | inr m ↦ latest_unmentioned 0 front k n None m
    ]

module _ (xs ys : List Change) (index : List (Option ℕ)) (k i : ℕ) (c : Clearing xs ys index k i) (l : i < length xs) where
  pub next_is : drop i xs ≡ get_or ys i no_change ∷ drop (i + 1) xs
  next_is = (split xs ys i c.rest c.long l).0

  -- what the index has of the next change's key
  pub knows_next : Inside (get_or ys i no_change) → get_or index (slot_of (get_or ys i no_change)) None ≡ latest_from i (get_or ys i no_change ∷ drop (i + 1) xs) (get_or ys i no_change).kind (get_or ys i no_change).number (latest (take k ys) (get_or ys i no_change).kind (get_or ys i no_change).number)
  knows_next h =
      let x = get_or ys i no_change in
      c.knows x.kind x.number h ∙ ap (λ zs. latest_from i zs x.kind x.number (latest (take k ys) x.kind x.number)) next_is

  apart_next : (j : Kind) (m : ℕ) → mentioned (take k ys) j m ≡ true → mentioned (get_or ys i no_change ∷ drop (i + 1) xs) j m ≡ false
  apart_next j m e = sym (ap (λ zs. mentioned zs j m) next_is) ∙ c.apart j m e

  -- a dead change is passed over
  pub clearing_pass : lives (get_or ys i no_change) (drop (i + 1) xs) ≡ false → Clearing xs ys index k (i + 1)
  clearing_pass d =
      let x = get_or ys i no_change in
      let more = drop (i + 1) xs in
      record {
        front = c.front ∙ ap (λ zs. take k ys ++ live zs) next_is ∙ ap (λ zs. take k ys ++ zs) (cond-false (lives x more) (x ∷ live more) (live more) d);
        rest = (split xs ys i c.rest c.long l).1;
        behind = omega (arith, c.behind);
        within = omega arith;
        long = c.long;
        apart = λ j m e. (or_parts (of_key x j m) (mentioned more j m) (apart_next j m e)).1;
        keys = c.keys;
        knows = λ j m h.
            c.knows j m h ∙ ap (λ zs. latest_from i zs j m (latest (take k ys) j m)) next_is ∙ dead_tells x more i (latest (take k ys) j m) j m d (unknown (take k ys) more x j m (apart_next j m));
      }

  length_front : length (take k ys) ≡ k
  length_front = length-take k ys ∙ omega (arith, c.behind, c.long)

  -- a live change is moved to the end of the front, and the index is told
  pub clearing_keep : (zs : List Change) → Inside (get_or ys i no_change) → lives (get_or ys i no_change) (drop (i + 1) xs) ≡ true → MovedDown ys zs k i → Clearing xs zs (set index (slot_of (get_or ys i no_change)) (Some k)) (k + 1) (i + 1)
  clearing_keep zs h a v =
      let x = get_or ys i no_change in
      let more = drop (i + 1) xs in
      let last = live_last x more a in
      let told : (j : Kind) (m : ℕ) → latest (take (k + 1) zs) j m ≡ noted k x j m (latest (take k ys) j m) = λ j m. ap (λ ws. latest ws j m) v.front ∙ latest_push 0 (take k ys) x j m None ∙ ap (λ p. noted p x j m (latest (take k ys) j m)) (omega (arith, length_front)) in
      record {
        front =
            c.front ∙ ap (λ ws. take k ys ++ live ws) next_is ∙ ap (λ ws. take k ys ++ ws) (cond-true (lives x more) (x ∷ live more) (live more) a) ∙ sym (append_assoc (take k ys) (x ∷ []) (live more)) ∙ ap (λ ws. ws ++ live more) (sym v.front);
        rest = v.rest ∙ (split xs ys i c.rest c.long l).1;
        behind = omega (arith, c.behind);
        within = omega arith;
        long = v.long ∙ c.long;
        apart = λ j m e.
            elim (or_cases (mentioned (take k ys) j m) (of_key x j m) (sym (ap (λ ws. mentioned ws j m) v.front ∙ mentioned_push (take k ys) x j m) ∙ e)) [
              | inl p ↦ (or_parts (of_key x j m) (mentioned more j m) (apart_next j m p)).1
              | inr p ↦ same_mentioned more x j m p ∙ last.1
            ];
        keys = length-set index (slot_of x) (Some k) ∙ c.keys;
        knows = λ j m b.
            let o = latest (take k ys) j m in
            elim (cases_Bool (of_key x j m)) [
              | inl t ↦
                  ap (λ s. get_or (set index (slot_of x) (Some k)) s None) (slot_same x j m t) ∙ get_or-set_same index (slot_of x) (Some k) None (omega (arith, slot_bound x h, c.keys)) ∙ sym (ap (latest_from (i + 1) more j m) (told j m) ∙ latest_unmentioned (i + 1) more j m (noted k x j m o) (same_mentioned more x j m t ∙ last.1) ∙ cond-true (of_key x j m) (cond (puts x) (Some k) None) o t ∙ cond-true (puts x) (Some k) None last.0)
              | inr t ↦
                  get_or-set_other index (slot_of x) (slot j m) (Some k) None (slot_apart x j m h b t) ∙ c.knows j m b ∙ ap (λ ws. latest_from i ws j m o) next_is ∙ ap (latest_from (i + 1) more j m) (cond-false (of_key x j m) (cond (puts x) (Some i) None) o t ∙ sym (told j m ∙ cond-false (of_key x j m) (cond (puts x) (Some k) None) o t))
            ];
      }

  -- one turn of a clearing, where the index does not have the next change's place
  pub turn_pass : Inside (get_or ys i no_change) → (get_or index (slot_of (get_or ys i no_change)) None ≡ Some i → ⊥) → Clearing xs ys index k (i + 1)
  turn_pass h e = clearing_pass (dead_here (get_or ys i no_change) (drop (i + 1) xs) i _ (λ q. e (knows_next h ∙ q)))

  -- the same where it has
  pub turn_keep : (zs : List Change) → Inside (get_or ys i no_change) → get_or index (slot_of (get_or ys i no_change)) None ≡ Some i → MovedDown ys zs k i → Clearing xs zs (set index (slot_of (get_or ys i no_change)) (Some k)) (k + 1) (i + 1)
  turn_keep zs h e v =
      clearing_keep zs h (live_here (get_or ys i no_change) (drop (i + 1) xs) i _ (sym (knows_next h) ∙ e)) v
