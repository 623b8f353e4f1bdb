-- What one change more does to the rows and counts of a journal.
use Rattle.std.proofs.Common.{◌≡◌, ℕ, ◌+◌, ◌-◌, ◌<◌, Bool, true, false, cond, eqb, ltb, List, [], ◌∷◌, ◌++◌, length, Ok, refl, ap, ◌∙◌, arith}
use Rattle.std.proofs.lemmas.Bool.{ne_eqb, cond-false, cond_both}
use Rattle.std.proofs.lemmas.Bool.Decides.{nat_tests}
use Rattle.store.specs.declared.budget.Budget.{Budget}
use Rattle.store.specs.Budget.{take_answer, taken}
use Rattle.store.specs.declared.kind.Kind.{Kind}
use Rattle.store.specs.declared.key.Key.{Key}
use Rattle.journal.specs.Changes.{Change, changed, replay, live, appended, weight}
use Rattle.journal.proofs.Folds.{replay_push}
use Rattle.journal.proofs.Clears.{replay-live, live_again, count_live}

-- the rows after one change more, whether dead changes were cleared or not
pub replay-appended : (places : ℕ) (cs : List Change) (c : Change) → replay (appended places cs c) ≡ changed (replay cs) c
replay-appended places cs c =
    cond_both (ltb (length cs) places) cs (live cs) (λ zs. replay (zs ++ c ∷ []) ≡ changed (replay cs) c)
    (λ t. replay_push cs c)
    (λ t. replay_push (live cs) c ∙ ap (λ rows. changed rows c) (replay-live cs))

-- the live changes after one change more
pub count_appended : (places : ℕ) (cs : List Change) (c : Change) → length (live (appended places cs c)) + weight (replay cs c.kind c.number) ≡ length (live cs) + weight c.row
count_appended places cs c =
    cond_both (ltb (length cs) places) cs (live cs) (λ zs. length (live (zs ++ c ∷ [])) + weight (replay cs c.kind c.number) ≡ length (live cs) + weight c.row)
    (λ t. count_live cs c)
    (λ t. omega (arith, count_live (live cs) c, ap (λ rows. weight (rows c.kind c.number)) (replay-live cs), ap length (live_again cs)))

-- what is said of a key's kind and number is said of those that it was made of
pub of_key : {X : Type 0} (f : Kind → ℕ → X) (key : Key) (k : Kind) (n : ℕ) → (key.kind ≡ k) × (key.number ≡ n) → f key.kind key.number ≡ f k n
of_key f key k n e = λ i. f (e.0 i) (e.1 i)

-- the free rows that a put leaves
pub take_left : (old new : Budget) (t : Bool) (x : Unit {0}) → Ok x ≡ take_answer old t → new ≡ taken old t → new.free + cond t 1 0 ≡ old.free
take_left old new true x e b = let f : new.free ≡ old.free - 1 = ap (λ b. b.free) b in grind (arith, nat_tests)
take_left old new false x e b = let f : new.free ≡ old.free = ap (λ b. b.free) b in omega arith

whole : (row : List ℕ) → weight row + cond (eqb (length row) 0) 1 0 ≡ 1
whole row = elim (eqb (length row) 0) as (λ t. cond t 0 1 + cond t 1 0 ≡ 1) [ true ↦ refl | false ↦ refl ]

-- a put keeps the number of rows, standing and free
pub count_put : (places : ℕ) (cs : List Change) (c : Change) (t : Bool) (free left : ℕ) → t ≡ eqb (length (replay cs c.kind c.number)) 0 → 0 < length c.row → left + cond t 1 0 ≡ free → left + length (live (appended places cs c)) ≡ free + length (live cs)
count_put places cs c t free left a p e =
    let w : weight c.row ≡ 1 = cond-false _ _ _ (ne_eqb (length c.row) 0 (λ z. omega arith)) in
    let s : ◌≡◌ {A = ℕ} (cond t 1 0) (cond (eqb (length (replay cs c.kind c.number)) 0) 1 0) = ap (λ x. cond x 1 0) a in
    omega (arith, count_appended places cs c, whole (replay cs c.kind c.number))

-- so does a drop of a row that stands
pub count_drop : (places : ℕ) (cs : List Change) (c : Change) (free : ℕ) → eqb (length (replay cs c.kind c.number)) 0 ≡ false → c.row ≡ [] → (free + 1) + length (live (appended places cs c)) ≡ free + length (live cs)
count_drop places cs c free a p =
    let w : weight c.row ≡ 0 = ap weight p in
    let s : weight (replay cs c.kind c.number) ≡ 1 = cond-false _ _ _ a in
    omega (arith, count_appended places cs c)
