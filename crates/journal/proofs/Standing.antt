-- How many rows stand, and that as many changes are live.
use Rattle.std.proofs.Common.{◌≡◌, ℕ, zero, suc, ◌+◌, ◌<◌, cond, eqb, List, [], ◌∷◌, ◌++◌, length, sym, refl, ap, inl, inr, arith}
use Rattle.std.specs.List.{AllByRecursion}
use Rattle.std.proofs.lemmas.Bool.{cases_eq, cond-true, cond-false, ne_eqb, eq-eqb}
use Rattle.store.specs.declared.kind.Kind.{Kind}
use Rattle.store.specs.declared.kind.Kind.TheVariants.{Session, Message}
use Rattle.store.specs.Disk.{with_row}
use Rattle.store.specs.Making.{made_limit}
use Rattle.journal.specs.Changes.{Change, changed, replay, live, weight, standing_below, standing, Inside, ClearingKeeps}
use Rattle.journal.proofs.Folds.{by_push, replay_push}
use Rattle.journal.proofs.Clears.{replay-live, live_again, count_live}

none_below : (n : ℕ) → standing_below n (λ m. []) ≡ 0
unfolding standing_below
none_below zero = refl
none_below (suc n) = omega (arith, none_below n)

same_below : (n : ℕ) (f g : ℕ → List ℕ) → ((m : ℕ) → m < n → g m ≡ f m) → standing_below n g ≡ standing_below n f
unfolding standing_below
same_below zero f g h = refl
same_below (suc n) f g h =
    omega (arith, same_below n f g (λ m l. h m (omega arith)), ap weight (h n (omega arith)))

-- one row is replaced
below_changed : (n : ℕ) (f g : ℕ → List ℕ) (i : ℕ) → i < n → ((m : ℕ) → (m ≡ i → ⊥) → g m ≡ f m) → standing_below n g + weight (f i) ≡ standing_below n f + weight (g i)
unfolding standing_below
below_changed zero f g i l h = absurd (omega arith)
below_changed (suc n) f g i l h =
    elim (cases_eq i n) [
      | inl e ↦
          let s = same_below n f g (λ m b. h m (λ q. omega arith)) in
          let p : weight (f i) ≡ weight (f n) = ap (λ x. weight (f x)) e in
          let q : weight (g i) ≡ weight (g n) = ap (λ x. weight (g x)) e in
          omega arith
      | inr d ↦ omega (arith, below_changed n f g i (omega arith) h, ap weight (h n (λ q. d (sym q))))
    ]

row_same : (rows : ℕ → List ℕ) (n : ℕ) (row : List ℕ) → cond (eqb n n) row (rows n) ≡ row
row_same rows n row = cond-true _ _ _ (eq-eqb n n refl)

standing_row : (rows : Kind → ℕ → List ℕ) (k : Kind) (n : ℕ) (row : List ℕ) → n < made_limit k → standing (with_row rows k n row) + weight (rows k n) ≡ standing rows + weight row
standing_row rows Session n row l =
    let b = below_changed 128 (rows Session) (with_row rows Session n row Session) n l (λ m d. cond-false _ _ _ (ne_eqb m n d)) in
    let w : weight (with_row rows Session n row Session n) ≡ weight row = ap weight (row_same (rows Session) n row) in
    omega arith
standing_row rows Message n row l =
    let b = below_changed 1024 (rows Message) (with_row rows Message n row Message) n l (λ m d. cond-false _ _ _ (ne_eqb m n d)) in
    let w : weight (with_row rows Message n row Message n) ≡ weight row = ap weight (row_same (rows Message) n row) in
    omega arith

all-front : (P : Change → Type 0) (cs : List Change) (c : Change) → AllByRecursion P (cs ++ c ∷ []) → AllByRecursion P cs × P c
all-front P [] c h = (tt, h.0)
all-front P (x ∷ cs) c h = let t = all-front P cs c h.1 in ((h.0, t.0), t.1)

-- as many changes are live as rows stand
pub live-standing : (cs : List Change) → AllByRecursion Inside cs → length (live cs) ≡ standing (replay cs)
live-standing =
    by_push (λ cs. AllByRecursion Inside cs → length (live cs) ≡ standing (replay cs))
    (λ _. let a = none_below 128 in let b = none_below 1024 in omega arith)
    (λ cs c ih h.
    let t = all-front Inside cs c h in
    let n = count_live cs c in
    let s = standing_row (replay cs) c.kind c.number c.row t.1 in
    let p : standing (replay (cs ++ c ∷ [])) ≡ standing (changed (replay cs) c) = ap standing (replay_push cs c) in
    omega (arith, ih t.0))

pub clearing : (cs : List Change) → ClearingKeeps cs
clearing cs = record { rows = λ k n. ap (λ f. f k n) (replay-live cs); again = live_again cs; count = live-standing cs }
