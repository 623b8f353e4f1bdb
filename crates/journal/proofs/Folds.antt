-- What a list of changes says of one key: the row that it leaves there, and whether it speaks of the key at all.
use Rattle.std.proofs.Common.{◌≡◌, ℕ, true, false, cond, ◌&&◌, ◌||◌, eqb, List, [], ◌∷◌, ◌++◌, length, fold, sym, refl, subst, inl, inr, arith}
use Rattle.std.proofs.lemmas.List.{append-nil, append_assoc, nil_from_length}
use Rattle.std.proofs.lemmas.List.Sums.{fold_push}
use Rattle.std.proofs.lemmas.Bool.{true≢false, false≢true, both_ways, cases_Bool, eqb-true, eq-eqb, and_parts, ltb-false}
use Rattle.std.proofs.lemmas.Bool.Decides.{nat_tests}
use Rattle.store.specs.declared.kind.Kind.{Kind}
use Rattle.store.proofs.Rows.{same_kind_lem, same_kind_refl}
use Rattle.store.specs.Kind.{same_kind}
use Rattle.journal.specs.Changes.{Change, of_key, puts, changed, replay, mentioned, weight}

-- induction on lists that grow at their end
pub by_push : {X : Type 0} (P : List X → Type 0) → P [] → ((xs : List X) (x : X) → P xs → P (xs ++ x ∷ [])) → (xs : List X) → P xs
by_push {X} P none more xs = go [] xs none
  where
    go : (done rest : List X) → P done → P (done ++ rest)
    go done [] h = subst P (sym (append-nil done)) h
    go done (x ∷ rest) h = subst P (append_assoc done (x ∷ []) rest) (go (done ++ x ∷ []) rest (more done x h))

-- a change is of its own key
pub own_key : (c : Change) → of_key c c.kind c.number ≡ true
own_key c = simp (same_kind_refl c.kind, eq-eqb c.number c.number refl)

-- what holds at a change's key holds at each key that the change is of
pub at_key : (P : Kind → ℕ → Type 0) (c : Change) (k : Kind) (n : ℕ) → of_key c k n ≡ true → P c.kind c.number → P k n
at_key P c k n e h =
    let both = and_parts (same_kind k c.kind) (eqb n c.number) e in
    subst (λ m. P k m) (sym (eqb-true n c.number both.1))
    (subst (λ j. P j c.number) (sym (same_kind_lem k c.kind both.0)) h)

-- the row that changes leave at a key where r stood
abbrev pub row_after : List Change → Kind → ℕ → List ℕ → List ℕ
row_after [] k n r = r
row_after (c ∷ cs) k n r = row_after cs k n (cond (of_key c k n) c.row r)

pub folded_at : (rows : Kind → ℕ → List ℕ) (cs : List Change) (k : Kind) (n : ℕ) → fold changed rows cs k n ≡ row_after cs k n (rows k n)
folded_at rows [] k n = refl
folded_at rows (c ∷ cs) k n = folded_at (changed rows c) cs k n

pub replay_at : (cs : List Change) (k : Kind) (n : ℕ) → replay cs k n ≡ row_after cs k n []
replay_at cs k n = folded_at (λ j m. []) cs k n

pub replay_push : (cs : List Change) (c : Change) → replay (cs ++ c ∷ []) ≡ changed (replay cs) c
replay_push cs c = fold_push changed (λ j m. []) cs c

-- changes that do not speak of a key leave its row
pub row_unmentioned : (cs : List Change) (k : Kind) (n : ℕ) (r : List ℕ) → mentioned cs k n ≡ false → row_after cs k n r ≡ r
row_unmentioned [] k n r e = refl
row_unmentioned (c ∷ cs) k n r e =
    (elim (of_key c k n) as (λ t. (t || mentioned cs k n) ≡ false → row_after cs k n (cond t c.row r) ≡ r)
    [ true ↦ λ f. absurd (true≢false f) | false ↦ λ f. row_unmentioned cs k n r f ])
    e

-- where changes speak of a key, it does not matter what stood there
pub row_mentioned : (cs : List Change) (k : Kind) (n : ℕ) (r s : List ℕ) → mentioned cs k n ≡ true → row_after cs k n r ≡ row_after cs k n s
row_mentioned [] k n r s e = absurd (false≢true e)
row_mentioned (c ∷ cs) k n r s e =
    (elim (of_key c k n) as (λ t. (t || mentioned cs k n) ≡ true → row_after cs k n (cond t c.row r) ≡ row_after cs k n (cond t c.row s))
    [ true ↦ λ f. refl | false ↦ λ f. row_mentioned cs k n r s f ])
    e

pub mentioned_push : (cs : List Change) (c : Change) (k : Kind) (n : ℕ) → mentioned (cs ++ c ∷ []) k n ≡ (mentioned cs k n || of_key c k n)
mentioned_push [] c k n = elim (of_key c k n) as (λ t. (t || false) ≡ t) [ true ↦ refl | false ↦ refl ]
mentioned_push (x ∷ cs) c k n =
    elim (of_key x k n) as (λ t. (t || mentioned (cs ++ c ∷ []) k n) ≡ ((t || mentioned cs k n) || of_key c k n))
    [ true ↦ refl | false ↦ mentioned_push cs c k n ]

-- a change that does not put a row drops it
pub no_row : (c : Change) → puts c ≡ false → c.row ≡ []
no_row c e = nil_from_length c.row (omega (arith, ltb-false 0 (length c.row) e))

-- what is said of a change's key is said of each key that the change is of
pub same_mentioned : (cs : List Change) (c : Change) (k : Kind) (n : ℕ) → of_key c k n ≡ true → mentioned cs k n ≡ mentioned cs c.kind c.number
same_mentioned cs c k n e = at_key (λ j m. mentioned cs j m ≡ mentioned cs c.kind c.number) c k n e refl

-- two changes of one key, either way round
pub key_sym : (a b : Change) → of_key a b.kind b.number ≡ true → of_key b a.kind a.number ≡ true
key_sym a b e =
    at_key (λ j m. (same_kind a.kind j && eqb a.number m) ≡ true) a b.kind b.number e (own_key a)

pub key_apart : (a b : Change) → of_key a b.kind b.number ≡ false → of_key b a.kind a.number ≡ false
key_apart a b e =
    elim (cases_Bool (of_key b a.kind a.number))
    [ inl p ↦ absurd (both_ways (of_key a b.kind b.number) e (key_sym b a p)) | inr q ↦ q ]

pub weight-puts : (c : Change) → weight c.row ≡ cond (puts c) 1 0
weight-puts c = grind (arith, nat_tests)
