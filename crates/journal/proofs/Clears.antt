-- What clearing dead changes keeps.
use Rattle.std.proofs.Common.{◌≡◌, ℕ, ◌+◌, Bool, true, false, cond, not, ◌&&◌, ◌||◌, List, [], ◌∷◌, ◌++◌, length, sym, refl, ap, ◌∙◌, inl, inr, arith}
use Rattle.std.proofs.lemmas.Bool.{cases_Bool, and_parts, not-true, or_parts, or_right}
use Rattle.store.specs.declared.kind.Kind.{Kind}
use Rattle.journal.specs.Changes.{Change, of_key, puts, replay, mentioned, live, weight}
use Rattle.journal.proofs.Folds.{row_after, replay_at, row_unmentioned, row_mentioned, mentioned_push, no_row, same_mentioned, key_sym, key_apart, weight-puts}

-- a change that later ones leave alive
abbrev pub lives : Change → List Change → Bool
lives c cs = puts c && not (mentioned cs c.kind c.number)

-- clearing brings in no key
pub live_unmentioned : (cs : List Change) (k : Kind) (n : ℕ) → mentioned cs k n ≡ false → mentioned (live cs) k n ≡ false
live_unmentioned [] k n e = refl
live_unmentioned (c ∷ cs) k n e =
    let parts = or_parts (of_key c k n) (mentioned cs k n) e in
    let rest = live_unmentioned cs k n parts.1 in
    elim (lives c cs) as (λ t. mentioned (cond t (c ∷ live cs) (live cs)) k n ≡ false)
    [ true ↦ simp (parts.0, rest) | false ↦ rest ]

-- the key of a live change is not spoken of later
pub live_last : (c : Change) (cs : List Change) → lives c cs ≡ true → (puts c ≡ true) × (mentioned cs c.kind c.number ≡ false)
live_last c cs e =
    let p = and_parts (puts c) (not (mentioned cs c.kind c.number)) e in
    (p.0, not-true (mentioned cs c.kind c.number) p.1)

-- clearing twice is clearing once
pub live_again : (cs : List Change) → live (live cs) ≡ live cs
live_again [] = refl
live_again (c ∷ cs) =
    (elim (lives c cs) as (λ t. lives c cs ≡ t → live (cond t (c ∷ live cs) (live cs)) ≡ cond t (c ∷ live cs) (live cs)) [
      | true ↦ λ e.
          let p = live_last c cs e in
          let q = live_unmentioned cs c.kind c.number p.1 in
          simp (p.0, q) (ap (λ xs. c ∷ xs) (live_again cs))
      | false ↦ λ e. live_again cs
    ])
    refl

pub dead_mentioned : (c : Change) (cs : List Change) → mentioned cs c.kind c.number ≡ true → lives c cs ≡ false
dead_mentioned c cs e = rw e (elim (puts c) as (λ t. (t && false) ≡ false) [ true ↦ refl | false ↦ refl ])

pub lives_puts : (c : Change) (cs : List Change) → mentioned cs c.kind c.number ≡ false → lives c cs ≡ puts c
lives_puts c cs e = rw e (elim (puts c) as (λ t. (t && true) ≡ t) [ true ↦ refl | false ↦ refl ])

-- clearing keeps the row at each key, by what the first change does there
row_live_other : (c : Change) (cs : List Change) (k : Kind) (n : ℕ) → row_after (live cs) k n [] ≡ row_after cs k n [] → of_key c k n ≡ false → row_after (live (c ∷ cs)) k n [] ≡ row_after (c ∷ cs) k n []
row_live_other c cs k n ih e =
    rw e
    (elim (lives c cs) as (λ t. row_after (cond t (c ∷ live cs) (live cs)) k n [] ≡ row_after cs k n [])
    [ true ↦ ap (λ t. row_after (live cs) k n (cond t c.row [])) e ∙ ih | false ↦ ih ])

row_live_later : (c : Change) (cs : List Change) (k : Kind) (n : ℕ) → row_after (live cs) k n [] ≡ row_after cs k n [] → of_key c k n ≡ true → mentioned cs k n ≡ true → row_after (live (c ∷ cs)) k n [] ≡ row_after (c ∷ cs) k n []
row_live_later c cs k n ih e m =
    let d = dead_mentioned c cs (sym (same_mentioned cs c k n e) ∙ m) in
    rw (d, e) (ih ∙ row_mentioned cs k n [] c.row m)

row_live_last : (c : Change) (cs : List Change) (k : Kind) (n : ℕ) → of_key c k n ≡ true → mentioned cs k n ≡ false → row_after (live (c ∷ cs)) k n [] ≡ row_after (c ∷ cs) k n []
row_live_last c cs k n e m =
    let d = lives_puts c cs (sym (same_mentioned cs c k n e) ∙ m) in
    let q = live_unmentioned cs k n m in
    rw (d, e)
    (elim (cases_Bool (puts c)) [
      | inl p ↦ rw p (ap (λ t. row_after (live cs) k n (cond t c.row [])) e ∙ row_unmentioned (live cs) k n c.row q ∙ sym (row_unmentioned cs k n c.row m))
      | inr p ↦ rw p (row_unmentioned (live cs) k n [] q ∙ sym (no_row c p) ∙ sym (row_unmentioned cs k n c.row m))
    ])

row_live : (cs : List Change) (k : Kind) (n : ℕ) → row_after (live cs) k n [] ≡ row_after cs k n []
row_live [] k n = refl
row_live (c ∷ cs) k n =
    let ih = row_live cs k n in
    elim (cases_Bool (of_key c k n)) [
      | inl e ↦ elim (cases_Bool (mentioned cs k n)) [ inl m ↦ row_live_later c cs k n ih e m | inr m ↦ row_live_last c cs k n e m ]
      | inr e ↦ row_live_other c cs k n ih e
    ]

-- clearing keeps the rows
pub replay-live : (cs : List Change) → replay (live cs) ≡ replay cs
replay-live cs = λ i k n. (replay_at (live cs) k n ∙ row_live cs k n ∙ sym (replay_at cs k n)) i

or-none : (t : Bool) → (t || false) ≡ t
or-none true = refl
or-none false = refl

length-kept : (t : Bool) (c : Change) (cs : List Change) → length (cond t (c ∷ cs) cs) ≡ cond t 1 0 + length cs
length-kept true c cs = omega arith
length-kept false c cs = omega arith

-- one change more: a live one more if it puts a row, and one less if a row stood at its key
abbrev Counts : List Change → Change → Type 0
Counts cs c =
    length (live (cs ++ c ∷ [])) + weight (row_after cs c.kind c.number []) ≡ length (live cs) + weight c.row

-- the same by what the first change does to the key of the last
count_other : (x c : Change) (xs : List Change) → Counts xs c → of_key x c.kind c.number ≡ false → Counts (x ∷ xs) c
count_other x c xs ih e =
    let m : mentioned (xs ++ c ∷ []) x.kind x.number ≡ mentioned xs x.kind x.number = mentioned_push xs c x.kind x.number ∙ rw (key_apart x c e) (or-none (mentioned xs x.kind x.number)) in
    rw (m, e)
    (omega (arith, length-kept (lives x xs) x (live (xs ++ c ∷ [])), length-kept (lives x xs) x (live xs), ih))

superseded : (x c : Change) (xs : List Change) → of_key x c.kind c.number ≡ true → lives x (xs ++ c ∷ []) ≡ false
superseded x c xs e =
    dead_mentioned x (xs ++ c ∷ []) (mentioned_push xs c x.kind x.number ∙ or_right (mentioned xs x.kind x.number) _ (key_sym x c e))

count_later : (x c : Change) (xs : List Change) → Counts xs c → of_key x c.kind c.number ≡ true → mentioned xs c.kind c.number ≡ true → Counts (x ∷ xs) c
count_later x c xs ih e m =
    let d = dead_mentioned x xs (sym (same_mentioned xs x c.kind c.number e) ∙ m) in
    rw (superseded x c xs e, d, e, row_mentioned xs c.kind c.number x.row [] m) ih

count_last : (x c : Change) (xs : List Change) → Counts xs c → of_key x c.kind c.number ≡ true → mentioned xs c.kind c.number ≡ false → Counts (x ∷ xs) c
count_last x c xs ih e m =
    let d = lives_puts x xs (sym (same_mentioned xs x c.kind c.number e) ∙ m) in
    let j : length (live (xs ++ c ∷ [])) + weight [] ≡ length (live xs) + weight c.row = rw (row_unmentioned xs c.kind c.number [] m) at ih in
    rw (superseded x c xs e, d, e, row_unmentioned xs c.kind c.number x.row m)
    (omega (arith, length-kept (puts x) x (live xs), weight-puts x, j))

count_row : (cs : List Change) (c : Change) → Counts cs c
count_row [] c = rw (lives_puts c [] refl) (omega (arith, length-kept (puts c) c [], weight-puts c))
count_row (x ∷ xs) c =
    let ih = count_row xs c in
    elim (cases_Bool (of_key x c.kind c.number)) [
      | inl e ↦ elim (cases_Bool (mentioned xs c.kind c.number)) [ inl m ↦ count_later x c xs ih e m | inr m ↦ count_last x c xs ih e m ]
      | inr e ↦ count_other x c xs ih e
    ]

pub count_live : (cs : List Change) (c : Change) → length (live (cs ++ c ∷ [])) + weight (replay cs c.kind c.number) ≡ length (live cs) + weight c.row
count_live cs c = rw (replay_at cs c.kind c.number) (count_row cs c)
