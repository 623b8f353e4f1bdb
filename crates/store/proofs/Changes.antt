-- Changes made one after another.
use Rattle.std.proofs.Common.{◌≡◌, ℕ, ◌≤◌, Bool, true, false, cond, List, [], ◌∷◌, ◌++◌, length, drop, is_ok, vec_items, Decides, fold, sym, refl, ap, ◌∙◌, subst}
use Rattle.std.proofs.lemmas.List.{append-nil, drop_all}
use Rattle.store.specs.declared.change.Change.{Change}
use Rattle.store.specs.declared.change.Change.TheVariants.{Put, Remove}
use Rattle.store.specs.Disk.{Disk}
use Rattle.store.specs.Change.{Outcome, Possible, changed, after, outcome, outcomes, DoneWhenPossible, done_of}
use Rattle.store.proofs.Rows.{put-done, drop-done}

-- the disk that a list of changes leaves
abbrev pub final : Disk → List Change → Disk
final d [] = d
final d (c ∷ cs) = final (after (outcome d c) d c) cs

pub outcome-done : (d : Disk) (c : Change) → Decides (is_ok (outcome d c)) (Possible d c)
outcome-done d (Put k n row) = put-done d k n (vec_items row)
outcome-done d (Remove k n) = drop-done d k n

all_done : (d : Disk) (cs : List Change) → DoneWhenPossible d cs (outcomes d cs)
all_done d [] = tt
all_done d (c ∷ cs) = (outcome-done d c, all_done (after (outcome d c) d c) cs)

-- a change that is done is folded in, another is left out
one_more : (t : Bool) (d : Disk) (c : Change) (cs : List Change) → fold changed (cond t (changed d c) d) cs ≡ fold changed d (cond t (c ∷ cs) cs)
one_more true d c cs = refl
one_more false d c cs = refl

-- what the done ones make is what is left
final_folded : (d : Disk) (cs : List Change) → final d cs ≡ fold changed d (done_of cs (outcomes d cs))
final_folded d [] = refl
final_folded d (c ∷ cs) =
    final_folded (after (outcome d c) d c) cs ∙ one_more (is_ok (outcome d c)) d c (done_of cs (outcomes (after (outcome d c) d c) cs))

-- nothing is left to do past the end
pub outcomes-all : (d e : Disk) (cs : List Change) (i : ℕ) → length cs ≤ i → (os : List Outcome) → os ++ outcomes e (drop i cs) ≡ outcomes d cs → os ≡ outcomes d cs
outcomes-all d e cs i h os p = sym (ap (λ x. os ++ outcomes e x) (drop_all i cs h) ∙ append-nil os) ∙ p

pub done_all : (d : Disk) (cs : List Change) (os : List Outcome) → os ≡ outcomes d cs → DoneWhenPossible d cs os
done_all d cs os p = let P : List Outcome → Type 0 = λ rs. DoneWhenPossible d cs rs in subst P (sym p) (all_done d cs)

pub final-all : (d e : Disk) (cs : List Change) (i : ℕ) → length cs ≤ i → (os : List Outcome) → os ≡ outcomes d cs → final e (drop i cs) ≡ final d cs → e ≡ fold changed d (done_of cs os)
final-all d e cs i h os p q =
    sym (ap (final e) (drop_all i cs h)) ∙ q ∙ final_folded d cs ∙ ap (λ rs. fold changed d (done_of cs rs)) (sym p)
