-- The proof that a journal shows a sound disk; the store's contract cites it, and a reader may skip it.
use Rattle.std.specs.Prelude.{◌≡◌, ℕ, ◌<◌, ◌≤◌, true, false, cond, ◌&&◌, List, [], ◌∷◌, map, length, vec_items, fold, ◌==◌, refl}
use Rattle.std.proofs.Common.{arith}
use Rattle.std.specs.List.{AllByRecursion}
use Rattle.std.proofs.ByRecursion.{All-take}
use Rattle.std.proofs.lemmas.Bool.{ne_eqb}
use Rattle.store.proofs.Memory.{held_short}
use Rattle.store.specs.declared.kind.Kind.{Kind}
use Rattle.store.specs.declared.kind.Kind.TheVariants.{Session, Message}
use Rattle.store.specs.Kind.{same_kind}
use Rattle.store.specs.Disk.{Sound}
use Rattle.journal.specs.declared.entry.Entry.{Entry}
use Rattle.journal.specs.declared.Journal.{Journal}
use Rattle.store.specs.Making.{made_limit}
use Rattle.journal.specs.Changes.{Change, changed, Inside}
use Rattle.journal.specs.Entry.{change}
use Rattle.journal.specs.Disk.{changes, journal_disk}

abbrev Short : Change → Type 0
Short c = length c.row ≤ 560

each_entry : (P : Change → Type 0) → ((e : Entry) → P (change e)) → (es : List Entry) → AllByRecursion P (map change es)
each_entry P h [] = tt
each_entry P h (e ∷ es) = (h e, each_entry P h es)

each_change : (P : Change → Type 0) → ((e : Entry) → P (change e)) → (j : Journal) → AllByRecursion P (changes j)
each_change P h j =
    All-take P j.log.taken (map change (vec_items j.log.places.entries)) (each_entry P h (vec_items j.log.places.entries))

short_rows : (cs : List Change) (rows : Kind → ℕ → List ℕ) → AllByRecursion Short cs → ((k : Kind) (n : ℕ) → length (rows k n) ≤ 560) → (k : Kind) (n : ℕ) → length (fold changed rows cs k n) ≤ 560
short_rows [] rows h l = l
short_rows (c ∷ cs) rows h l =
    short_rows cs (changed rows c) h.1
    (λ k n. elim (same_kind k c.kind && n == c.number) as (λ t. length (cond t c.row (rows k n)) ≤ 560) [ true ↦ h.0 | false ↦ l k n ])

apart : (k : Kind) (n : ℕ) (j : Kind) (m : ℕ) → m < made_limit j → made_limit k ≤ n → (same_kind k j && n == m) ≡ false
apart Session n Session m h l = ne_eqb n m (λ e. omega arith)
apart Session n Message m h l = refl
apart Message n Session m h l = refl
apart Message n Message m h l = ne_eqb n m (λ e. omega arith)

rows_inside : (cs : List Change) (rows : Kind → ℕ → List ℕ) → AllByRecursion Inside cs → ((k : Kind) (n : ℕ) → made_limit k ≤ n → rows k n ≡ []) → (k : Kind) (n : ℕ) → made_limit k ≤ n → fold changed rows cs k n ≡ []
rows_inside [] rows h e = e
rows_inside (c ∷ cs) rows h e =
    rows_inside cs (changed rows c) h.1 (λ k n l. rw (apart k n c.kind c.number h.0 l) (e k n l))

pub all_inside : (j : Journal) → AllByRecursion Inside (changes j)
all_inside = each_change Inside (λ e. e.key.inside)

pub journal_sound : (j : Journal) → Sound (journal_disk j)
journal_sound j = record {
  short = short_rows (changes j) (λ k n. []) (each_change Short (λ e. held_short e.row) j) (λ k n. omega arith);
  inside = rows_inside (changes j) (λ k n. []) (all_inside j) (λ k n l. refl);
}
