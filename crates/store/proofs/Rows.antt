-- Lemmas for code over any store.
use Rattle.std.proofs.Common.{◌≡◌, ℕ, ◌<◌, ◌≤◌, true, ◌⊎◌, List, length, is_ok, Ok, Err, Decides, Result, refl, ap, inl, inr, arith}
use Rattle.std.proofs.lemmas.Bool.{cases_lt, cases_eq, lt-ltb, le-leb}
use Rattle.std.proofs.lemmas.Bool.Decides.{nat_tests}
use Rattle.store.specs.declared.kind.Kind.{Kind}
use Rattle.store.specs.declared.kind.Kind.TheVariants.{Session, Message}
use Rattle.store.specs.declared.kind.Refusal.{Refusal}
use Rattle.store.specs.Kind.{same_kind}
use Rattle.store.specs.Disk.{Disk, load_answer, put_answer, drop_answer}
use Rattle.store.specs.Row.{row_answer, write_answer}
use Rattle.store.specs.Change.{PutPossible, DropPossible}

-- two disks are equal where their parts are
pub same_disk : (d e : Disk) → ((k : Kind) (n : ℕ) → d.rows k n ≡ e.rows k n) → ((k : Kind) → d.limit k ≡ e.limit k) → d.free ≡ e.free → d.writes ≡ e.writes → d ≡ e
same_disk d e r l f w = λ i. record { rows = λ k n. r k n i; limit = λ k. l k i; free = f i; writes = w i }

-- kinds of one number are one kind
pub same_kind_lem : (j k : Kind) → same_kind j k ≡ true → j ≡ k
same_kind_lem Session Session e = refl
same_kind_lem Session Message e = cc
same_kind_lem Message Session e = cc
same_kind_lem Message Message e = refl

pub same_kind_refl : (k : Kind) → same_kind k k ≡ true
same_kind_refl Session = refl
same_kind_refl Message = refl

-- a put is done exactly when it is possible
put_room : (d : Disk) (k : Kind) (n : ℕ) (row : List ℕ) → is_ok (put_answer d k n row) ≡ true → (0 < length (d.rows k n)) ⊎ (0 < d.free)
put_room d k n row e = elim (cases_lt 0 (length (d.rows k n))) [ inl h ↦ inl h | inr h ↦ inr (grind (arith, nat_tests)) ]

put_since : (d : Disk) (k : Kind) (n : ℕ) (row : List ℕ) (p : PutPossible d k n row) → is_ok (put_answer d k n row) ≡ true
put_since d k n row p =
    let a = p.key in
    let b = p.filled in
    let c = p.short in
    let w = p.write in
    elim p.room [ inl h ↦ grind (arith, nat_tests) | inr h ↦ grind (arith, nat_tests) ]

pub put-done : (d : Disk) (k : Kind) (n : ℕ) (row : List ℕ) → Decides (is_ok (put_answer d k n row)) (PutPossible d k n row)
put-done d k n row = (
  λ e. record {
    key = grind (arith, nat_tests);
    filled = grind (arith, nat_tests);
    short = grind (arith, nat_tests);
    write = grind (arith, nat_tests);
    room = put_room d k n row e;
  },
  put_since d k n row,
)

-- a drop is done exactly when it is possible
drop_write : (d : Disk) (k : Kind) (n : ℕ) → is_ok (drop_answer d k n) ≡ true → (length (d.rows k n) ≡ 0) ⊎ (0 < d.writes)
drop_write d k n e =
    elim (cases_eq (length (d.rows k n)) 0) [ inl h ↦ inl h | inr h ↦ inr (grind (arith, nat_tests)) ]

drop_since : (d : Disk) (k : Kind) (n : ℕ) (p : DropPossible d k n) → is_ok (drop_answer d k n) ≡ true
drop_since d k n p =
    let a = p.key in elim p.write [ inl h ↦ grind (arith, nat_tests) | inr h ↦ grind (arith, nat_tests) ]

pub drop-done : (d : Disk) (k : Kind) (n : ℕ) → Decides (is_ok (drop_answer d k n)) (DropPossible d k n)
drop-done d k n = (λ e. record { key = grind (arith, nat_tests); write = drop_write d k n e }, drop_since d k n)

-- what a load of a good key into a long enough buffer answers
pub load_ok : (d : Disk) (k : Kind) (n : ℕ) (buffer : List ℕ) (len : ℕ) → n < d.limit k → 560 ≤ length buffer → len ≡ length (d.rows k n) → Ok len ≡ load_answer d k n buffer
load_ok d k n buffer len h l e = simp (lt-ltb n (d.limit k) h, le-leb 560 (length buffer) l) (ap Ok e)

-- what a possible put or drop answers
ok_is : (r : Result (Unit {0}) Refusal) → is_ok r ≡ true → Ok tt ≡ r
ok_is (Ok x) e = refl
ok_is (Err x) e = cc

pub put_ok : (d : Disk) (k : Kind) (n : ℕ) (row : List ℕ) → PutPossible d k n row → Ok tt ≡ put_answer d k n row
put_ok d k n row p = ok_is (put_answer d k n row) ((put-done d k n row).1 p)

pub drop_ok : (d : Disk) (k : Kind) (n : ℕ) → DropPossible d k n → Ok tt ≡ drop_answer d k n
drop_ok d k n p = ok_is (drop_answer d k n) ((drop-done d k n).1 p)

-- a row that is put fits into its memory
pub row_fits : (row : List ℕ) (x : Unit {0}) → Ok x ≡ row_answer row → write_answer row ≡ Ok tt
row_fits row x e = grind (arith, nat_tests)

pub row_filled : (row : List ℕ) (x : Unit {0}) → Ok x ≡ row_answer row → 0 < length row
row_filled row x e = grind (arith, nat_tests)
