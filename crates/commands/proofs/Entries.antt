-- Filters, one after the other.
use Rattle.std.proofs.Common.{◌≡◌, ℕ, zero, suc, ◌+◌, ◌<◌, ◌≤◌, Bool, true, false, cond, List, [], ◌∷◌, ◌++◌, length, take, Some, None, Ok, Err, Result, sym, ap, ◌∙◌, append_assoc, add-one, arith}
use Rattle.std.proofs.lemmas.List.{append-nil}
use Rattle.packets.specs.declared.packet.Filters.{Filters}
use Rattle.packets.specs.declared.packet.ReadError.{ReadError}
use Rattle.packets.specs.Filters.{Entry, Found, filter_in, heading, first_filters, entries_of, nth}
use Rattle.commands.specs.Dissect.{entry_text, entries_text}

-- an index at which there is none is not below the length
pub nth-none : (i : ℕ) (es : List Entry) → None ≡ nth i es → length es ≤ i
nth-none i [] e = omega arith
nth-none zero (x ∷ es) e = let z : ◌≡◌ {A = ℕ} 0 1 = cc in absurd (omega arith)
nth-none (suc i) (x ∷ es) e = let h = nth-none i es e in omega arith

pub nth_some : (i : ℕ) (es : List Entry) (x : Entry) → Some x ≡ nth i es → i < length es
nth_some i [] x e = let z : ◌≡◌ {A = ℕ} 0 1 = cc in absurd (omega arith)
nth_some zero (y ∷ es) x e = omega arith
nth_some (suc i) (y ∷ es) x e = let h = nth_some i es x e in omega arith

go : (i : ℕ) (es : List Entry) (x : Entry) → Some x ≡ nth i es → entries_text (take (suc i) es) ≡ entries_text (take i es) ++ entry_text x
go i [] x e = let z : ◌≡◌ {A = ℕ} 0 1 = cc in absurd (omega arith)
go zero (y ∷ es) x e = let h : y ≡ x = cc in append-nil (entry_text y) ∙ ap entry_text h
go (suc i) (y ∷ es) x e = ap (λ l. entry_text y ++ l) (go i es x e) ∙ sym (append_assoc (entry_text y) (entries_text (take i es)) (entry_text x))

-- one filter more
pub entries_more : (i : ℕ) (es : List Entry) (x : Entry) → Some x ≡ nth i es → entries_text (take (i + 1) es) ≡ entries_text (take i es) ++ entry_text x
entries_more i es x e = ap (λ k. entries_text (take k es)) (add-one i) ∙ go i es x e

-- there are no more filters than the count says
few_head : (graded : Bool) (n : ℕ) (r : Result Found ReadError) → ((bs : List ℕ) (at : ℕ) → length (first_filters graded n bs at) ≤ n) → length (heading (first_filters graded n) r) ≤ suc n
few_head graded n (Ok x) h = let k = h x.rest x.next in omega arith
few_head graded n (Err e) h = omega arith

few_by : (graded : Bool) (n : ℕ) (bs : List ℕ) (at : ℕ) → length (first_filters graded n bs at) ≤ n
few_by graded zero bs at = omega arith
few_by graded (suc n) bs at = few_head graded n (filter_in graded bs at) (few_by graded n)

few_cond : (v : Bool) (es : List Entry) (n : ℕ) → length es ≤ n → length (cond v es []) ≤ n
few_cond true es n h = h
few_cond false es n h = omega arith

pub few : (f : Filters) → length (entries_of f) ≤ f.count
few f = few_cond _ _ f.count (few_by f.with_qos f.count f.part.now f.place)
