-- Reading, step by step: what a step found, and what the steps behind it came to.
use Rattle.std.proofs.Common.{◌≡◌, ◌⊎◌, inl, inr, ℕ, ◌+◌, Bool, List, [], ◌∷◌, length, Some, Ok, Err, Option, Result, refl, ap, ◌∙◌, arith}
use Rattle.frame.specs.declared.field.Field.TheVariants.{End}
use Rattle.frame.specs.Number.{number_in}
use Rattle.topics.specs.declared.qos.Qos.{Qos}
use Rattle.topics.specs.declared.qos.Qos.TheVariants.{AtMostOnce, AtLeastOnce, ExactlyOnce}
use Rattle.packets.specs.declared.packet.ReadError.{ReadError}
use Rattle.packets.specs.Fields.{Takes, bad_at, ended}
use Rattle.packets.specs.Reads.{numbered_in, after_topic}

-- ---- the end

pub ended_ok : {A : Type 0} {u : Unit {0}} (bs : List ℕ) (at next : ℕ) (c : A) → next ≡ at → Ok u ≡ ended bs next tt → Ok c ≡ ended bs at c
ended_ok [] at next c n e = refl
ended_ok (b ∷ bs) at next c n e = absurd (let z : ◌≡◌ {A = ℕ} 0 1 = cc in omega arith)

pub ended_err : {A : Type 0} {e : ReadError} (bs : List ℕ) (at next : ℕ) (c : A) → next ≡ at → Err e ≡ ended {A = Unit {0}} bs next tt → Err e ≡ ended bs at c
ended_err [] at next c n h = absurd (let z : ◌≡◌ {A = ℕ} 0 1 = cc in omega arith)
ended_err (b ∷ bs) at next c n h = cc

-- ---- a step behind another one

pub same_some : {A : Type 0} (x y : A) → Some x ≡ Some y → x ≡ y
same_some x y e = cc

pub number_length : (bs : List ℕ) (n : ℕ) (rest : List ℕ) → number_in bs ≡ Some (n, rest) → 2 + length rest ≡ length bs
number_length [] n rest e = absurd (let z : ◌≡◌ {A = ℕ} 0 1 = cc in omega arith)
number_length (a ∷ []) n rest e = absurd (let z : ◌≡◌ {A = ℕ} 0 1 = cc in omega arith)
number_length (a ∷ b ∷ bs) n rest e = let h : bs ≡ rest = ap (λ (p : ℕ × List ℕ). p.1) (same_some _ _ e) in omega (arith, ap length h)

pub takes_behind : {A : Type 0} (first : Option (A × List ℕ)) (bs mid : List ℕ) (at next : ℕ) (rest : List ℕ) (r : Result A ReadError)
    → next + length mid ≡ at + length bs → Takes first mid next rest r → Takes first bs at rest r
takes_behind first bs mid at next rest (Ok x) e t = t
takes_behind first bs mid at next rest (Err x) e t = (t.0, t.1 ∙ ap (bad_at End) e)

-- ---- an identifier where QoS is above 0

pub flow_numbered : (dup : Bool) (qos : Qos) (topic : List ℕ) (place : ℕ) (bs : List ℕ) (at : ℕ) → (qos ≡ AtLeastOnce) ⊎ (qos ≡ ExactlyOnce)
    → numbered_in dup qos topic place bs at ≡ after_topic dup qos topic place bs at
flow_numbered dup AtMostOnce topic place bs at (inl e) = absurd (let z : ◌≡◌ {A = ℕ} 0 1 = cc in omega arith)
flow_numbered dup AtMostOnce topic place bs at (inr e) = absurd (let z : ◌≡◌ {A = ℕ} 0 1 = cc in omega arith)
flow_numbered dup AtLeastOnce topic place bs at h = refl
flow_numbered dup ExactlyOnce topic place bs at h = refl
