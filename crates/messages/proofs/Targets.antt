-- Targets and their bytes.
use Rattle.std.proofs.Common.{◌≡◌, ℕ, zero, suc, ◌+◌, ◌*◌, ◌/◌, ◌%◌, ◌^◌, ◌<◌, ◌≤◌, Bool, true, false, cond, eqb, List, [], ◌∷◌, ◌++◌, length, Some, None, Option, sym, refl, ap, ◌∙◌, subst, pow-suc, arith}
use Rattle.std.proofs.lemmas.Option.{cond_some, none-some, same_Some}
use Rattle.std.proofs.lemmas.Bool.{and_parts, and_from, eqb-true, eqb-false}
use Rattle.topics.specs.Qos.{qos_number, qos_of}
use Rattle.topics.specs.declared.qos.Qos.{Qos}
use Rattle.topics.specs.declared.qos.Qos.TheVariants.{AtMostOnce, AtLeastOnce, ExactlyOnce}
use Rattle.topics.proofs.Qualities.{qos_law}
use Rattle.messages.specs.declared.parts.State.{State}
use Rattle.messages.specs.declared.parts.State.TheVariants.{Waiting, Sent, Released}
use Rattle.messages.specs.declared.parts.Target.{Target}
use Rattle.messages.specs.Target.{add_front, bind, lawful_target, lawful_targets, map_of, state_number, state_of, target_byte, target_bytes, target_in, target_of, targets_in}

-- a step that came to something went through something
pub bind_some : {A B : Type 0} (o : Option A) (f : A → Option B) (y : B) → bind o f ≡ Some y → (x : A) × (o ≡ Some x) × (f x ≡ Some y)
bind_some None f y e = absurd (none-some y e)
bind_some (Some x) f y e = (x, refl, e)

-- ---- one target

target_by : (q : Qos) (s : State) → lawful_target (record { qos = q; state = s }) ≡ true → target_of (target_byte (record { qos = q; state = s })) ≡ Some (record { qos = q; state = s })
unfolding target_of
target_by AtMostOnce Waiting ok = refl
target_by AtMostOnce Sent ok = let z : ◌≡◌ {A = ℕ} 0 1 = cc in absurd (omega arith)
target_by AtMostOnce Released ok = let z : ◌≡◌ {A = ℕ} 0 1 = cc in absurd (omega arith)
target_by AtLeastOnce Waiting ok = refl
target_by AtLeastOnce Sent ok = refl
target_by AtLeastOnce Released ok = let z : ◌≡◌ {A = ℕ} 0 1 = cc in absurd (omega arith)
target_by ExactlyOnce Waiting ok = refl
target_by ExactlyOnce Sent ok = refl
target_by ExactlyOnce Released ok = refl

pub target_there : (t : Target) → lawful_target t ≡ true → target_of (target_byte t) ≡ Some t
target_there t ok = target_by t.qos t.state ok

state_by : (n : ℕ) (s : State) (u v w : Bool) → eqb n 1 ≡ u → eqb n 2 ≡ v → eqb n 3 ≡ w → cond {A = Option State} u (Some Waiting) (cond v (Some Sent) (cond w (Some Released) None)) ≡ Some s → n ≡ state_number s
state_by n s true v w a b c e = eqb-true n 1 a ∙ ap state_number (same_Some Waiting s e)
state_by n s false true w a b c e = eqb-true n 2 b ∙ ap state_number (same_Some Sent s e)
state_by n s false false true a b c e = eqb-true n 3 c ∙ ap state_number (same_Some Released s e)
state_by n s false false false a b c e = absurd (none-some s e)

state_back : (n : ℕ) (s : State) → state_of n ≡ Some s → n ≡ state_number s
state_back n s e = state_by n s (eqb n 1) (eqb n 2) (eqb n 3) refl refl refl e

pub target_back : (b : ℕ) (t : Target) → target_of b ≡ Some t → (b ≡ target_byte t) × (lawful_target t ≡ true)
unfolding target_of
target_back b t e =
    let q = bind_some (qos_of (b / 16)) _ t e in
    let s = bind_some (state_of (b % 16)) _ t q.2 in
    let l = cond_some (lawful_target (record { qos = q.0; state = s.0 })) (record { qos = q.0; state = s.0 }) t s.2 in
    let m = qos_law.back (b / 16) q.0 q.1 in
    let n = state_back (b % 16) s.0 s.1 in
    let k : b ≡ qos_number q.0 * 16 + state_number s.0 = omega arith in
    (k ∙ ap target_byte l.1, sym (ap lawful_target l.1) ∙ l.0)

-- ---- all of them

even : (m : ℕ) → (2 * m) % 2 ≡ 0
even m = omega arith

half_even : (m : ℕ) → 2 * m / 2 ≡ m
half_even m = omega arith

odd : (m : ℕ) → (1 + 2 * m) % 2 ≡ 1
odd m = omega arith

half_odd : (m : ℕ) → (1 + 2 * m) / 2 ≡ m
half_odd m = omega arith

pub targets_there : (ts : List (Option Target)) (rest : List ℕ) → lawful_targets ts ≡ true → targets_in (length ts) (map_of ts) (target_bytes ts ++ rest) ≡ Some (ts, rest)
unfolding targets_in
targets_there [] rest ok = refl
targets_there (None ∷ ts) rest ok =
    rw (even (map_of ts), half_even (map_of ts)) (ap (add_front None) (targets_there ts rest ok))
targets_there (Some t ∷ ts) rest ok =
    let p = and_parts (lawful_target t) (lawful_targets ts) ok in
    rw (odd (map_of ts), half_odd (map_of ts), target_there t p.0) (ap (add_front (Some t)) (targets_there ts rest p.1))

pub map_small : (ts : List (Option Target)) → map_of ts < 2 ^ length ts
map_small [] = omega arith
map_small (None ∷ ts) = let h = map_small ts in rw (pow-suc 2 (length ts)) (omega arith)
map_small (Some t ∷ ts) = let h = map_small ts in rw (pow-suc 2 (length ts)) (omega arith)

pub targets_short : (ts : List (Option Target)) → length (target_bytes ts) ≤ length ts
targets_short [] = omega arith
targets_short (None ∷ ts) = let h = targets_short ts in omega arith
targets_short (Some t ∷ ts) = let h = targets_short ts in omega arith

pub record TargetsBack (k m : ℕ) (bs : List ℕ) (p : List (Option Target) × List ℕ) : Type 0 where
  pub bytes : bs ≡ target_bytes p.0 ++ p.1
  pub map : m ≡ map_of p.0
  pub count : length p.0 ≡ k
  pub lawful : lawful_targets p.0 ≡ true

add_some : (t : Option Target) (o : Option (List (Option Target) × List ℕ)) (p : List (Option Target) × List ℕ) → add_front t o ≡ Some p → (q : List (Option Target) × List ℕ) × (o ≡ Some q) × (◌≡◌ {A = List (Option Target) × List ℕ} (t ∷ q.0, q.1) p)
add_some t None p e = absurd (none-some p e)
add_some t (Some q) p e = (q, refl, same_Some _ p e)

target_in_lem : (bs : List ℕ) (p : Target × List ℕ) → target_in bs ≡ Some p → (bs ≡ target_byte p.0 ∷ p.1) × (lawful_target p.0 ≡ true)
target_in_lem [] p e = absurd (none-some p e)
target_in_lem (b ∷ bs) p e =
    let t = bind_some (target_of b) _ p e in
    let h = target_back b t.0 t.1 in
    let q : ◌≡◌ {A = Target × List ℕ} (t.0, bs) p = same_Some _ p t.2 in
    ((λ i. h.0 i ∷ bs) ∙ ap (λ (r : Target × List ℕ). target_byte r.0 ∷ r.1) q, sym (ap (λ (r : Target × List ℕ). lawful_target r.0) q) ∙ h.1)

targets_by : (k m : ℕ) (bs : List ℕ) (p : List (Option Target) × List ℕ) (v : Bool) → eqb (m % 2) 0 ≡ v → m < 2 ^ suc k → ((m : ℕ) (bs : List ℕ) (p : List (Option Target) × List ℕ) → m < 2 ^ k → targets_in k m bs ≡ Some p → TargetsBack k m bs p) → cond v (add_front None (targets_in k (m / 2) bs)) (bind (target_in bs) (λ p. add_front (Some p.0) (targets_in k (m / 2) p.1))) ≡ Some p → TargetsBack (suc k) m bs p
targets_by k m bs p true ev small ih e =
    let half : m / 2 < 2 ^ k = let s = subst (λ n. m < n) (pow-suc 2 k) small in omega arith in
    let a = add_some None _ p e in
    let b = ih (m / 2) bs a.0 half a.1 in
    let z = eqb-true (m % 2) 0 ev in
    let f = b.map in
    let g : m ≡ 2 * map_of a.0.0 = omega arith in
    subst (λ p. TargetsBack (suc k) m bs p) a.2 (record { bytes = b.bytes; map = g; count = ap suc b.count; lawful = b.lawful })
targets_by k m bs p false ev small ih e =
    let half : m / 2 < 2 ^ k = let s = subst (λ n. m < n) (pow-suc 2 k) small in omega arith in
    let t = bind_some (target_in bs) _ p e in
    let h = target_in_lem bs t.0 t.1 in
    let a = add_some (Some t.0.0) _ p t.2 in
    let b = ih (m / 2) t.0.1 a.0 half a.1 in
    let z = eqb-false (m % 2) 0 ev in
    let f = b.map in
    let y : m % 2 ≡ 1 = omega (arith, z) in
    let g : m ≡ 1 + 2 * map_of a.0.0 = omega arith in
    subst (λ p. TargetsBack (suc k) m bs p) a.2
    (record { bytes = h.0 ∙ ap (λ l. target_byte t.0.0 ∷ l) b.bytes; map = g; count = ap suc b.count; lawful = and_from _ _ h.1 b.lawful })

pub targets_back : (k m : ℕ) (bs : List ℕ) (p : List (Option Target) × List ℕ) → m < 2 ^ k → targets_in k m bs ≡ Some p → TargetsBack k m bs p
unfolding targets_in
targets_back zero m bs p small e =
    let z : m ≡ 0 = omega arith in
    subst (λ p. TargetsBack 0 m bs p) (same_Some _ p e) (record { bytes = refl; map = z; count = refl; lawful = refl })
targets_back (suc k) m bs p small e = targets_by k m bs p (eqb (m % 2) 0) refl small (targets_back k) e
