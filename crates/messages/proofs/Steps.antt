-- Message rows read step by step, as the code has it.
use Rattle.std.proofs.Common.{◌≡◌, ℕ, zero, suc, ◌+◌, ◌-◌, ◌*◌, ◌/◌, ◌%◌, ◌<◌, ◌≤◌, Bool, true, false, cond, not, ◌&&◌, ◌||◌, eqb, ltb, leb, List, [], ◌∷◌, length, get_or, is_some, Some, None, Option, sym, refl, ap, ◌∙◌, arith}
use Rattle.std.proofs.lemmas.Bool.{eq-eqb, ne_eqb}
use Rattle.topics.specs.Names.{is_topic_name}
use Rattle.rows.specs.Text.{text_in}
use Rattle.messages.specs.declared.parts.Origin.{Origin}
use Rattle.messages.specs.declared.parts.Target.{Target}
use Rattle.messages.specs.Target.{add_front, bind, map_of, some_target, target_in, targets_in}
use Rattle.messages.specs.Message.{Message, decode, from_map, from_origin, from_rank, from_targets, from_topic, max_payload, number_in, origin_in}
use Rattle.messages.specs.View.{message_of, owed, owed_rest, rest_of}
use Rattle.messages.specs.declared.view.MessageRow.{MessageRow}
use Rattle.std.specs.Option.{option_map}
use Rattle.std.specs.Bool.{then_some}
use Rattle.messages.proofs.Targets.{targets_back}
use Rattle.std.proofs.lemmas.Option.{none-some, same_Some}

-- ---- what was read is what is owed

front-owed : (t : Option Target) (o : Option (List (Option Target) × List ℕ)) (ts : List (Option Target)) (p : List (Option Target) × List ℕ) → ((q : List (Option Target) × List ℕ) → o ≡ Some q → ts ≡ q.0) → add_front t o ≡ Some p → t ∷ ts ≡ p.0
front-owed t None ts p ih e = absurd (none-some p e)
front-owed t (Some q) ts p ih e = ap (λ l. t ∷ l) (ih q refl) ∙ ap (λ (r : List (Option Target) × List ℕ). r.0) (same_Some {A = List (Option Target) × List ℕ} (t ∷ q.0, q.1) p e)

owed_by : (k m : ℕ) (bs : List ℕ) (p : List (Option Target) × List ℕ) (v : Bool) (o : Option (Target × List ℕ)) → ((m : ℕ) (bs : List ℕ) (p : List (Option Target) × List ℕ) → targets_in k m bs ≡ Some p → owed k m bs ≡ p.0) → cond v (add_front None (targets_in k (m / 2) bs)) (bind o (λ p. add_front (Some p.0) (targets_in k (m / 2) p.1))) ≡ Some p → cond v (None ∷ owed k (m / 2) bs) (owed_rest (owed k (m / 2)) o) ≡ p.0
owed_by k m bs p true o ih e = front-owed None (targets_in k (m / 2) bs) (owed k (m / 2) bs) p (ih (m / 2) bs) e
owed_by k m bs p false None ih e = absurd (none-some p e)
owed_by k m bs p false (Some t) ih e = front-owed (Some t.0) (targets_in k (m / 2) t.1) (owed k (m / 2) t.1) p (ih (m / 2) t.1) e

pub owed_back : (k m : ℕ) (bs : List ℕ) (p : List (Option Target) × List ℕ) → targets_in k m bs ≡ Some p → owed k m bs ≡ p.0
unfolding targets_in owed
owed_back zero m bs p e = ap (λ (r : List (Option Target) × List ℕ). r.0) (same_Some {A = List (Option Target) × List ℕ} ([], bs) p e)
owed_back (suc k) m bs p e = owed_by k m bs p (eqb (m % 2) 0) (target_in bs) (owed_back k) e

rest_some : (k m : ℕ) (bs after : List ℕ) (o : Option (List (Option Target) × List ℕ)) → targets_in k m bs ≡ o → Some after ≡ rest_of o → targets_in k m bs ≡ Some (owed k m bs, after)
rest_some k m bs after None e f = absurd (none-some after (sym f))
rest_some k m bs after (Some p) e f =
    let a = owed_back k m bs p e in
    let b = same_Some after p.1 f in
    e ∙ (λ i. Some (sym a i, sym b i))

pub targets_owed : (k m : ℕ) (bs after : List ℕ) → Some after ≡ rest_of (targets_in k m bs) → targets_in k m bs ≡ Some (owed k m bs, after)
targets_owed k m bs after e = rest_some k m bs after (targets_in k m bs) refl e

-- ---- the steps of a row

pub at_rank : (bs : List ℕ) (o : Option (ℕ × List ℕ)) → o ≡ number_in bs → bind o from_rank ≡ decode bs
unfolding decode
at_rank bs o e = ap (λ x. bind x from_rank) e

pub at_origin : (r : ℕ × List ℕ) (o : Option (Option Origin × List ℕ)) → o ≡ origin_in r.1 → bind o (from_origin r.0) ≡ from_rank r
at_origin r o e = ap (λ x. bind x (from_origin r.0)) e

pub at_map : (rank : ℕ) (p : Option Origin × List ℕ) (o : Option (ℕ × List ℕ)) → o ≡ number_in p.1 → bind o (from_map rank p.0) ≡ from_origin rank p
at_map rank p o e = ap (λ x. bind x (from_map rank p.0)) e

pub at_targets : (rank : ℕ) (origin : Option Origin) (m : ℕ) (tail after : List ℕ) → Some after ≡ rest_of (targets_in 32 m tail) → from_targets rank origin (owed 32 m tail, after) ≡ from_map rank origin (m, tail)
at_targets rank origin m tail after e = ap (λ x. bind x (from_targets rank origin)) (sym (targets_owed 32 m tail after e))

pub at_topic : (rank : ℕ) (origin : Option Origin) (t : List (Option Target) × List ℕ) (o : Option (List ℕ × List ℕ)) → o ≡ text_in t.1 → bind o (from_topic rank origin t.0) ≡ from_targets rank origin t
at_topic rank origin t o e = ap (λ x. bind x (from_topic rank origin t.0)) e

double : (m : ℕ) → eqb (2 * m) 0 ≡ eqb m 0
double zero = refl
double (suc m) = ne_eqb (2 * suc m) 0 (λ e. omega arith) ∙ sym (ne_eqb (suc m) 0 (λ e. omega arith))

-- a target stands exactly when the map is not 0
pub some_map : (ts : List (Option Target)) → not (eqb (map_of ts) 0) ≡ some_target ts
some_map [] = refl
some_map (None ∷ ts) = ap not (double (map_of ts)) ∙ some_map ts
some_map (Some t ∷ ts) = ap not (ne_eqb (1 + 2 * map_of ts) 0 (λ e. omega arith))

pub at_end : (rank : ℕ) (origin : Option Origin) (m : ℕ) (tail after topic payload : List ℕ) (b : Bool) → m < 4294967296 → Some after ≡ rest_of (targets_in 32 m tail) → b ≡ (ltb 0 rank && (is_topic_name topic && (leb (length payload) max_payload && (is_some origin || not (eqb m 0))))) → cond {A = Option Message} b (Some (record { rank = rank; origin = origin; targets = owed 32 m tail; topic = topic; payload = payload })) None ≡ from_topic rank origin (owed 32 m tail) (topic, payload)
at_end rank origin m tail after topic payload b small e f =
    let w = targets_back 32 m tail (owed 32 m tail, after) small (targets_owed 32 m tail after e) in
    let g = ap (λ k. not (eqb k 0)) w.map ∙ some_map (owed 32 m tail) in
    ap (λ v. cond {A = Option Message} v (Some (record { rank = rank; origin = origin; targets = owed 32 m tail; topic = topic; payload = payload })) None)
    (f ∙ ap (λ v. ltb 0 rank && (is_topic_name topic && (leb (length payload) max_payload && (is_some origin || v)))) g)

-- ---- the first session's target, and those after it

pub first_even : (n m : ℕ) (bs : List ℕ) → m % 2 ≡ 0 → targets_in (suc n) m bs ≡ add_front None (targets_in n (m / 2) bs)
unfolding targets_in
first_even n m bs z =
    ap (λ v. cond v (add_front None (targets_in n (m / 2) bs)) (bind (target_in bs) (λ p. add_front (Some p.0) (targets_in n (m / 2) p.1)))) (eq-eqb (m % 2) 0 z)

pub first_odd : (n m : ℕ) (bs : List ℕ) (o : Option (Target × List ℕ)) → (m % 2 ≡ 0 → ⊥) → o ≡ target_in bs → targets_in (suc n) m bs ≡ bind o (λ p. add_front (Some p.0) (targets_in n (m / 2) p.1))
unfolding targets_in
first_odd n m bs o z e =
    ap (λ v. cond v (add_front None (targets_in n (m / 2) bs)) (bind (target_in bs) (λ p. add_front (Some p.0) (targets_in n (m / 2) p.1)))) (ne_eqb (m % 2) 0 z)
    ∙ ap (λ o. bind o (λ p. add_front (Some p.0) (targets_in n (m / 2) p.1))) (sym e)

pub owed_even : (n m : ℕ) (bs : List ℕ) → m % 2 ≡ 0 → owed (suc n) m bs ≡ None ∷ owed n (m / 2) bs
unfolding owed
owed_even n m bs z = ap (λ v. cond v (None ∷ owed n (m / 2) bs) (owed_rest (owed n (m / 2)) (target_in bs))) (eq-eqb (m % 2) 0 z)

pub owed_odd : (n m : ℕ) (bs : List ℕ) (o : Option (Target × List ℕ)) → (m % 2 ≡ 0 → ⊥) → o ≡ target_in bs → owed (suc n) m bs ≡ owed_rest (owed n (m / 2)) o
unfolding owed
owed_odd n m bs o z e =
    ap (λ v. cond v (None ∷ owed n (m / 2) bs) (owed_rest (owed n (m / 2)) (target_in bs))) (ne_eqb (m % 2) 0 z)
    ∙ ap (owed_rest (owed n (m / 2))) (sym e)

-- past the last session nothing is owed
past_by : (n m s : ℕ) (bs : List ℕ) (v : Bool) (o : Option (Target × List ℕ)) → ((bs : List ℕ) → get_or (owed n (m / 2) bs) s None ≡ None) → get_or (cond v (None ∷ owed n (m / 2) bs) (owed_rest (owed n (m / 2)) o)) (suc s) None ≡ None
past_by n m s bs true o ih = ih bs
past_by n m s bs false None ih = ih []
past_by n m s bs false (Some t) ih = ih t.1

pub owed_past : (n m : ℕ) (bs : List ℕ) (s : ℕ) → n ≤ s → get_or (owed n m bs) s None ≡ None
unfolding owed
owed_past zero m bs s h = refl
owed_past (suc n) m bs zero h = absurd (omega arith)
owed_past (suc n) m bs (suc s) h = past_by n m s bs (eqb (m % 2) 0) (target_in bs) (λ bs. owed_past n (m / 2) bs s (omega arith))

-- nor where no byte is left
nothing_by : (n m s : ℕ) (v : Bool) → ((s : ℕ) → get_or (owed n (m / 2) []) s None ≡ None) → get_or (cond {A = List (Option Target)} v (None ∷ owed n (m / 2) []) (None ∷ owed n (m / 2) [])) s None ≡ None
nothing_by n m zero true ih = refl
nothing_by n m zero false ih = refl
nothing_by n m (suc s) true ih = ih s
nothing_by n m (suc s) false ih = ih s

nothing_owed : (n m s : ℕ) → get_or (owed n m []) s None ≡ None
unfolding owed
nothing_owed zero m s = refl
nothing_owed (suc n) m s = nothing_by n m s (eqb (m % 2) 0) (nothing_owed n (m / 2))

behind_none : (n m s : ℕ) → get_or (None ∷ owed n m []) s None ≡ None
behind_none n m zero = refl
behind_none n m (suc s) = nothing_owed n m s

pub owed_bad : (n m : ℕ) (bs : List ℕ) (s : ℕ) → (m % 2 ≡ 0 → ⊥) → None ≡ target_in bs → get_or (owed (suc n) m bs) s None ≡ None
owed_bad n m bs s z e = ap (λ l. get_or l s None) (owed_odd n m bs None z e) ∙ behind_none n (m / 2) s

-- ---- past the targets

fewer : (i : ℕ) → i < 32 → 32 - i ≡ suc (32 - (i + 1))
fewer i h = omega arith

pub behind_bad : (i m : ℕ) (bs : List ℕ) (r : Option (List ℕ)) → i < 32 → ((n : ℕ) → targets_in (suc n) m bs ≡ None) → rest_of (targets_in (32 - i) m bs) ≡ r → None ≡ r
behind_bad i m bs r h e f = ap rest_of (sym (e (32 - (i + 1)))) ∙ ap (λ k. rest_of (targets_in k m bs)) (sym (fewer i h)) ∙ f

pub behind_all : (i m : ℕ) (bs : List ℕ) (r : Option (List ℕ)) → 32 ≤ i → rest_of (targets_in (32 - i) m bs) ≡ r → Some bs ≡ r
unfolding targets_in
behind_all i m bs r h f = let k : 0 ≡ 32 - i = omega arith in ap (λ k. rest_of (targets_in k m bs)) k ∙ f

-- ---- what one session is owed

-- after so many sessions, these are those that are left of us
abbrev pub After : ℕ → ℕ → List ℕ → List (Option Target) → Type 0
After i m bs us = (k : ℕ) → get_or (owed (32 - i) m bs) k None ≡ get_or us (i + k) None

pub after_more : (i m m' : ℕ) (bs bs' : List ℕ) (t : Option Target) (us : List (Option Target)) → i < 32 → ((n : ℕ) → owed (suc n) m bs ≡ t ∷ owed n m' bs') → After i m bs us → After (i + 1) m' bs' us
after_more i m m' bs bs' t us h e f k =
    let j : i + suc k ≡ i + 1 + k = omega arith in
    sym (ap (λ l. get_or l (suc k) None) (ap (λ n. owed n m bs) (fewer i h) ∙ e (32 - (i + 1)))) ∙ f (suc k) ∙ ap (λ n. get_or us n None) j

pub after_bad : (i s m : ℕ) (bs : List ℕ) (us : List (Option Target)) → i < 32 → i ≤ s → ((n s : ℕ) → get_or (owed (suc n) m bs) s None ≡ None) → After i m bs us → None ≡ get_or us s None
after_bad i s m bs us h k e f =
    let j : i + (s - i) ≡ s = omega arith in
    sym (e (32 - (i + 1)) (s - i)) ∙ ap (λ n. get_or (owed n m bs) (s - i) None) (sym (fewer i h)) ∙ f (s - i) ∙ ap (λ n. get_or us n None) j

pub after_here : (i s m m' : ℕ) (bs bs' : List ℕ) (t : Option Target) (us : List (Option Target)) → i < 32 → ((n : ℕ) → owed (suc n) m bs ≡ t ∷ owed n m' bs') → i ≡ s → After i m bs us → t ≡ get_or us s None
after_here i s m m' bs bs' t us h e g f =
    let j : i + 0 ≡ s = omega arith in
    sym (ap (λ l. get_or l 0 None) (ap (λ n. owed n m bs) (fewer i h) ∙ e (32 - (i + 1)))) ∙ f 0 ∙ ap (λ n. get_or us n None) j

-- ---- the whole row

made : (b : Bool) (v : MessageRow) → option_map message_of (then_some b v) ≡ cond b (Some (message_of v)) None
made true v = refl
made false v = refl

-- the parts that were read one after the other make a message where they do together
pub row_read : (bs after_rank after_origin after_targets : List ℕ) (v : MessageRow) (b : Bool) (r : Option MessageRow) → v.targets.map < 4294967296 → r ≡ then_some b v → b ≡ (ltb 0 v.rank && (is_topic_name v.topic.now && (leb (length v.payload.now) max_payload && (is_some v.origin || not (eqb v.targets.map 0))))) → Some (v.rank, after_rank) ≡ number_in bs → Some (v.origin, after_origin) ≡ origin_in after_rank → Some (v.targets.map, v.targets.tail.now) ≡ number_in after_origin → Some after_targets ≡ rest_of (targets_in 32 v.targets.map v.targets.tail.now) → Some (v.topic.now, v.payload.now) ≡ text_in after_targets → option_map message_of r ≡ decode bs
row_read bs after_rank after_origin after_targets v b r small f g rank origin map targets text =
    ap (option_map message_of) f
    ∙ made b v
    ∙ at_end v.rank v.origin v.targets.map v.targets.tail.now after_targets v.topic.now v.payload.now b small targets g
    ∙ at_topic v.rank v.origin (owed 32 v.targets.map v.targets.tail.now, after_targets) (Some (v.topic.now, v.payload.now)) text
    ∙ at_targets v.rank v.origin v.targets.map v.targets.tail.now after_targets targets
    ∙ at_map v.rank (v.origin, after_origin) (Some (v.targets.map, v.targets.tail.now)) map
    ∙ at_origin (v.rank, after_rank) (Some (v.origin, after_origin)) origin
    ∙ at_rank bs (Some (v.rank, after_rank)) rank
