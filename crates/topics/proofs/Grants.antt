-- What subscriptions grant, one by one and together.
use Rattle.std.proofs.Common.{◌≡◌, ℕ, ◌≤◌, Bool, true, false, cond, leb, List, [], ◌∷◌, ◌++◌, Some, None, fold, Option, sym, refl, ap, subst, arith}
use Rattle.std.proofs.ByRecursion.{All-push, All-weaker, has_append_left, has_push}
use Rattle.std.proofs.lemmas.List.{append-nil, append_assoc}
use Rattle.std.proofs.lemmas.List.Sums.{fold_push}
use Rattle.std.proofs.lemmas.Bool.{leb-true, leb-false, both_ways}
use Rattle.topics.specs.declared.qos.Qos.{Qos}
use Rattle.topics.specs.Matching.{takes}
use Rattle.topics.specs.Qos.{qos_number}
use Rattle.topics.specs.Subscription.{GrantedLaw, Highest, Subscribed, granted, higher, raised}

-- no subscription grants nothing
pub granted-none : (t : List ℕ) → granted [] t ≡ None
unfolding granted
granted-none t = refl

-- one subscription more is one step more
pub granted_push : (ss : List Subscribed) (s : Subscribed) (t : List ℕ) → granted (ss ++ s ∷ []) t ≡ raised (granted ss t) s.filter s.qos t
unfolding granted
granted_push ss s t = fold_push (λ best x. raised best x.filter x.qos t) None ss s

-- a filter that takes the topic, and one that does not
pub raised-takes : (best : Option Qos) (f : List ℕ) (q : Qos) (t : List ℕ) → takes f t ≡ true → raised best f q t ≡ higher best q
unfolding raised
raised-takes best f q t e = ap (λ v. cond v (higher best q) best) e

pub raised_passes : (best : Option Qos) (f : List ℕ) (q : Qos) (t : List ℕ) → takes f t ≡ false → raised best f q t ≡ best
unfolding raised
raised_passes best f q t e = ap (λ v. cond v (higher best q) best) e

module _ (t : List ℕ) where
  -- no higher than q where it takes the topic
  abbrev Within : Qos → Subscribed → Type 0
  Within q s = takes s.filter t ≡ true → qos_number s.qos ≤ qos_number q

  passed : (ss : List Subscribed) (s : Subscribed) (b : Option Qos) → takes s.filter t ≡ false → Highest ss t b → Highest (ss ++ s ∷ []) t b
  passed ss s None e h = All-push (λ x. takes x.filter t ≡ false) ss s h e
  passed ss s (Some q) e h = (
    (h.0.0, has_append_left ss (s ∷ []) h.0.0 h.0.1, h.0.2, h.0.3),
    All-push (Within q) ss s h.1 (λ d. absurd (both_ways (takes s.filter t) e d)),
  )

  raised_to : (ss : List Subscribed) (s : Subscribed) (p : Qos) → takes s.filter t ≡ true → Highest ss t (Some p)
      → (v : Bool) → leb (qos_number s.qos) (qos_number p) ≡ v → Highest (ss ++ s ∷ []) t (Some (cond v p s.qos))
  raised_to ss s p e h true d =
      let le = leb-true (qos_number s.qos) (qos_number p) d in (
        (h.0.0, has_append_left ss (s ∷ []) h.0.0 h.0.1, h.0.2, h.0.3),
        All-push (Within p) ss s h.1 (λ k. le),
      )
  raised_to ss s p e h false d =
      let lt = leb-false (qos_number s.qos) (qos_number p) d in (
        (s, has_push ss s, e, refl),
        All-push (Within s.qos) ss s (All-weaker (Within p) (Within s.qos) (λ x g k. let b = g k in omega arith) ss h.1) (λ k. omega arith),
      )

  taken : (ss : List Subscribed) (s : Subscribed) (b : Option Qos) → takes s.filter t ≡ true → Highest ss t b → Highest (ss ++ s ∷ []) t (higher b s.qos)
  taken ss s None e h = (
    (s, has_push ss s, e, refl),
    All-push (Within s.qos) ss s
        (All-weaker (λ x. takes x.filter t ≡ false) (Within s.qos) (λ x g k. absurd (both_ways (takes x.filter t) g k)) ss h) (λ k. omega arith),
  )
  taken ss s (Some p) e h = raised_to ss s p e h (leb (qos_number s.qos) (qos_number p)) refl

  one_more : (ss : List Subscribed) (s : Subscribed) (b : Option Qos) → Highest ss t b → (v : Bool) → takes s.filter t ≡ v
      → Highest (ss ++ s ∷ []) t (raised b s.filter s.qos t)
  one_more ss s b h true e = subst (Highest (ss ++ s ∷ []) t) (sym (raised-takes b s.filter s.qos t e)) (taken ss s b e h)
  one_more ss s b h false e = subst (Highest (ss ++ s ∷ []) t) (sym (raised_passes b s.filter s.qos t e)) (passed ss s b e h)

  from_here : (ps ss : List Subscribed) (b : Option Qos) → Highest ps t b → Highest (ps ++ ss) t (fold (λ best s. raised best s.filter s.qos t) b ss)
  from_here ps [] b h = subst (λ xs. Highest xs t b) (sym (append-nil ps)) h
  from_here ps (s ∷ ss) b h =
      let r = raised b s.filter s.qos t in
      subst (λ xs. Highest xs t (fold (λ best x. raised best x.filter x.qos t) r ss)) (append_assoc ps (s ∷ []) ss)
      (from_here (ps ++ s ∷ []) ss r (one_more ps s b h (takes s.filter t) refl))

pub granted_law : GrantedLaw
unfolding granted
granted_law ss t = from_here t [] ss None tt
