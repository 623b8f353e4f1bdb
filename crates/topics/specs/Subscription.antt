-- What subscriptions grant a topic.
use Rattle.std.specs.Prelude.{◌≡◌, ℕ, ◌≤◌, true, false, cond, List, Some, None, fold, Option}
use Rattle.std.specs.List.{ContainsAt, AllByRecursion}
use Rattle.topics.specs.declared.qos.Qos.{Qos}
use Rattle.topics.specs.declared.subscription.Subscription.{Subscription}
use Rattle.topics.specs.Matching.{takes}
use Rattle.topics.specs.Qos.{greater, qos_number}

-- a topic filter and the quality of service that it asks for
pub record Subscribed : Type 0 where
  pub filter : List ℕ
  pub qos : Qos

-- the subscription that a struct of the code stands for
abbrev pub subscribed : Subscription → Subscribed
subscribed s = record { filter = s.filter.now; qos = s.qos }

-- the higher of what is granted so far and one more
abbrev pub higher : Option Qos → Qos → Option Qos
higher None q = Some q
higher (Some p) q = Some (greater p q)

-- one more filter raises what is granted so far, where it takes the topic
unfoldable pub raised : Option Qos → List ℕ → Qos → List ℕ → Option Qos
raised best f q t = cond (takes f t) (higher best q) best

-- what the filters of the subscriptions grant the topic together, none where no filter takes it
unfoldable pub granted : List Subscribed → List ℕ → Option Qos
granted ss t = fold (λ best s. raised best s.filter s.qos t) None ss

-- the highest quality of service among the subscriptions whose filter takes the topic, or none where no filter does
abbrev pub Highest : List Subscribed → List ℕ → Option Qos → Type 0
Highest ss t None = AllByRecursion (λ s. takes s.filter t ≡ false) ss
Highest ss t (Some q) =
    ((s : Subscribed) × ContainsAt ss s × (takes s.filter t ≡ true) × (s.qos ≡ q))
    × AllByRecursion (λ s. takes s.filter t ≡ true → qos_number s.qos ≤ qos_number q) ss

-- subscriptions grant a topic the highest quality of service of those that take it
abbrev pub GrantedLaw : Type 0
GrantedLaw = (ss : List Subscribed) (t : List ℕ) → Highest ss t (granted ss t)
