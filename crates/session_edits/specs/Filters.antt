-- A session's filters after subscriptions and unsubscriptions.
use Rattle.std.specs.Prelude.{◌≡◌, ℕ, ◌≤◌, Bool, true, false, cond, ◌||◌, List, [], ◌∷◌, ◌++◌, map, length, Some, None, Option, nat_lt}
use Rattle.std.specs.Str.{bytes_eq}
use Rattle.topics.specs.Names.{is_topic_filter}
use Rattle.topics.specs.Subscription.{Subscribed}
use Rattle.topics.specs.declared.qos.Qos.{Qos}
use Rattle.sessions.specs.Session.{lawful_filters, max_filters, stands}

-- after a subscription: an equal filter takes the new quality of service in its place, a new filter comes last
abbrev pub subscribe : List Subscribed → Subscribed → List Subscribed
subscribe [] a = a ∷ []
subscribe (s ∷ ss) a = cond (bytes_eq a.filter s.filter) (a ∷ ss) (s ∷ subscribe ss a)

-- a subscription is taken where its filter stands already or there is room for one more
abbrev pub accepts : List Subscribed → List ℕ → Bool
accepts ss f = stands f ss || nat_lt (length ss) max_filters

-- after an unsubscription: the equal filters are gone
abbrev pub unsubscribe : List Subscribed → List ℕ → List Subscribed
unsubscribe [] f = []
unsubscribe (s ∷ ss) f = cond (bytes_eq f s.filter) (unsubscribe ss f) (s ∷ unsubscribe ss f)

-- after a subscription that may be refused: it changes nothing then
abbrev pub after_asked : List Subscribed → Subscribed → List Subscribed
after_asked ss a = cond (accepts ss a.filter) (subscribe ss a) ss

-- what is granted to a subscription: the quality of service that it asks for, or none where it is refused
abbrev pub grant : List Subscribed → Subscribed → Option Qos
grant ss a = cond (accepts ss a.filter) (Some a.qos) None

-- after all subscriptions of a list, one by one
abbrev pub subscribe_all : List Subscribed → List Subscribed → List Subscribed
subscribe_all ss [] = ss
subscribe_all ss (a ∷ more) = subscribe_all (after_asked ss a) more

-- what is granted to each subscription of a list, taken one by one
abbrev pub grants : List Subscribed → List Subscribed → List (Option Qos)
grants ss [] = []
grants ss (a ∷ more) = grant ss a ∷ grants (after_asked ss a) more

-- after all unsubscriptions of a list, one by one
abbrev pub unsubscribe_all : List Subscribed → List (List ℕ) → List Subscribed
unsubscribe_all ss [] = ss
unsubscribe_all ss (f ∷ more) = unsubscribe_all (unsubscribe ss f) more

-- the quality of service with which a filter stands
abbrev pub qos_for : List ℕ → List Subscribed → Option Qos
qos_for f [] = None
qos_for f (s ∷ ss) = cond (bytes_eq f s.filter) (Some s.qos) (qos_for f ss)

-- the filters by name, in their order
abbrev pub names : List Subscribed → List (List ℕ)
names ss = map (λ s. s.filter) ss

-- at most eight topic filters, none twice
abbrev pub Lawful : List Subscribed → Type 0
Lawful ss = (lawful_filters ss ≡ true) × (length ss ≤ max_filters)

-- a subscription that is taken leaves lawful filters: its own with the quality of service it asks for, the others as they were, and all in their order;
-- an unsubscription leaves lawful filters: its own gone, the others as they were
pub record FiltersLaw : Type 0 where
  pub subscribed : (ss : List Subscribed) (a : Subscribed) → qos_for a.filter (subscribe ss a) ≡ Some a.qos
  pub others : (ss : List Subscribed) (a : Subscribed) (f : List ℕ) → bytes_eq f a.filter ≡ false → qos_for f (subscribe ss a) ≡ qos_for f ss
  pub equal : (ss : List Subscribed) (a : Subscribed) → stands a.filter ss ≡ true → names (subscribe ss a) ≡ names ss
  pub last : (ss : List Subscribed) (a : Subscribed) → stands a.filter ss ≡ false → subscribe ss a ≡ ss ++ a ∷ []
  pub lawful : (ss : List Subscribed) (a : Subscribed) → is_topic_filter a.filter ≡ true → Lawful ss → accepts ss a.filter ≡ true → Lawful (subscribe ss a)
  pub gone : (ss : List Subscribed) (f : List ℕ) → stands f (unsubscribe ss f) ≡ false
  pub kept : (ss : List Subscribed) (f g : List ℕ) → bytes_eq g f ≡ false → qos_for g (unsubscribe ss f) ≡ qos_for g ss
  pub absent : (ss : List Subscribed) (f : List ℕ) → stands f ss ≡ false → unsubscribe ss f ≡ ss
  pub still : (ss : List Subscribed) (f : List ℕ) → Lawful ss → Lawful (unsubscribe ss f)
