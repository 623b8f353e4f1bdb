-- Session rows as views that borrow from them.
use Rattle.std.specs.Prelude.{◌≡◌, ℕ, zero, suc, ◌+◌, Bool, ◌⊎◌, cond, ◌&&◌, List, [], ◌∷◌, is_some, Some, None, Ok, Err, Option, Result, nat_le}
use Rattle.std.specs.Borrow.{Bor}
use Rattle.topics.specs.Names.{is_client_id}
use Rattle.topics.specs.Subscription.{Subscribed, subscribed}
use Rattle.topics.specs.declared.subscription.Subscription.{Subscription}
use Rattle.rows.specs.declared.write.Unwritten.{Unwritten}
use Rattle.rows.specs.declared.write.Unwritten.TheVariants.{Unlawful}
use Rattle.sessions.specs.declared.view.Filters.{Filters}
use Rattle.sessions.specs.declared.view.SessionRow.{SessionRow}
use Rattle.sessions.specs.Session.{Session, encode, filter_in, filters_in, max_filters}

abbrev pub listed_rest : (List ℕ → List Subscribed) → Option (Subscribed × List ℕ) → List Subscribed
listed_rest f None = []
listed_rest f (Some p) = p.0 ∷ f p.1

-- the subscriptions at the front, at most so many
abbrev pub listed : ℕ → List ℕ → List Subscribed
listed zero bs = []
listed (suc n) bs = listed_rest (listed n) (filter_in bs)

-- the subscriptions of a view
abbrev pub filters_of : Filters → List Subscribed
filters_of v = listed v.count v.part.now

-- the session that a view shows
abbrev pub session_of : SessionRow → Session
session_of v = record { client = v.client.now; filters = filters_of v.filters }

-- the parts of the view are those of a row
abbrev pub is_row : SessionRow → Bool
is_row v = is_client_id v.client.now && (nat_le v.filters.count max_filters && is_some (filters_in v.filters.count v.filters.part.now))

-- what writing a view again writes
abbrev pub row_of : SessionRow → Result (List ℕ) Unwritten
row_of v = cond (is_row v) (Ok (encode (session_of v))) (Err Unlawful)

-- the subscription at a place of the list
abbrev pub place : List Subscribed → ℕ → Option Subscribed
place [] i = None
place (s ∷ ss) zero = Some s
place (s ∷ ss) (suc i) = place ss i

-- no subscription is read at the front: as many as were wanted are past, or the bytes are against the layout
abbrev pub Ends : Filters → Type 0
Ends v = (v.count ≡ 0) ⊎ (filter_in v.part.now ≡ None)

-- a subscription is read at the front, and these are after it
abbrev pub Begins : Filters → Subscribed → Filters → Type 0
Begins v s w = (v.count ≡ w.count + 1) × (filter_in v.part.now ≡ Some (s, w.part.now))

-- what a subscription read from a row holds, and what follows it
abbrev pub read : Option (Subscription × Bor (List ℕ)) → Option (Subscribed × List ℕ)
read None = None
read (Some p) = Some (subscribed p.0, p.1.now)
