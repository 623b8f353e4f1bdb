-- What a broker keeps in memory: what a restart may forget.
use Rattle.std.specs.Prelude.{ℕ, zero, suc, ◌+◌, ◌%◌, Bool, true, false, cond, ◌||◌, List, [], ◌∷◌, ◌++◌, length, ◌==◌, nat_le}
use Rattle.packets.specs.Packet.{Content}
use Rattle.searches.specs.Search.{slots}
use Rattle.broker.specs.declared.link.Link.{Link}
use Rattle.broker.specs.declared.link.Link.TheVariants.{Free, Connected}
use Rattle.broker.specs.Link.{is_at}

-- links and the replies that wait on them, oldest first, by link; for each slot to which sessions its message was handed out
-- on their present connections; the slot at which the search for a free one begins; whether the broker serves
pub record Broker : Type 0 where
  pub links : ℕ → Link
  pub replies : ℕ → List Content
  pub handed : ℕ → ℕ → Bool
  pub next : ℕ
  pub up : Bool

-- links are numbered below this
abbrev pub link_count : ℕ
link_count = 32

-- the most replies that wait on a link
abbrev pub max_replies : ℕ
max_replies = 16

-- f with v at k
abbrev pub put : {A : Type 0} → (ℕ → A) → ℕ → A → ℕ → A
put f k v j = cond (j == k) v (f j)

-- a broker that was never restarted
abbrev pub new_broker : Broker
new_broker = record { links = λ l. Free; replies = λ l. []; handed = λ k s. false; next = 0; up = false }

-- restarted: all links free, nothing handed out, slots from 0 on
abbrev pub restarted : Broker
restarted = record { links = λ l. Free; replies = λ l. []; handed = λ k s. false; next = 0; up = true }

-- serves no more; all else stays
abbrev pub stopped : Broker → Broker
stopped b = record { links = b.links; replies = b.replies; handed = b.handed; next = b.next; up = false }

-- one link is in another state
abbrev pub with_link : Broker → ℕ → Link → Broker
with_link b l x = record { links = put b.links l x; replies = b.replies; handed = b.handed; next = b.next; up = b.up }

-- closing a link, whatever the cause: it is free, and its replies are gone
abbrev pub closed : Broker → ℕ → Broker
closed b l = record { links = put b.links l Free; replies = put b.replies l []; handed = b.handed; next = b.next; up = b.up }

-- no more replies can wait on the link
abbrev pub is_full : Broker → ℕ → Bool
is_full b l = nat_le max_replies (length (b.replies l))

-- the replies of one link are these
abbrev pub with_replies : Broker → ℕ → List Content → Broker
with_replies b l rs = record { links = b.links; replies = put b.replies l rs; handed = b.handed; next = b.next; up = b.up }

-- more replies wait on the link, behind those that do
abbrev pub queued : Broker → ℕ → List Content → Broker
queued b l rs = with_replies b l (b.replies l ++ rs)

-- a slot's message was handed out to a session
abbrev pub handed_out : Broker → ℕ → ℕ → Broker
handed_out b k s = record {
  links = b.links;
  replies = b.replies;
  handed = put b.handed k (put (b.handed k) s true);
  next = b.next;
  up = b.up;
}

-- a new message stands in a slot: it was handed out to nobody, and the next search begins behind it
abbrev pub filled : Broker → ℕ → Broker
filled b k = record {
  links = b.links;
  replies = b.replies;
  handed = put b.handed k (λ s. false);
  next = (k + 1) % slots;
  up = b.up;
}

-- a link becomes that of a session, with one reply: any other link of the session is closed,
-- and nothing counts as handed out to the session any more
abbrev pub connected : Broker → ℕ → ℕ → Content → Broker
connected b l s reply = record {
  links = put (λ j. cond (is_at s (b.links j)) Free (b.links j)) l (Connected s);
  replies = put (λ j. cond (is_at s (b.links j)) [] (b.replies j)) l (reply ∷ []);
  handed = λ k. put (b.handed k) s false;
  next = b.next;
  up = b.up;
}

-- one of the links below n is connected to the session
abbrev pub live_below : Broker → ℕ → ℕ → Bool
live_below b s zero = false
live_below b s (suc n) = is_at s (b.links n) || live_below b s n

-- the session is connected
unfoldable pub is_live : Broker → ℕ → Bool
is_live b s = live_below b s link_count
