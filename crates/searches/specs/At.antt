-- The rows at a number, by their content.
use Rattle.std.specs.Prelude.{ℕ, Bool, ◌&&◌, Option}
use Rattle.store.specs.Disk.{Disk, absent, good_key}
use Rattle.store.specs.declared.kind.Kind.{Kind}
use Rattle.store.specs.declared.kind.Kind.TheVariants.{Session as SessionKind, Message as MessageKind}
use Rattle.sessions.specs.Session.{Session, decode as decode_session}
use Rattle.messages.specs.Message.{Message, decode as decode_message}

-- the session at a number; a row against the layout counts as absent
abbrev pub session_at : Disk → ℕ → Option Session
session_at d n = decode_session (d.rows SessionKind n)

-- the message at a number; a row against the layout counts as absent
abbrev pub message_at : Disk → ℕ → Option Message
message_at d n = decode_message (d.rows MessageKind n)

-- a number is free where its key is good and no row stands
abbrev pub is_free : Disk → Kind → ℕ → Bool
is_free d k n = good_key d k n && absent d k n
