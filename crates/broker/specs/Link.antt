-- Links, and the replies that wait on them.
use Rattle.std.specs.Prelude.{ℕ, Bool, false, take, ◌==◌}
use Rattle.packets.specs.Packet.{Content, connack, puback, pubrec, pubrel, pubcomp, suback, unsuback, pingresp}
use Rattle.broker.specs.declared.link.Link.{Link}
use Rattle.broker.specs.declared.link.Link.TheVariants.{Free, Opened, Connected, Rejected}
use Rattle.broker.specs.declared.link.Rejection.{Rejection}
use Rattle.broker.specs.declared.link.Rejection.TheVariants.{Level, Identifier, Full}
use Rattle.broker.specs.declared.reply.Reply.{Reply}
use Rattle.broker.specs.declared.reply.Reply.TheVariants.{Accepted, PubAck, PubRec, PubRel, PubComp, SubAck, UnsubAck, PingResp}

-- 1 another level, 2 no client identifier, 3 no number or row for a new session
abbrev pub return_code : Rejection → ℕ
return_code Level = 1
return_code Identifier = 2
return_code Full = 3

-- the packet that a reply is
abbrev pub said : Reply → Content
said (Accepted present) = connack present 0
said (PubAck id) = puback id
said (PubRec id) = pubrec id
said (PubRel id) = pubrel id
said (PubComp id) = pubcomp id
said (SubAck id codes) = suback id (take codes.count codes.bytes)
said (UnsubAck id) = unsuback id
said PingResp = pingresp

-- the link is connected to this session
abbrev pub is_at : ℕ → Link → Bool
is_at s Free = false
is_at s Opened = false
is_at s (Connected session) = session == s
is_at s (Rejected why) = false
