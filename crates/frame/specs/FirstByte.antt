-- Which first bytes are legal, and the packet type that each announces.
use Rattle.std.specs.Prelude.{◌≡◌, ℕ, ◌/◌, ◌%◌, Bool, cond, ◌&&◌, ◌||◌, List, Some, None, codes, Option, Result, MatchResult, ◌==◌, nat_lt}
use Rattle.frame.specs.declared.first_byte.PacketType.{PacketType}
use Rattle.frame.specs.declared.first_byte.PacketType.TheVariants.{Connect, ConnAck, Publish, PubAck, PubRec, PubRel, PubComp, Subscribe, SubAck, Unsubscribe, UnsubAck, PingReq, PingResp, Disconnect}
use Rattle.frame.specs.declared.first_byte.UnknownType.{UnknownType}

-- the types are numbered 1 to 14
abbrev pub number_of : PacketType → ℕ
number_of Connect = 1
number_of ConnAck = 2
number_of Publish = 3
number_of PubAck = 4
number_of PubRec = 5
number_of PubRel = 6
number_of PubComp = 7
number_of Subscribe = 8
number_of SubAck = 9
number_of Unsubscribe = 10
number_of UnsubAck = 11
number_of PingReq = 12
number_of PingResp = 13
number_of Disconnect = 14

-- the flags of a PUBLISH: DUP is bit 3, QoS bits 1 and 2, RETAIN bit 0; QoS is below 3, and DUP stands only with a QoS above 0
abbrev pub publish_flags : ℕ → Bool
publish_flags f = nat_lt (f / 2 % 4) 3 && (nat_lt f 8 || nat_lt 0 (f / 2 % 4))

-- the flags that a type allows: those of a PUBLISH, 2 for PUBREL, SUBSCRIBE and UNSUBSCRIBE, 0 for every other
abbrev pub allows : PacketType → ℕ → Bool
allows Connect f = f == 0
allows ConnAck f = f == 0
allows Publish f = publish_flags f
allows PubAck f = f == 0
allows PubRec f = f == 0
allows PubRel f = f == 2
allows PubComp f = f == 0
allows Subscribe f = f == 2
allows SubAck f = f == 0
allows Unsubscribe f = f == 2
allows UnsubAck f = f == 0
allows PingReq f = f == 0
allows PingResp f = f == 0
allows Disconnect f = f == 0

-- the type with a number
abbrev pub numbered : ℕ → Option PacketType
numbered n =
    cond (n == 1) (Some Connect) (cond (n == 2) (Some ConnAck) (cond (n == 3) (Some Publish) (cond (n == 4) (Some PubAck)
    (cond (n == 5) (Some PubRec) (cond (n == 6) (Some PubRel) (cond (n == 7) (Some PubComp) (cond (n == 8) (Some Subscribe)
    (cond (n == 9) (Some SubAck) (cond (n == 10) (Some Unsubscribe) (cond (n == 11) (Some UnsubAck) (cond (n == 12) (Some PingReq)
    (cond (n == 13) (Some PingResp) (cond (n == 14) (Some Disconnect) None)))))))))))))

-- the result is the type with this number, or the number itself where none has it
abbrev pub Decodes : ℕ → Result PacketType UnknownType → Type 0
Decodes n r = MatchResult r (λ t. numbered n ≡ Some t) (λ e. (numbered n ≡ None) × (e.0 ≡ n))

-- the type t is announced with the flags f, if it allows them
abbrev pub announced : Option PacketType → ℕ → Option PacketType
announced None f = None
announced (Some t) f = cond (allows t f) (Some t) None

-- the type that a first byte announces: its upper four bits, if the lower four are flags that the type allows
unfoldable pub type_in : ℕ → Option PacketType
type_in b = announced (numbered (b / 16)) (b % 16)

-- its number, or 0
abbrev pub number_or0 : Option PacketType → ℕ
number_or0 None = 0
number_or0 (Some t) = number_of t

-- the number of the type that a first byte announces, 0 where it is illegal
unfoldable pub type_number : ℕ → ℕ
type_number b = number_or0 (type_in b)

-- the names of the standard
abbrev pub name_of : PacketType → List ℕ
name_of Connect = codes "CONNECT"
name_of ConnAck = codes "CONNACK"
name_of Publish = codes "PUBLISH"
name_of PubAck = codes "PUBACK"
name_of PubRec = codes "PUBREC"
name_of PubRel = codes "PUBREL"
name_of PubComp = codes "PUBCOMP"
name_of Subscribe = codes "SUBSCRIBE"
name_of SubAck = codes "SUBACK"
name_of Unsubscribe = codes "UNSUBSCRIBE"
name_of UnsubAck = codes "UNSUBACK"
name_of PingReq = codes "PINGREQ"
name_of PingResp = codes "PINGRESP"
name_of Disconnect = codes "DISCONNECT"
