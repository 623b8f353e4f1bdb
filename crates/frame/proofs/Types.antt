-- Types and their numbers.
use Rattle.std.proofs.Common.{◌≡◌, ℕ, Some, None, Ok, Err, Option, Result, sym, refl, ap, ◌∙◌}
use Rattle.frame.specs.declared.first_byte.PacketType.{PacketType}
use Rattle.frame.specs.declared.first_byte.PacketType.TheVariants.{Connect, ConnAck, Publish, PubAck, PubRec, PubRel, PubComp, Subscribe, SubAck, Unsubscribe, UnsubAck, PingReq, PingResp, Disconnect}
use Rattle.frame.specs.declared.first_byte.UnknownType.{UnknownType}
use Rattle.frame.specs.FirstByte.{Decodes, numbered, number_or0}
use Rattle.std.specs.Result.{result_ok}

-- a type is the one with its number
pub number_back : (t : Option PacketType) → numbered (number_or0 t) ≡ t
number_back None = refl
number_back (Some Connect) = refl
number_back (Some ConnAck) = refl
number_back (Some Publish) = refl
number_back (Some PubAck) = refl
number_back (Some PubRec) = refl
number_back (Some PubRel) = refl
number_back (Some PubComp) = refl
number_back (Some Subscribe) = refl
number_back (Some SubAck) = refl
number_back (Some Unsubscribe) = refl
number_back (Some UnsubAck) = refl
number_back (Some PingReq) = refl
number_back (Some PingResp) = refl
number_back (Some Disconnect) = refl

-- what is decoded of the number of a type, or of 0 for none
pub decoded : (t : Option PacketType) (n : ℕ) (r : Result PacketType UnknownType) → n ≡ number_or0 t → Decodes n r → result_ok r ≡ t
decoded t n (Ok u) e d = sym d ∙ ap numbered e ∙ number_back t
decoded t n (Err x) e d = sym d.0 ∙ ap numbered e ∙ number_back t
