-- The quality of service.
use Rattle.std.specs.Prelude.{◌≡◌, ℕ, min, max, cond, Some, None, Option, Result, MatchResult, ◌==◌, nat_le}
use Rattle.topics.specs.declared.qos.Qos.{Qos}
use Rattle.topics.specs.declared.qos.Qos.TheVariants.{AtMostOnce, AtLeastOnce, ExactlyOnce}
use Rattle.topics.specs.declared.qos.UnknownQos.{UnknownQos}

-- the number that stands for it in packets and rows
abbrev pub qos_number : Qos → ℕ
qos_number AtMostOnce = 0
qos_number AtLeastOnce = 1
qos_number ExactlyOnce = 2

-- the one with this number; numbers above 2 stand for none
abbrev pub qos_of : ℕ → Option Qos
qos_of n = cond (n == 0) (Some AtMostOnce) (cond (n == 1) (Some AtLeastOnce) (cond (n == 2) (Some ExactlyOnce) None))

-- the result is the one with this number, or the number itself where none has it
abbrev pub Decodes : ℕ → Result Qos UnknownQos → Type 0
Decodes n r = MatchResult r (λ q. qos_of n ≡ Some q) (λ e. (qos_of n ≡ None) × (e.0 ≡ n))

-- the one of two with the lesser number
abbrev pub lesser : Qos → Qos → Qos
lesser p q = cond (nat_le (qos_number p) (qos_number q)) p q

-- the one of two with the greater number
abbrev pub greater : Qos → Qos → Qos
greater p q = cond (nat_le (qos_number q) (qos_number p)) p q

-- numbers and qualities of service stand for each other, and the lesser and the greater go by number
pub record QosLaw : Type 0 where
  pub there : (q : Qos) → qos_of (qos_number q) ≡ Some q
  pub back : (n : ℕ) (q : Qos) → qos_of n ≡ Some q → n ≡ qos_number q
  pub least : (p q : Qos) → qos_number (lesser p q) ≡ min (qos_number p) (qos_number q)
  pub most : (p q : Qos) → qos_number (greater p q) ≡ max (qos_number p) (qos_number q)
