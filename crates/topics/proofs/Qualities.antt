-- Qualities of service and their numbers.
use Rattle.std.proofs.Common.{◌≡◌, ℕ, min, max, Some, refl, arith}
use Rattle.std.proofs.lemmas.Bool.Decides.{nat_tests}
use Rattle.topics.specs.declared.qos.Qos.{Qos}
use Rattle.topics.specs.declared.qos.Qos.TheVariants.{AtMostOnce, AtLeastOnce, ExactlyOnce}
use Rattle.topics.specs.Qos.{QosLaw, greater, lesser, qos_number, qos_of}

there : (q : Qos) → qos_of (qos_number q) ≡ Some q
there AtMostOnce = refl
there AtLeastOnce = refl
there ExactlyOnce = refl

back : (n : ℕ) (q : Qos) → qos_of n ≡ Some q → n ≡ qos_number q
back n q e = grind (arith, nat_tests)

least : (p q : Qos) → qos_number (lesser p q) ≡ min (qos_number p) (qos_number q)
least p q = grind (arith, nat_tests)

most : (p q : Qos) → qos_number (greater p q) ≡ max (qos_number p) (qos_number q)
most p q = grind (arith, nat_tests)

pub qos_law : QosLaw
qos_law = record { there = there; back = back; least = least; most = most }
