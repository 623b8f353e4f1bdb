-- The filters of a SUBSCRIBE, each with a QoS byte, and of an UNSUBSCRIBE, without.
use Rattle.std.specs.Prelude.{ℕ, zero, suc, ◌+◌, ◌^◌, Bool, true, false, cond, List, [], ◌∷◌, length, Some, None, Ok, Err, Option, Result, nat_lt}
use Rattle.frame.specs.declared.field.Field.TheVariants.{TopicFilter, QosOrCode, End}
use Rattle.topics.specs.declared.qos.Qos.{Qos}
use Rattle.topics.specs.Qos.{qos_of}
use Rattle.topics.specs.Names.{is_topic_filter}
use Rattle.packets.specs.declared.packet.Filter.{Filter}
use Rattle.packets.specs.declared.packet.Filters.{Filters}
use Rattle.packets.specs.declared.packet.ReadError.{ReadError}
use Rattle.packets.specs.Fields.{bad, missing, onward, byte_in, text_in, past}

-- a filter, the place of its two-byte length, and the quality of service that a SUBSCRIBE asks for
pub record Entry : Type 0 where
  pub filter : List ℕ
  pub place : ℕ
  pub qos : Option Qos

-- an entry, the bytes that follow it, and their place
pub record Found : Type 0 where
  pub entry : Entry
  pub rest : List ℕ
  pub next : ℕ

-- the quality of service of the filter text at a place: a number up to 2
abbrev pub asked : List ℕ → ℕ → List ℕ → Option Qos → Result Found ReadError
asked text at rest None = bad QosOrCode (past text at)
asked text at rest (Some q) =
    Ok (record { entry = record { filter = text; place = at; qos = Some q }; rest = rest; next = past text at + 1 })

-- the QoS byte behind the filter text at a place
abbrev pub asked_in : List ℕ → ℕ → List ℕ → Option (ℕ × List ℕ) → Result Found ReadError
asked_in text at bs None = missing bs (past text at)
asked_in text at bs (Some p) = asked text at p.1 (qos_of p.0)

-- behind the filter text at a place: a QoS byte in a SUBSCRIBE, nothing in an UNSUBSCRIBE
abbrev pub after_filter : Bool → List ℕ → ℕ → List ℕ → Result Found ReadError
after_filter true text at bs = asked_in text at bs (byte_in bs)
after_filter false text at bs =
    Ok (record { entry = record { filter = text; place = at; qos = None }; rest = bs; next = past text at })

-- one filter, with a QoS byte or without
unfoldable pub filter_in : Bool → List ℕ → ℕ → Result Found ReadError
filter_in graded bs at = onward (λ p. after_filter graded p.0 at p.1) (text_in TopicFilter is_topic_filter bs at)

-- one entry before the others
abbrev pub before : Entry → Result (List Entry) ReadError → Result (List Entry) ReadError
before e (Ok es) = Ok (e ∷ es)
before e (Err x) = Err x

-- filters up to the end of the packet, at most k: one too many is left over
abbrev pub filters_in : Bool → ℕ → List ℕ → ℕ → Result (List Entry) ReadError
filters_in graded zero [] at = Ok []
filters_in graded zero (b ∷ bs) at = bad End at
filters_in graded (suc k) [] at = Ok []
filters_in graded (suc k) (b ∷ bs) at =
    onward (λ x. before x.entry (filters_in graded k x.rest x.next)) (filter_in graded (b ∷ bs) at)

-- one filter to eight
abbrev pub some_filters : Bool → List ℕ → ℕ → Result (List Entry) ReadError
some_filters graded [] at = missing [] at
some_filters graded (b ∷ bs) at = filters_in graded 8 (b ∷ bs) at

-- the first filter of a part, and what the rest of the part holds
abbrev pub heading : (List ℕ → ℕ → List Entry) → Result Found ReadError → List Entry
heading others (Ok x) = x.entry ∷ others x.rest x.next
heading others (Err e) = []

-- the first n filters of a part
abbrev pub first_filters : Bool → ℕ → List ℕ → ℕ → List Entry
first_filters graded zero bs at = []
first_filters graded (suc n) bs at = heading (first_filters graded n) (filter_in graded bs at)

-- the filters that a part and a count stand for; none where the part would end beyond the last index
abbrev pub entries_of : Filters → List Entry
entries_of f = cond (nat_lt (f.place + length f.part.now) (2 ^ 64)) (first_filters f.with_qos f.count f.part.now f.place) []

-- the filter with an index, or none from the count on
abbrev pub nth : ℕ → List Entry → Option Entry
nth k [] = None
nth zero (e ∷ es) = Some e
nth (suc k) (e ∷ es) = nth k es

-- ---- answers of the code with the bytes in place of the borrowed parts

abbrev pub entry_of : Filter → Entry
entry_of f = record { filter = f.bytes.now; place = f.place; qos = f.qos }

abbrev pub maybe_entry : Option Filter → Option Entry
maybe_entry None = None
maybe_entry (Some f) = Some (entry_of f)

-- a filter, the bytes that follow it, and their place
abbrev pub found : List ℕ → ℕ → Result Filter ReadError → Result Found ReadError
found rest next (Ok f) = Ok (record { entry = entry_of f; rest = rest; next = next })
found rest next (Err e) = Err e

-- a number of filters stands for the first so many of the part
abbrev pub counted : Bool → List ℕ → ℕ → Result ℕ ReadError → Result (List Entry) ReadError
counted graded bs at (Ok n) = Ok (first_filters graded n bs at)
counted graded bs at (Err e) = Err e

-- a part and a count stand for their filters
abbrev pub told : Result Filters ReadError → Result (List Entry) ReadError
told (Ok f) = Ok (entries_of f)
told (Err e) = Err e
