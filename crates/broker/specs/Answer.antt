-- What a call answers.
use Rattle.std.specs.Prelude.{ℕ, List, [], ◌∷◌, Ok, Err, Result}
use Rattle.frame.specs.Field.{field_number}
use Rattle.store.specs.Kind.{kind_number}
use Rattle.store.specs.declared.kind.Refusal.{Refusal as StoreRefusal}
use Rattle.store.specs.declared.kind.Refusal.TheVariants.{Bad, Gone, NoRoom as Crowded}
use Rattle.broker.specs.declared.answer.Refusal.{Refusal}
use Rattle.broker.specs.declared.answer.Refusal.TheVariants.{Down, NoSuchLink, WrongState, TooFewNumbers, BadRow, BadPacket, WrongPacket, RepliesFull, NoRoom, ShortBuffer, StoreGone}

-- done with a number, or refused
abbrev pub Answer : Type 0
Answer = Result ℕ Refusal

-- the number of each refusal
abbrev pub refusal_number : Refusal → ℕ
refusal_number NoSuchLink = 1
refusal_number WrongState = 2
refusal_number (BadPacket f) = 3
refusal_number WrongPacket = 4
refusal_number RepliesFull = 5
refusal_number NoRoom = 6
refusal_number (ShortBuffer needed) = 8
refusal_number StoreGone = 9
refusal_number Down = 10
refusal_number (BadRow kind number) = 11
refusal_number TooFewNumbers = 13

-- an answer by its number, 0 for done, and its values: the number that a done call answers,
-- field and place, the length needed, kind and number
pub record Told : Type 0 where
  pub number : ℕ
  pub values : List ℕ

-- the values of each refusal
abbrev pub refusal_values : Refusal → List ℕ
refusal_values NoSuchLink = []
refusal_values WrongState = []
refusal_values (BadPacket f) = field_number f.field ∷ f.place ∷ []
refusal_values WrongPacket = []
refusal_values RepliesFull = []
refusal_values NoRoom = []
refusal_values (ShortBuffer needed) = needed ∷ []
refusal_values StoreGone = []
refusal_values Down = []
refusal_values (BadRow kind number) = kind_number kind ∷ number ∷ []
refusal_values TooFewNumbers = []

-- each answer with its number and values
abbrev pub told : Answer → Told
told (Ok n) = record { number = 0; values = n ∷ [] }
told (Err r) = record { number = refusal_number r; values = refusal_values r }

-- a write that the store does not take, for whatever reason, is the store gone
abbrev pub from_store : StoreRefusal → Refusal
from_store Bad = StoreGone
from_store Gone = StoreGone
from_store Crowded = StoreGone
