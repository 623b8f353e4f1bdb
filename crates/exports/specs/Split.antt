-- A packet's parts as numbers.
use Rattle.std.specs.Prelude.{length, Ok, Err, Result}
use Rattle.frame.specs.declared.field.BadField.{BadField}
use Rattle.frame.specs.Field.{field_number}
use Rattle.frame.specs.FirstByte.{number_of}
use Rattle.frame.specs.Parts.{Told}
use Rattle.exports.specs.declared.split.SplitOutcome.{SplitOutcome}

-- the type's number, the flags, the body's place and length; a bad field has type 0, its own number and its place
abbrev pub outcome : Result Told BadField → SplitOutcome
outcome (Ok p) = record { packet_type = number_of p.type_is; flags = p.flags; field = 0; place = p.place; length = length p.body }
outcome (Err e) = record { packet_type = 0; flags = 0; field = field_number e.field; place = e.place; length = 0 }
