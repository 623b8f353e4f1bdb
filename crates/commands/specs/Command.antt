-- The commands of the service tool.
use Rattle.std.specs.Prelude.{ℕ, Ok, Err, Result, Bool, cond, not, ◌&&◌, List, length, codes, ◌==◌}
use Rattle.std.specs.Str.{bytes_eq}
use Rattle.lines.specs.Words.{skip_blanks, word_in, after_word}
use Rattle.commands.specs.declared.command.Command.{Command}
use Rattle.commands.specs.declared.command.NotUnderstood.{NotUnderstood}
use Rattle.commands.specs.declared.command.Command.TheVariants.{Nothing, Types, Dissect, Match}

-- what a line asks for
pub data Asked : Type 0 where
  nothing : Asked
  types : Asked
  dissect : List ℕ → Asked
  matching : List ℕ → List ℕ → Asked
  unknown : Asked

-- a command with the bytes in place of the borrowed words
abbrev pub asked : Command → Asked
asked Nothing = nothing
asked Types = types
asked (Dissect hex) = dissect hex.now
asked (Match filter topic) = matching filter.now topic.now

-- a line that is not understood asks for what is unknown
abbrev pub asked_of : Result Command NotUnderstood → Asked
asked_of (Ok c) = asked c
asked_of (Err e) = unknown

-- the first word of a line, and what follows
abbrev pub word : List ℕ → List ℕ
word line = word_in (skip_blanks line)

abbrev pub after : List ℕ → List ℕ
after line = after_word (skip_blanks line)

abbrev pub none : List ℕ → Bool
none bs = length bs == 0

-- a name and the words behind it
abbrev pub named : List ℕ → List ℕ → List ℕ → List ℕ → Asked
named name first second third =
    cond (none name) nothing
    (cond (none first && bytes_eq name (codes "types")) types
    (cond (not (none first) && (none second && bytes_eq name (codes "dissect"))) (dissect first)
    (cond (not (none second) && (none third && bytes_eq name (codes "match"))) (matching first second) unknown)))

-- the command that a line is
unfoldable pub command_in : List ℕ → Asked
command_in line = named (word line) (word (after line)) (word (after (after line))) (word (after (after (after line))))
