-- The answer to a line.
use Rattle.std.specs.Prelude.{◌≡◌, ℕ, cond, ◌⊎◌, List, [], ◌++◌, Some, None, codes, Option, ◌≢◌}
use Rattle.packets.specs.Reads.{reads}
use Rattle.lines.specs.Escape.{Bytes, escaped}
use Rattle.lines.specs.Hex.{hex_in}
use Rattle.topics.specs.Matching.{takes}
use Rattle.topics.specs.Names.{is_topic_filter, is_topic_name}
use Rattle.commands.specs.Command.{Asked, nothing, types, dissect, matching, unknown, command_in}
use Rattle.commands.specs.Dissect.{dissect_text}
use Rattle.commands.specs.Types.{types_text}

-- `? ` and the line as escaped text
abbrev pub not_understood : List ℕ → List ℕ
not_understood line = codes "? " ++ (escaped line ++ codes "\n")

-- what the bytes are, if the word writes any
abbrev pub dissect_answer : Option (List ℕ) → List ℕ → List ℕ
dissect_answer None line = not_understood line
dissect_answer (Some bytes) line = dissect_text (reads bytes)

-- whether a filter takes a topic; the filter is judged first
abbrev pub verdict : List ℕ → List ℕ → List ℕ
verdict filter topic =
    cond (is_topic_filter filter) (cond (is_topic_name topic) (cond (takes filter topic) (codes "yes\n") (codes "no\n")) (codes "bad topic\n")) (codes "bad filter\n")

-- a word is the escaped text of no bytes
abbrev pub NoText : List ℕ → Type 0
NoText word = (bytes : List ℕ) → Bytes bytes → escaped bytes ≢ word

-- the verdict on the filter and the topic of which the two words are the escaped texts
pub record MatchAnswer (filter topic line text : List ℕ) : Type 0 where
  pub judged : (f t : List ℕ) → Bytes f → Bytes t → escaped f ≡ filter → escaped t ≡ topic → text ≡ verdict f t
  pub other : NoText filter ⊎ NoText topic → text ≡ not_understood line

-- the answer to what a line asks for
abbrev pub AnswerOf : Asked → List ℕ → List ℕ → Type 0
AnswerOf nothing line text = text ≡ []
AnswerOf types line text = text ≡ types_text 256
AnswerOf (dissect hex) line text = text ≡ dissect_answer (hex_in hex) line
AnswerOf (matching filter topic) line text = MatchAnswer filter topic line text
AnswerOf unknown line text = text ≡ not_understood line

-- a text is the answer to a line
unfoldable pub Answers : List ℕ → List ℕ → Type 0
Answers line text = AnswerOf (command_in line) line text
