-- The lines that the rig prints.
use Rattle.std.specs.Prelude.{ℕ, cond, List, [], ◌++◌, length, Ok, Err, codes, decimal, Result, ◌==◌}
use Rattle.store.specs.declared.kind.Kind.{Kind}
use Rattle.store.specs.declared.kind.Refusal.{Refusal}
use Rattle.store.specs.declared.kind.Refusal.TheVariants.{Bad, Gone, NoRoom}
use Rattle.store.specs.Disk.{Disk, good_key, put_answer, drop_answer}
use Rattle.store.specs.Kind.{kind_number}
use Rattle.lines.specs.Hex.{hex_text}

-- how a put or a drop ended
abbrev pub end_word : Result (Unit {0}) Refusal → List ℕ
end_word (Ok _) = codes "done"
end_word (Err Bad) = codes "bad"
end_word (Err Gone) = codes "gone"
end_word (Err NoRoom) = codes "no room"

-- the bytes of a row behind its length, nothing where there are none
abbrev pub row_word : List ℕ → List ℕ
row_word row = cond (length row == 0) [] (codes " " ++ hex_text row)

-- `load K N done LEN HEX`
abbrev pub loaded_text : Kind → ℕ → List ℕ → List ℕ
loaded_text k n row =
    codes "load " ++ (decimal (kind_number k) ++ (codes " " ++ (decimal n ++ (codes " done " ++ (decimal (length row) ++ (row_word row ++ codes "\n"))))))

-- the row that stands is told, or that the key is bad
abbrev pub load_text : Disk → Kind → ℕ → List ℕ
load_text d k n =
    cond (good_key d k n) (loaded_text k n (d.rows k n)) (codes "load " ++ (decimal (kind_number k) ++ (codes " " ++ (decimal n ++ codes " bad\n"))))

-- `put K N` and how it ended
abbrev pub put_text : Disk → Kind → ℕ → List ℕ → List ℕ
put_text d k n row =
    codes "put " ++ (decimal (kind_number k) ++ (codes " " ++ (decimal n ++ (codes " " ++ (end_word (put_answer d k n row) ++ codes "\n")))))

-- `drop K N` and how it ended
abbrev pub drop_text : Disk → Kind → ℕ → List ℕ
drop_text d k n =
    codes "drop " ++ (decimal (kind_number k) ++ (codes " " ++ (decimal n ++ (codes " " ++ (end_word (drop_answer d k n) ++ codes "\n")))))

-- `free N`
abbrev pub free_text : Disk → List ℕ
free_text d = codes "free " ++ (decimal d.free ++ codes "\n")

-- `limit K N`
abbrev pub limit_text : Disk → Kind → List ℕ
limit_text d k = codes "limit " ++ (decimal (kind_number k) ++ (codes " " ++ (decimal (d.limit k) ++ codes "\n")))
