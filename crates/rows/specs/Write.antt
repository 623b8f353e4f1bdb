-- Rows written into a buffer.
use Rattle.std.specs.Prelude.{◌≡◌, ℕ, ◌<◌, List, ◌++◌, length, drop, Ok, Err, Result}
use Rattle.std.specs.Borrow.{Bor}
use Rattle.std.specs.List.{flat_map}
use Rattle.rows.specs.declared.write.Unwritten.{Unwritten}
use Rattle.rows.specs.declared.write.Unwritten.TheVariants.{Unlawful, Full, Absent, Over, Short}

-- the pieces one after the other
abbrev pub pieced : List (Bor (List ℕ)) → List ℕ
pieced ps = flat_map (λ p. p.now) ps

-- what was to be written, or why not, against the answer and the buffer before and after:
-- the bytes stand at the buffer's start and the rest stays, or the buffer is too small for them and stays, or it stays for that reason
abbrev pub Written : Result (List ℕ) Unwritten → Result ℕ Unwritten → List ℕ → List ℕ → Type 0
Written (Ok bs) (Ok n) d e = (n ≡ length bs) × (e ≡ bs ++ drop n d)
Written (Ok bs) (Err Unlawful) d e = ⊥
Written (Ok bs) (Err Full) d e = ⊥
Written (Ok bs) (Err Absent) d e = ⊥
Written (Ok bs) (Err Over) d e = ⊥
Written (Ok bs) (Err Short) d e = (length d < length bs) × (e ≡ d)
Written (Err why) r d e = (r ≡ Err why) × (e ≡ d)
