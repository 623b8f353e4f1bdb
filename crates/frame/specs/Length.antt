-- The remaining length.
use Rattle.std.specs.Prelude.{◌≡◌, ℕ, zero, suc, ◌+◌, ◌*◌, ◌/◌, ◌%◌, ◌^◌, ◌<◌, ◌≤◌, cond, List, [], ◌∷◌, ◌++◌, length, take, Some, None, Option, nat_lt}
use Rattle.frame.specs.declared.length.LengthBytes.{LengthBytes}

-- a byte that says that another follows, before the number that follows
abbrev pub before : ℕ → Option (ℕ × ℕ) → Option (ℕ × ℕ)
before b None = None
before b (Some p) = Some (b % 128 + 128 * p.0, p.1 + 1)

-- a number of at most k bytes and how many it took: seven bits in each byte, the lowest first, bit 7 says that another follows
abbrev pub length_within : ℕ → List ℕ → Option (ℕ × ℕ)
length_within zero bs = None
length_within (suc k) [] = None
length_within (suc k) (b ∷ bs) = cond (nat_lt b 128) (Some (b, 1)) (before b (length_within k bs))

-- the length at the front of some bytes has at most four of them
abbrev pub length_in : List ℕ → Option (ℕ × ℕ)
length_in bs = length_within 4 bs

-- the shortest form of a number, in at most k bytes
abbrev pub form_within : ℕ → ℕ → List ℕ
form_within zero n = []
form_within (suc k) n = cond (nat_lt n 128) (n ∷ []) ((128 + n % 128) ∷ form_within k (n / 128))

-- the shortest form of a number below 2^28
abbrev pub length_bytes : ℕ → List ℕ
length_bytes n = form_within 4 n

-- the bytes of a length as it is written
abbrev pub written : LengthBytes → List ℕ
written l = take l.count l.bytes

-- the shortest form of a number below 2^28, and none of any other
abbrev pub Writes : ℕ → Option LengthBytes → Type 0
Writes n None = 2 ^ 28 ≤ n
Writes n (Some l) = (n < 2 ^ 28) × (written l ≡ length_bytes n)

-- what is written of a number, whatever follows, reads back as that number with all its bytes taken
abbrev pub ReadsBack : Type 0
ReadsBack = (n : ℕ) (rest : List ℕ) → n < 2 ^ 28 → length_in (length_bytes n ++ rest) ≡ Some (n, length (length_bytes n))

-- no form of fewer bytes reads as that number
abbrev pub IsShortest : Type 0
IsShortest = (n k : ℕ) (bs : List ℕ) → length_in bs ≡ Some (n, k) → length (length_bytes n) ≤ k

pub record LengthLaw : Type 0 where
  pub reads_back : ReadsBack
  pub is_shortest : IsShortest
