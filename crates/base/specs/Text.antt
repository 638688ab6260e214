-- Text as bytes, and numbers in base ten.
use Rattle.std.specs.Prelude.{ℕ, zero, suc, ◌+◌, ◌-◌, ◌*◌, ◌/◌, ◌%◌, ◌^◌, ◌≤◌, List, [], ◌∷◌, ◌++◌, ◌≡◌, ltb, eqb, length, get_or, drop}
use Prim.Native.Char.{code}
use Prim.Native.String.{String, [] as []ˢ, ◌∷◌ as ◌∷ˢ◌}
use Rattle.std.specs.Prelude.{Option, None, Some}
use Rattle.base.specs.Choice.{pick, only}
use Rattle.base.specs.Over.{between}

-- the bytes of a text of plain letters
unfoldable pub text : String → List ℕ
text []ˢ = []
text (c ∷ˢ s) = code c ∷ text s

-- ---- parts of bytes

-- those before the first b, and those from it on
unfoldable pub up_to : ℕ → List ℕ → List ℕ
up_to b [] = []
up_to b (x ∷ xs) = pick (eqb x b) [] (x ∷ up_to b xs)

unfoldable pub on_from : ℕ → List ℕ → List ℕ
on_from b [] = []
on_from b (x ∷ xs) = pick (eqb x b) (x ∷ xs) (on_from b xs)

-- those behind all b in front
unfoldable pub skipped : ℕ → List ℕ → List ℕ
skipped b [] = []
skipped b (x ∷ xs) = pick (eqb x b) (skipped b xs) (x ∷ xs)

-- ---- numbers in base ten

-- the digits of n, from the first to the last, with no 0 in front; at most k of them
unfoldable pub digits_of : ℕ → ℕ → List ℕ
digits_of zero n = []
digits_of (suc k) n = pick (ltb n 10) ((48 + n) ∷ []) (digits_of k (n / 10) ++ ((48 + n % 10) ∷ []))

-- of a number of 64 bits
abbrev pub most_digits : ℕ
most_digits = 20

unfoldable pub decimal : ℕ → List ℕ
decimal n = digits_of most_digits n

-- what digits stand for, read from the first to the last, after v; nothing for another byte
unfoldable pub value_from : ℕ → List ℕ → Option ℕ
value_from v [] = Some v
value_from v (b ∷ bs) = pick (between 48 57 b) (value_from (v * 10 + (b - 48)) bs) None

-- digits that follow a number
unfoldable pub going_on : Option ℕ → List ℕ → Option ℕ
going_on None bs = None
going_on (Some v) bs = value_from v bs

-- a number where 64 bits hold it
unfoldable pub held : Option ℕ → Option ℕ
held None = None
held (Some v) = only (ltb v (2 ^ 64)) v

-- bs is the one way to write n in base ten: read back it is n; the first digit is no 0, but for the number 0, which is
-- that digit alone
pub record Writes (bs : List ℕ) (n : ℕ) : Type 0 where
  pub value : value_from 0 bs ≡ Some n
  pub first : 1 ≤ n → 49 ≤ get_or bs 0 0
  pub alone : n ≡ 0 → bs ≡ 48 ∷ []

-- bs is written over the front of a buffer that held `old` and then holds `new`; n counts the bytes
pub record Put (bs old new : List ℕ) (n : ℕ) : Type 0 where
  pub count : n ≡ length bs
  pub bytes : new ≡ bs ++ drop (length bs) old
