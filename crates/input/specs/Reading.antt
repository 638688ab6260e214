-- What programs do with what they read, where the bytes of the reader and of the writer are known.
use Rattle.std.specs.Prelude.{ℕ, ◌≡◌, ◌≤◌, List, length, take, Option, IfSome}
use Rattle.std.specs.Io.KnownBytes.{Appends}

-- no more is read of a file
abbrev pub most_read : ℕ
most_read = 4096

-- the first n bytes are within the list
abbrev pub IsPrefixLen : ℕ → List ℕ → Type 0
IsPrefixLen n bytes = (n ≤ length bytes) × (n ≡ length (take n bytes))

-- of the bytes that are left for the reader no more than the first `most` count; what is printed for those, and nothing
-- else, goes behind what the writer holds
abbrev pub Prints : (List ℕ → List ℕ) → ℕ → Option (List ℕ) → Option (List ℕ) → Option (List ℕ) → Type 0
Prints print most left old new = IfSome left (λ bytes. Appends old new (print (take most bytes)))
