-- Frames of bytes: a length in 4 bytes, low byte first, and that many bytes.
use Rattle.std.specs.Prelude.{ℕ, zero, suc, ◌+◌, ◌<◌, ◌^◌, ◌≡◌, Bool, true, false, ◌&&◌, List, [], ◌∷◌, ◌++◌, Option, None, Some, IfSome, MatchOption, ⊤, leb, length, take, drop}
use Rattle.std.specs.Io.KnownBytes.{Appends, Consumes}
use Rattle.base.specs.Bytes.{number_of}
use Rattle.base.specs.Choice.{pick}

-- no longer frame is read
abbrev pub longest_frame : ℕ
longest_frame = 65_536

abbrev pub frame_length : List ℕ → ℕ
frame_length bytes = number_of (take 4 bytes)

-- the bytes begin with a whole frame, of no more bytes than `most`
abbrev pub begins : ℕ → List ℕ → Bool
begins most bytes = leb (frame_length bytes) most && leb (4 + frame_length bytes) (length bytes)

abbrev pub first_frame : List ℕ → List ℕ
first_frame bytes = take (frame_length bytes) (drop 4 bytes)

abbrev pub after_frame : List ℕ → List ℕ
after_frame bytes = drop (frame_length bytes) (drop 4 bytes)

-- at most k frames of the bytes, up to the first that is cut short or too long
unfoldable pub frames_from : ℕ → List ℕ → List (List ℕ)
frames_from zero bytes = []
frames_from (suc k) bytes = pick (begins longest_frame bytes) (first_frame bytes ∷ frames_from k (after_frame bytes)) []

-- all: each has a byte at least
abbrev pub frames_in : List ℕ → List (List ℕ)
frames_in bytes = frames_from (length bytes) bytes

-- what is printed for frames, in their order
unfoldable pub printed : (List ℕ → List ℕ) → List (List ℕ) → List ℕ
printed print [] = []
printed print (frame ∷ frames) = print frame ++ printed print frames

-- ---- where the bytes of the reader and of the writer are known

-- those that are left begin with the frame, and lose it
abbrev pub Next : ℕ → Option (List ℕ) → Option (List ℕ) → List ℕ → Type 0
Next most None new frame = ⊤
Next most (Some bytes) new frame = (begins most bytes ≡ true) × (frame ≡ first_frame bytes) × (new ≡ Some (after_frame bytes))

-- those that are left do not begin with one
abbrev pub NoNext : ℕ → Option (List ℕ) → Type 0
NoNext most old = IfSome old (λ bytes. begins most bytes ≡ false)

-- those that were read do not
abbrev pub NotRead : ℕ → Option (List ℕ) → Option (List ℕ) → Type 0
NotRead most old new = IfSome old (λ _. (read : List ℕ) × Consumes old new read × (begins most read ≡ false))

-- what is printed for all frames of those that are left, fewer than 2 ^ 64, and nothing else, goes behind what the writer holds
abbrev pub AllAnswered : (List ℕ → List ℕ) → Option (List ℕ) → Option (List ℕ) → Option (List ℕ) → Type 0
AllAnswered print left old new = IfSome left (λ bytes. length bytes < 2 ^ 64 → Appends old new (printed print (frames_in bytes)))

-- for the frames of those that were read
abbrev pub ReadAnswered : (List ℕ → List ℕ) → Option (List ℕ) → Option (List ℕ) → Option (List ℕ) → Option (List ℕ) → Type 0
ReadAnswered print left rest old new = IfSome left (λ _. (read : List ℕ) × Consumes left rest read × Appends old new (printed print (frames_in read)))

-- for all, or where a read failed, with that error, for those that were read
abbrev pub Answers : {E : Type 0} → (List ℕ → List ℕ) → Option E → Option (List ℕ) → Option (List ℕ) → Option (List ℕ) → Option (List ℕ) → Type 0
Answers print failed left rest old new = MatchOption failed (AllAnswered print left old new) (λ _. ReadAnswered print left rest old new)
