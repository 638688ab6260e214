-- Refusals in the order of document 01's table, what an edit alters, lists of calls with refused ones among them, and an export's buffer, computed.
use Rattle.std.specs.Prelude.{ℕ, ◌≡◌, refl, List, [], ◌∷◌, ◌++◌, map, take, set, replicate}
use Rattle.rules.specs.Calls.{bar_refusal, limit_refusal, rating_refusal, export_refusal, page_refusal, load_refusal, edited, district_in, export_of}
use Rattle.rules.specs.Lists.{Load, Alter, ExportTo, PageTo, Show, AskWhy, refusal_of}
use Rattle.rules.specs.declared.Edit.TheVariants.{Bar, Unbar, SetLimit, SetRating}
use Rattle.rules.specs.Results.{shown, holding, shows, why_in, result_of, WorkedCase, ◌⇒◌, Agree}
use Rattle.rules.specs.Marked.{card}
use Rattle.rules.specs.Writer.{file_of, district_of}
use Rattle.rules.specs.Written.{two_with, two_of_each}
use Rattle.rules.specs.declared.Unit.{Unit}
use Rattle.rules.specs.Answers.{refusal_number, Accepted}
use Rattle.rules.specs.declared.refusals.Refusal.{Refusal}
use Rattle.rules.specs.declared.refusals.Refusal.TheVariants.{CutShort, OtherKind, OtherLength, OutOfRange, BytesFollow, NoSuchSegment, NoSuchNumber, NewOutOfRange, BufferTooShort, NoSuchPoints, NoRoomForPage, NoReading, WindowEmpty, LeaderNotBelow, LeaderSet, NoSuchOffice, TablesInUse, WrongField, WrongLine, NoSuchConsole, QueueFull}

-- the numbers of all refusals
abbrev pub all_refusals : List Refusal
all_refusals =
    CutShort ∷ OtherKind ∷ OtherLength ∷ OutOfRange ∷ BytesFollow ∷ NoSuchSegment ∷ NoSuchNumber ∷ NewOutOfRange ∷ BufferTooShort ∷ NoSuchPoints
    ∷ NoRoomForPage ∷ NoReading ∷ WindowEmpty ∷ LeaderNotBelow ∷ LeaderSet ∷ NoSuchOffice ∷ TablesInUse ∷ WrongField ∷ WrongLine ∷ NoSuchConsole
    ∷ QueueFull ∷ []

pub numbers : map refusal_number all_refusals ≡ 1 ∷ 2 ∷ 3 ∷ 4 ∷ 5 ∷ 6 ∷ 7 ∷ 8 ∷ 9 ∷ 10 ∷ 11 ∷ 12 ∷ 13 ∷ 14 ∷ 15 ∷ 16 ∷ 17 ∷ 18 ∷ 19 ∷ 20 ∷ 21 ∷ []
numbers = refl

abbrev pub files : List (List ℕ)
files =
    -- the card
    card
    -- no byte, and 3 bytes
    ∷ []
    ∷ (take 3 card)
    -- a kind, and a kind and a length, that are not due
    ∷ (set card 2 2)
    ∷ (set (set card 0 7) 2 2)
    -- a length that is not required, where the file ends too
    ∷ (take 8 (set card 0 7))
    -- the end within a payload, before a number out of range
    ∷ (take 9 (set card 4 65))
    -- 65 segments, no strategy, greatest rating 51
    ∷ (set card 4 65)
    ∷ (set card 5 0)
    ∷ (set card 22 51)
    -- gains of −51 and 51
    ∷ (set card 31 205)
    ∷ (set card 31 51)
    -- a number that is no byte
    ∷ (set card 31 300)
    -- a bar past the strategies
    ∷ (set card 65 4)
    -- a rating above the greatest
    ∷ (set card 67 21)
    -- a byte after kind 7
    ∷ (card ++ 0 ∷ [])
    ∷ []

pub loads : map load_refusal files ≡ 0 ∷ 1 ∷ 1 ∷ 2 ∷ 2 ∷ 3 ∷ 1 ∷ 4 ∷ 4 ∷ 4 ∷ 4 ∷ 4 ∷ 4 ∷ 4 ∷ 4 ∷ 5 ∷ []
unfolding result_of
loads = refl

abbrev pub call_refusals : List ℕ → List ℕ
call_refusals d =
    -- segments 3 and 0, strategies 3 and 0; segment 3 with strategy 3
    bar_refusal d 3 1
    ∷ bar_refusal d 0 1
    ∷ bar_refusal d 2 3
    ∷ bar_refusal d 2 0
    ∷ bar_refusal d 3 3
    ∷ bar_refusal d 2 2
    -- resources 2 and 0, limit 1,000,000,000
    ∷ limit_refusal d 2 1_000_000_000
    ∷ limit_refusal d 0 1_000_000_000
    ∷ limit_refusal d 1 1_000_000_000
    ∷ limit_refusal d 1 999_999_999
    -- segments 3 and 0, distress types 2 and 0, rating 21
    ∷ rating_refusal d 3 2 21
    ∷ rating_refusal d 0 0 21
    ∷ rating_refusal d 2 2 21
    ∷ rating_refusal d 2 0 21
    ∷ rating_refusal d 2 1 21
    ∷ rating_refusal d 2 1 20
    -- a buffer that is one byte too short, for a file and for a page of five lines
    ∷ export_refusal d (take 86 card)
    ∷ export_refusal d card
    ∷ page_refusal d (replicate 404 0)
    ∷ page_refusal d (replicate 405 0)
    -- why, in a list of calls
    ∷ refusal_of d (AskWhy 3 1)
    ∷ refusal_of d (AskWhy 1 3)
    ∷ []

pub calls : call_refusals (district_in card) ≡ 6 ∷ 6 ∷ 7 ∷ 7 ∷ 6 ∷ 0 ∷ 7 ∷ 7 ∷ 8 ∷ 0 ∷ 6 ∷ 6 ∷ 7 ∷ 7 ∷ 8 ∷ 0 ∷ 9 ∷ 0 ∷ 11 ∷ 0 ∷ 6 ∷ 7 ∷ []
unfolding result_of
calls = refl

-- why is refused as a bar is
abbrev pub questions : Unit → List ℕ
questions u = why_in u 3 3 ++ why_in u 0 1 ++ why_in u 2 3 ++ why_in u 2 0

pub asked : questions (holding (district_in card)) ≡ 0 ∷ 6 ∷ 0 ∷ 6 ∷ 0 ∷ 7 ∷ 0 ∷ 7 ∷ []
unfolding result_of
asked = refl

-- ---- two segments, strategies, distress types and resources

-- a new rating, and one in a file, is compared with the greatest of its own distress type
abbrev pub ratings : List ℕ → List ℕ
ratings d =
    rating_refusal d 1 1 20 ∷ rating_refusal d 1 1 21 ∷ rating_refusal d 1 2 21 ∷ rating_refusal d 1 2 30 ∷ rating_refusal d 1 2 31 ∷ []

pub greatest :
    ratings (district_of two_of_each) ++ map load_refusal (map file_of (two_with 999 [] [] 30 ∷ two_with 999 [] [] 31 ∷ []))
    ≡ 0 ∷ 8 ∷ 0 ∷ 0 ∷ 8 ∷ 0 ∷ 4 ∷ []
unfolding result_of
greatest = refl

-- an edit alters the number that it names and no other: a bar more, a bar less, which leaves the other one, a limit, a rating
pub altered :
    map (edited (district_of (two_with 999 (1 ∷ 2 ∷ []) [] 12))) (Bar 2 1 ∷ Unbar 1 2 ∷ SetLimit 2 998 ∷ SetRating 1 2 13 ∷ [])
    ≡ map district_of
    (two_with 999 (1 ∷ 2 ∷ []) (1 ∷ []) 12
    ∷ two_with 999 (1 ∷ []) [] 12
    ∷ two_with 998 (1 ∷ 2 ∷ []) [] 12
    ∷ two_with 999 (1 ∷ 2 ∷ []) [] 13
    ∷ [])
unfolding result_of
altered = refl

-- ---- lists of calls, refused ones among them

abbrev pub lists : List WorkedCase
lists =
    -- refused calls in between, and what is barred and unbarred again; export, page, show and why
    shown (Load card ∷ Load [] ∷ Alter (Bar 3 1) ∷ Alter (SetLimit 2 0) ∷ Alter (SetLimit 1 1_000_000_000) ∷ Alter (SetRating 1 1 21) ∷ Alter (Unbar 1 3) ∷ Alter (Bar 2 2) ∷ Alter (Unbar 2 2) ∷ ExportTo [] ∷ PageTo [] ∷ Show ∷ AskWhy 3 1 ∷ AskWhy 1 1 ∷ [])
    ⇒ shows (2 ∷ 1 ∷ []) 8_250_000 8_250_000 8_438_555 1 0 0
    -- loaded again, unbarred what is not barred, and barred twice; nothing but refused calls
    ∷ shown (Load card ∷ Alter (SetLimit 1 0) ∷ Load card ∷ Alter (Unbar 1 1) ∷ Alter (Bar 2 2) ∷ Alter (Bar 2 2) ∷ [])
    ⇒ shows (2 ∷ 1 ∷ []) 8_250_000 8_250_000 8_250_000 0 0 0
    ∷ shown (Load [] ∷ Alter (Bar 1 1) ∷ []) ⇒ shows [] 0 0 0 0 0 0
    ∷ []

pub in_a_row : Agree lists
unfolding result_of
in_a_row = refl

-- three bytes are left over, and keep what they held
pub buffer : export_of (holding (district_in card)) (replicate 90 255) ≡ record { answer = Accepted 87; buffer = card ++ 255 ∷ 255 ∷ 255 ∷ [] }
unfolding result_of
buffer = refl
