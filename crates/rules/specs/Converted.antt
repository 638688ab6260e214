-- Files turned up and down (document 02, request 9), computed from these rules. The test card in the form with leaders is written byte for byte
-- from the documents.
use Rattle.std.specs.Prelude.{ℕ, ◌≡◌, refl, List, [], ◌∷◌, ◌++◌, map, take, drop, set, replicate}
use Rattle.rules.specs.Answers.{answer_of, accepting, Accepted, Refused}
use Rattle.rules.specs.Calls.{exported}
use Rattle.rules.specs.Conversions.{up_refusal, up_file, down_refusal, down_file, turned_into, up_of, down_of}
use Rattle.rules.specs.Marked.{card}
use Rattle.rules.specs.Results.{result_of}

-- kind 8, and a byte more in each of the two segments, the last
abbrev pub card_up : List ℕ
card_up =
    0x06 ∷ 0x00 ∷ 0x08 ∷ 0x00 ∷ 0x02 ∷ 0x02 ∷ 0x02 ∷ 0x01 ∷ 0x01 ∷ 0x01
    ∷ 0x04 ∷ 0x00 ∷ 0x02 ∷ 0x00 ∷ 0x82 ∷ 0x00 ∷ 0x00 ∷ 0x00
    ∷ 0x01 ∷ 0x00 ∷ 0x03 ∷ 0x00 ∷ 0x14
    ∷ 0x07 ∷ 0x00 ∷ 0x04 ∷ 0x00 ∷ 0xE8 ∷ 0x03 ∷ 0x00 ∷ 0x00 ∷ 0x05 ∷ 0x50 ∷ 0x28
    ∷ 0x07 ∷ 0x00 ∷ 0x04 ∷ 0x00 ∷ 0xB8 ∷ 0x0B ∷ 0x00 ∷ 0x00 ∷ 0x0F ∷ 0x5A ∷ 0x46
    ∷ 0x04 ∷ 0x00 ∷ 0x05 ∷ 0x00 ∷ 0x00 ∷ 0x00 ∷ 0x00 ∷ 0x00
    ∷ 0x0C ∷ 0x00 ∷ 0x06 ∷ 0x00 ∷ 0x01 ∷ 0x64 ∷ 0x00 ∷ 0x64 ∷ 0x00 ∷ 0x64 ∷ 0x00 ∷ 0x14 ∷ 0x00 ∷ 0x00 ∷ 0x05 ∷ 0x00
    ∷ 0x0C ∷ 0x00 ∷ 0x06 ∷ 0x00 ∷ 0x01 ∷ 0x64 ∷ 0x00 ∷ 0x64 ∷ 0x00 ∷ 0xC8 ∷ 0x00 ∷ 0x14 ∷ 0x00 ∷ 0x00 ∷ 0x0F ∷ 0x00
    ∷ 0x00 ∷ 0x00 ∷ 0x07 ∷ 0x00
    ∷ []

pub turned : up_file card ∷ down_file card_up ∷ [] ≡ card_up ∷ card ∷ []
unfolding result_of up_file down_file
turned = refl

-- the card; what is up already, as it is, cut off behind the first four bytes and within them, and with another length there; a byte that
-- follows
pub ups :
    map up_refusal (card ∷ card_up ∷ take 4 card_up ∷ take 3 card_up ∷ set card_up 0 7 ∷ (card ++ 0 ∷ []) ∷ [])
    ≡ 0 ∷ 2 ∷ 2 ∷ 1 ∷ 2 ∷ 5 ∷ []
unfolding result_of up_refusal
ups = refl

-- segment 2 has segment 1 as its leader
abbrev pub card_led : List ℕ
card_led = set card_up 84 1

-- the same with a third segment, which has none
abbrev pub card_once_more : List ℕ
card_once_more = set (take 85 card_led ++ set (drop 69 card_led) 15 0) 4 3

-- the card; what is down already, as it is and cut off; a leader, and the same where the last record has another kind, and where a byte follows; a
-- leader that is the segment itself; a leader between two segments that have none
pub downs :
    map down_refusal
    (card_up ∷ card ∷ take 4 card ∷ card_led ∷ set card_led 87 6 ∷ (card_led ++ 0 ∷ []) ∷ set card_led 84 2 ∷ card_once_more ∷ [])
    ≡ 0 ∷ 2 ∷ 2 ∷ 15 ∷ 2 ∷ 5 ∷ 4 ∷ 15 ∷ []
unfolding result_of down_refusal
downs = refl

-- a buffer with a byte to spare, and one that lacks a byte; what refuses the file comes before the room
pub rooms :
    up_of card (replicate 90 255) ∷ up_of card (replicate 88 255) ∷ up_of card_up [] ∷ down_of card_led [] ∷ []
    ≡ record { answer = Accepted 89; buffer = card_up ++ 255 ∷ [] }
    ∷ record { answer = Refused 9; buffer = replicate 88 255 }
    ∷ record { answer = Refused 2; buffer = [] }
    ∷ record { answer = Refused 15; buffer = [] }
    ∷ []
unfolding result_of up_refusal up_file down_refusal turned_into up_of down_of exported answer_of accepting
rooms = refl
