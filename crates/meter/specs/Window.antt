-- What the window's floats stand for: the readings of rules, specs/Meter.antt, in whole 1024ths.
use Rattle.std.specs.Prelude.{◌≡◌, ℕ, suc, ◌+◌, ◌-◌, ◌%◌, ◌<◌, false, List, [], ◌∷◌, length, pos, Result, from_bits, slice_index, slice_index_or, Float}
use Rattle.std.specs.Float.{nan, fin, binary32}
use Rattle.std.specs.Float.Ieee.{eq}
use Rattle.std.specs.Float.Ieee.Exact.{HasValue}
use Rattle.base.specs.Choice.{pick}
use Rattle.rules.specs.Answers.{Answer, answer_of, answer_in}
use Rattle.rules.specs.Meter.{Heard, sent_refusal, hearing, window_size, window_of, sum_of}
use Rattle.rules.specs.declared.refusals.Refusal.{Refusal}
use Rattle.rules.specs.declared.Sent.{Sent}
use Rattle.rules.specs.declared.Sent.TheVariants.{Index, Marker, Lost}
use Rattle.meter.specs.declared.Record.{Record}
use Rattle.meter.specs.declared.Record.TheVariants.{Index as Record-as-Index, Marker as Record-as-Marker, Lost as Record-as-Lost}
use Rattle.meter.specs.declared.Window.{Window}

-- ---- a record's float, and its bits

unfoldable pub record_of : Sent → Record
record_of (Index bits) = Record-as-Index (from_bits binary32 bits)
record_of (Marker bits) = Record-as-Marker (from_bits binary32 bits)
record_of Lost = Record-as-Lost

unfoldable pub bits_of : Sent → ℕ
bits_of (Index bits) = bits
bits_of (Marker bits) = bits
bits_of Lost = 0

-- ---- a window

abbrev pub 0f : Float
0f = fin false 0 (pos 0)

unfoldable pub unsigned : Float → Float
unsigned x = pick (eq x 0f) 0f x

-- the float is exactly so many 1024ths, and not negative
abbrev pub Counts : Float → ℕ → Type 0
Counts x k = HasValue x false k 1024

-- the window holds what was heard
pub record Holds (w : Window) (h : Heard) : Type 0 where
  -- the last 64 readings, from the last one backwards round the ring, and 0 where there were fewer;
  pub readings : (i : ℕ) → i < window_size → Counts (slice_index_or w.readings ((w.next + 63 - i) % window_size) nan) (slice_index h.readings i)
  -- their exact sum, and how many they are;
  pub sum : Counts w.sum (sum_of (window_of h))
  pub count : w.count ≡ length (window_of h)
  -- the last marker, and its bits as they came
  pub marker : w.marker ≡ from_bits binary32 h.marker
  pub bits : w.bits ≡ h.marker
  -- and the ring has 64 places, and each reading is below 8, so that no sum has more digits than a float
  pub places : length w.readings ≡ window_size
  pub below : (i : ℕ) → slice_index h.readings i < 8192

-- ---- what a record does to a window

-- an answer and the window as the record leaves it
pub record Stepped : Type 0 where
  pub answer : Answer
  pub window : Window

abbrev pub stepped : Result ℕ Refusal → Window → Stepped
stepped r w = record { answer = answer_in r; window = w }

pub record Follows (w : Window) (s : Sent) (r : Stepped) : Type 0 where
  pub answer : r.answer ≡ answer_of (sent_refusal s) 0
  -- where it is refused or lost, the very window is left, whatever it holds;
  pub refused : (n : ℕ) → sent_refusal s ≡ suc n → r.window ≡ w
  pub lost : s ≡ Lost → r.window ≡ w
  -- after a marker no reading is held, whatever the window held before;
  pub marked : (bits : ℕ) → s ≡ Marker bits → Holds r.window (record { readings = []; marker = bits })
  -- and a window that holds what was heard holds this record too
  pub holds : (h : Heard) → Holds w h → Holds r.window (hearing h s)

-- whatever windows a run of records goes through, the last one is as P says
unfoldable pub After : Window → List Sent → (Window → Type 0) → Type 0
After w [] P = P w
After w (s ∷ ss) P = (r : Stepped) → Follows w s r → After r.window ss P
