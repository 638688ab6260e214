-- A window goes on holding what was heard, with every record.
use Rattle.std.proofs.Common.{◌≡◌, ℕ, zero, suc, ◌+◌, ◌-◌, ◌*◌, ◌%◌, ◌<◌, ◌≤◌, min, true, false, List, [], ◌∷◌, length, get_or, take, set, replicate, refl, ◌∙◌, subst, mod-lt, arith, length-set, length-take, get_or-set_other, get_or-set_same}
use lib.ListN.{length-replicate, get_or-replicate}
use lib.Ieee.{Float, nan, binary32, add, sub, of_bits}
use Rattle.rules.specs.Answers.{no_reading, answer_of, accepting, Accepted, Refused}
use Rattle.rules.specs.Meter.{Heard, is_reading, reading_of, sent_refusal, heard_with, hearing, heard_from, sum_of}
use Rattle.rules.specs.declared.Sent.{Sent}
use Rattle.rules.specs.declared.Sent.TheVariants.{Index, Marker, Lost}
use Rattle.meter.specs.Window.{record_of, bits_of, 0f, Counts, Holds, Stepped, Follows, After}
use Rattle.meter.specs.declared.Record.TheVariants.{Index as Record-as-Index, Marker as Record-as-Marker, Lost as Record-as-Lost}
use Rattle.meter.specs.declared.Window.{Window}
use Rattle.meter.proofs.Exact.{add_exact, sub_exact}

-- ---- sums of the first of a list

sum_last : (n : ℕ) (l : List ℕ) → sum_of (take (suc n) l) ≡ sum_of (take n l) + get_or l n 0
unfolding sum_of
sum_last zero [] = refl
sum_last (suc n) [] = refl
sum_last zero (x ∷ l) = omega arith
sum_last (suc n) (x ∷ l) = let h = sum_last n l in omega arith

pub sum_most : (n : ℕ) (l : List ℕ) → ((i : ℕ) → get_or l i 0 < 8192) → sum_of (take n l) ≤ n * 8191
unfolding sum_of
sum_most zero l h = omega arith
sum_most (suc n) [] h = omega arith
sum_most (suc n) (x ∷ l) h = let q = sum_most n l (λ i. h (suc i)) in let r = h 0 in omega arith

-- the last of 64 drops out for a new one
sum_front : (v : ℕ) (l : List ℕ) → sum_of (take 64 (v ∷ l)) ≡ v + sum_of (take 63 l)
unfolding sum_of
sum_front v l = refl

-- ---- a marker, and a reading

pub empty_holds : (m : Float) (h : Heard) (bits : ℕ) → m ≡ of_bits binary32 bits
    → Holds (record { readings = replicate 64 0f; sum = 0f; count = 0; next = 0; marker = m; bits = bits }) (heard_with h (Marker bits))
unfolding heard_with sum_of
empty_holds m h bits e =
    record {
      readings = λ i l. rw (get_or-replicate 64 ((0 + 63 - i) % 64) 0f nan (mod-lt (0 + 63 - i) (omega arith))) (refl, refl);
      sum = (refl, refl);
      count = refl;
      marker = e;
      bits = refl;
      places = length-replicate 64 0f;
      below = λ i. omega arith;
    }

module _ (w v : Window) (x : Float) (h : Heard) (bits : ℕ) (H : Holds w h) (c : Counts x (reading_of bits)) (k : reading_of bits < 8192) where
  pub put_holds :
      v.readings ≡ set w.readings (w.next % 64) x
      → v.sum ≡ add binary32 (sub binary32 w.sum (get_or w.readings (w.next % 64) nan)) x
      → v.count ≡ min 64 (w.count + 1)
      → v.next ≡ w.next % 64 + 1
      → v.marker ≡ w.marker
      → v.bits ≡ w.bits
      → Holds v (heard_with h (Index bits))
  unfolding heard_with
  put_holds readings-are sum_is_lem count-is next_is marker-is bits_are =
      record {
        readings = rw (readings-are, next_is) each;
        sum = rw sum_is_lem total;
        count = count-is ∙ more;
        marker = marker-is ∙ H.marker;
        bits = bits_are ∙ H.bits;
        places = rw readings-are (length-set w.readings (w.next % 64) x ∙ H.places);
        below = small;
      }
    where
      small : (i : ℕ) → get_or (reading_of bits ∷ h.readings) i 0 < 8192
      small zero = k
      small (suc i) = H.below i

      more : min 64 (w.count + 1) ≡ length (take 64 (reading_of bits ∷ h.readings))
      more =
          let q = H.count in
          let a = length-take 64 h.readings in
          let b = length-take 63 h.readings in
          omega arith

      each : (i : ℕ) → i < 64
          → Counts (get_or (set w.readings (w.next % 64) x) ((w.next % 64 + 1 + 63 - i) % 64) nan) (get_or (reading_of bits ∷ h.readings) i 0)
      each zero b =
          let p : (w.next % 64 + 1 + 63 - 0) % 64 ≡ w.next % 64 = omega arith in
          let m : w.next % 64 < length w.readings = let q = H.places in omega arith in
          rw (p, get_or-set_same w.readings (w.next % 64) x nan m) c
      each (suc i) b =
          let p : (w.next % 64 + 1 + 63 - suc i) % 64 ≡ (w.next + 63 - i) % 64 = omega arith in
          rw (p, get_or-set_other w.readings (w.next % 64) ((w.next + 63 - i) % 64) x nan (λ e. omega arith)) (H.readings i (omega arith))

      total : Counts (add binary32 (sub binary32 w.sum (get_or w.readings (w.next % 64) nan)) x) (sum_of (take 64 (reading_of bits ∷ h.readings)))
      total =
          let old = get_or w.readings (w.next % 64) nan in
          let last = get_or h.readings 63 0 in
          let s = sum_last 63 h.readings in
          let f = sum_front (reading_of bits) h.readings in
          let room = sum_most 64 h.readings H.below in
          let place : (w.next + 63 - 63) % 64 ≡ w.next % 64 = omega arith in
          let o : Counts old last = rw place at (H.readings 63 (omega arith)) in
          let e : sum_of (take 64 h.readings) - last + reading_of bits ≡ sum_of (take 64 (reading_of bits ∷ h.readings)) = omega arith in
          subst (λ (z : ℕ). Counts (add binary32 (sub binary32 w.sum old) x) z) e
          (add_exact (sub binary32 w.sum old) x (sum_of (take 64 h.readings) - last) (reading_of bits) (omega arith)
          (sub_exact w.sum old (sum_of (take 64 h.readings)) last (omega arith) (omega arith) H.sum o)
          c)

-- ---- a step

-- a reading that is taken
pub taken_follows : (w v : Window) (bits : ℕ) → sent_refusal (Index bits) ≡ 0 → ((h : Heard) → Holds w h → Holds v (heard_with h (Index bits)))
    → Follows w (Index bits) (record { answer = Accepted 0; window = v })
unfolding hearing answer_of accepting
taken_follows w v bits e f =
    record {
      answer = rw e;
      refused = λ n g. cc;
      lost = λ g. cc;
      marked = λ b g. cc;
      holds = λ h H. rw e (f h H);
    }

pub refused_follows : (w : Window) (bits : ℕ) → is_reading bits ≡ false → Follows w (Index bits) (record { answer = Refused no_reading; window = w })
unfolding sent_refusal hearing answer_of accepting
refused_follows w bits e =
    record {
      answer = rw e;
      refused = λ n g. refl;
      lost = λ g. refl;
      marked = λ b g. cc;
      holds = λ h H. rw e H;
    }

pub index_refusal : (bits : ℕ) → is_reading bits ≡ true → sent_refusal (Index bits) ≡ 0
unfolding sent_refusal
index_refusal bits e = rw e

marked_follows : (w v : Window) (bits : ℕ) → ((h : Heard) → Holds v (heard_with h (Marker bits)))
    → Follows w (Marker bits) (record { answer = Accepted 0; window = v })
unfolding sent_refusal hearing heard_with answer_of accepting
marked_follows w v bits f =
    record {
      answer = refl;
      refused = λ n g. absurd (omega (arith, g));
      lost = λ g. cc;
      marked = λ b g. let z : bits ≡ b = cc in rw (← z) (f (record { readings = []; marker = 0 }));
      holds = λ h H. f h;
    }

-- which record is meant by each case
pub index_of : (w : Window) (x : Float) (r : Stepped) → ((bits : ℕ) → x ≡ of_bits binary32 bits → Follows w (Index bits) r)
    → (s : Sent) → Record-as-Index x ≡ record_of s → Follows w s r
unfolding record_of
index_of w x r f (Index bits) e = f bits (cc)
index_of w x r f (Marker bits) e = cc
index_of w x r f Lost e = cc

pub marker_of : (w v : Window) (x : Float) (bits : ℕ) → ((h : Heard) → x ≡ of_bits binary32 bits → Holds v (heard_with h (Marker bits)))
    → (s : Sent) → Record-as-Marker x ≡ record_of s → bits ≡ bits_of s → Follows w s (record { answer = Accepted 0; window = v })
unfolding record_of bits_of sent_refusal
marker_of w v x bits f (Index b) e g = cc
marker_of w v x bits f (Marker b) e g = rw (← g) (marked_follows w v bits (λ h. f h (cc)))
marker_of w v x bits f Lost e g = cc

pub lost_of : (w : Window) (s : Sent) → Record-as-Lost ≡ record_of s → Follows w s (record { answer = Accepted 0; window = w })
unfolding record_of heard_with sent_refusal hearing answer_of accepting
lost_of w (Index b) e = cc
lost_of w (Marker b) e = cc
lost_of w Lost e =
    record {
      answer = refl;
      refused = λ n g. refl;
      lost = λ g. refl;
      marked = λ b g. cc;
      holds = λ h H. H;
    }

-- ---- a run of records

pub run_holds : (w : Window) (h : Heard) (ss : List Sent) → Holds w h → After w ss (λ v. Holds v (heard_from h ss))
unfolding After heard_from
run_holds w h [] H = H
run_holds w h (s ∷ ss) H = λ r f. run_holds r.window (hearing h s) ss (f.holds h H)
