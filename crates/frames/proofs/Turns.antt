-- One frame after another: what is printed for those so far, and those to come, is what is printed for all.
use Rattle.std.proofs.Common.{ℕ, zero, suc, ◌+◌, ◌-◌, ◌*◌, ◌≤◌, ◌<◌, ◌^◌, ◌≡◌, Bool, true, false, List, [], ◌∷◌, ◌++◌, Option, None, Some, IfSome, MatchOption, Bor, slice_index, length, length-drop, take, take_at, drop, drop_at, length-append, length-take-le, take-append-drop, refl, sym, ap, ◌∙◌, subst, append-nil, arith}
use mathlib.Core.List.{append_assoc}
use Rattle.std.specs.Bool.{MatchBool, then_some}
use borrow.Author.Tests.{leb-true}
use mathlib.Core.Bool.{and-false}
use lib.Dec.{leb}
use Rattle.std.specs.Io.KnownBytes.{Appends, Consumes}
use Rattle.std.proofs.KnownBytes.{Appends-nil, Appends-trans, Consumes-trans}
use Rattle.base.specs.Bytes.{number_of}
use Rattle.std.proofs.lemmas.Bool.{and_parts, le-leb, lt-leb}
use Rattle.base.proofs.Choice.{pick_yes, pick_no}
use Rattle.frames.specs.Frames.{longest_frame, frame_length, begins, first_frame, after_frame, frames_from, frames_in, printed, Next, NoNext, NotRead, AllAnswered, ReadAnswered}

-- ---- the frames of bytes

after_shorter : (most : ℕ) (bytes : List ℕ) → begins most bytes ≡ true → 4 + length (after_frame bytes) ≤ length bytes
after_shorter most bytes e =
    let n = frame_length bytes in
    let fits = leb-true (4 + n) (length bytes) (and_parts _ _ e).1 in
    omega (arith, fits, length-drop n (drop 4 bytes), length-drop 4 bytes)

from_none : (k : ℕ) (bytes : List ℕ) → begins longest_frame bytes ≡ false → frames_from k bytes ≡ []
unfolding frames_from
from_none zero bytes e = refl
from_none (suc k) bytes e = sym (pick_no _ _ _ _ e refl)

from_next : (k : ℕ) (bytes : List ℕ) → begins longest_frame bytes ≡ true → frames_from (suc k) bytes ≡ first_frame bytes ∷ frames_from k (after_frame bytes)
unfolding frames_from
from_next k bytes e = sym (pick_yes _ _ _ _ e refl)

short_none : (bytes : List ℕ) → length bytes < 4 → begins longest_frame bytes ≡ false
short_none bytes h = go (begins longest_frame bytes) refl
  where
    go : (t : Bool) → begins longest_frame bytes ≡ t → begins longest_frame bytes ≡ false
    go true e = absurd (omega (arith, after_shorter longest_frame bytes e))
    go false e = e

-- there are no more frames than bytes
from_more : (k m : ℕ) (bytes : List ℕ) → length bytes ≤ k → length bytes ≤ m → frames_from k bytes ≡ frames_from m bytes
from_more zero m bytes a b = from_none zero bytes (short_none bytes (omega arith)) ∙ sym (from_none m bytes (short_none bytes (omega arith)))
from_more (suc k) zero bytes a b = from_none (suc k) bytes (short_none bytes (omega arith)) ∙ sym (from_none zero bytes (short_none bytes (omega arith)))
from_more (suc k) (suc m) bytes a b =
    go (begins longest_frame bytes) refl (λ e. let h = after_shorter longest_frame bytes e in from_more k m (after_frame bytes) (omega arith) (omega arith))
  where
    go : (t : Bool) → begins longest_frame bytes ≡ t → (begins longest_frame bytes ≡ true → frames_from k (after_frame bytes) ≡ frames_from m (after_frame bytes)) → frames_from (suc k) bytes ≡ frames_from (suc m) bytes
    go true e same = from_next k bytes e ∙ ap (λ (l : List (List ℕ)). first_frame bytes ∷ l) (same e) ∙ sym (from_next m bytes e)
    go false e same = from_none (suc k) bytes e ∙ sym (from_none (suc m) bytes e)

next_frame : (bytes : List ℕ) → begins longest_frame bytes ≡ true → frames_in bytes ≡ first_frame bytes ∷ frames_in (after_frame bytes)
next_frame bytes e =
    let h = after_shorter longest_frame bytes e in
    let k = length bytes - 1 in
    let n : length bytes ≡ suc k = omega arith in
    ap (λ (m : ℕ). frames_from m bytes) n ∙ from_next k bytes e ∙ ap (λ (l : List (List ℕ)). first_frame bytes ∷ l) (from_more k (length (after_frame bytes)) (after_frame bytes) (omega arith) (omega arith))

-- ---- where the bytes are known

printed_more : (print : List ℕ → List ℕ) (frames : List (List ℕ)) (frame : List ℕ) → printed print (frames ++ frame ∷ []) ≡ printed print frames ++ print frame
unfolding printed
printed_more print [] frame = append-nil (print frame)
printed_more print (first ∷ frames) frame = ap (λ (l : List ℕ). print first ++ l) (printed_more print frames frame) ∙ sym (append_assoc (print first) (printed print frames) (print frame))

-- the number of a length's bytes, as `from_le_bytes` has it
pub of_four : (head : List ℕ) → length head ≡ 4 → number_of head ≡ slice_index head 0 + slice_index head 1 * 256 + slice_index head 2 * 65_536 + slice_index head 3 * 16_777_216
of_four [] h = absurd (omega arith)
of_four (a ∷ []) h = absurd (omega arith)
of_four (a ∷ b ∷ []) h = absurd (omega arith)
of_four (a ∷ b ∷ c ∷ []) h = absurd (omega arith)
of_four (a ∷ b ∷ c ∷ d ∷ []) h = omega arith
of_four (a ∷ b ∷ c ∷ d ∷ e ∷ rest) h = absurd (omega arith)

-- a frame of which a byte is missing is none
missing : (most : ℕ) (head read : List ℕ) → length head ≡ 4 → length read < number_of head → begins most (head ++ read) ≡ false
missing most head read h n =
    let short : leb (4 + number_of head) (length (head ++ read)) ≡ false = lt-leb _ _ (omega (arith, length-append head read)) in
    rw (take_at head read 4 h, short) (and-false (leb (number_of head) most))

-- a frame in front of any bytes
module _ (most : ℕ) (head frame more : List ℕ) (h : length head ≡ 4) (n : length frame ≡ number_of head) (fits : number_of head ≤ most) where
  begun : (begins most (head ++ (frame ++ more)) ≡ true) × (frame ≡ first_frame (head ++ (frame ++ more))) × (more ≡ after_frame (head ++ (frame ++ more)))
  begun =
      let bytes = head ++ (frame ++ more) in
      let t : take 4 bytes ≡ head = take_at head (frame ++ more) 4 h in
      let d : drop 4 bytes ≡ frame ++ more = drop_at head (frame ++ more) 4 h in
      let long : 4 + number_of head ≤ length bytes = omega (arith, length-append head (frame ++ more), length-append frame more) in
      (rw (t, le-leb _ _ fits, le-leb _ _ long) refl, rw (t, d) (sym (take_at frame more (number_of head) n)), rw (t, d) (sym (drop_at frame more (number_of head) n)))

framed : (head frame more : List ℕ) → length head ≡ 4 → length frame ≡ number_of head → number_of head ≤ longest_frame → frames_in (head ++ (frame ++ more)) ≡ frame ∷ frames_in more
framed head frame more h n fits =
    let b = begun longest_frame head frame more h n fits in
    let bytes = head ++ (frame ++ more) in
    next_frame bytes b.0 ∙ ap (λ (l : List ℕ). l ∷ frames_in (after_frame bytes)) (sym b.1) ∙ ap (λ (l : List ℕ). frame ∷ frames_in l) (sym b.2)

-- what is said of a frame whose length was read, by whether all its bytes could be
module _ (most : ℕ) (old mid new : Option (List ℕ)) (head : List ℕ) (frame : Bor (List ℕ)) (size : ℕ) (h : length head ≡ 4) (n : size ≡ number_of head) (whole : length frame.now ≡ size) (fits : size ≤ most) (a : Consumes old mid head) where
  next_read : (o m e : Option (List ℕ)) → Consumes o m head → Consumes m e frame.now → Next most o e frame.now
  next_read None m e p q = tt
  next_read (Some x) None e p q = absurd p
  next_read (Some x) (Some y) None p q = absurd q
  next_read (Some x) (Some y) (Some z) p q =
      let b = begun most head frame.now z h (whole ∙ n) (omega (arith, n, fits)) in
      rw (p, q) (b.0, b.1, ap Some b.2)

  no_next : (o m : Option (List ℕ)) → Consumes o m head → IfSome m (λ bytes. length bytes < size) → NoNext most o
  no_next None m p q = tt
  no_next (Some x) None p q = absurd p
  no_next (Some x) (Some y) p q = rw p (missing most head y h (omega (arith, n, q)))

  pub told : (b : Bool) → MatchBool b (Consumes mid new frame.now) (IfSome mid (λ bytes. length bytes < size)) → MatchOption (then_some b frame) (NoNext most old) (λ f. Next most old new f.now)
  told true q = next_read old mid new a q
  told false q = no_next old mid a q

-- where the rest of its bytes could not be read
pub not_read : (most : ℕ) (old mid new : Option (List ℕ)) (head read : List ℕ) → length head ≡ 4 → length read < number_of head → Consumes old mid head → Consumes mid new read → NotRead most old new
not_read most None mid new head read h n a b = tt
not_read most (Some bytes) mid new head read h n a b = (head ++ read, Consumes-trans (Some bytes) mid new head read a b, missing most head read h n)

-- after `turns` frames: whatever follows those that were read, their frames come first
pub record Going (print : List ℕ → List ℕ) (turns : ℕ) (bytes : List ℕ) (now old new : Option (List ℕ)) : Type 0 where
  pub rest : List ℕ
  pub left : now ≡ Some rest
  pub read : List ℕ
  pub split : bytes ≡ read ++ rest
  pub written : Appends old new (printed print (frames_in read))
  pub whole : (more : List ℕ) → frames_in (read ++ more) ≡ frames_in read ++ frames_in more
  pub shorter : turns + length rest ≤ length bytes

pub start : (print : List ℕ → List ℕ) (left old : Option (List ℕ)) → IfSome left (λ bytes. Going print 0 bytes left old old)
unfolding printed frames_from
start print None old = tt
start print (Some bytes) old = record { rest = bytes; left = refl; read = []; split = refl; written = Appends-nil old; whole = λ more. refl; shorter = omega arith }

module _ (print : List ℕ → List ℕ) (turns : ℕ) (bytes : List ℕ) (now old new : Option (List ℕ)) (g : Going print turns bytes now old new) where
  one_more : (next newer : Option (List ℕ)) (frame : List ℕ) → Next longest_frame now next frame → Appends new newer (print frame) → Going print (turns + 1) bytes next old newer
  unfolding frames_from
  one_more next newer frame n w =
      let f = rw g.left at n in
      let rest = after_frame g.rest in
      let parts = and_parts (leb (frame_length g.rest) longest_frame) (leb (4 + frame_length g.rest) (length g.rest)) f.0 in
      let fits = leb-true (frame_length g.rest) longest_frame parts.0 in
      let long = leb-true (4 + frame_length g.rest) (length g.rest) parts.1 in
      let head = take 4 g.rest in
      let four : length head ≡ 4 = length-take-le 4 g.rest (omega arith) in
      let size : length frame ≡ frame_length g.rest = ap length f.1 ∙ length-take-le (frame_length g.rest) (drop 4 g.rest) (omega (arith, length-drop 4 g.rest)) in
      let taken = head ++ frame in
      let parted : taken ++ rest ≡ g.rest =
      append_assoc head frame rest
      ∙ ap (λ (l : List ℕ). head ++ (l ++ rest)) f.1
      ∙ ap (λ (l : List ℕ). head ++ l) (take-append-drop (frame_length g.rest) (drop 4 g.rest))
      ∙ take-append-drop 4 g.rest in
      let follows : (more : List ℕ) → frames_in (taken ++ more) ≡ frame ∷ frames_in more = λ more. ap frames_in (append_assoc head frame more) ∙ framed head frame more four size fits in
      let alone : frames_in taken ≡ frame ∷ [] = ap frames_in (sym (append-nil taken)) ∙ follows [] in
      let both : frames_in (g.read ++ taken) ≡ frames_in g.read ++ frame ∷ [] = g.whole taken ∙ ap (λ (fs : List (List ℕ)). frames_in g.read ++ fs) alone in
      record {
        rest = rest;
        left = f.2;
        read = g.read ++ taken;
        split = g.split ∙ ap (λ (l : List ℕ). g.read ++ l) (sym parted) ∙ sym (append_assoc g.read taken rest);
        written = subst (Appends old newer) (sym (ap (printed print) both ∙ printed_more print (frames_in g.read) frame)) (Appends-trans old new newer (printed print (frames_in g.read)) (print frame) g.written w);
        whole = λ more.
            ap frames_in (append_assoc g.read taken more)
            ∙ g.whole (taken ++ more)
            ∙ ap (λ (fs : List (List ℕ)). frames_in g.read ++ fs) (follows more)
            ∙ sym (ap (λ (fs : List (List ℕ)). fs ++ frames_in more) both ∙ append_assoc (frames_in g.read) (frame ∷ []) (frames_in more));
        shorter = omega (arith, g.shorter, after_shorter longest_frame g.rest f.0);
      }

  -- what is behind them has no frame
  none_behind : (more : List ℕ) → begins longest_frame more ≡ false → Appends old new (printed print (frames_in (g.read ++ more)))
  none_behind more e =
      let both : frames_in (g.read ++ more) ≡ frames_in g.read = g.whole more ∙ ap (λ (fs : List (List ℕ)). frames_in g.read ++ fs) (from_none (length more) more e) ∙ append-nil (frames_in g.read) in
      subst (λ (fs : List (List ℕ)). Appends old new (printed print fs)) (sym both) g.written

  all_answered : begins longest_frame g.rest ≡ false → Appends old new (printed print (frames_in bytes))
  all_answered e = subst (λ (bs : List ℕ). Appends old new (printed print (frames_in bs))) (sym g.split) (none_behind g.rest e)

  read_answered : (last : Option (List ℕ)) → NotRead longest_frame now last → ReadAnswered print (Some bytes) last old new
  read_answered last n =
      let k = rw g.left at n in
      (g.read ++ k.0, Consumes-trans (Some bytes) (Some g.rest) last g.read k.0 g.split k.1, none_behind k.0 k.2)

module _ (print : List ℕ → List ℕ) (turns : ℕ) (now old new : Option (List ℕ)) where
  pub step : (left : Option (List ℕ)) → IfSome left (λ bytes. Going print turns bytes now old new) → (next newer : Option (List ℕ)) (frame : List ℕ) → Next longest_frame now next frame → Appends new newer (print frame) → IfSome left (λ bytes. Going print (turns + 1) bytes next old newer)
  step None g next newer frame n w = tt
  step (Some bytes) g next newer frame n w = one_more print turns bytes now old new g next newer frame n w

  -- where there is no next frame
  pub ended : (left : Option (List ℕ)) → IfSome left (λ bytes. Going print turns bytes now old new) → NoNext longest_frame now → AllAnswered print left old new
  ended None g n = tt
  ended (Some bytes) g n = λ _. all_answered print turns bytes now old new g (rw g.left at n)

  -- where a read failed
  pub failed : (left last : Option (List ℕ)) → IfSome left (λ bytes. Going print turns bytes now old new) → NotRead longest_frame now last → ReadAnswered print left last old new
  failed None last g n = tt
  failed (Some bytes) last g n = read_answered print turns bytes now old new g last n

  -- after as many frames as the loop has turns
  pub run_out : (left : Option (List ℕ)) → IfSome left (λ bytes. Going print turns bytes now old new) → 2 ^ 64 - 1 ≤ turns → AllAnswered print left old new
  run_out None g h = tt
  run_out (Some bytes) g h = λ l. all_answered print turns bytes now old new g (short_none g.rest (omega (arith, g.shorter)))
