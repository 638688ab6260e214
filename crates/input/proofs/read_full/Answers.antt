-- `input::read_full` meets its contract: what one more read puts behind the front is what it consumed.
use Rattle.std.proofs.Common.{◌≡◌, ℕ, ◌+◌, ◌-◌, ◌≤◌, List, ◌++◌, rules, arith, length, take, slice_range, sym, ap, ◌∙◌, subst, le_refl, append-nil, drop_at, length-take-le}
use Rattle.std.proofs.lemmas.Slice.{take-put_mid_below}
use Rattle.std.specs.Io.KnownBytes.{Consumes}
use Rattle.std.proofs.KnownBytes.{Consumes-trans, Consumes-kept}
use borrow.Rule.Slice.PartMut.{put_mid, post_of}
use lib.Seq.{take-add, take-append-le}
use Rattle.input.proofs.Front.{front}
use Rattle.input.proofs.read_full.Goals as goal

-- what is read goes behind what stands at the front
front_kept : (n : ℕ) (xs ys : List ℕ) → n ≤ length xs → take n (put_mid n (length xs - n) xs ys) ≡ take n xs
front_kept n xs ys h = take-put_mid_below n (length xs - n) xs ys n (le_refl n) h

take_split : (a b : ℕ) (old new : List ℕ) → a ≤ b → take a new ≡ take a old → take a old ++ slice_range new a b ≡ take b new
take_split a b old new h front =
    let same : a + (b - a) ≡ b = omega arith in
    ap (λ l. l ++ slice_range new a b) (sym front) ∙ sym (take-add a (b - a) new) ∙ ap (λ n. take n new) same

slice_range-put_mid : (a k n : ℕ) (xs ys : List ℕ) → a ≤ length xs → n ≤ length ys → slice_range (put_mid a k xs ys) a (a + n) ≡ take n ys
slice_range-put_mid a k n xs ys within fits =
    let same : (a + n) - a ≡ n = omega arith in
    let after = post_of a k xs in
    ap (take ((a + n) - a)) (drop_at (take a xs) (ys ++ after) a (length-take-le a xs within)) ∙ ap (λ m. take m (ys ++ after)) same ∙ take-append-le n ys after fits

pub loop-done-preserved : goal.loop-done-preserved
loop-done-preserved g c =
    let from = c.loop-done.done in
    let n = c.in-Ok.n in
    let room = length c.loop-done.space - from in
    let within = c.loop-done.invariant.1 in
    let part = slice_range-put_mid from room n c.loop-done.space c.read.new.buf within c.in-Ok.ensures.bound.0 in
    let joined = take_split from (from + n) c.loop-done.space (put_mid from room c.loop-done.space c.read.new.buf) (omega arith) (front_kept from c.loop-done.space c.read.new.buf within) in
    (search rules, search rules, subst (Consumes _ _) (ap (λ l. take from c.loop-done.space ++ l) (sym part) ∙ joined) (Consumes-trans _ _ _ _ _ c.loop-done.invariant.2 c.in-Ok.ensures.bytes.0))

-- a read that fails, or takes nothing, leaves that as it is
pub returns-in-Err-clause-failed : goal.returns-in-Err-clause-failed
returns-in-Err-clause-failed g c =
    let l = c.loop-done in
    (l.done, omega arith, rw (front_kept l.done l.space c.read.new.buf l.invariant.1) (Consumes-kept _ _ _ _ l.invariant.2 c.in-Err.ensures.bytes))

pub returns-in-Ok-eq0-clause-bytes : goal.returns-in-Ok-eq0-clause-bytes
returns-in-Ok-eq0-clause-bytes g c =
    let l = c.loop-done in
    let none = rw c.in-Ok-eq0.field-0-test at c.in-Ok-eq0.ensures.bytes.0 in
    rw (front_kept l.done l.space c.read.new.buf l.invariant.1) (subst (Consumes _ _) (append-nil _) (Consumes-trans _ _ _ _ _ l.invariant.2 none))

pub returns-in-Ok-eq0-clause-front : goal.returns-in-Ok-eq0-clause-front
returns-in-Ok-eq0-clause-front g c =
    let l = c.loop-done in
    let size = ap length (front_kept l.done l.space c.read.new.buf l.invariant.1) ∙ length-take-le l.done l.space l.invariant.1 in
    front _ _ _ _ (omega (arith, size)) (returns-in-Ok-eq0-clause-bytes g c) (λ _. c.in-Ok-eq0.ensures.bytes.1 c.in-Ok-eq0.field-0-test (omega arith))

-- there is no room left
pub returns-clause-front : goal.returns-clause-front
returns-clause-front g c =
    let l = c.loop-done in
    let full = length-take-le l.done l.space l.invariant.1 in
    front _ _ _ _ (omega (arith, full)) l.invariant.2 (λ h. absurd (omega (arith, full, h)))
