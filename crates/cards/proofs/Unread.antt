-- Laws of what is not read: a deck without it says the same.
use Prim.Native.Nat.{ℕ, zero, suc, ◌+◌, ◌-◌, ◌*◌, ◌≤◌, ◌<◌}
use mathlib.Core.List.{List}
use mathlib.Core.Path.{◌≡◌, refl, ap, ap₂, ◌∙◌}
use native.Mathlib.Omega.{arith}
use lib.ListN.{take, drop}
use lib.Seq.{take-take}
use Rattle.std.proofs.lemmas.List.{drop-take}
use Rattle.rules.specs.Answers.{or_later, first_refusal}
use Rattle.rules.specs.Deck.{per_line, line_at, title_refusal, counts_refusal, counts_in, segment_refusal, segment_in, deck_refusal, deck_bytes}
use Rattle.rules.specs.District.{segments_of}

line_kept : (deck : List ℕ) (n k : ℕ) → k < n + 2 → line_at (take (deck_bytes n) deck) k ≡ line_at deck k
unfolding line_at
line_kept deck n k h =
    let at = k * (per_line + 1) in
    let rest = deck_bytes n - at in
    let room : deck_bytes n ≡ at + rest = omega arith in
    ap (λ (m : ℕ). take (per_line + 1) (drop at (take m deck))) room
    ∙ ap (take (per_line + 1)) (drop-take at rest deck)
    ∙ take-take (per_line + 1) rest (drop at deck) (omega arith)

first_alike : (n : ℕ) (f g : ℕ → ℕ) → ((i : ℕ) → i ≤ n → f i ≡ g i) → first_refusal n f ≡ first_refusal n g
unfolding first_refusal
first_alike zero f g h = refl
first_alike (suc n) f g h = ap₂ or_later (first_alike n f g (λ i l. h i (omega arith))) (h (suc n) (omega arith))

module _ (deck : List ℕ) (n : ℕ) where
  pub counts_kept : counts_in (take (deck_bytes n) deck) ≡ counts_in deck
  unfolding counts_in
  counts_kept = rw (line_kept deck n 1 (omega arith))

  pub segment_kept : (i : ℕ) → i ≤ n → segment_in (take (deck_bytes n) deck) i ≡ segment_in deck i
  unfolding segment_in
  segment_kept i h = rw (counts_kept, line_kept deck n (i + 1) (omega arith))

  refusal_kept : (i : ℕ) → i ≤ n → segment_refusal (take (deck_bytes n) deck) i ≡ segment_refusal deck i
  unfolding segment_refusal
  refusal_kept i h = rw (counts_kept, line_kept deck n (i + 1) (omega arith))

  title_kept : title_refusal (take (deck_bytes n) deck) ≡ title_refusal deck
  unfolding title_refusal
  title_kept = rw (line_kept deck n 0 (omega arith))

  counts_refusal_kept : counts_refusal (take (deck_bytes n) deck) ≡ counts_refusal deck
  unfolding counts_refusal
  counts_refusal_kept = rw (line_kept deck n 1 (omega arith))

  pub deck_kept : segments_of (counts_in deck) ≤ n → deck_refusal (take (deck_bytes n) deck) ≡ deck_refusal deck
  unfolding deck_refusal
  deck_kept h =
      let segments = first_alike (segments_of (counts_in deck)) (segment_refusal (take (deck_bytes n) deck)) (segment_refusal deck) (λ i l. refusal_kept i (omega arith)) in
      rw (title_kept, counts_refusal_kept, counts_kept, segments)
