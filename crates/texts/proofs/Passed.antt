-- Lines one after another, those without words passed over.
use Rattle.std.proofs.Common.{ℕ, ◌+◌, ◌≤◌, ◌≡◌, Bool, true, false, List, [], ◌∷◌, length, Option, None, Some, MatchOption, refl, ap, ◌∙◌, arith}
use Rattle.std.specs.Option.{is_some}
use Rattle.texts.specs.Words.{Word, Words, Line, kept, onto, parts, is_line_feed, lines_in, words_of, lines_from}

-- ---- a line

module _ (n : ℕ) (bs line rest : List ℕ) (e : parts is_line_feed bs ≡ line ∷ parts is_line_feed rest) where
  pub one_more : lines_in bs ≡ lines_in rest + 1
  unfolding lines_in
  one_more = ap length e ∙ omega arith

  pub first_line : lines_from n (parts is_line_feed bs) ≡ kept n (words_of line) (lines_from (n + 1) (parts is_line_feed rest))
  unfolding lines_from
  first_line = rw e refl

-- none
module _ (n : ℕ) (bs : List ℕ) (e : parts is_line_feed bs ≡ []) where
  pub none_left : lines_from n (parts is_line_feed bs) ≡ []
  unfolding lines_from
  none_left = rw e refl

  pub none_more : lines_in bs ≡ 0
  unfolding lines_in
  none_more = rw e refl

-- ---- whether it has words

module _ {A : Type 0} (word : A → Word) (rest : A → Words) (n : ℕ) (ls : List Line) where
  pub line_kept : (first : Option A) (ws : Words) → MatchOption first (ws ≡ []) (λ r. ws ≡ word r ∷ rest r) → is_some first ≡ true
      → kept n ws ls ≡ record { number = n; words = ws } ∷ ls
  line_kept None ws h t = cc
  line_kept (Some r) ws h t = rw h refl

  pub passed_over : (first : Option A) (ws : Words) → MatchOption first (ws ≡ []) (λ r. ws ≡ word r ∷ rest r) → is_some first ≡ false
      → kept n ws ls ≡ ls
  passed_over None ws h t = rw h refl
  passed_over (Some r) ws h t = cc

-- ---- how many lines there are

onto_few : (t : Bool) (b : ℕ) (ps : List (List ℕ)) → length (onto t b ps) ≤ length ps + 1
onto_few true b ps = omega arith
onto_few false b [] = omega arith
onto_few false b (p ∷ ps) = omega arith

parts_few : (m : ℕ → Bool) (bs : List ℕ) → length (parts m bs) ≤ length bs
unfolding parts
parts_few m [] = omega arith
parts_few m (b ∷ bs) = omega (arith, onto_few (m b) b (parts m bs), parts_few m bs)

-- each has a byte
pub lines_few : (bs : List ℕ) → lines_in bs ≤ length bs
unfolding lines_in
lines_few bs = parts_few is_line_feed bs
