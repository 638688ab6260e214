-- The parts that marks divide, one after another: lines, and words.
use Rattle.std.proofs.Common.{ℕ, suc, ◌+◌, ◌≤◌, ◌≡◌, Bool, true, false, cond, not, List, [], ◌∷◌, length, take, drop, refl, sym, ap, ◌∙◌, eqb, arith}
use Rattle.std.specs.List.{position_or_len}
use Rattle.base.specs.Choice.{pick}
use Rattle.base.specs.Text.{up_to, on_from}
use Rattle.texts.specs.Words.{onto, parts, is_line_feed, is_blank, not_empty, words_in}

-- ---- parts

module _ (m : ℕ → Bool) where
  -- a byte more in front of bytes whose first part is known
  before : (b : ℕ) (bs : List ℕ) (k : ℕ) → parts m bs ≡ take k bs ∷ parts m (drop (suc k) bs)
      → (t : Bool) → onto t b (parts m bs) ≡ take (cond (not t) (1 + k) 0) (b ∷ bs) ∷ parts m (drop (cond (not t) (1 + k) 0) bs)
  before b bs k e true = refl
  before b bs k e false = let s : 1 + k ≡ suc k = omega arith in rw (e, s)

  alone : (b : ℕ) (t : Bool) → onto t b [] ≡ take (cond (not t) (1 + 0) 0) (b ∷ []) ∷ parts m (drop (cond (not t) (1 + 0) 0) [])
  unfolding parts
  alone b true = refl
  alone b false = refl

  -- the bytes before the first mark are a part, and those behind it have the others
  first_part : (b : ℕ) (bs : List ℕ) → parts m (b ∷ bs) ≡ take (position_or_len m (b ∷ bs)) (b ∷ bs) ∷ parts m (drop (suc (position_or_len m (b ∷ bs))) (b ∷ bs))
  unfolding parts
  first_part b [] = alone b (m b)
  first_part b (c ∷ cs) = before b (c ∷ cs) (position_or_len m (c ∷ cs)) (first_part c cs) (m b)

  marked : (b : ℕ) (bs : List ℕ) → m b ≡ true → parts m (b ∷ bs) ≡ [] ∷ parts m bs
  unfolding parts
  marked b bs e = rw e

  at_mark : (b : ℕ) (bs : List ℕ) (k : ℕ) → not_empty (parts m (drop k bs)) ≡ not_empty (parts m (drop (suc k) bs))
      → (t : Bool) → m b ≡ t → not_empty (parts m (drop (cond (not t) (1 + k) 0) (b ∷ bs))) ≡ not_empty (parts m (drop (cond (not t) (1 + k) 0) bs))
  unfolding not_empty
  at_mark b bs k h true e = ap not_empty (marked b bs e)
  at_mark b bs k h false e = let s : 1 + k ≡ suc k = omega arith in rw s h

  -- a mark in front leaves out an empty part
  mark_dropped : (bs : List ℕ) → not_empty (parts m (drop (position_or_len m bs) bs)) ≡ not_empty (parts m (drop (suc (position_or_len m bs)) bs))
  mark_dropped [] = refl
  mark_dropped (b ∷ bs) = at_mark b bs (position_or_len m bs) (mark_dropped bs) (m b) refl

  opened : (b : ℕ) (bs : List ℕ) (n k : ℕ) → n ≡ suc k → (ps : List (List ℕ)) → not_empty (take n (b ∷ bs) ∷ ps) ≡ take n (b ∷ bs) ∷ not_empty ps
  unfolding not_empty
  opened b bs n k e ps = rw e refl

  -- what bytes that do not begin with a mark have first, and what follows that
  abbrev parted : List ℕ → List (List ℕ)
  parted bs = take (position_or_len m bs) bs ∷ not_empty (parts m (drop (position_or_len m bs) bs))

  first_word : (b : ℕ) (bs : List ℕ) → m b ≡ false → not_empty (parts m (b ∷ bs)) ≡ parted (b ∷ bs)
  first_word b bs e =
      let n : ℕ = position_or_len m (b ∷ bs) in
      let k : ℕ = position_or_len m bs in
      let s : 1 + k ≡ suc k = omega arith in
      let long : n ≡ suc k = rw e s in
      ap not_empty (first_part b bs) ∙ opened b bs n k long (parts m (drop (suc n) (b ∷ bs))) ∙ ap (λ ws. take n (b ∷ bs) ∷ ws) (sym (mark_dropped (b ∷ bs)))

  -- what follows the marks in front
  abbrev behind : List ℕ → List ℕ
  behind bs = drop (position_or_len (λ b. not (m b)) bs) bs

  word_from : (b : ℕ) (bs : List ℕ) (k : ℕ) → (1 ≤ length (drop k bs) → not_empty (parts m bs) ≡ parted (drop k bs))
      → (t : Bool) → m b ≡ t → 1 ≤ length (drop (cond (not (not t)) (1 + k) 0) (b ∷ bs)) → not_empty (parts m (b ∷ bs)) ≡ parted (drop (cond (not (not t)) (1 + k) 0) (b ∷ bs))
  unfolding not_empty
  word_from b bs k ih true e h = let s : 1 + k ≡ suc k = omega arith in ap not_empty (marked b bs e) ∙ (rw s (ih (rw s at h)))
  word_from b bs k ih false e h = first_word b bs e

  pub word : (bs : List ℕ) → 1 ≤ length (behind bs) → not_empty (parts m bs) ≡ parted (behind bs)
  word [] h = absurd (omega arith)
  word (b ∷ bs) h = word_from b bs (position_or_len (λ b. not (m b)) bs) (word bs) (m b) refl h

  none_from : (b : ℕ) (bs : List ℕ) (k : ℕ) → (length (drop k bs) ≡ 0 → not_empty (parts m bs) ≡ [])
      → (t : Bool) → m b ≡ t → length (drop (cond (not (not t)) (1 + k) 0) (b ∷ bs)) ≡ 0 → not_empty (parts m (b ∷ bs)) ≡ []
  unfolding not_empty
  none_from b bs k ih true e h = let s : 1 + k ≡ suc k = omega arith in ap not_empty (marked b bs e) ∙ ih (rw s at h)
  none_from b bs k ih false e h = absurd (omega arith)

  pub no_word : (bs : List ℕ) → length (behind bs) ≡ 0 → not_empty (parts m bs) ≡ []
  unfolding parts not_empty
  no_word [] h = refl
  no_word (b ∷ bs) h = none_from b bs (position_or_len (λ b. not (m b)) bs) (no_word bs) (m b) refl h

-- ---- lines

line_alone : (b : ℕ) (t : Bool) → onto t b [] ≡ pick t [] (b ∷ []) ∷ parts is_line_feed (drop 1 (pick t (b ∷ []) []))
unfolding parts
line_alone b true = refl
line_alone b false = refl

line_before : (b : ℕ) (bs : List ℕ) → parts is_line_feed bs ≡ up_to 10 bs ∷ parts is_line_feed (drop 1 (on_from 10 bs))
    → (t : Bool) → onto t b (parts is_line_feed bs) ≡ pick t [] (b ∷ up_to 10 bs) ∷ parts is_line_feed (drop 1 (pick t (b ∷ bs) (on_from 10 bs)))
line_before b bs e true = refl
line_before b bs e false = rw e refl

pub line : (b : ℕ) (bs : List ℕ) → parts is_line_feed (b ∷ bs) ≡ up_to 10 (b ∷ bs) ∷ parts is_line_feed (drop 1 (on_from 10 (b ∷ bs)))
unfolding parts up_to on_from
line b [] = line_alone b (eqb b 10)
line b (c ∷ cs) = line_before b (c ∷ cs) (line c cs) (eqb b 10)

-- ---- as the code meets them

pub next_word : (bs rest : List ℕ) (i n : ℕ) → i ≡ position_or_len (λ b. not (is_blank b)) bs → rest ≡ drop i bs → n ≡ position_or_len is_blank rest
    → 1 ≤ length rest → words_in bs ≡ take n rest ∷ words_in (drop n rest)
unfolding words_in
next_word bs rest i n a e p h =
    let t : rest ≡ behind is_blank bs = e ∙ ap (λ k. drop k bs) a in
    word is_blank bs (rw t at h) ∙ ap (λ r. parted is_blank r) (sym t) ∙ ap (λ k. take k rest ∷ not_empty (parts is_blank (drop k rest))) (sym p)

pub last_word : (bs rest : List ℕ) (i : ℕ) → i ≡ position_or_len (λ b. not (is_blank b)) bs → rest ≡ drop i bs → length rest ≡ 0 → words_in bs ≡ []
unfolding words_in
last_word bs rest i a e h = let t : rest ≡ behind is_blank bs = e ∙ ap (λ k. drop k bs) a in no_word is_blank bs (rw t at h)

pub no_line : (bs : List ℕ) → length bs ≡ 0 → parts is_line_feed bs ≡ []
unfolding parts
no_line [] h = refl
no_line (b ∷ bs) h = absurd (omega arith)

pub next_line : (bs : List ℕ) → ¬ (length bs ≡ 0) → parts is_line_feed bs ≡ up_to 10 bs ∷ parts is_line_feed (drop 1 (on_from 10 bs))
next_line [] h = absurd (h refl)
next_line (b ∷ bs) h = line b bs
