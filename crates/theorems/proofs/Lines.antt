-- A row of plain texts makes a line of 80 characters and a line feed, whatever the texts, and rows make a page of such lines.
use Prim.Native.Nat.{ℕ, zero, suc, ◌+◌, ◌-◌, ◌*◌, ◌<◌}
use mathlib.Core.Path.{◌≡◌, refl, sym, ap, ◌∙◌}
use mathlib.Core.List.{List, [], ◌∷◌, ◌++◌, append_assoc}
use native.Mathlib.Omega.{arith}
use lib.Dec.{leb}
use lib.ListN.{length, get_or, replicate, length-append, get_or-append}
use lib.Seq.{get_or-append-add, get_or-append_seam}
use Rattle.base.specs.Text.{text}
use Rattle.base.proofs.Choice.{pick_all}
use Rattle.base.proofs.Each.{Each, each_cons, each_append, each_replicate, each_at}
use Rattle.rules.specs.Page.{widths, right_aligned, line, lines}
use Rattle.laws.proofs.Page.{line_length, lines_length}
use Rattle.theorems.specs.Columns.{Character, Lines}

abbrev pub Plain : List ℕ → Type 0
Plain bs = Each Character 32 bs

-- each text of a row, and of each row
abbrev pub PlainRow : List (List ℕ) → Type 0
PlainRow row = Each Plain [] row

abbrev pub PlainRows : List (List (List ℕ)) → Type 0
PlainRows rs = Each PlainRow [] rs

pub blank : Character 32
blank = (omega arith, omega arith)

aligned_plain : (w : ℕ) (bs : List ℕ) → Plain bs → Plain (right_aligned w bs)
unfolding right_aligned
aligned_plain w bs h =
    pick_all Plain (leb (length bs) w) (replicate (w - length bs) 32 ++ bs) (replicate w 42)
    (each_append Character 32 (replicate (w - length bs) 32) bs (each_replicate Character 32 (w - length bs) 32 blank blank) h)
    (each_replicate Character 32 w 42 blank (omega arith, omega arith))

-- characters, and a line feed behind them
record Ended (bs : List ℕ) : Type 0 where
  body : List ℕ
  plain : Plain body
  whole : bs ≡ body ++ (10 ∷ [])

ended_more : (w : ℕ) (bs rest : List ℕ) → Plain bs → Ended rest → Ended (right_aligned w bs ++ (text " " ++ rest))
unfolding text
ended_more w bs rest h e =
    record {
      body = right_aligned w bs ++ (text " " ++ e.body);
      plain =
          each_append Character 32 (right_aligned w bs) (32 ∷ e.body) (aligned_plain w bs h)
          (each_cons Character 32 32 e.body blank e.plain);
      whole =
          ap (λ (l : List ℕ). right_aligned w bs ++ (32 ∷ l)) e.whole
          ∙ sym (append_assoc (right_aligned w bs) (32 ∷ e.body) (10 ∷ []));
    }

line_ended : (ws : List ℕ) (row : List (List ℕ)) → PlainRow row → Ended (line ws row)
unfolding line text
line_ended [] row h =
    record { body = replicate 9 32; plain = each_replicate Character 32 9 32 blank blank; whole = refl }
line_ended (w ∷ ws) [] h = ended_more w [] (line ws []) (h 0) (line_ended ws [] (λ n. h (suc n)))
line_ended (w ∷ ws) (bs ∷ row) h = ended_more w bs (line ws row) (h 0) (line_ended ws row (λ n. h (suc n)))

module _ (row : List (List ℕ)) (plain : PlainRow row) (rest : List ℕ) where
  end : Ended (line widths row)
  end = line_ended widths row plain

  body_length : length end.body ≡ 80
  body_length = omega (arith, line_length row, ap length end.whole, length-append end.body (10 ∷ []))

  split : line widths row ++ rest ≡ end.body ++ (10 ∷ rest)
  split = ap (λ (l : List ℕ). l ++ rest) end.whole ∙ append_assoc end.body (10 ∷ []) rest

  line_character : (m : ℕ) → m < 80 → Character (get_or (line widths row ++ rest) m 0)
  line_character m h =
      rw (split, get_or-append end.body (10 ∷ rest) 0 m (omega (arith, body_length)))
      (each_at Character 32 end.body 0 end.plain m (omega (arith, body_length)))

  line_feed_lem : get_or (line widths row ++ rest) 80 0 ≡ 10
  line_feed_lem = rw (split, ← body_length) (get_or-append_seam end.body 10 rest 0)

  line_later : (n : ℕ) → get_or (line widths row ++ rest) (81 + n) 0 ≡ get_or rest n 0
  line_later n = rw (← line_length row) (get_or-append-add (line widths row) rest n 0)

module _ (P : ℕ → Type 0) (m : ℕ) where
  -- what holds at one place of each line
  each_line :
      (rs : List (List (List ℕ))) → ((row : List (List ℕ)) (rest : List ℕ) → PlainRow row → P (get_or (line widths row ++ rest) m 0))
      → PlainRows rs → (k : ℕ) → k < length rs → P (get_or (lines rs) (k * 81 + m) 0)
  unfolding lines
  each_line [] here h k l = absurd (omega arith)
  each_line (row ∷ rest) here h zero l = let e : 0 * 81 + m ≡ m = omega arith in rw e (here row (lines rest) (h 0))
  each_line (row ∷ rest) here h (suc k) l =
      let e : suc k * 81 + m ≡ 81 + (k * 81 + m) = omega arith in
      rw (e, line_later row (h 0) (lines rest) (k * 81 + m)) (each_line rest here (λ n. h (suc n)) k (omega arith))

pub lines_of : (rs : List (List (List ℕ))) → PlainRows rs → Lines (length rs) (lines rs)
lines_of rs h =
    record {
      bytes = lines_length rs;
      characters = λ k m l u. each_line Character m rs (λ row rest plain. line_character row plain rest m u) h k l;
      feeds = λ k l. each_line (λ b. b ≡ 10) 80 rs (λ row rest plain. line_feed_lem row plain rest) h k l;
    }
