-- What is kept of a line, and what one byte of the input does.
use Prim.Native.Nat.{ℕ, ◌+◌, ◌≤◌, ◌<◌}
use mathlib.Core.List.{List, [], ◌∷◌, ◌++◌}
use mathlib.Core.Path.{◌≡◌, refl, sym, ◌∙◌}
use native.Mathlib.Numerals.{add-one}
use native.Mathlib.Omega.{arith}
use lib.ListN.{length, drop, get_or, length-append, drop_of_length-le}
use lib.Seq.{take_all, take_at, drop-cons}
use Rattle.std.specs.Prelude.{Result, Ok, Err, IsOk, OnOk, OnErr}
use Rattle.arrayvec.specs.ArrayVec.{ArrayVec}
use Rattle.panel.specs.Console.{State, LineLeads}
use Rattle.panel.specs.Lines.{kept_bytes, keeping, Feeds, end, answer, keep}

-- ---- of a line

module _ (line : List ℕ) (b : ℕ) where
  kept_more : length line < kept_bytes → line ++ (b ∷ []) ≡ keeping line b
  unfolding keeping
  kept_more h = sym (take_all kept_bytes (line ++ (b ∷ [])) (omega (arith, length-append line (b ∷ []))))

  kept_full : length line ≡ kept_bytes → line ≡ keeping line b
  unfolding keeping
  kept_full h = sym (take_at line (b ∷ []) kept_bytes h)

-- what a push leaves, whether there is room or not
pub kept :
    {A E : Type 0} (r : Result A E) (line new : ArrayVec ℕ) (b : ℕ) → (IsOk r → length line.items < kept_bytes) → OnOk r (new.items ≡ line.items ++ (b ∷ []))
    → OnErr r (new ≡ line) → OnErr r (length line.items ≡ kept_bytes) → new.items ≡ keeping line.items b
kept (Ok x) line new b room pushed same full = pushed ∙ kept_more line.items b (room refl)
kept (Err e) line new b room pushed same full = rw same (kept_full line.items b full)

-- ---- of the input

pub fed_all : {s : State} {line : List ℕ} (bytes : List ℕ) (i : ℕ) → length bytes ≤ i → Feeds s line (drop i bytes) s line
fed_all bytes i over = rw (drop_of_length-le bytes over) end

module _ (bytes : List ℕ) (i : ℕ) (more : i < length bytes) {s u : State} {line last : List ℕ} where
  -- a line feed
  pub fed_line :
      get_or bytes i 0 ≡ 10 → {t : State} {said front : List ℕ} → LineLeads s line t said → front ≡ []
      → Feeds t front (drop (i + 1) bytes) u last → Feeds s line (drop i bytes) u last
  fed_line e l none f = rw (drop-cons bytes i 0 more, e) (answer l (rw (none, add-one i) at f))

  -- any other byte
  pub fed_byte :
      ¬ (get_or bytes i 0 ≡ 10) → {front : List ℕ} → front ≡ keeping line (get_or bytes i 0)
      → Feeds s front (drop (i + 1) bytes) u last → Feeds s line (drop i bytes) u last
  fed_byte e kept f = rw (drop-cons bytes i 0 more) (keep e (rw (kept, add-one i) at f))

-- what the bytes ahead lead to from t, all the bytes lead to from s
abbrev pub Ahead : State → List ℕ → List ℕ → List ℕ → List ℕ → State → Type 0
Ahead s line bytes front ahead t = (u : State) (last : List ℕ) → Feeds t front ahead u last → Feeds s line bytes u last
