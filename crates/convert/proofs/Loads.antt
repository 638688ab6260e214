-- What is loaded, and concluded, is what up and down say.
use Prim.Native.Nat.{ℕ, zero, suc, ◌≤◌}
use mathlib.Core.Path.{◌≡◌, refl}
use mathlib.Core.Bool.{true, false}
use mathlib.Core.List.{List}
use native.Mathlib.Omega.{arith}
use Rattle.rules.specs.Answers.{leader_set, answer_of, accepting, Refused}
use Rattle.rules.specs.Calls.{Export, exported}
use Rattle.rules.specs.Conversions.{up_refusal, up_file, down_refusal, down_file, turned_into, up_of, down_of}
use Rattle.rules.specs.District.{District}
use Rattle.rules.specs.File.{leaderless}
use Rattle.rules.specs.Format.{plain_form, leader_form}
use Rattle.file.specs.Forms.{load_refusal_as, district_as, exported_as}

-- ---- a refusal stays, whatever follows

-- and leaves the buffer
pub turned_refused : (n : ℕ) (new buffer : List ℕ) → (n ≡ 0 → ⊥) → record { answer = Refused n; buffer = buffer } ≡ turned_into n new buffer
unfolding turned_into exported answer_of accepting
turned_refused zero new buffer some = absurd (some refl)
turned_refused (suc n) new buffer some = refl

-- ---- what is loaded, concluded

module _ (file buffer : List ℕ) where
  -- what refuses the file comes first, whichever way it was to be turned
  pub file_refused :
      (n : ℕ) → 1 ≤ n
      → (n ≡ load_refusal_as plain_form file → record { answer = Refused n; buffer = buffer } ≡ up_of file buffer)
      × (n ≡ load_refusal_as leader_form file → record { answer = Refused n; buffer = buffer } ≡ down_of file buffer)
  unfolding up_of up_refusal down_of down_refusal
  file_refused zero h = absurd (omega arith)
  file_refused (suc n) h =
      let refused = λ (new : List ℕ). turned_refused (suc n) new buffer (λ z. omega arith) in
      (λ e. rw (← e) (refused (up_file file)), λ e. rw (← e) (refused (down_file file)))

  pub up_turned : (d : District) (e : Export) → 0 ≡ load_refusal_as plain_form file → d ≡ district_as plain_form file → e ≡ exported_as leader_form d buffer → e ≡ up_of file buffer
  unfolding up_of up_refusal up_file turned_into
  up_turned d e z q h = rw (← z, ← q) h

  pub down_led : (d : District) → 0 ≡ load_refusal_as leader_form file → d ≡ district_as leader_form file → leaderless d ≡ false → record { answer = Refused leader_set; buffer = buffer } ≡ down_of file buffer
  unfolding down_of down_refusal
  down_led d z q l = rw (← z, ← q, l) (turned_refused leader_set (down_file file) buffer (λ z. omega arith))

  pub down_turned : (d : District) (e : Export) → 0 ≡ load_refusal_as leader_form file → d ≡ district_as leader_form file → leaderless d ≡ true → e ≡ exported_as plain_form d buffer → e ≡ down_of file buffer
  unfolding down_of down_refusal down_file turned_into
  down_turned d e z q l h = rw (← z, ← q, l) h
