-- What an export with room leaves, and what a load's refusal or district is answered with.
use Prim.Native.Nat.{ℕ, zero, suc, ◌+◌, ◌≤◌}
use mathlib.Core.Path.{◌≡◌, refl, sym, ap, ◌∙◌}
use mathlib.Core.List.{List, [], ◌∷◌, ◌++◌}
use native.Mathlib.Omega.{arith}
use lib.ListN.{length, drop, length-append}
use Rattle.base.specs.Text.{Put}
use Rattle.std.specs.Prelude.{Result, Ok, Err}
use Rattle.std.specs.Result.{IsOk}
use Rattle.rules.specs.Answers.{buffer_too_short, answer_in, Accepted}
use Rattle.rules.specs.declared.refusals.Refusal.{Refusal}
use Rattle.rules.specs.Calls.{Export, export_refusal, exported, load_refusal, district_in}
use Rattle.rules.specs.District.{District}
use Rattle.rules.specs.File.{encode}
use Rattle.file.proofs.Refusals.{exported_fits}
use Rattle.transcode.specs.Transcoded.{head_of, head_bytes, framed, transcoded_as, transcoded}

pub framed_length : (file : List ℕ) → length (framed file) ≡ head_bytes + length file
unfolding framed
framed_length file = length-append (head_of (length file)) file

-- an export with room puts the file, and answers with its length
pub file_put : (d : District) (old new : List ℕ) (answer : Result ℕ Refusal) → length (encode d) ≤ length old → record { answer = answer_in answer; buffer = new } ≡ exported (export_refusal d old) (encode d) old → IsOk answer × ((n : ℕ) → answer ≡ Ok n → Put (encode d) old new n)
unfolding export_refusal
file_put d old new answer room e = go answer (ap (λ (x : Export). x.answer) whole)
  where
    whole : ◌≡◌ {A = Export} (record { answer = answer_in answer; buffer = new }) (record { answer = Accepted (length (encode d)); buffer = encode d ++ drop (length (encode d)) old })
    whole = e ∙ sym (exported_fits (length (encode d)) buffer_too_short (encode d) old room)

    go : (r : Result ℕ Refusal) → answer_in r ≡ Accepted (length (encode d)) → IsOk r × ((n : ℕ) → r ≡ Ok n → Put (encode d) old new n)
    go (Ok m) q = (refl, λ n f. record { count = cc; bytes = ap (λ (x : Export). x.buffer) whole })
    go (Err refusal) q = absurd cc

-- ---- the answer to what a load gives

module _ (file : List ℕ) where
  pub answered_refusal : (n : ℕ) → 1 ≤ n → n ≡ load_refusal file → n ∷ [] ≡ transcoded file
  unfolding transcoded transcoded_as
  answered_refusal (suc n) h e = rw (← e)
  answered_refusal zero h e = absurd (omega arith)

  pub answered_file : (d : District) → 0 ≡ load_refusal file → d ≡ district_in file → framed (encode d) ≡ transcoded file
  unfolding transcoded transcoded_as
  answered_file d e q = rw (← e, q)
