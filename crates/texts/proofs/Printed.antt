-- Numbers with their sign, and pieces one after another.
use Rattle.std.proofs.Common.{ℕ, zero, suc, ◌-◌, ◌/◌, ◌%◌, ◌≤◌, [], ◌∷◌, arith, ◌+◌, ◌<◌, ◌≡◌, refl, ℤ, pos, negsuc, nat_abs, ap, List, ◌++◌, length, get_or, drop, drop-cons, add-one}
use Rattle.base.proofs.Buffers.{Written}
use Rattle.base.specs.Text.{digits_of, decimal}
use borrow.Author.Tests.{lt-ltb, le-ltb}
use Rattle.texts.specs.Numbers.{written}
use Rattle.texts.specs.Pieces.{sign_of, piece_text, pieces_text}
use Rattle.texts.specs.declared.printing.Piece.{Piece}

signed : (v : ℤ) → written v ≡ sign_of v ++ decimal (nat_abs v)
unfolding written
signed (pos n) = refl
signed (negsuc n) = refl

pub written_as : (v : ℤ) {sign : List ℕ} {size : ℕ} → sign ≡ sign_of v → size ≡ nat_abs v → written v ≡ sign ++ decimal size
written_as v s n = rw (s, n) (signed v)

-- a digit, and one more behind those of the tenth
pub digits_one : (k n : ℕ) → 1 ≤ k → n < 10 → digits_of k n ≡ (48 + n) ∷ []
unfolding digits_of
digits_one zero n l h = absurd (omega arith)
digits_one (suc k) n l h = rw (lt-ltb n 10 h) refl

pub digits_tenth : (k n : ℕ) → 1 ≤ k → 10 ≤ n → digits_of k n ≡ digits_of (k - 1) (n / 10) ++ ((48 + n % 10) ∷ [])
unfolding digits_of
digits_tenth zero n l h = absurd (omega arith)
digits_tenth (suc k) n l h = let e : suc k - 1 ≡ k = omega arith in rw (le-ltb n 10 h, e) refl

-- a piece is to come
pieces_next : (ps : List Piece) (i : ℕ) (p : Piece) → i < length ps → pieces_text (drop i ps) ≡ piece_text (get_or ps i p) ++ pieces_text (drop (i + 1) ps)
unfolding pieces_text
pieces_next ps i p h = rw add-one (ap pieces_text (drop-cons ps i p h))

pub piece_next :
    {old whole out : List ℕ} {at : ℕ} (ps : List Piece) (i : ℕ) (p : Piece) → i < length ps → Written old whole (pieces_text (drop i ps)) at out
    → Written old whole (piece_text (get_or ps i p) ++ pieces_text (drop (i + 1) ps)) at out
piece_next ps i p h w = rw (pieces_next ps i p h) at w
