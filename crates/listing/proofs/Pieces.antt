-- Two pieces, or three, put one after another to the front of a buffer that has room for the whole.
use Rattle.std.proofs.Common.{ℕ, ◌+◌, ◌-◌, ◌≤◌, List, ◌++◌, length, take, drop}
use borrow.Rule.Slice.PartMut.{put_mid}
use Rattle.base.specs.Text.{Put}
use Rattle.base.proofs.Buffers.{Written}
use Rattle.base.proofs.Text.{put_front, put_more, put_last, tail_fits, last_fits, front_fits}

module _ (a b : List ℕ) {old out : List ℕ} {n : ℕ} (room : length (a ++ b) ≤ length old) (p : Put a old out n) where
  first_put : Written old (a ++ b) b n out
  first_put = put_front a b p (front_fits a b room)

  -- behind the first piece the second has room
  pub second_fits : length b ≤ length (take (length out - n) (drop n out))
  second_fits = last_fits first_put room

  pub put_two : {last : List ℕ} {m : ℕ} → Put b (take (length out - n) (drop n out)) last m → Put (a ++ b) old (put_mid n (length out - n) out last) (n + m)
  put_two q = put_last first_put room q

module _ (a b c : List ℕ) {old out : List ℕ} {n : ℕ} (room : length (a ++ (b ++ c)) ≤ length old) (p : Put a old out n) where
  pub second_of_three_fits : length b ≤ length (take (length out - n) (drop n out))
  second_of_three_fits = tail_fits b c (first_put a (b ++ c) room p) room

  module _ {mid : List ℕ} {m : ℕ} (q : Put b (take (length out - n) (drop n out)) mid m) where
    second_put : Written old (a ++ (b ++ c)) c (n + m) (put_mid n (length out - n) out mid)
    second_put = put_more b c (first_put a (b ++ c) room p) room q

    pub third_fits : length c ≤ length (take (length (put_mid n (length out - n) out mid) - (n + m)) (drop (n + m) (put_mid n (length out - n) out mid)))
    third_fits = last_fits second_put room

    pub put_three : {last : List ℕ} {k : ℕ} → Put c (take (length (put_mid n (length out - n) out mid) - (n + m)) (drop (n + m) (put_mid n (length out - n) out mid))) last k → Put (a ++ (b ++ c)) old (put_mid (n + m) (length (put_mid n (length out - n) out mid) - (n + m)) (put_mid n (length out - n) out mid) last) (n + m + k)
    put_three q3 = put_last second_put room q3
