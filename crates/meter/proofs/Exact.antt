-- Sums and differences of floats that are whole 1024ths are exact, below 2 ^ 24 of them.
use Rattle.std.proofs.Common.{◌≡◌, ℕ, ◌+◌, ◌-◌, ◌*◌, ◌^◌, ◌<◌, ◌≤◌, true, false, sym, ap, ◌∙◌, subst, lt_of_lt_of_le, mul_assoc, mul_comm, mul-pos, mul_right_comm, arith, pow_mono, shl_lt, le-ltb}
use lib.Ieee.{Float, nan, inf, fin, binary32, up, down, round, sum, add, sub, neg}
use lib.Ieee.Exact.{round_exact}
use lib.Ieee.Scale.{round_same}
use lib.Ieee.Fits.{down_pos}
use Rattle.meter.specs.Window.{Counts}

-- a fraction that is n / 1024 is not rounded
round_counts : (a c n : ℕ) → 0 < c → n < 2 ^ 24 → a * 1024 ≡ n * c → Counts (round binary32 false a c) n
round_counts a c n C h e =
    subst (λ (x : Float). Counts x n) (sym (round_same binary32 false a c n 1024 C (omega arith) e))
    (round_exact binary32 false n 1024 n 139 (omega arith) h (lt_of_lt_of_le (shl_lt 24 139 h) (pow_mono {i = 163} {j = 277} (omega arith)))
    (sym (mul_assoc n (2 ^ 139) 1024)))

-- one side of the sum, over the common denominator
scaled : (m u v w k : ℕ) → m * u * 1024 ≡ k * v → m * u * w * 1024 ≡ k * (v * w)
scaled m u v w k e = mul_right_comm (m * u) w 1024 ∙ ap (λ (x : ℕ). x * w) e ∙ mul_assoc k v w

pub add_exact : (x y : Float) (k m : ℕ) → k + m < 2 ^ 24 → Counts x k → Counts y m → Counts (add binary32 x y) (k + m)
unfolding add sum
add_exact nan y k m h p q = elim p [ ]
add_exact (inf _) y k m h p q = elim p [ ]
add_exact (fin true a d) y k m h p q = cc
add_exact (fin false a d) nan k m h p q = elim q [ ]
add_exact (fin false a d) (inf _) k m h p q = elim q [ ]
add_exact (fin false a d) (fin true b e) k m h p q = cc
add_exact (fin false a d) (fin false b e) k m h p q =
    let l = scaled a (up d) (down d) (down e) k p.1 in
    let r = scaled b (up e) (down e) (down d) m q.1 in
    round_counts (a * up d * down e + b * up e * down d) (down d * down e) (k + m) (mul-pos (down_pos d) (down_pos e)) h (omega arith)

-- x / c less y / c
less : (x y c k m : ℕ) → m ≤ k → 0 < c → x * 1024 ≡ k * c → y * 1024 ≡ m * c → (y ≤ x) × ((x - y) * 1024 ≡ (k - m) * c)
less x y c k m h C e g =
    let r = k - m in
    let s : k ≡ m + r = omega arith in
    let f : x * 1024 ≡ (m + r) * c = e ∙ ap (λ (z : ℕ). z * c) s in
    (omega arith, omega arith)

pub sub_exact : (x y : Float) (k m : ℕ) → m ≤ k → k < 2 ^ 24 → Counts x k → Counts y m → Counts (sub binary32 x y) (k - m)
unfolding sub add neg sum
sub_exact nan y k m h l p q = elim p [ ]
sub_exact (inf _) y k m h l p q = elim p [ ]
sub_exact (fin true a d) y k m h l p q = cc
sub_exact (fin false a d) nan k m h l p q = elim q [ ]
sub_exact (fin false a d) (inf _) k m h l p q = elim q [ ]
sub_exact (fin false a d) (fin true b e) k m h l p q = cc
sub_exact (fin false a d) (fin false b e) k m h l p q =
    let x = a * up d * down e in
    let y = b * up e * down d in
    let w = less x y (down d * down e) k m h (mul-pos (down_pos d) (down_pos e)) (scaled a (up d) (down d) (down e) k p.1)
    (scaled b (up e) (down e) (down d) m q.1 ∙ ap (λ (z : ℕ). m * z) (mul_comm (down e) (down d))) in
    rw (le-ltb x y w.0) (round_counts (x - y) (down d * down e) (k - m) (mul-pos (down_pos d) (down_pos e)) (omega arith) w.1)
