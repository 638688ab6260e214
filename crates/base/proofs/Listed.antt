-- Laws of listed_from, and of loops that fill a list with it from the front.
use Prim.Native.Nat.{ℕ, zero, suc, ◌+◌, ◌≤◌, ◌<◌}
use mathlib.Core.Path.{◌≡◌, refl, sym, ap, ap₂, ◌∙◌}
use mathlib.Core.List.{List, [], ◌∷◌, ◌++◌, append_assoc, append-nil}
use native.Mathlib.Numerals.{add-one}
use native.Mathlib.Omega.{arith}
use lib.ListN.{length, get_or, set, take, drop, drop_of_length-le}
use lib.Seq.{take_at, drop_at, drop-drop}
use Rattle.base.specs.Over.{listed_from}

-- xs stands over the front of d; the k places behind it are lent, and come back as ys
part_next : {A : Type 0} (xs ys d : List A) (n k : ℕ) → length xs ≡ n → take n (xs ++ drop n d) ++ (ys ++ drop k (drop n (xs ++ drop n d))) ≡ (xs ++ ys) ++ drop (n + k) d
part_next xs ys d n k e = rw (take_at xs (drop n d) n e, drop_at xs (drop n d) n e, drop-drop k n d) (sym (append_assoc xs ys (drop (n + k) d)))

module _ {A : Type 0} (f : ℕ → A) where
  pub listed_length : (n m : ℕ) → length (listed_from n m f) ≡ n
  unfolding listed_from
  listed_length zero m = refl
  listed_length (suc n) m = ap suc (listed_length n (suc m))

  pub listed_append : (n k m : ℕ) → listed_from n m f ++ listed_from k (m + n) f ≡ listed_from (n + k) m f
  unfolding listed_from
  listed_append zero k m = let e : m + 0 ≡ m = omega arith in let z : 0 + k ≡ k = omega arith in rw (e, z)
  listed_append (suc n) k m =
      let e : m + suc n ≡ suc m + n = omega arith in
      let s : suc n + k ≡ suc (n + k) = omega arith in
      rw (e, s) (ap (λ (l : List A). f m ∷ l) (listed_append n k (suc m)))

  -- ---- a loop that fills the list d: n places filled, the others as they were

  pub fill_none : (m : ℕ) (d : List A) → d ≡ listed_from 0 m f ++ drop 0 d
  unfolding listed_from
  fill_none m d = refl

  store : (n m : ℕ) (d : List A) → n < length d → set (listed_from n m f ++ drop n d) n (f (m + n)) ≡ listed_from (suc n) m f ++ drop (suc n) d
  unfolding listed_from
  store n m [] h = absurd (omega arith)
  store zero m (x ∷ d) h = let e : m + 0 ≡ m = omega arith in rw e
  store (suc n) m (x ∷ d) h =
      let e : m + suc n ≡ suc m + n = omega arith in
      rw e (ap (λ (l : List A). f m ∷ l) (store n (suc m) d (omega arith)))

  -- a store of the next
  pub fill_next : (n m : ℕ) (d : List A) {v : A} → n < length d → v ≡ f (m + n) → set (listed_from n m f ++ drop n d) n v ≡ listed_from (n + 1) m f ++ drop (n + 1) d
  fill_next n m d h e = rw (add-one, e) (store n m d h)

  -- the next k at once, in a part that was lent
  pub fill_part : (n k m : ℕ) (d ys : List A) → ys ≡ listed_from k (m + n) f → take n (listed_from n m f ++ drop n d) ++ (ys ++ drop k (drop n (listed_from n m f ++ drop n d))) ≡ listed_from (n + k) m f ++ drop (n + k) d
  fill_part n k m d ys e =
      let a : listed_from n m f ++ ys ≡ listed_from (n + k) m f = ap (λ (l : List A). listed_from n m f ++ l) e ∙ listed_append n k m in
      part_next (listed_from n m f) ys d n k (listed_length n m) ∙ ap (λ (l : List A). l ++ drop (n + k) d) a

  pub fill_end : (n k m : ℕ) (d : List A) → n ≡ k → length d ≤ n → listed_from n m f ++ drop n d ≡ listed_from k m f
  fill_end n k m d e h = rw (drop_of_length-le d h) (append-nil (listed_from n m f) ∙ ap (λ (x : ℕ). listed_from x m f) e)

pub listed_cong : {A : Type 0} (n m k : ℕ) (f g : ℕ → A) → ((x : ℕ) → x < n → f (m + x) ≡ g (k + x)) → listed_from n m f ≡ listed_from n k g
unfolding listed_from
listed_cong zero m k f g h = refl
listed_cong (suc n) m k f g h =
    let a : m + 0 ≡ m = omega arith in
    let b : k + 0 ≡ k = omega arith in
    ap₂ ◌∷◌ (sym (ap f a) ∙ h 0 (omega arith) ∙ ap g b) (listed_cong n (suc m) (suc k) f g (λ x l. later x l))
  where
    later : (x : ℕ) → x < n → f (suc m + x) ≡ g (suc k + x)
    later x l =
        let p : m + suc x ≡ suc m + x = omega arith in
        let q : k + suc x ≡ suc k + x = omega arith in
        sym (ap f p) ∙ h (suc x) (omega arith) ∙ ap g q

-- the entry at each place, whatever is read past the end
pub listed_entry : {A : Type 0} (n m k : ℕ) (f : ℕ → A) (y : A) → k < n → get_or (listed_from n m f) k y ≡ f (m + k)
unfolding listed_from
listed_entry zero m k f y h = absurd (omega arith)
listed_entry (suc n) m zero f y h = let e : m ≡ m + 0 = omega arith in ap f e
listed_entry (suc n) m (suc k) f y h = let e : suc m + k ≡ m + suc k = omega arith in listed_entry n (suc m) k f y (omega arith) ∙ ap f e

pub listed_at : (n m k : ℕ) (f : ℕ → ℕ) → k < n → get_or (listed_from n m f) k 0 ≡ f (m + k)
listed_at n m k f h = listed_entry n m k f 0 h
