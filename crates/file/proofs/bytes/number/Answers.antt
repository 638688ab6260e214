-- `number` meets its contract: the value at a byte is at most the whole, which four bytes hold.
use Rattle.std.proofs.Common.{ℕ, zero, suc, ◌+◌, ◌*◌, ◌^◌, ◌≤◌, ◌<◌, ◌≡◌, List, [], ◌∷◌, length, take, drop, map, get_or, refl, sym, ap, ◌∙◌, reverse, take-append-drop, drop-cons, arith, rules}
use native.Mathlib.Nat.{pow-succ'}
use Rattle.std.specs.List.{fold}
use Rattle.std.proofs.lemmas.Fn.{serves_by}
use Rattle.std.proofs.lemmas.List.{reverse-append, map-append}
use Rattle.std.proofs.lemmas.List.Sums.{fold-append}
use Rattle.std.proofs.lemmas.Iterator.Adapters.{YieldsList-from_rev_slice}
use Rattle.std.proofs.lemmas.Iterator.Consumers.{YieldsList-so_far, YieldsList-turn, fold_from_yields_List}
use Rattle.base.specs.Bytes.{Bytes, number_of}
use Rattle.file.proofs.bytes.number.Goals as goal

abbrev more : ℕ → ℕ → ℕ
more value byte = value * 256 + byte

climbs : (bs : List ℕ) (v : ℕ) → v ≤ fold more v bs
climbs [] v = omega arith
climbs (b ∷ bs) v = omega (arith, climbs bs (v * 256 + b))

backwards : (bs : List ℕ) → fold more 0 (reverse bs) ≡ number_of bs
backwards [] = refl
backwards (b ∷ bs) =
    let e : fold more 0 (reverse (b ∷ bs)) ≡ fold more 0 (reverse bs) * 256 + b = ap (fold more 0) (reverse-append (b ∷ []) bs) ∙ fold-append more 0 (reverse bs) (b ∷ []) in
    omega (arith, e, backwards bs)

small : (n : ℕ) (bs : List ℕ) → length bs ≤ n → Bytes bs → number_of bs < 256 ^ n
small zero [] l h = omega arith
small zero (b ∷ bs) l h = absurd (omega arith)
small (suc n) [] l h = omega (arith, small n [] (omega arith) h, pow-succ' 256 n)
small (suc n) (b ∷ bs) l h = omega (arith, h zero, small n bs (omega arith) (λ i. h (suc i)), pow-succ' 256 n)

-- the value with the byte at i
reached : (bs : List ℕ) (i x v : ℕ) → i < length bs → x ≡ get_or bs i x → v ≡ fold more 0 (take i bs) → v * 256 + x ≤ fold more 0 bs
reached bs i x v l e k =
    let whole : fold more 0 bs ≡ fold more (more (fold more 0 (take i bs)) (get_or bs i x)) (drop (suc i) bs) =
    ap (fold more 0) (sym (take-append-drop i bs)) ∙ fold-append more 0 (take i bs) (drop i bs) ∙ ap (fold more (fold more 0 (take i bs))) (drop-cons bs i x l) in
    omega (arith, whole, climbs (drop (suc i) bs) (more (fold more 0 (take i bs)) (get_or bs i x)), k, e)

pub fold-requires-clause-callable : goal.fold-requires-clause-callable
fold-requires-clause-callable c =
    let bs = c.args.bytes.now in
    let four : number_of bs < 256 ^ 4 = small 4 bs c.requires (λ i. omega (arith, c.type_inv.bytes i)) in
    let road = YieldsList-from_rev_slice bs (ap (λ i. i.rest.now) c.rev.ensures.source ∙ c.iter.ensures.rest) in
    serves_by _ (λ xs q. q.1 ≡ fold more 0 (map (λ b. b.now) xs))
    (λ xs q x w j r.
    let next : w.1 ≡ more q.1 x.now = search rules in
    next ∙ ap (λ v. more v x.now) j ∙ sym (ap (fold more 0) (map-append (λ b. b.now) xs (x ∷ [])) ∙ fold-append more 0 (map (λ b. b.now) xs) (x.now ∷ [])))
    _ _ _ _ refl
    (λ xs t q x u y e j.
    let at = YieldsList-turn road xs t y _ u x refl e in
    let most : more q.1 x.now ≤ fold more 0 (reverse bs) = reached (reverse bs) (length xs) x.now q.1 at.0 at.1 (j ∙ ap (fold more 0) (YieldsList-so_far road xs t y)) in
    let room : more q.1 x.now < 256 ^ 4 = omega (arith, most, backwards bs, four) in
    search rules)

pub returns : goal.returns
returns c =
    let bs = c.args.bytes.now in
    fold_from_yields_List _ more _ _ c.fold.ensures.ran (YieldsList-from_rev_slice bs (ap (λ i. i.rest.now) c.rev.ensures.source ∙ c.iter.ensures.rest)) (λ a x b q k. search rules) ∙ backwards bs
