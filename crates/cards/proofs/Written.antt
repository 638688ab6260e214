-- Laws of a number in hundredths, by what the code finds of its parts.
use Rattle.std.proofs.Common.{ℕ, ◌≡◌, true, false, Option, None, Some, List, [], ◌∷◌, ◌++◌, length, drop, refl, sym, ap, ◌∙◌}
use Rattle.base.specs.Text.{value_from, going_on, held}
use Rattle.base.proofs.Parts.{value_append, held_way}
use Rattle.rules.specs.Deck.{zero_digit, before_point, after_point, has_decimal_form, hundredths_digits, hundredths_in}

pub hundredths_none : (field : List ℕ) → has_decimal_form field ≡ false → None ≡ held (hundredths_in field)
unfolding hundredths_in held
hundredths_none field e = rw e

-- digits that go on twice
going_append : (o : Option ℕ) (xs bs : List ℕ) → going_on (going_on o xs) bs ≡ going_on o (xs ++ bs)
unfolding going_on
going_append None xs bs = refl
going_append (Some v) xs bs = sym (value_append xs bs v)

-- read in three runs, before and behind the point and the zeros that lack, each where 64 bits hold what stands before it
three_runs : (a p z : List ℕ) → held (going_on (held (going_on (held (value_from 0 a)) p)) z) ≡ held (value_from 0 (a ++ (p ++ z)))
three_runs a p z =
    held_way (going_on (held (value_from 0 a)) p) z
    ∙ ap held (going_append (held (value_from 0 a)) p z)
    ∙ held_way (value_from 0 a) (p ++ z)
    ∙ ap held (sym (value_append a (p ++ z) 0))

pub hundredths_some : (field : List ℕ) {a p z : List ℕ} {u v w : Option ℕ} → has_decimal_form field ≡ true → a ≡ before_point field → u ≡ held (value_from 0 a) → p ≡ after_point field
    → v ≡ held (going_on u p) → z ≡ drop (length p) (zero_digit ∷ zero_digit ∷ []) → w ≡ held (going_on v z) → w ≡ held (hundredths_in field)
unfolding hundredths_in hundredths_digits
hundredths_some field {a} {p} {z} {u} {v} t ea eu ep ev ez ew =
    let runs : held (going_on v z) ≡ held (value_from 0 (a ++ (p ++ z))) = rw (ev, eu) (three_runs a p z) in
    let whole : held (value_from 0 (a ++ (p ++ z))) ≡ held (hundredths_in field) = rw (t, ez, ea, ep) in
    ew ∙ runs ∙ whole
