use Rattle.texts.proofs.printing.+put_digits.Given as goal

-- as many digits fewer are left at each call of itself
abbrev pub decreases-put_digits : goal.decreases-put_digits
decreases-put_digits l = l.k
