use Rattle.listing.proofs.+put_number.Given as goal

-- the number falls at each call of itself
abbrev pub decreases-put_number : goal.decreases-put_number
decreases-put_number l = l.value
