-- `station::bring` meets its contract.
use mathlib.Core.Path.{refl}
use Rattle.rules.specs.Calls.{unit_of}
use Rattle.station.proofs.Loads.{brings_same, brings_other, brings_in_use}
use Rattle.station.proofs.Replies.{own_office, other_office, kept_office}
use Rattle.station.proofs.bring.Goals as goal
use Rattle.station.proofs.bring.Goals.{then-not-same_tables+else-own-ne0, else-not-same_tables}

pub returns-then-own-ne0 : goal.returns-then-own-ne0
returns-then-own-ne0 c =
    λ file loads back. brings_in_use c.args.s.now _ c.args.w refl file _ loads back (cc) (λ none. c.if-own-ne0.true (cc))

pub returns : goal.returns
unfolding unit_of
returns c =
    λ file loads back.
    let a = c.args in
    elim c.if-not-same_tables.branch [
      | then-not-same_tables+else-own-ne0 b ↦
          brings_other a.s.now _ a.w refl file _ loads back (cc) (cc) _
          (rw (own_office, c.hold.ensures, c.no_blocks.ensures, c.own_mut-2.ensures.value, b.s-is, b.other-then-not-same_tables.ensures, kept_office))
          (rw (other_office, b.s-is, b.other-then-not-same_tables.ensures, own_office, b.take_tables.ensures, b.own_mut.ensures.value, b.other-then-not-same_tables.ensures))
      | else-not-same_tables b ↦
          brings_same a.s.now _ a.w refl file _ loads back (cc) _
          (rw (own_office, c.hold.ensures, c.no_blocks.ensures, c.own_mut-2.ensures.value, b.s-is))
          (rw (other_office, b.s-is))
    ]
