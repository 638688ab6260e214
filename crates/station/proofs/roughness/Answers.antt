-- `station::roughness` meets its contract.
use Rattle.rules.specs.Stations.{own}
use Rattle.station.proofs.Numbers.{which_named, nobody}
use Rattle.station.proofs.Questions.{roughness_answers, roughness_nobody, roughness_named}
use Rattle.station.proofs.roughness.Goals as goal

pub returns-in_err-w : goal.returns-in_err-w
returns-in_err-w c =
    let none = nobody c.args.n _ _ c.in_err-w.ensures c.from_residual.ensures.1 in
    rw none.0 (record {
      tells = λ b keeps. roughness_nobody c.args.n b none.1;
      answers = λ b keeps. roughness_answers _ _ _ b keeps (roughness_nobody c.args.n b none.1);
    })

pub returns : goal.returns
returns c =
    let w = c.in_ok-w.w in
    let named = which_named _ _ c.in_ok-w.ensures in
    record {
      tells = λ b keeps. roughness_named c.args.n b w named _ (c.roughness.ensures (own w b) (rw c.own.ensures (keeps w named)));
      answers = λ b keeps. roughness_answers _ _ _ b keeps (roughness_named c.args.n b w named _ (c.roughness.ensures (own w b) (rw c.own.ensures (keeps w))));
    }
