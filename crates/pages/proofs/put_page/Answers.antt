-- `pages::put_page` meets its contract: a buffer for any page has room for this one.
use Rattle.std.proofs.Common.{ℕ, ◌≡◌, refl, Result, Ok, Err}
use Rattle.std.specs.Result.{IsOk}
use Rattle.rules.specs.Answers.{Accepted, answer_in}
use Rattle.rules.specs.declared.refusals.Refusal.{Refusal}
use Rattle.pages.specs.Printed.{page_held}
use Rattle.pages.proofs.Given.{page_given}
use Rattle.pages.proofs.put_page.Goals as goal

accepted : (r : Result ℕ Refusal) (n : ℕ) → answer_in r ≡ Accepted n → IsOk r
accepted (Ok m) n e = refl
accepted (Err refusal) n e = cc

value : (r : Result ℕ Refusal) (m n : ℕ) → r ≡ Ok m → answer_in r ≡ Accepted n → m ≡ n
value r m n f e = let g = rw f at e in cc

pub unwrap-requires : goal.unwrap-requires
unwrap-requires c =
    let u = c.args.u.now in
    accepted _ _ (page_given u.district u.programme c.args.out.now c.page.ensures c.requires).0

pub returns : goal.returns
unfolding page_held
returns c =
    let u = c.args.u.now in
    let given = page_given u.district u.programme c.args.out.now c.page.ensures c.requires in
    record { count = value _ _ _ c.unwrap.ensures given.0; bytes = given.1 }
