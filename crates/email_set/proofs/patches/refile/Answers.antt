use Rattle.std.proofs.Common.{◌≡◌, ℕ, List, IfOk, ap₂, subst}
use Rattle.jm_json.specs.Json.{tree_of}
use Rattle.jm_json.specs.declared.invocation.Created.{Created}
use Rattle.set_parts.specs.Views.{AreMade}
use Rattle.email_set.specs.Patches.{refiled}
use Rattle.email_set.specs.declared.filing.Filing.{Filing}
use Rattle.email_set.proofs.patches.refile.Goals as goal

pub returns : goal.returns
returns g c =
    subst (λ (f : Filing). IfOk c.refile_lent.result (λ r. (made : List Created) → AreMade c.args.created.now made
    → r ≡ refiled (g.N.MailboxNumbers.numbers c.args.mailboxes.now) made f (tree_of c.args.patch.now)))
    (ap₂ filed c.as_slice.ensures c.as_slice-2.ensures) c.refile_lent.ensures
  where
    filed : List ℕ → List (List ℕ) → Filing
    filed ms ks = record { mailboxes = ms; keywords = ks }
