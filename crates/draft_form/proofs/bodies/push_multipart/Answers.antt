use Rattle.std.proofs.Common.{◌≡◌, ◌∷◌, [], ◌++◌, OnOk, subst}
use Rattle.draft_form.specs.declared.draft.Row.TheVariants.{Opens}
use Rattle.draft_form.proofs.bodies.push_multipart.Goals as goal

pub returns-clause-rows : goal.returns-clause-rows
returns-clause-rows c = subst (λ h. OnOk c.push.result (c.push.new.self ≡ c.args.parts.now.rows ++ Opens h ∷ [])) c.in_ok-head.ensures c.push.ensures.ok
