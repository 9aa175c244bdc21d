use Rattle.std.proofs.Common.{◌≡◌, map, drop, ◌++◌}
use Rattle.jm_base.specs.declared.identifiers.Kind.TheVariants.{Email}
use Rattle.jm_json.specs.Tree.{text}
use Rattle.mail_view.specs.View.{identifier}
use Rattle.get_calls.proofs.threads.write_email_ids.Given as goal

abbrev pub invariant-loop-number : goal.invariant-loop-number
invariant-loop-number l = map text (map (identifier Email) l.numbers) ≡ l.ids ++ map text (map (identifier Email) (drop l.number-index l.numbers))
