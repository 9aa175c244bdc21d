use Rattle.std.proofs.Common.{◌≡◌, drop, [], map, true}
use Rattle.jm_json.specs.Tree.{boolean}
use Rattle.jm_base.specs.declared.identifiers.Kind.TheVariants.{Mailbox}
use Rattle.mail_view.specs.Objects.{put_all}
use Rattle.mail_view.specs.View.{identifier}
use Rattle.mail_view.proofs.metadata.write_mailbox_set.Given as goal

abbrev pub invariant-loop-number : goal.invariant-loop-number
invariant-loop-number l =
    put_all (map (λ k. (k, boolean true)) (map (identifier Mailbox) (drop l.number-index l.numbers))) l.set
    ≡ put_all (map (λ k. (k, boolean true)) (map (identifier Mailbox) l.numbers)) []
