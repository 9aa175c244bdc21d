use Rattle.std.proofs.Common.{◌≡◌, map, take}
use Rattle.jm_json.specs.Tree.{text}
use Rattle.mail_counts.specs.Views.{mailbox_named}
use Rattle.mail_view.specs.Records.{records_named, naming_none}
use Rattle.get_calls.specs.Members.{mailbox_without}
use Rattle.get_calls.proofs.mailboxes.find_named.Given as goal

abbrev pub invariant-loop-id : goal.invariant-loop-id
invariant-loop-id l =
    record {
      objects : l.found.objects
          ≡ map (mailbox_without l.read_only (map (λ h. h.now) l.hidden)) (records_named (mailbox_named l.content.content.mailboxes) (map (λ t. t.now) (take l.id-index l.ids)));
      unknown : l.found.unknown ≡ map text (naming_none (mailbox_named l.content.content.mailboxes) (map (λ t. t.now) (take l.id-index l.ids)));
    }
