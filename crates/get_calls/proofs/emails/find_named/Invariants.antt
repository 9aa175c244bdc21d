use Rattle.std.proofs.Common.{◌≡◌, map, take}
use Rattle.jm_json.specs.Tree.{text}
use Rattle.mail_view.specs.Emails.{email_named, email_view}
use Rattle.mail_view.specs.Records.{records_named, naming_none}
use Rattle.get_calls.proofs.emails.find_named.Given as goal

abbrev pub invariant-loop-id : goal.invariant-loop-id
invariant-loop-id l =
    record {
      objects : l.found.objects
          ≡ map (email_view l.blobs.blobs l.wanted) (records_named (email_named l.content.content.emails) (map (λ t. t.now) (take l.id-index l.ids)));
      unknown : l.found.unknown ≡ map text (naming_none (email_named l.content.content.emails) (map (λ t. t.now) (take l.id-index l.ids)));
    }
