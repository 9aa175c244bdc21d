use Rattle.std.proofs.Common.{◌≡◌, map, take}
use Rattle.jm_json.specs.Tree.{text}
use Rattle.mail_view.specs.Records.{records_named, naming_none}
use Rattle.mail_view.specs.Threads.{thread_named}
use Rattle.get_calls.specs.Members.{thread_without}
use Rattle.get_calls.proofs.threads.find_named.Given as goal

abbrev pub invariant-loop-id : goal.invariant-loop-id
invariant-loop-id l =
    record {
      objects : l.found.objects
          ≡ map (thread_without (map (λ h. h.now) l.hidden)) (records_named (thread_named l.content.content.threads) (map (λ t. t.now) (take l.id-index l.ids)));
      unknown : l.found.unknown ≡ map text (naming_none (thread_named l.content.content.threads) (map (λ t. t.now) (take l.id-index l.ids)));
    }
