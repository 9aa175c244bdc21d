use Rattle.std.proofs.Common.{◌≡◌, map, drop}
use Rattle.jm_json.specs.Json.{member_of}
use Rattle.jm_json.specs.LeastPlaces.{least_from}
use Rattle.mail_view.specs.RecordPlaces.{entry_places}
use Rattle.client_cache.specs.RecordParts.{name_test}
use Rattle.client_cache.proofs.record_places.choose_in_entries.Given as goal

abbrev pub invariant-loop-member : goal.invariant-loop-member
invariant-loop-member l = least_from l.least (entry_places (name_test l.of_mailboxes) l.pointer (map member_of (drop l.member-index l.members))) ≡ least_from l.fn.least (entry_places (name_test l.of_mailboxes) l.pointer (map member_of l.members))
