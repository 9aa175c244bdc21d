use Rattle.std.proofs.Common.{◌≡◌, map, take}
use Rattle.jm_json.specs.Json.{member_of}
use Rattle.client_cache.proofs.writing.copy_records.Given as goal

abbrev pub invariant-loop-record : goal.invariant-loop-record
invariant-loop-record l = l.copies ≡ map member_of (take l.record-index l.records)
