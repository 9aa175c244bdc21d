use Rattle.std.proofs.Common.{◌≡◌, ◌++◌, map, drop}
use Rattle.std.specs.Prelude.{filter_map}
use Rattle.jm_json.specs.Json.{member_of}
use Rattle.client_cache.specs.Records.{thread_of}
use Rattle.client_cache.proofs.numbers.collect_threads.Given as goal

abbrev pub invariant-loop-email : goal.invariant-loop-email
invariant-loop-email l = l.threads.items ++ filter_map thread_of (map member_of (drop l.email-index l.emails)) ≡ filter_map thread_of (map member_of l.emails)
