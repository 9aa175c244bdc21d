use Rattle.std.proofs.Common.{◌≡◌, map, drop}
use Rattle.jm_json.specs.Json.{member_of}
use Rattle.jm_json.specs.LeastPlaces.{least_from}
use Rattle.client_cache.specs.Sessions.{text_places}
use Rattle.client_cache.proofs.session.choose_in_texts.Given as goal

abbrev pub invariant-loop-member : goal.invariant-loop-member
invariant-loop-member l = least_from l.least (text_places l.pointer (map member_of (drop l.member-index l.members))) ≡ least_from l.fn.least (text_places l.pointer (map member_of l.members))
