use Rattle.std.proofs.Common.{◌≡◌, map, drop}
use Rattle.jm_json.specs.Json.{tree_of}
use Rattle.jm_json.specs.LeastPlaces.{least_from}
use Rattle.method_args.specs.Places.{item_places}
use Rattle.mail_view.specs.RecordPlaces.{address_forms, object_places}
use Rattle.client_cache.proofs.record_places.choose_in_address_items.Given as goal

abbrev pub invariant-loop-index : goal.invariant-loop-index
invariant-loop-index l = least_from l.least (item_places (object_places address_forms) l.pointer l.index (map tree_of (drop l.index l.items))) ≡ least_from l.fn.least (item_places (object_places address_forms) l.pointer 0 (map tree_of l.items))
