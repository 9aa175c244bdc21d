use Rattle.std.proofs.Common.{◌≡◌, map, drop}
use Rattle.jm_json.specs.Json.{tree_of}
use Rattle.jm_json.specs.LeastPlaces.{least_from}
use Rattle.method_args.specs.Places.{item_places}
use Rattle.mail_view.specs.RecordPlaces.{record_places}
use Rattle.client_cache.proofs.reply_arguments.choose_in_record_items.Given as goal

abbrev pub invariant-loop-index : goal.invariant-loop-index
invariant-loop-index l = least_from l.least (item_places (record_places l.kind) l.pointer l.index (map tree_of (drop l.index l.items))) ≡ least_from l.fn.least (item_places (record_places l.kind) l.pointer 0 (map tree_of l.items))
