use Rattle.std.proofs.Common.{◌≡◌, map, drop, ◌++◌, option_map}
use Rattle.std.specs.List.{filter_map}
use Rattle.set_parts.specs.Views.{create_of}
use Rattle.copy_calls.specs.Originals.{copied_id}
use Rattle.copy_calls.proofs.originals.collect_copied.Given as goal

abbrev pub invariant-loop-create : goal.invariant-loop-create
invariant-loop-create l =
    map (λ s. s.now) l.ids.items ++ filter_map (copied_id (option_map (λ ms. ms.now) l.created)) (map create_of (drop l.create-index l.creates))
    ≡ filter_map (copied_id (option_map (λ ms. ms.now) l.created)) (map create_of l.creates)
