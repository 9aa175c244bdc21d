use Rattle.std.proofs.Common.{◌≡◌, map, take}
use Rattle.client_cache.specs.Caches.{list_tree}
use Rattle.client_cache.specs.Views.{list_view}
use Rattle.client_cache.proofs.writing.build_lists.Given as goal

abbrev pub invariant-loop-kept : goal.invariant-loop-kept
invariant-loop-kept l = l.items ≡ map list_tree (map list_view (take l.kept-index l.lists))
