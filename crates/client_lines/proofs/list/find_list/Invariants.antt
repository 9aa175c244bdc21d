use Rattle.std.proofs.Common.{◌≡◌, length, map}
use Rattle.client_cache.specs.Views.{list_view}
use Rattle.client_lines.specs.Lines.{list_named}
use Rattle.client_lines.proofs.list.find_list.Given as goal

abbrev pub invariant-lists : goal.invariant-lists
invariant-lists l = list_named l.name (map list_view l.rest) ≡ list_named l.name l.cache.lists

abbrev pub decreases-lists : goal.decreases-lists
decreases-lists l = length l.rest
