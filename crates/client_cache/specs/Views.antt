-- What contracts see of what a client keeps.
use Rattle.jm_json.specs.Json.{tree_of}
use Rattle.client_cache.specs.Caches.{KindView, ListView}
use Rattle.client_cache.specs.declared.kinds.CachedKind.{CachedKind}
use Rattle.client_cache.specs.declared.lists.CachedList.{CachedList}

abbrev pub kind_view : CachedKind → KindView
kind_view k = record { records = k.records; state = k.state }

abbrev pub list_view : CachedList → ListView
list_view l = record {
  name = l.name;
  filter = tree_of l.filter;
  sort = tree_of l.sort;
  collapse = l.collapse;
  ids = l.ids;
  state = l.state;
}
