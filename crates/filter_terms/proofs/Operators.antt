-- What operators say of a list of filters.
use Rattle.std.proofs.Common.{◌≡◌, List, [], ◌∷◌, refl, ap}
use Rattle.jm_base.specs.declared.identifiers.Kind.{Kind}
use Rattle.jm_json.specs.Tree.{Tree, trees_of}
use Rattle.filter_terms.specs.Filters.{holds, items_match}
use Rattle.filter_terms.specs.Laws.{each_matches}
use Rattle.filter_terms.specs.Targets.{Target}

pub items_each : (kind : Kind) (x : Target) (ts : List Tree) → items_match kind x (trees_of ts) ≡ each_matches kind x ts
items_each kind x [] = refl
items_each kind x (t ∷ ts) = ap (λ bs. holds kind x t ∷ bs) (items_each kind x ts)
