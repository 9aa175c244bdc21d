-- The identifiers that a get asks for.
use Rattle.std.proofs.Common.{◌≡◌, ℕ, List, [], ◌∷◌, map, refl, ap}
use Rattle.jm_base.specs.declared.identifiers.Kind.{Kind}
use Rattle.jm_json.specs.Tree.{Tree, text}
use Rattle.method_args.specs.Ids.{id_trees}
use Rattle.client_cache.specs.Requests.{id_of}

pub texts_of_ids : (kind : Kind) (ns : List ℕ) → map text (map (id_of kind) ns) ≡ id_trees kind ns
texts_of_ids kind [] = refl
texts_of_ids kind (n ∷ ns) = ap (λ (ts : List Tree). text (id_of kind n) ∷ ts) (texts_of_ids kind ns)
