-- Where no properties are named, none is hidden.
use Rattle.std.proofs.Common.{◌≡◌, ℕ, List, [], ◌∷◌, None, refl}
use Rattle.get_args.specs.Selection.{hidden_of}

pub none_hidden : (properties : List (List ℕ)) → hidden_of None properties ≡ []
none_hidden [] = refl
none_hidden (p ∷ ps) = none_hidden ps
