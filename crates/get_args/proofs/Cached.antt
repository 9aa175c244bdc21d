-- What a client asks for is read as what it keeps.
use Rattle.std.proofs.Common.{◌≡◌, ℕ, List, false, refl}
use Rattle.get_args.specs.Wanted.{asked, cached_arguments, cached_wanted, wanted_in}

pub cached_are_read : (account : List ℕ) (ids : List (List ℕ)) → wanted_in (cached_arguments account ids) false ≡ asked cached_wanted
unfolding cached_wanted
cached_are_read account ids = refl
