use Rattle.method_args.proofs.NoPlaces.{all_added_without_places, ids_without_places}
use Rattle.method_args.proofs.laws.show_that_values_without_places_are_read.Goals as goal

pub returns-clause-ids : goal.returns-clause-ids
returns-clause-ids c = ids_without_places

pub returns-clause-added : goal.returns-clause-added
returns-clause-added c = all_added_without_places
