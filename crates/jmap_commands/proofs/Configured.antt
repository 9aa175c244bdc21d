-- The users that the configuration of `batch` is read as.
use Rattle.std.proofs.Common.{◌≡◌, ℕ, false, List, [], codes, bytes_eq, refl, sym, ap, ◌∙◌}
use Rattle.std.proofs.lemmas.Bool.{true≢false}
use Rattle.std.specs.List.{list_any}
use Rattle.std.specs.Str.{chars, is_utf8}
use lib.Utf8.{encode}
use Rattle.serde_json.proofs.OnLiterals.{serde_json_on_literals}
use Rattle.jm_json.specs.Reading.{Reading, not_json, not_whole, whole, reading_of}
use Rattle.jm_json.specs.Tree.{Tree, null, boolean, text, list, object, no_trees, tree, no_fields, field}
use Rattle.server_users.specs.BadPlaces.{bad_places}
use Rattle.server_users.specs.Configuration.{Configuration, configuration_in}
use Rattle.server_users.specs.Lookups.{IsConfigurationOf, IsFaultOf, places_by, places_of}
use Rattle.server_users.specs.declared.fault.ConfigFault.{ConfigFault}
use Rattle.server_users.specs.declared.fault.ConfigFault.TheVariants.{BadConfig, NoMemory}
use Rattle.jmap_commands.specs.OneUser.{the_users}

abbrev pub the_bytes : List ℕ
the_bytes = codes "{\"users\":[{\"accounts\":[{\"id\":\"A1\",\"name\":\"A1\",\"readOnly\":false}],\"name\":\"batch\",\"token\":\"batch\"}]}"

abbrev account_tree : Tree
account_tree = object (field (codes "id") (text (codes "A1")) (field (codes "name") (text (codes "A1")) (field (codes "readOnly") (boolean false) no_fields)))

abbrev user_tree : Tree
user_tree = object (field (codes "accounts") (list (tree account_tree no_trees)) (field (codes "name") (text (codes "batch")) (field (codes "token") (text (codes "batch")) no_fields)))

abbrev the_tree : Tree
the_tree = object (field (codes "users") (list (tree user_tree no_trees)) no_fields)

reads : reading_of the_bytes ≡ whole the_tree
unfolding serde_json_on_literals is_utf8 chars encode
reads = refl

configures : configuration_in the_tree ≡ the_users
configures = refl

no_place : bad_places the_tree ≡ []
no_place = refl

abbrev tree_in : Reading → Tree
tree_in (whole t) = t
tree_in not_json = null
tree_in (not_whole path) = null

pub configured : (bytes : List ℕ) (users : Configuration) → bytes ≡ the_bytes → IsConfigurationOf bytes users → users ≡ the_users
configured bytes users is (t, read, good, made) =
    let same : the_tree ≡ t = ap tree_in (sym reads ∙ (ap reading_of (sym is) ∙ read)) in
    made ∙ (ap configuration_in (sym same) ∙ configures)

none_bad : (bytes : List ℕ) → bytes ≡ the_bytes → places_of bytes ≡ []
none_bad bytes is = ap places_of is ∙ (ap places_by reads ∙ no_place)

pub only_memory : (bytes : List ℕ) (fault : ConfigFault) → bytes ≡ the_bytes → IsFaultOf (places_of bytes) fault → fault ≡ NoMemory
only_memory bytes (BadConfig place) is least = absurd (true≢false (sym least.among ∙ ap (list_any (bytes_eq place)) (none_bad bytes is)))
only_memory bytes NoMemory is least = refl
