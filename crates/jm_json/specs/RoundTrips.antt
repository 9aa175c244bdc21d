-- What holds of a value whose text is read back as it. Only private clauses cite it.
use Rattle.std.specs.Prelude.{◌≡◌, Some}
use Rattle.serde_json.specs.Data.{Data, Items, Members}
use Rattle.serde_json.specs.Read.{of_json, of_items, of_members}
use Rattle.serde_json.specs.Written.{outline, items_outline, members_outline}

abbrev pub IsReadBack : Data → Type 0
IsReadBack d = of_json (outline d) ≡ Some d

abbrev pub AreReadBack : Items → Type 0
AreReadBack ds = of_items (items_outline ds) ≡ Some ds

-- these members, which with those found before are all
abbrev pub MembersReadBack : Members → Members → Members → Type 0
MembersReadBack found ms all = of_members (members_outline ms) found ≡ Some all
