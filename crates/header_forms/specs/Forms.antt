-- What a field's value is in each form, as a JSON tree (RFC 8621, section 4.1.2).
use Rattle.std.specs.Prelude.{ℕ, List, [], ◌∷◌, map, Option, Some, None, codes}
use Rattle.jm_json.specs.Tree.{Tree, null, text, list, object, trees_of, fields_of}
use Rattle.header_forms.specs.declared.form.Form.{Form}
use Rattle.header_forms.specs.declared.form.Form.TheVariants.{Raw, Text, Addresses, GroupedAddresses, MessageIds, Date, Urls}
use Rattle.header_forms.specs.Texts.{raw_text, on_one_line, text_form}
use Rattle.header_forms.specs.Angles.{angle_texts}
use Rattle.header_forms.specs.declared.address.Address.{Address}
use Rattle.header_forms.specs.declared.address.Group.{Group}
use Rattle.header_forms.specs.Addresses.{addresses_in, groups_in}
use Rattle.header_forms.specs.Dates.{date_text}

abbrev pub text_or_null : Option (List ℕ) → Tree
text_or_null None = null
text_or_null (Some t) = text t

abbrev pub address_tree : Address → Tree
address_tree a =
    object (fields_of ((codes "email", text a.email) ∷ (codes "name", text_or_null a.name) ∷ []))

abbrev pub addresses_tree : List Address → Tree
addresses_tree addresses = list (trees_of (map address_tree addresses))

abbrev pub group_tree : Group → Tree
group_tree g = object (fields_of ((codes "addresses", addresses_tree g.addresses)
    ∷ (codes "name", text_or_null g.name) ∷ []))

abbrev pub list_or_null : List (List ℕ) → Tree
list_or_null [] = null
list_or_null (t ∷ ts) = list (trees_of (map text (t ∷ ts)))

abbrev pub form_tree : Form → List ℕ → Tree
form_tree Raw value = text (raw_text value)
form_tree Text value = text (text_form value)
form_tree Addresses value = addresses_tree (addresses_in (on_one_line value))
form_tree GroupedAddresses value = list (trees_of (map group_tree (groups_in (on_one_line value))))
form_tree MessageIds value = list_or_null (angle_texts (on_one_line value))
form_tree Date value = text_or_null (date_text (on_one_line value))
form_tree Urls value = list_or_null (angle_texts (on_one_line value))
