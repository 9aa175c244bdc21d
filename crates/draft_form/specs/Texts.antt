-- The strings that a draft may have (RFC 5322, sections 2.2 and 3.2; RFC 2045, section 5.1).
use Rattle.std.specs.Prelude.{ℕ, Bool, ◌&&◌, not, ◌==◌, nat_le, nat_lt, List, length}
use Rattle.std.specs.List.{list_all}
use Rattle.header_forms.specs.WrittenForms.{has_no_outer_white, is_address_character, is_id_character}
use Rattle.mime_type.specs.Characters.{is_token}
use Rattle.mime_type.specs.HeadText.{is_label_character}
use Rattle.draft_form.specs.declared.texts.TextRule.{TextRule}
use Rattle.draft_form.specs.declared.texts.TextRule.TheVariants.{Any, Token, Label, Identifier, Address, Shown, FieldText, DisplayName}
use Rattle.draft_form.specs.declared.texts.TheConstants.{MAX_LABEL_BYTES}

-- no ASCII control character, of which each is one byte in UTF-8
abbrev pub is_shown_byte : ℕ → Bool
is_shown_byte b = nat_le 32 b && not (b == 127)

abbrev pub are_shown : List ℕ → Bool
are_shown text = list_all is_shown_byte text

-- one or more characters of a class
abbrev pub are_some : (ℕ → Bool) → List ℕ → Bool
are_some class text = nat_lt 0 (length text) && list_all class text

-- at most so many of them
abbrev pub are_few : (ℕ → Bool) → List ℕ → Bool
are_few class text = nat_le (length text) MAX_LABEL_BYTES && are_some class text

-- no control character, and no white space at either end
abbrev pub is_field_text : List ℕ → Bool
is_field_text text = are_shown text && has_no_outer_white text

abbrev pub keeps : TextRule → List ℕ → Bool
keeps Any text = nat_le 0 (length text)
keeps Token text = are_some is_token text
keeps Label text = are_few is_label_character text
keeps Identifier text = are_few is_id_character text
keeps Address text = are_some is_address_character text
keeps Shown text = are_shown text
keeps FieldText text = is_field_text text
keeps DisplayName text = nat_lt 0 (length text) && is_field_text text
