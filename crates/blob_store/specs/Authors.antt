-- The text by which a message is found in a search for its author: that of its field From, in lower
-- case (RFC 8621, section 4.4.1).
use Rattle.std.specs.Prelude.{◌≡◌, ℕ, List, [], ◌∷◌, map, filter, codes, Option, Some, None, IfSome, ⊤}
use Rattle.mime_lines.specs.Fields.{fields_of}
use Rattle.mime_lines.specs.FieldOffsets.{is_named, lowered, value_in}
use Rattle.mime_lines.specs.declared.field.Field.{Field}
use Rattle.header_forms.specs.Texts.{text_form}

-- the value of each of these fields that is a field From, as it is written
abbrev pub author_values : List ℕ → List Field → List (List ℕ)
author_values bytes fields = map (value_in bytes) (filter (is_named bytes (codes "From")) fields)

-- the Text form of each field From of the message's own header, in their order
abbrev pub author_texts : List ℕ → List (List ℕ)
author_texts bytes = map text_form (author_values bytes (fields_of bytes))

-- The one text that may stand for these in a search for one byte or more, in lower case: the empty
-- one if there is none, since nothing is found in either. Two texts have no text that stands for
-- them: what is found across their border is in neither.
abbrev pub searched_text : List (List ℕ) → Option (List ℕ)
searched_text [] = Some []
searched_text (t ∷ []) = Some (lowered t)
searched_text (t ∷ u ∷ more) = None

-- the text, if it is there, stands for the authors of the message with these bytes
abbrev pub IsSearched : List ℕ → Option (List ℕ) → Type 0
IsSearched bytes text = IfSome text (λ t. searched_text (author_texts bytes) ≡ Some t)

-- the texts that are there stand for the authors of the first of these blobs, one of each
abbrev pub AreSearched : List (Option (List ℕ)) → List (List ℕ) → Type 0
AreSearched [] blobs = ⊤
AreSearched (t ∷ ts) [] = ⊥
AreSearched (t ∷ ts) (b ∷ bs) = IsSearched b t × AreSearched ts bs
