-- What is kept of a message that was opened.
use Rattle.std.specs.Prelude.{◌≡◌, ℕ, List, Option, IfSome, map}
use Rattle.mime_lines.specs.Fields.{fields_of}
use Rattle.mime_lines.specs.FieldTexts.{FieldText, read_at}
use Rattle.mime_tree.specs.PartLimit.{parts_of, walked}
use Rattle.blob_store.specs.Authors.{IsSearched}
use Rattle.message_texts.specs.Texts.{part_texts}

-- the text by which the message with these bytes is found in a search for its author, if it is
-- kept, the fields of its header, if they were listed, and the texts of its text parts, if they
-- were decoded
pub record IsOpened (bytes : List ℕ) (author : Option (List ℕ)) (fields : Option (List FieldText))
    (bodies : Option (List (List ℕ))) : Type 0 where
  pub searched : IsSearched bytes author
  pub header : IfSome fields (λ fs. fs ≡ map (read_at bytes) (fields_of bytes))
  pub decoded : IfSome bodies (λ texts. texts ≡ part_texts bytes (walked (parts_of bytes)))
