-- What the conditions of a filter look at in a message (RFC 8621, 4.4.1).
use Rattle.std.specs.Prelude.{◌≡◌, ℕ, List, ◌++◌, length, Bool, true, false, not, ◌==◌, ⊤, Option, Some, None, codes}
use Rattle.text_column.specs.declared.mark.Mark.{Mark}
use Rattle.text_column.specs.declared.mark.Mark.TheVariants.{HasNot, Has, Open}
use Rattle.filter_terms.specs.Contains.{some_contains}
use Rattle.filter_terms.specs.declared.texts.Place.{Place}
use Rattle.filter_terms.specs.declared.texts.Place.TheVariants.{Text, From, To, Cc, Bcc, Subject, Body}

-- The texts of a message: for each name of a header field, which counts in either case, the Text
-- form of each field of that name, and the decoded text of each text part.
pub record MessageTexts : Type 0 where
  pub fields : List ℕ → List (List ℕ)
  pub bodies : List (List ℕ)

-- the texts that a condition looks at; `text` looks at those of all others
abbrev pub texts_at : MessageTexts → Place → List (List ℕ)
texts_at m From = m.fields (codes "From")
texts_at m To = m.fields (codes "To")
texts_at m Cc = m.fields (codes "Cc")
texts_at m Bcc = m.fields (codes "Bcc")
texts_at m Subject = m.fields (codes "Subject")
texts_at m Body = m.bodies
texts_at m Text =
    m.fields (codes "From") ++ m.fields (codes "To") ++ m.fields (codes "Cc")
    ++ m.fields (codes "Bcc") ++ m.fields (codes "Subject") ++ m.bodies

-- one of the texts that the condition looks at contains the needle
abbrev pub has_text : MessageTexts → Place → List ℕ → Bool
has_text m place needle = some_contains needle (texts_at m place)

-- there is a field of the name, and with a needle one whose text contains it
abbrev pub has_field : MessageTexts → List ℕ → Option (List ℕ) → Bool
has_field m name None = not (length (m.fields name) == 0)
has_field m name (Some needle) = some_contains needle (m.fields name)

-- a mark agrees with whether a text is there; an open one says nothing
abbrev pub Agrees : Mark → Bool → Type 0
Agrees Has b = b ≡ true
Agrees HasNot b = b ≡ false
Agrees Open b = ⊤

-- A filter asks for a text: it holds only if the text is there, and if it asks for nothing else, it
-- holds if and only if the text is there.
abbrev pub IsRequired : Bool → Bool → Bool → Type 0
IsRequired true has holds = holds ≡ has
IsRequired false has holds = holds ≡ true → has ≡ true
