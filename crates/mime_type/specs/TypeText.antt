-- The text of a type as a careful writer writes it: two tokens, and a parameter in quotes.
use Rattle.std.specs.Prelude.{ℕ, ◌<◌, IsTrue, List, [], ◌∷◌, ◌++◌, length}
use Rattle.std.specs.List.{list_all}
use Rattle.mime_lines.specs.FieldOffsets.{lowered}
use Rattle.mime_type.specs.Characters.{is_token}
use Rattle.mime_type.specs.Grammar.{Kind, quoted_text}

-- one or more characters of a token
pub record IsToken (t : List ℕ) : Type 0 where
  pub some : 0 < length t
  pub each : IsTrue (list_all is_token t)

-- main/sub; name="value", where `"` and `\` in the value follow a backslash
abbrev pub written : List ℕ → List ℕ → List ℕ → List ℕ → List ℕ
written main sub name value =
    main ++ 47 ∷ (sub ++ 59 ∷ 32 ∷ (name ++ 61 ∷ 34 ∷ (quoted_text value ++ 34 ∷ [])))

-- what it means
abbrev pub meant : List ℕ → List ℕ → List ℕ → List ℕ → Kind
meant main sub name value = record {
  kind = lowered (main ++ 47 ∷ sub);
  params = record { name = lowered name; value = value } ∷ [];
}
