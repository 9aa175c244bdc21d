-- The values of conditions. Each kind of value is none where the tree is of another kind.
use Rattle.std.specs.Prelude.{ℕ, ℤ, List, [], ◌∷◌, Option, Some, None, option_and_then}
use Rattle.jm_json.specs.Tree.{Tree, null, boolean, number, text, list, object}
use Rattle.jm_json.specs.Find.{as_text}
use Rattle.method_args.specs.Arguments.{as_strings}
use Rattle.jm_base.specs.UtcSeconds.{utc_seconds}

-- a UTCDate (RFC 8620, 1.4), in Unix seconds; a fraction of a second is dropped, as in every date
abbrev pub as_date : Tree → Option ℤ
as_date t = option_and_then utc_seconds (as_text t)

-- a string, or null
abbrev pub as_nullable : Tree → Option (Option (List ℕ))
as_nullable null = Some None
as_nullable (boolean b) = None
as_nullable (number z) = None
as_nullable (text s) = Some (Some s)
as_nullable (list ts) = None
as_nullable (object fs) = None

-- the name of a header field, and perhaps a text that it contains
pub record FieldTest : Type 0 where
  pub name : List ℕ
  pub needle : Option (List ℕ)

-- one or two strings (RFC 8621, 4.4.1: header)
abbrev pub field_test : List (List ℕ) → Option FieldTest
field_test [] = None
field_test (name ∷ []) = Some (record { name = name; needle = None })
field_test (name ∷ needle ∷ []) = Some (record { name = name; needle = Some needle })
field_test (name ∷ needle ∷ third ∷ more) = None

abbrev pub as_field_test : Tree → Option FieldTest
as_field_test t = option_and_then field_test (as_strings t)
