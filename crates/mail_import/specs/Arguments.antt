-- The arguments of an Email/import, and its imports (RFC 8621, 4.8).
use Rattle.std.specs.Prelude.{ℕ, List, [], ◌∷◌, length, codes}
use Rattle.jm_json.specs.Tree.{Tree}
use Rattle.method_args.specs.Arguments.{Form}
use Rattle.method_args.specs.declared.form.Presence.TheVariants.{Required, Nullable}
use Rattle.method_args.specs.declared.form.Shape.TheVariants.{String, Objects}
use Rattle.set_parts.specs.Arguments.{Create, creates_named}

-- The arguments in byte order, in which they are checked.
abbrev pub forms : List Form
forms =
    record { name = codes "accountId"; presence = Required; shape = String }
    ∷ record { name = codes "emails"; presence = Required; shape = Objects }
    ∷ record { name = codes "ifInState"; presence = Nullable; shape = String }
    ∷ []

-- the imports, each an EmailImport object under its creation id, in byte order of these
abbrev pub imports_in : List (List ℕ × Tree) → List Create
imports_in ms = creates_named (codes "emails") ms

-- how many imports there are
abbrev pub count_imports : List (List ℕ × Tree) → ℕ
count_imports ms = length (imports_in ms)
