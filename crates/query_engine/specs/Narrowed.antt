-- For private clauses: what the marks of all blobs say of whether a filter matches.
use Rattle.std.specs.Prelude.{◌≡◌, ℕ, Bool, true, false, ⊤}
use Rattle.text_column.specs.Columns.{mark_of}
use Rattle.text_column.specs.declared.mark.Mark.{Mark}
use Rattle.text_column.specs.declared.mark.Mark.TheVariants.{HasNot, Has, Open}
use Rattle.filter_terms.specs.Filters.{holds}
use Rattle.filter_terms.specs.Targets.{AnEmail, EmailInThread}
use Rattle.filter_terms.specs.Texts.{MessageTexts}
use Rattle.query_engine.specs.Views.{QueryTree}
use Rattle.query_engine.specs.declared.narrowed.Narrowed.{Narrowed}

-- What the mark of an email's blob says of whether the filter matches, where the filter asks for
-- the text alone or for other things too.
abbrev pub Says : Mark → Bool → Bool → Type 0
Says HasNot alone matches = matches ≡ false
Says Has true matches = matches ≡ true
Says Has false matches = ⊤
Says Open alone matches = ⊤

-- what the mark of each email's blob says of the filter is true
abbrev pub Narrows : QueryTree → (ℕ → MessageTexts) → Narrowed → Type 0
Narrows q texts n =
    (s : EmailInThread)
    → Says (mark_of n.marks.items s.email.blob) n.alone (holds q.kind (AnEmail texts s) q.filter)
