-- What the parts of a field keep of the text that they were read from: they are UTF-8.
use Rattle.std.specs.Prelude.{List, [], ◌∷◌}
use Rattle.std.specs.Str.{IsUtf8}
use Rattle.mime_type.specs.Grammar.{Pair, Kind}

-- each value is UTF-8
abbrev pub AreTexts : List Pair → Type 0
AreTexts [] = Unit {0}
AreTexts (p ∷ ps) = IsUtf8 p.value × AreTexts ps

pub record IsText (k : Kind) : Type 0 where
  pub kind : IsUtf8 k.kind
  pub values : AreTexts k.params
