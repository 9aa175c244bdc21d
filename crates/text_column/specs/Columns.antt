-- A column of texts, and what a search of it says.
use Rattle.std.specs.Prelude.{◌≡◌, ℕ, zero, suc, ◌≤◌, List, [], ◌∷◌, Option, None, Some, slice_index, slice_range}
use Rattle.std.specs.List.{slice_index_or}
use Rattle.memchr.specs.Find.{OccursAt}
use Rattle.text_column.specs.declared.mark.Mark.{Mark}
use Rattle.text_column.specs.declared.mark.Mark.TheVariants.{HasNot, Has, Open}

-- the text of a column that is in the bytes from `start` up to `end`; none where the blank mark
-- says that it is left out
abbrev pub text_in : List ℕ → ℕ → ℕ → Mark → Option (List ℕ)
text_in bytes start end HasNot = Some (slice_range bytes start end)
text_in bytes start end Has = Some (slice_range bytes start end)
text_in bytes start end Open = None

-- the texts of a column: each is in the bytes from where the one before it ends, the first from
-- `start`, up to its own end
abbrev pub texts_in : List ℕ → ℕ → List ℕ → List Mark → List (Option (List ℕ))
texts_in bytes start [] marks = []
texts_in bytes start (end ∷ ends) [] = []
texts_in bytes start (end ∷ ends) (mark ∷ marks) =
    text_in bytes start end mark ∷ texts_in bytes end ends marks

-- the mark of a text in a search that finds nothing: a text that is left out takes no bytes
abbrev pub IsBlank : ℕ → ℕ → Mark → Type 0
IsBlank start end HasNot = Unit {0}
IsBlank start end Has = ⊥
IsBlank start end Open = end ≡ start

-- The ends of texts, with their blank marks: each text ends where it starts or after that, and the
-- last one at `size`.
abbrev pub AreEnds : ℕ → List ℕ → List Mark → ℕ → Type 0
AreEnds start [] [] size = start ≡ size
AreEnds start [] (mark ∷ marks) size = ⊥
AreEnds start (end ∷ ends) [] size = ⊥
AreEnds start (end ∷ ends) (mark ∷ marks) size =
    (start ≤ end) × IsBlank start end mark × AreEnds end ends marks size

-- where the text with this index starts: the first at `start`, each other where the one before it
-- ends
abbrev pub start_at : ℕ → List ℕ → ℕ → ℕ
start_at start ends zero = start
start_at start ends (suc n) = slice_index ends n

-- the text with this index, counted from 0; none if it is left out or there is no such index
abbrev pub text_at : List (Option (List ℕ)) → ℕ → Option (List ℕ)
text_at texts index = slice_index_or texts index None

-- the needle is in the text, at some place
abbrev pub IsIn : List ℕ → List ℕ → Type 0
IsIn needle text = (k : ℕ) × OccursAt text needle k

-- the mark says whether the needle is in the text, or that the text is left out
abbrev pub IsMark : List ℕ → Option (List ℕ) → Mark → Type 0
IsMark needle None mark = mark ≡ Open
IsMark needle (Some text) HasNot = ¬ (IsIn needle text)
IsMark needle (Some text) Has = IsIn needle text
IsMark needle (Some text) Open = ⊥

-- there is one mark a text, and each says that of its text
abbrev pub AreMarks : List ℕ → List (Option (List ℕ)) → List Mark → Type 0
AreMarks needle [] [] = Unit {0}
AreMarks needle [] (mark ∷ marks) = ⊥
AreMarks needle (text ∷ texts) [] = ⊥
AreMarks needle (text ∷ texts) (mark ∷ marks) =
    IsMark needle text mark × AreMarks needle texts marks

-- the mark of the text with this number, counted from 1; `Open` if no text has the number
abbrev pub mark_of : List Mark → ℕ → Mark
mark_of marks zero = Open
mark_of marks (suc n) = slice_index_or marks n Open
