-- The values of written fields, found by their names and read on one line.
use Rattle.std.proofs.Common.{◌≡◌, ℕ, zero, suc, ◌≤◌, Bool, true, false, cond, eqb, leb, List, [], ◌∷◌, ◌++◌, map, reverse, codes, Option, None, Some, option_map, refl, sym, ap, ◌∙◌, append_assoc, bytes_eq, arith}
use Rattle.std.specs.Prelude.{find, nat_eq}
use Rattle.std.specs.List.{AllByRecursion, list_all, starts_with}
use Rattle.std.specs.Option.{option_or}
use Rattle.std.specs.Str.{IsAscii}
use Rattle.std.specs.Str.Lossy.{utf8_lossy}
use Rattle.std.proofs.lemmas.Bool.{le-leb, leb-true, ne_eqb, true≢false}
use Rattle.std.proofs.lemmas.List.{append-nil, reverse-append}
use Rattle.std.proofs.lemmas.List.Folds.{find-append, list_all-append}
use Rattle.std.proofs.lemmas.Slice.Eq.{bytes_eq-Decides}
use Rattle.std.proofs.lemmas.Str.{IsUtf8-from_ascii, utf8_lossy-IsUtf8}
use Rattle.mime_lines.specs.Lines.{unfolded}
use Rattle.mime_lines.specs.Fields.{fields_of}
use Rattle.mime_lines.specs.FieldOffsets.{lowered, value_in, is_named, last_value_of}
use Rattle.mime_lines.specs.FieldTexts.{FieldText, read_at}
use Rattle.mime_lines.specs.Written.{IsField, fold, header_and_body, is_folded, is_inline}
use Rattle.mime_lines.proofs.ReadFacts.{fields_read}
use Rattle.mime_lines.proofs.Unfolds.{IsInline, both_true, not_true}
use Rattle.mime_lines.proofs.FoldedTexts.{Folds, folds_both, folds_fold, folds_inline, folds_unfolded}
use Rattle.mime_lines.proofs.WrittenFields.{fields_back}
use Rattle.mime_lines.specs.declared.field.Field.{Field}
use Rattle.mime_codec.specs.Quoted.{is_between}
use Rattle.mime_type.specs.Head.{field_text}
use Rattle.mime_type.specs.HeadText.{is_content_field, IsOtherField}

-- ---- the last field of a name

-- whether a field has this name
abbrev pub has_name : List ℕ → FieldText → Bool
has_name name f = bytes_eq (lowered f.name) (lowered name)

abbrev value_if : Bool → FieldText → Option (List ℕ)
value_if v f = cond v (Some f.value) None

-- the value of the last field of a name
abbrev pub last_of : List ℕ → List FieldText → Option (List ℕ)
last_of name [] = None
last_of name (f ∷ fs) = option_or (last_of name fs) (value_if (has_name name f) f)

reverse_first : {A : Type 0} (x : A) (xs : List A) → reverse (x ∷ xs) ≡ reverse xs ++ x ∷ []
reverse_first x xs = reverse-append (x ∷ []) xs

found_map : (bytes : List ℕ) (a b : Option Field) → option_map (value_in bytes) (option_or a b) ≡ option_or (option_map (value_in bytes) a) (option_map (value_in bytes) b)
found_map bytes None b = refl
found_map bytes (Some x) b = refl

one_found : (bytes name : List ℕ) (f : Field) → option_map (value_in bytes) (find (is_named bytes name) (f ∷ [])) ≡ value_if (has_name name (read_at bytes f)) (read_at bytes f)
one_found bytes name f = elim (is_named bytes name f) as (λ v. option_map (value_in bytes) (cond v (Some f) None) ≡ cond v (Some (value_in bytes f)) None) [ true ↦ refl | false ↦ refl ]

last_read : (bytes name : List ℕ) (fs : List Field) → last_value_of bytes name fs ≡ last_of name (map (read_at bytes) fs)
last_read bytes name [] = refl
last_read bytes name (f ∷ fs) =
    ap (λ xs. option_map (value_in bytes) (find (is_named bytes name) xs)) (reverse_first f fs)
    ∙ ap (option_map (value_in bytes)) (find-append (is_named bytes name) (reverse fs) (f ∷ []))
    ∙ found_map bytes (find (is_named bytes name) (reverse fs)) (find (is_named bytes name) (f ∷ []))
    ∙ ap (option_or (last_value_of bytes name fs)) (one_found bytes name f)
    ∙ ap (λ o. option_or o (value_if (has_name name (read_at bytes f)) (read_at bytes f))) (last_read bytes name fs)

last_written : (name : List ℕ) (fs : List FieldText) (body : List ℕ) → AllByRecursion IsField fs
    → last_value_of (header_and_body fs body) name (fields_of (header_and_body fs body)) ≡ last_of name fs
last_written name fs body h =
    let bytes = header_and_body fs body in
    last_read bytes name (fields_of bytes) ∙ ap (last_of name) (fields_read bytes ∙ fields_back fs body h)

or_joined : (a b c : Option (List ℕ)) → option_or (option_or a b) c ≡ option_or a (option_or b c)
or_joined None b c = refl
or_joined (Some x) b c = refl

pub last_both : (name : List ℕ) (xs ys : List FieldText) → last_of name (xs ++ ys) ≡ option_or (last_of name ys) (last_of name xs)
last_both name [] ys = elim (last_of name ys) as (λ o. o ≡ option_or o None) [ None ↦ refl | Some x ↦ refl ]
last_both name (x ∷ xs) ys = ap (λ o. option_or o (value_if (has_name name x) x)) (last_both name xs ys) ∙ or_joined (last_of name ys) (last_of name xs) (value_if (has_name name x) x)

-- a field that isn't of a part's head
abbrev pub IsContent : List ℕ → Type 0
IsContent name = starts_with nat_eq (lowered name) (codes "content-") ≡ true

not_named : (name : List ℕ) (f : FieldText) → IsContent name → is_content_field f ≡ false → has_name name f ≡ false
not_named name f c h = elim (has_name name f) as (λ v. has_name name f ≡ v → v ≡ false) [
  | true ↦ λ e.
      let same : lowered f.name ≡ lowered name = (bytes_eq-Decides (lowered f.name) (lowered name)).0 e in
      absurd (true≢false (sym c ∙ ap (λ n. starts_with nat_eq n (codes "content-")) (sym same) ∙ h))
  | false ↦ λ _. refl
] refl

pub none_of : (name : List ℕ) (fs : List FieldText) → IsContent name → AllByRecursion IsOtherField fs → last_of name fs ≡ None
none_of name [] c h = refl
none_of name (f ∷ fs) c h = rw (none_of name fs c h.1, not_named name f c h.0.other) refl

-- ---- values on one line

abbrev pub is_printed : ℕ → Bool
is_printed b = is_between 32 126 b

abbrev pub is_seven : ℕ → Bool
is_seven b = leb b 127

-- a value, and what it is on one line
pub record Value (v line : List ℕ) : Type 0 where
  pub folds : Folds v line
  pub folded : (rest : List ℕ) → is_folded (v ++ rest) ≡ is_folded rest
  pub seven : list_all is_seven line ≡ true

both_all : (test : ℕ → Bool) (a b : List ℕ) → list_all test a ≡ true → list_all test b ≡ true → list_all test (a ++ b) ≡ true
both_all test a b h k = list_all-append test a b ∙ rw (h, k) refl

pub value_both : (a b c d : List ℕ) → Value a b → Value c d → Value (a ++ c) (b ++ d)
value_both a b c d f g = record {
  folds = folds_both a b c d f.folds g.folds;
  folded = λ rest. ap is_folded (append_assoc a c rest) ∙ f.folded (c ++ rest) ∙ g.folded rest;
  seven = both_all is_seven b d f.seven g.seven;
}

printed_inline : (b : ℕ) → is_printed b ≡ true → is_inline b ≡ true
printed_inline b h = let low : 32 ≤ b = leb-true 32 b (both_true (leb 32 b) (leb b 126) h).0 in rw (ne_eqb b 10 (λ e. omega (arith, e, low))) refl

printed_seven : (b : ℕ) → is_printed b ≡ true → is_seven b ≡ true
printed_seven b h = let high : b ≤ 126 = leb-true b 126 (both_true (leb 32 b) (leb b 126) h).1 in le-leb b 127 (omega arith)

pub all_weaker : (p q : ℕ → Bool) → ((b : ℕ) → p b ≡ true → q b ≡ true) → (t : List ℕ) → list_all p t ≡ true → list_all q t ≡ true
all_weaker p q weaker [] h = refl
all_weaker p q weaker (b ∷ bs) h =
    let parts = both_true (p b) (list_all p bs) h in
    rw (weaker b parts.0) (all_weaker p q weaker bs parts.1)

folded_inline : (t rest : List ℕ) → IsInline t → is_folded (t ++ rest) ≡ is_folded rest
folded_inline [] rest h = refl
folded_inline (b ∷ bs) rest h =
    let parts = both_true (is_inline b) (list_all is_inline bs) h in
    rw (not_true (eqb b 10) parts.0) (folded_inline bs rest parts.1)

pub value_printed : (t : List ℕ) → list_all is_printed t ≡ true → Value t t
value_printed t h =
    let inline = all_weaker is_printed is_inline printed_inline t h in
    record { folds = folds_inline t inline; folded = λ rest. folded_inline t rest inline; seven = all_weaker is_printed is_seven printed_seven t h }

pub value_fold : Value fold (32 ∷ [])
value_fold = record { folds = folds_fold; folded = λ rest. refl; seven = refl }

seven_ascii : (t : List ℕ) → list_all is_seven t ≡ true → IsAscii t
seven_ascii [] h i = omega arith
seven_ascii (b ∷ bs) h zero = omega (arith, leb-true b 127 (both_true (is_seven b) (list_all is_seven bs) h).0)
seven_ascii (b ∷ bs) h (suc i) = seven_ascii bs (both_true (is_seven b) (list_all is_seven bs) h).1 i

pub value_read : (v line : List ℕ) → Value v line → utf8_lossy (unfolded v) ≡ line
value_read v line f = ap utf8_lossy (folds_unfolded v line f.folds) ∙ utf8_lossy-IsUtf8 line (IsUtf8-from_ascii line (seven_ascii line f.seven))

pub value_folded : (v line : List ℕ) → Value v line → is_folded v ≡ true
value_folded v line f = ap is_folded (sym (append-nil v)) ∙ f.folded []

-- what a field of a written header says
abbrev pub said_in : Option (List ℕ) → Option (List ℕ)
said_in o = option_map (λ value. utf8_lossy (unfolded value)) o

pub field_said : (name : List ℕ) (fs : List FieldText) (body : List ℕ) → AllByRecursion IsField fs → field_text name (header_and_body fs body) ≡ said_in (last_of name fs)
unfolding field_text
field_said name fs body h = ap said_in (last_written name fs body h)
