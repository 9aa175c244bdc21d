-- The lines of a header one by one: a line that is no field of the name changes nothing, whether or not it is continued.
use Rattle.std.proofs.Common.{◌≡◌, ◌≢◌, ℕ, ◌+◌, ◌<◌, Bool, true, false, cond, eqb, ltb, List, [], ◌∷◌, ◌++◌, get_or, length, take, drop, Option, Some, None, IfSome, refl, sym, ap, ap₂, ◌∙◌, subst, arith, ⊎_elim}
use Rattle.std.specs.Prelude.{◌&&◌, ◌||◌, bytes_eq}
use Rattle.std.specs.List.{list_any, onto_first}
use Rattle.std.proofs.lemmas.Bool.{and_parts, cases_Bool, eqb-true, ne_eqb, or_cases, true≢false}
use Rattle.std.proofs.lemmas.List.{get_or_append_left, take-append-le}
use Rattle.std.proofs.lemmas.List.Folds.{prefix_len-append}
use Rattle.mime_lines.specs.FieldOffsets.{lowered}
use Rattle.mime_lines.specs.FieldTexts.{FieldText, field_text_of, field_texts_of}
use Rattle.mime_lines.specs.Fields.{fields_of, goes_on, header, is_field, is_name_byte, joined, name_len, next_goes_on, onto_next}
use Rattle.mime_lines.specs.Lines.{is_blank, is_line_end, lines, text}
use Rattle.mime_lines.proofs.ReadFacts.{fields_read}
use Rattle.header_forms.specs.Texts.{text_form}
use Rattle.filter_terms.specs.Contains.{contains, some_contains}
use Rattle.message_texts.specs.Scan.{is_field_named, lines_have}
use Rattle.message_texts.specs.Texts.{field_has, field_texts}
use Rattle.message_texts.proofs.Found.{some_field_has}

-- ---- a line that continues the one before it

blank_first : (b : ℕ) (bs : List ℕ) → is_blank b ≡ true → is_field (b ∷ bs) ≡ false
blank_first b bs h =
    ⊎_elim
    (λ (e : eqb b 32 ≡ true). subst (λ x. is_field (x ∷ bs) ≡ false) (sym (eqb-true b 32 e)) refl)
    (λ (e : eqb b 9 ≡ true). subst (λ x. is_field (x ∷ bs) ≡ false) (sym (eqb-true b 9 e)) refl)
    (or_cases (eqb b 32) (eqb b 9) h)

no_field : (g : List ℕ) → goes_on g ≡ true → is_field g ≡ false
no_field [] h = absurd (true≢false (sym h))
no_field (b ∷ bs) h = blank_first b bs h

still_blank : (l g : List ℕ) → goes_on l ≡ true → goes_on (l ++ g) ≡ true
still_blank [] g h = absurd (true≢false (sym h))
still_blank (b ∷ bs) g h = h

-- the first of some joined lines continues the one before them, if the first line does
first_joined : (ls : List (List ℕ)) → next_goes_on ls ≡ true → (g : List ℕ) × (gs : List (List ℕ)) × (joined ls ≡ g ∷ gs) × (goes_on g ≡ true)
first_joined [] h = absurd (true≢false (sym h))
first_joined (l ∷ ls) h = by (next_goes_on ls) (joined ls)
  where
    by : (v : Bool) (js : List (List ℕ)) → (g : List ℕ) × (gs : List (List ℕ)) × (cond v (onto_next l js) (l ∷ js) ≡ g ∷ gs) × (goes_on g ≡ true)
    by true [] = (l, [], refl, h)
    by true (g ∷ gs) = (l ++ g, gs, refl, still_blank l g h)
    by false js = (l, js, refl, h)

-- the lines after an empty line are none of the header, and a line that doesn't begin with space or tab continues none
not_folded : (b : ℕ) (bs : List ℕ) (ms : List (List ℕ)) → is_blank b ≡ false → next_goes_on (header ((b ∷ bs) ∷ ms)) ≡ false
not_folded b bs ms h =
    elim (is_line_end (b ∷ bs)) as (λ v. next_goes_on (cond v [] ((b ∷ bs) ∷ header ms)) ≡ false) [ true ↦ refl | false ↦ h ]

first_not_folded : (b : ℕ) (ls : List (List ℕ)) → is_blank b ≡ false → next_goes_on (header (onto_first b ls)) ≡ false
first_not_folded b [] h = not_folded b [] [] h
first_not_folded b (l ∷ ls) h = not_folded b l ls h

next_alone : (bytes : List ℕ) → goes_on bytes ≡ false → next_goes_on (header (lines bytes)) ≡ false
next_alone [] h = refl
next_alone (b ∷ bs) h =
    elim (eqb b 10) as (λ v. next_goes_on (header (cond v ((b ∷ []) ∷ lines bs) (onto_first b (lines bs)))) ≡ false) [
      | true ↦ not_folded b [] (lines bs) h
      | false ↦ first_not_folded b (lines bs) h
    ]

-- ---- the name of a field is in its first line

module _ (name needle : List ℕ) where
  abbrev has : FieldText → Bool
  has f = field_has name needle f

  abbrev line_has : List ℕ → Bool
  line_has l = is_field l && has (field_text_of l)

  first_line : (l : List ℕ) (ls : List (List ℕ)) → list_any has (field_texts_of (l ∷ ls)) ≡ (line_has l || list_any has (field_texts_of ls))
  first_line l ls =
      elim (is_field l) as (λ v. list_any has (cond v (field_text_of l ∷ field_texts_of ls) (field_texts_of ls)) ≡ ((v && has (field_text_of l)) || list_any has (field_texts_of ls))) [ true ↦ refl | false ↦ refl ]

  and_three : (a b c : Bool) → (a && b) ≡ false → (a && (b && c)) ≡ false
  and_three true b c e = ap (λ x. x && c) e
  and_three false b c e = refl

  unnamed : (l : List ℕ) → is_field_named name l ≡ false → line_has l ≡ false
  unnamed l e = and_three (is_field l) (bytes_eq (lowered (take (name_len l) l)) (lowered name)) (contains needle (text_form (field_text_of l).value)) e

  abbrev named_by : ℕ → ℕ → List ℕ → Bool
  named_by n colon front = (ltb 0 n && eqb colon 58) && bytes_eq (lowered front) (lowered name)

  same_name : (l g : List ℕ) → name_len l < length l → is_field_named name (l ++ g) ≡ is_field_named name l
  same_name l g lt =
      let n = name_len l in
      let other : eqb n (length l) ≡ false = ne_eqb n (length l) (λ e. omega (arith, lt, e)) in
      let same : name_len (l ++ g) ≡ n = prefix_len-append is_name_byte l g ∙ ap (λ v. cond v (length l + name_len g) n) other in
      ap (λ k. named_by k (get_or (l ++ g) k 0) (take k (l ++ g))) same
      ∙ ap₂ (λ c front. named_by n c front) (get_or_append_left l g 0 n lt) (take-append-le n l g (omega (arith, lt)))

  -- a line that is no field of the name
  pub other_line : (l : List ℕ) (hs : List (List ℕ)) → name_len l < length l → is_field_named name l ≡ false → lines_have name needle (l ∷ hs) ≡ lines_have name needle hs
  other_line l hs lt e =
      ⊎_elim
      (λ (f : next_goes_on hs ≡ true).
      let w = first_joined hs f in
      let g : List ℕ = w.0 in
      let gs : List (List ℕ) = w.1 in
      let is : joined hs ≡ g ∷ gs = w.2 in
      let whole : joined (l ∷ hs) ≡ (l ++ g) ∷ gs = ap (λ v. cond v (onto_next l (joined hs)) (l ∷ joined hs)) f ∙ ap (onto_next l) is in
      let none : line_has (l ++ g) ≡ false = unnamed (l ++ g) (same_name l g lt ∙ e) in
      let blank : line_has g ≡ false = ap (λ v. v && has (field_text_of g)) (no_field g w.3) in
      ap (λ js. list_any has (field_texts_of js)) whole
      ∙ (first_line (l ++ g) gs
      ∙ (ap (λ v. v || list_any has (field_texts_of gs)) (none ∙ sym blank) ∙ (sym (first_line g gs) ∙ ap (λ js. list_any has (field_texts_of js)) (sym is)))))
      (λ (f : next_goes_on hs ≡ false).
      ap (λ v. list_any has (field_texts_of (cond v (onto_next l (joined hs)) (l ∷ joined hs)))) f
      ∙ (first_line l (joined hs) ∙ ap (λ v. v || list_any has (field_texts_of (joined hs))) (unnamed l e)))
      (cases_Bool (next_goes_on hs))

  -- a line that is a field of the name, and isn't continued
  pub named_line : (l after : List ℕ) (found : Bool) → is_field_named name l ≡ true → goes_on after ≡ false → found ≡ contains needle (text_form (drop (name_len l + 1) (text l)))
      → lines_have name needle (l ∷ header (lines after)) ≡ (found || lines_have name needle (header (lines after)))
  named_line l after found e alone is =
      let hs = header (lines after) in
      let both = and_parts (is_field l) (bytes_eq (lowered (take (name_len l) l)) (lowered name)) e in
      let here : line_has l ≡ found = ap₂ (λ a b. a && (b && contains needle (text_form (drop (name_len l + 1) (text l))))) both.0 both.1 ∙ sym is in
      ap (λ v. list_any has (field_texts_of (cond v (onto_next l (joined hs)) (l ∷ joined hs)))) (next_alone after alone)
      ∙ (first_line l (joined hs) ∙ ap (λ v. v || list_any has (field_texts_of (joined hs))) here)

  -- what a look at a field of the name found, if it isn't continued
  pub named_by_look : (l after : List ℕ) (r : Option Bool) → is_field_named name l ≡ true → IfSome r (λ b. b ≡ contains needle (text_form (drop (name_len l + 1) (text l)))) → IfSome r (λ b. goes_on after ≡ false)
      → IfSome r (λ b. lines_have name needle (l ∷ header (lines after)) ≡ (b || lines_have name needle (header (lines after))))
  named_by_look l after None e is alone = alone
  named_by_look l after (Some found) e is alone = named_line l after found e alone is

  -- the first of the lines
  pub first_of_header : (rest line : List ℕ) (ms : List (List ℕ)) → lines rest ≡ line ∷ ms → is_line_end line ≡ false → lines_have name needle (header (lines rest)) ≡ lines_have name needle (line ∷ header ms)
  first_of_header rest line ms is e = ap (λ ls. lines_have name needle (header ls)) is ∙ ap (λ v. lines_have name needle (cond v [] (line ∷ header ms))) e

  pub header_ends : (rest line : List ℕ) (ms : List (List ℕ)) → lines rest ≡ line ∷ ms → is_line_end line ≡ true → lines_have name needle (header (lines rest)) ≡ false
  header_ends rest line ms is e = ap (λ ls. lines_have name needle (header ls)) is ∙ ap (λ v. lines_have name needle (cond v [] (line ∷ header ms))) e

  -- the lines after a line without it have what all have
  pub next_line : (rest line after : List ℕ) (found total : Bool) → lines rest ≡ line ∷ lines after → is_line_end line ≡ false → lines_have name needle (line ∷ header (lines after)) ≡ (found || lines_have name needle (header (lines after)))
      → found ≡ false → lines_have name needle (header (lines rest)) ≡ total → lines_have name needle (header (lines after)) ≡ total
  next_line rest line after found total is e look none so_far =
      ap (λ b. b || lines_have name needle (header (lines after))) (sym none) ∙ (sym look ∙ (sym (first_of_header rest line (lines after) is e) ∙ so_far))

  pub line_found : (rest line after : List ℕ) (found total : Bool) → lines rest ≡ line ∷ lines after → is_line_end line ≡ false → lines_have name needle (line ∷ header (lines after)) ≡ (found || lines_have name needle (header (lines after)))
      → found ≡ true → lines_have name needle (header (lines rest)) ≡ total → true ≡ total
  line_found rest line after found total is e look some so_far =
      ap (λ b. b || lines_have name needle (header (lines after))) (sym some) ∙ (sym look ∙ (sym (first_of_header rest line (lines after) is e) ∙ so_far))

pub field_of_name : (name l : List ℕ) → is_field_named name l ≡ true → is_field l ≡ true
field_of_name name l e = (and_parts (is_field l) (bytes_eq (lowered (take (name_len l) l)) (lowered name)) e).0

-- what the lines have is what the fields of the name have
pub by_lines : (bytes name needle : List ℕ) → some_contains needle (field_texts bytes name) ≡ lines_have name needle (header (lines bytes))
by_lines bytes name needle =
    some_field_has bytes name needle (fields_of bytes) ∙ ap (λ (fs : List FieldText). list_any (λ f. field_has name needle f) fs) (fields_read bytes)

pub found_by_lines : (bytes self name needle : List ℕ) (found : Bool) → bytes ≡ self → found ≡ lines_have name needle (header (lines bytes)) → found ≡ some_contains needle (field_texts self name)
found_by_lines bytes self name needle found same is = is ∙ (sym (by_lines bytes name needle) ∙ ap (λ (bs : List ℕ). some_contains needle (field_texts bs name)) same)
