-- Numbers that no line of a part begins with.
use Rattle.std.proofs.Common.{◌≡◌, ℕ, ◌+◌, Bool, true, false, List, [], ◌∷◌, ◌++◌, length, drop, Option, Some, None, refl, sym, ap, ◌∙◌, append_assoc}
use Rattle.std.specs.Prelude.{◌||◌, is_some}
use Rattle.std.specs.List.{AllByRecursion, list_any}
use Rattle.std.proofs.lemmas.List.{drop-drop, length-append}
use Rattle.std.proofs.lemmas.Bool.{true≢false}
use Rattle.mime_lines.specs.Lines.{lines}
use Rattle.mime_lines.specs.Written.{crlf}
use Rattle.mime_cut.specs.DelimiterLines.{after_prefix, dashes}
use Rattle.mime_tree.specs.Boundaries.{AreQuiet, boundary_start}
use Rattle.draft_form.specs.Structures.{DraftParts, id_of, ids_of, leaf, multipart, none}
use Rattle.draft_form.specs.Rows.{content_of, rows_of}
use Rattle.draft_form.specs.declared.draft.Row.{Row}
use Rattle.draft_form.specs.declared.draft.Row.TheVariants.{Closes}
use Rattle.draft_writer.specs.Marks.{IsBoundaryFree, has_mark, is_used, rows_have_mark}
use Rattle.draft_writer.specs.Messages.{IsBoundaryNumber}
use Rattle.draft_writer.specs.Parts.{blobs_after, multiparts, written_parts}
use Rattle.draft_writer.specs.Steps.{leaf_text}
use Rattle.draft_writer.proofs.RowTexts.{blobs_past, or_assoc, or_false}

-- ---- lines

neither : (a b : Bool) → (a || b) ≡ false → (a ≡ false) × (b ≡ false)
neither true b h = absurd (true≢false h)
neither false b h = (refl, h)

no_line : (o : Option (List ℕ)) → is_some o ≡ false → o ≡ None
no_line None h = refl
no_line (Some t) h = absurd (true≢false h)

lines_none : (mark : List ℕ) (ls : List (List ℕ)) → list_any (λ l. is_some (after_prefix mark l)) ls ≡ false
    → AllByRecursion (λ l. after_prefix mark l ≡ None) ls
lines_none mark [] h = tt
lines_none mark (l ∷ ls) h =
    let both = neither (is_some (after_prefix mark l)) (list_any (λ t. is_some (after_prefix mark t)) ls) h in
    (no_line (after_prefix mark l) both.0, lines_none mark ls both.1)

none_lines : (mark : List ℕ) (ls : List (List ℕ)) → AllByRecursion (λ l. after_prefix mark l ≡ None) ls
    → list_any (λ l. is_some (after_prefix mark l)) ls ≡ false
none_lines mark [] h = refl
none_lines mark (l ∷ ls) h =
    ap (λ o. is_some o || list_any (λ t. is_some (after_prefix mark t)) ls) h.0 ∙ none_lines mark ls h.1

-- ---- parts

abbrev parts_marked : List ℕ → List (List ℕ) → DraftParts → Bool
parts_marked mark blobs none = false
parts_marked mark blobs (leaf h b later) =
    has_mark mark (leaf_text blobs h (content_of b)) || parts_marked mark (blobs_after blobs (content_of b)) later
parts_marked mark blobs (multipart h inner later) =
    parts_marked mark blobs inner || parts_marked mark (drop (length (ids_of inner)) blobs) later

rows_marked : (mark : List ℕ) (blobs : List (List ℕ)) (p : DraftParts) (rest : List Row)
    → rows_have_mark mark blobs (rows_of p ++ rest) ≡ (parts_marked mark blobs p || rows_have_mark mark (drop (length (ids_of p)) blobs) rest)
rows_marked mark blobs none rest = refl
rows_marked mark blobs (leaf h b later) rest =
    let c = content_of b in
    let bs = blobs_after blobs c in
    let past : drop (length (ids_of later)) bs ≡ drop (length (id_of b ++ ids_of later)) blobs =
    sym (ap (λ j. drop j blobs) (length-append (id_of b) (ids_of later)) ∙ blobs_past b (length (ids_of later)) blobs) in
    ap (λ v. has_mark mark (leaf_text blobs h c) || v) (rows_marked mark bs later rest ∙ ap (λ d. parts_marked mark bs later || rows_have_mark mark d rest) past)
    ∙ sym (or_assoc (has_mark mark (leaf_text blobs h c)) (parts_marked mark bs later) (rows_have_mark mark (drop (length (id_of b ++ ids_of later)) blobs) rest))
rows_marked mark blobs (multipart h inner later) rest =
    let bs = drop (length (ids_of inner)) blobs in
    let past : drop (length (ids_of later)) bs ≡ drop (length (ids_of inner ++ ids_of later)) blobs =
    drop-drop (length (ids_of later)) (length (ids_of inner)) blobs ∙ ap (λ j. drop j blobs) (sym (length-append (ids_of inner) (ids_of later))) in
    ap (rows_have_mark mark blobs) (append_assoc (rows_of inner) (Closes ∷ rows_of later) rest)
    ∙ rows_marked mark blobs inner (Closes ∷ (rows_of later ++ rest))
    ∙ ap (λ v. parts_marked mark blobs inner || v) (rows_marked mark bs later rest ∙ ap (λ d. parts_marked mark bs later || rows_have_mark mark d rest) past)
    ∙ sym (or_assoc (parts_marked mark blobs inner) (parts_marked mark bs later) (rows_have_mark mark (drop (length (ids_of inner ++ ids_of later)) blobs) rest))

used_is : (n : ℕ) (blobs : List (List ℕ)) (p : DraftParts) (rest : List Row) → rest ≡ []
    → is_used n blobs (rows_of p ++ rest) ≡ parts_marked (dashes ++ boundary_start n) blobs p
used_is n blobs p rest e =
    rows_marked (dashes ++ boundary_start n) blobs p rest
    ∙ ap (λ r. parts_marked (dashes ++ boundary_start n) blobs p || rows_have_mark (dashes ++ boundary_start n) (drop (length (ids_of p)) blobs) r) e
    ∙ or_false (parts_marked (dashes ++ boundary_start n) blobs p)

quiet_if : (n j k : ℕ) (blobs : List (List ℕ)) (p : DraftParts) → parts_marked (dashes ++ boundary_start n) blobs p ≡ false → AreQuiet n (written_parts j k blobs p)
quiet_if n j k blobs none h = tt
quiet_if n j k blobs (leaf hd b later) h =
    let mark = dashes ++ boundary_start n in
    let both = neither (has_mark mark (leaf_text blobs hd (content_of b))) (parts_marked mark (blobs_after blobs (content_of b)) later) h in
    (lines_none mark (lines (leaf_text blobs hd (content_of b) ++ crlf)) both.0, quiet_if n j k (blobs_after blobs (content_of b)) later both.1)
quiet_if n j k blobs (multipart hd inner later) h =
    let mark = dashes ++ boundary_start n in
    let both = neither (parts_marked mark blobs inner) (parts_marked mark (drop (length (ids_of inner)) blobs) later) h in
    (quiet_if n j (1 + k) blobs inner both.0, quiet_if n j (1 + (k + multiparts inner)) (drop (length (ids_of inner)) blobs) later both.1)

if_quiet : (n j k : ℕ) (blobs : List (List ℕ)) (p : DraftParts) → AreQuiet n (written_parts j k blobs p) → parts_marked (dashes ++ boundary_start n) blobs p ≡ false
if_quiet n j k blobs none h = refl
if_quiet n j k blobs (leaf hd b later) h =
    let mark = dashes ++ boundary_start n in
    ap (λ v. v || parts_marked mark (blobs_after blobs (content_of b)) later) (none_lines mark (lines (leaf_text blobs hd (content_of b) ++ crlf)) h.0)
    ∙ if_quiet n j k (blobs_after blobs (content_of b)) later h.1
if_quiet n j k blobs (multipart hd inner later) h =
    let mark = dashes ++ boundary_start n in
    ap (λ v. v || parts_marked mark (drop (length (ids_of inner)) blobs) later) (if_quiet n j (1 + k) blobs inner h.0)
    ∙ if_quiet n j (1 + (k + multiparts inner)) (drop (length (ids_of inner)) blobs) later h.1

pub number_is : (n : ℕ) (blobs : List (List ℕ)) (p : DraftParts) (rest : List Row) → rest ≡ [] → IsBoundaryFree n blobs (rows_of p ++ rest) → IsBoundaryNumber n blobs p
number_is n blobs p rest e free = record {
  from_one = free.from_one;
  below = free.below;
  quiet = quiet_if n n 1 blobs p (sym (used_is n blobs p rest e) ∙ free.free);
  least = λ m low high quiet. true≢false (sym (free.least m low high) ∙ used_is m blobs p rest e ∙ if_quiet m m 1 blobs p quiet);
}
