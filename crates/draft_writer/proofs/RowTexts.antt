-- The text of steps is that of the parts that they go through.
use Rattle.std.proofs.Common.{◌≡◌, ℕ, suc, ◌+◌, Bool, true, false, List, [], ◌∷◌, ◌++◌, length, drop, Some, None, refl, sym, ap, ◌∙◌, append_assoc, arith}
use Rattle.std.specs.Prelude.{◌||◌}
use Rattle.std.specs.List.{flat_map}
use Rattle.std.proofs.lemmas.List.{append-nil, drop-drop, length-append}
use Rattle.std.proofs.lemmas.Grind.{flat_map-append}
use Rattle.mime_lines.specs.FieldTexts.{FieldText}
use Rattle.mime_lines.specs.Written.{crlf, field_line}
use Rattle.mime_cut.specs.DelimiterLines.{dashes}
use Rattle.mime_cut.specs.WrittenPieces.{multipart_text}
use Rattle.mime_type.specs.HeadText.{HeadText, part_fields}
use Rattle.mime_tree.specs.Boundaries.{boundary_text}
use Rattle.mime_tree.specs.WrittenParts.{message_text, part_texts}
use Rattle.mime_writer.specs.Heads.{head_text}
use Rattle.mime_writer.specs.declared.heads.PartHead.{PartHead}
use Rattle.draft_form.specs.Structures.{Body, DraftParts, blob, id_of, ids_of, leaf, multipart, none, value}
use Rattle.draft_form.specs.Rows.{content_of, rows_of}
use Rattle.draft_form.specs.declared.draft.Content.{Content}
use Rattle.draft_form.specs.declared.draft.Row.{Row}
use Rattle.draft_form.specs.declared.draft.Row.TheVariants.{Holds, Closes}
use Rattle.draft_writer.specs.Messages.{text_of_parts}
use Rattle.draft_writer.specs.Parts.{blobs_after, bytes_of, coding_of, coding_within, encoded_body, holds_message, is_raw, multiparts, written_parts}
use Rattle.draft_writer.specs.Steps.{holds_raw, lead, leaf_text, rows_text, trail}

pub or_assoc : (a b c : Bool) → ((a || b) || c) ≡ (a || (b || c))
or_assoc true b c = refl
or_assoc false b c = refl

-- a message within is found by the steps
raw_within : (depth : ℕ) (p : DraftParts) (rest : List Row) → holds_raw depth (rows_of p ++ rest) ≡ (holds_message p || holds_raw depth rest)
raw_within depth none rest = refl
raw_within depth (leaf h b later) rest =
    ap (λ v. is_raw h (content_of b) || v) (raw_within depth later rest) ∙ sym (or_assoc (is_raw h (content_of b)) (holds_message later) (holds_raw depth rest))
raw_within depth (multipart h inner later) rest =
    ap (λ t. holds_raw (suc depth) t) (append_assoc (rows_of inner) (Closes ∷ rows_of later) rest)
    ∙ raw_within (suc depth) inner (Closes ∷ (rows_of later ++ rest))
    ∙ ap (λ v. holds_message inner || v) (raw_within depth later rest)
    ∙ sym (or_assoc (holds_message inner) (holds_message later) (holds_raw depth rest))

pub or_false : (a : Bool) → (a || false) ≡ a
or_false true = refl
or_false false = refl

raw_closed : (p : DraftParts) (rest : List Row) → holds_raw 0 (rows_of p ++ Closes ∷ rest) ≡ holds_message p
raw_closed p rest = raw_within 0 p (Closes ∷ rest) ∙ or_false (holds_message p)

pub blobs_past : (b : Body) (n : ℕ) (blobs : List (List ℕ)) → drop (length (id_of b) + n) blobs ≡ drop n (blobs_after blobs (content_of b))
blobs_past (value t) n blobs = let same : 0 + n ≡ n = omega arith in ap (λ j. drop j blobs) same
blobs_past (blob id) n blobs = sym (drop-drop n 1 blobs)

regroup_leaf : (d b e t m x : List ℕ) → (d ++ (b ++ e)) ++ (t ++ (e ++ (m ++ x))) ≡ ((d ++ b) ++ (e ++ (t ++ (e ++ m)))) ++ x
regroup_leaf d b e t m x = simp append_assoc

regroup_within : (d b e f i m x : List ℕ) → (d ++ (b ++ e)) ++ ((f ++ e) ++ (i ++ (e ++ (m ++ x)))) ≡ ((d ++ b) ++ (e ++ ((f ++ (e ++ i)) ++ (e ++ m)))) ++ x
regroup_within d b e f i m x = simp append_assoc

-- the steps of parts, and the end of the multipart that holds them
pub rows_are : (n k b : ℕ) (opened : List ℕ) (blobs : List (List ℕ)) (p : DraftParts) (rest : List Row)
    → rows_text n k (b ∷ opened) blobs (rows_of p ++ Closes ∷ rest)
    ≡ multipart_text (boundary_text n b) (part_texts (written_parts n k blobs p))
    ++ (trail opened ++ rows_text n (k + multiparts p) opened (drop (length (ids_of p)) blobs) rest)
rows_are n k b opened blobs none rest =
    let same : k ≡ k + 0 = omega arith in
    ap (λ j. (dashes ++ (boundary_text n b ++ dashes)) ++ (trail opened ++ rows_text n j opened blobs rest)) same
rows_are n k b opened blobs (leaf h body later) rest =
    let c = content_of body in
    let bs = blobs_after blobs c in
    let t = leaf_text blobs h c in
    let m = multipart_text (boundary_text n b) (part_texts (written_parts n k bs later)) in
    let past : drop (length (id_of body ++ ids_of later)) blobs ≡ drop (length (ids_of later)) bs =
    ap (λ j. drop j blobs) (length-append (id_of body) (ids_of later)) ∙ blobs_past body (length (ids_of later)) blobs in
    ap (λ u. lead n (b ∷ opened) ++ (t ++ (crlf ++ u)))
    (rows_are n k b opened bs later rest ∙ ap (λ d. m ++ (trail opened ++ rows_text n (k + multiparts later) opened d rest)) (sym past))
    ∙ regroup_leaf dashes (boundary_text n b) crlf t m (trail opened ++ rows_text n (k + multiparts later) opened (drop (length (id_of body ++ ids_of later)) blobs) rest)
rows_are n k b opened blobs (multipart h inner later) rest =
    let mi = multiparts inner in
    let bs = drop (length (ids_of inner)) blobs in
    let after = rows_of later ++ Closes ∷ rest in
    let text = λ (v : Bool) (rows : List Row). lead n (b ∷ opened)
    ++ ((flat_map field_line (part_fields (head_text h (Some (boundary_text n k)) (coding_within v))) ++ crlf) ++ rows_text n (1 + k) (k ∷ b ∷ opened) blobs rows) in
    let f = flat_map field_line (part_fields (head_text h (Some (boundary_text n k)) (coding_within (holds_message inner)))) in
    let i = multipart_text (boundary_text n k) (part_texts (written_parts n (1 + k) blobs inner)) in
    let m = multipart_text (boundary_text n b) (part_texts (written_parts n (1 + (k + mi)) bs later)) in
    let moved : (1 + k) + mi ≡ 1 + (k + mi) = omega arith in
    let total : (1 + (k + mi)) + multiparts later ≡ k + (1 + (mi + multiparts later)) = omega arith in
    let past : drop (length (ids_of later)) bs ≡ drop (length (ids_of inner ++ ids_of later)) blobs =
    drop-drop (length (ids_of later)) (length (ids_of inner)) blobs ∙ ap (λ j. drop j blobs) (sym (length-append (ids_of inner) (ids_of later))) in
    ap (λ r. text (holds_raw 0 r) r) (append_assoc (rows_of inner) (Closes ∷ rows_of later) (Closes ∷ rest))
    ∙ ap (λ v. text v (rows_of inner ++ Closes ∷ after)) (raw_closed inner after)
    ∙ ap (λ u. lead n (b ∷ opened) ++ ((f ++ crlf) ++ u))
    (rows_are n (1 + k) k (b ∷ opened) blobs inner after
    ∙ ap (λ u. i ++ (crlf ++ u)) (ap (λ j. rows_text n j (b ∷ opened) bs after) moved
    ∙ rows_are n (1 + (k + mi)) b opened bs later rest
    ∙ ap (λ j. m ++ (trail opened ++ rows_text n j opened (drop (length (ids_of later)) bs) rest)) total
    ∙ ap (λ d. m ++ (trail opened ++ rows_text n (k + (1 + (mi + multiparts later))) opened d rest)) past))
    ∙ regroup_within dashes (boundary_text n b) crlf f i m (trail opened ++ rows_text n (k + (1 + (mi + multiparts later))) opened (drop (length (ids_of inner ++ ids_of later)) blobs) rest)

-- ---- a message

-- parts that are one part
abbrev pub IsOne : DraftParts → Type 0
IsOne none = ⊥
IsOne (leaf h b later) = later ≡ none
IsOne (multipart h inner later) = later ≡ none

fields_first : (fields : List FieldText) (h : HeadText) (body : List ℕ)
    → flat_map field_line fields ++ message_text [] h body ≡ message_text fields h body
fields_first fields h body =
    sym (append_assoc (flat_map field_line fields) (flat_map field_line (part_fields h)) (crlf ++ body))
    ∙ ap (λ t. t ++ (crlf ++ body)) (sym (flat_map-append field_line fields (part_fields h)))

pub message_is : (fields : List FieldText) (n : ℕ) (blobs : List (List ℕ)) (p : DraftParts) → IsOne p
    → flat_map field_line fields ++ rows_text n 1 [] blobs (rows_of p) ≡ text_of_parts fields (written_parts n 1 blobs p)
message_is fields n blobs none one = absurd one
message_is fields n blobs (leaf h b later) one =
    let hh = head_text h None (Some (coding_of h (content_of b))) in
    let body = encoded_body (coding_of h (content_of b)) (bytes_of blobs (content_of b)) in
    ap (λ p. flat_map field_line fields ++ (leaf_text blobs h (content_of b) ++ rows_text n 1 [] (blobs_after blobs (content_of b)) (rows_of p))) one
    ∙ ap (λ t. flat_map field_line fields ++ t) (append-nil (leaf_text blobs h (content_of b)))
    ∙ fields_first fields hh body
message_is fields n blobs (multipart h inner later) one =
    let hh = head_text h (Some (boundary_text n 1)) (coding_within (holds_message inner)) in
    let f = flat_map field_line (part_fields hh) in
    let i = multipart_text (boundary_text n 1) (part_texts (written_parts n 2 blobs inner)) in
    let text = λ (v : Bool) (rows : List Row). (flat_map field_line (part_fields (head_text h (Some (boundary_text n 1)) (coding_within v))) ++ crlf)
    ++ rows_text n 2 (1 ∷ []) blobs rows in
    ap (λ p. flat_map field_line fields ++ text (holds_raw 0 (rows_of inner ++ Closes ∷ rows_of p)) (rows_of inner ++ Closes ∷ rows_of p)) one
    ∙ ap (λ v. flat_map field_line fields ++ text v (rows_of inner ++ Closes ∷ [])) (raw_closed inner [])
    ∙ ap (λ t. flat_map field_line fields ++ ((f ++ crlf) ++ t)) (rows_are n 2 1 [] blobs inner [] ∙ append-nil i)
    ∙ ap (λ t. flat_map field_line fields ++ t) (append_assoc f crlf i)
    ∙ fields_first fields hh i

-- ---- one step

next_text : (n k k' : ℕ) (x opened opened' : List ℕ) (blobs blobs' : List (List ℕ)) (more : List Row) → k' ≡ k → opened' ≡ opened → blobs' ≡ blobs
    → x ++ rows_text n k' opened' blobs' more ≡ x ++ rows_text n k opened blobs more
next_text n k k' x opened opened' blobs blobs' more p q r =
    ap (λ j. x ++ rows_text n j opened' blobs' more) p ∙ ap (λ s. x ++ rows_text n k s blobs' more) q ∙ ap (λ d. x ++ rows_text n k opened d more) r

regroup_three : (o a b c r : List ℕ) → (o ++ (a ++ (b ++ c))) ++ r ≡ o ++ (a ++ (b ++ (c ++ r)))
regroup_three o a b c r = simp append_assoc

pub holds_step : (n k k' : ℕ) (o o' opened opened' : List ℕ) (blobs blobs' : List (List ℕ)) (h : PartHead) (c : Content) (more : List Row)
    → o' ≡ o ++ (lead n opened ++ (leaf_text blobs h c ++ trail opened)) → k' ≡ k → opened' ≡ opened → blobs' ≡ blobs_after blobs c
    → o' ++ rows_text n k' opened' blobs' more ≡ o ++ rows_text n k opened blobs (Holds h c ∷ more)
holds_step n k k' o o' opened opened' blobs blobs' h c more p q r s =
    next_text n k k' o' opened opened' (blobs_after blobs c) blobs' more q r s
    ∙ ap (λ t. t ++ rows_text n k opened (blobs_after blobs c) more) p
    ∙ regroup_three o (lead n opened) (leaf_text blobs h c) (trail opened) (rows_text n k opened (blobs_after blobs c) more)
