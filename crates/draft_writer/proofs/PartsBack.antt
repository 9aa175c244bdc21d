-- The parts of a draft's message are read back.
use Rattle.std.proofs.Common.{◌≡◌, ℕ, zero, suc, ◌+◌, ◌<◌, ◌≤◌, ◌^◌, true, false, cond, List, [], ◌∷◌, ◌++◌, length, drop, Option, None, Some, refl, sym, ap, subst, ◌∙◌, arith}
use Rattle.std.specs.List.{AllByRecursion}
use Rattle.std.specs.Str.{IsUtf8}
use Rattle.std.proofs.lemmas.Bool.{true≢false}
use Rattle.mime_lines.specs.FieldOffsets.{lowered}
use Rattle.mime_lines.specs.FieldTexts.{FieldText}
use Rattle.mime_codec.specs.Decoded.{decoded}
use Rattle.mime_codec.specs.declared.coding.Coding.{Coding}
use Rattle.mime_codec.specs.declared.coding.Coding.TheVariants.{Plain, Base64}
use Rattle.mime_codec.proofs.Base64Back.{lines_back}
use Rattle.mime_codec.proofs.QuotedBack.{quoted_back}
use Rattle.mime_words.proofs.WordBytes.{utf8_bytes}
use Rattle.mime_type.specs.Content.{is_multipart}
use Rattle.mime_type.specs.HeadText.{HeadText, IfThere, IsHead, IsOtherField, node_of_head}
use Rattle.mime_tree.specs.Boundaries.{AreFormed, AreNumbered, boundary_text, multipart_count}
use Rattle.mime_tree.specs.WrittenParts.{AreWritable, ReadParts, IsLeaf, body_text, meant_parts, message_text, part_texts, written_count}
use Rattle.mime_tree.specs.WrittenParts as written
use Rattle.mime_tree.proofs.WrittenTrees.{leaf_back, multipart_back}
use Rattle.mime_tree.proofs.WrittenBoundaries.{numbered_apart}
use Rattle.mime_writer.specs.Heads.{head_text}
use Rattle.mime_writer.specs.declared.heads.PartHead.{PartHead}
use Rattle.draft_form.specs.Structures.{Body, DraftParts, blob, ids_of, leaf, multipart, none, part_count, value}
use Rattle.draft_form.specs.Rows.{content_of}
use Rattle.draft_writer.specs.Messages.{IsMessage}
use Rattle.draft_writer.specs.Parts.{blobs_after, bytes_of, coding_of, coding_within, encoded_body, first_blob, holds_message, is_message, multiparts, written_parts}
use Rattle.draft_writer.specs.ReadBack.{AreBytes, AreTextParts, IsTextBody, PartView, PartViews, head_view, meant_bytes, meant_views, view_with, views_in, views_of}
use Rattle.draft_writer.specs.ReadBack as seen
use Rattle.draft_writer.proofs.HeadsBack.{IsFitHead, boundary_good, head_fit, names_back}
use Rattle.draft_writer.proofs.RowTexts.{IsOne}

-- ---- counts

multiparts_are : (n k : ℕ) (blobs : List (List ℕ)) (p : DraftParts) → multipart_count (written_parts n k blobs p) ≡ multiparts p
multiparts_are n k blobs none = refl
multiparts_are n k blobs (leaf h b later) = multiparts_are n k (blobs_after blobs (content_of b)) later
multiparts_are n k blobs (multipart h inner later) =
    let i = multiparts_are n (1 + k) blobs inner in
    let l = multiparts_are n (1 + (k + multiparts inner)) (drop (length (ids_of inner)) blobs) later in
    omega (arith, i, l)

parts_are : (n k : ℕ) (blobs : List (List ℕ)) (p : DraftParts) → written_count (written_parts n k blobs p) ≡ part_count p
parts_are n k blobs none = refl
parts_are n k blobs (leaf h b later) = ap (λ m. 1 + m) (parts_are n k (blobs_after blobs (content_of b)) later)
parts_are n k blobs (multipart h inner later) =
    let i = parts_are n (1 + k) blobs inner in
    let l = parts_are n (1 + (k + multiparts inner)) (drop (length (ids_of inner)) blobs) later in
    omega (arith, i, l)

few_multiparts : (p : DraftParts) → multiparts p ≤ part_count p
few_multiparts none = omega arith
few_multiparts (leaf h b later) = omega (arith, few_multiparts later)
few_multiparts (multipart h inner later) = omega (arith, few_multiparts inner, few_multiparts later)

numbered : (n k : ℕ) (blobs : List (List ℕ)) (p : DraftParts) → AreNumbered n k (written_parts n k blobs p)
numbered n k blobs none = tt
numbered n k blobs (leaf h b later) = numbered n k (blobs_after blobs (content_of b)) later
numbered n k blobs (multipart h inner later) =
    let bs = drop (length (ids_of inner)) blobs in (
      refl,
      numbered n (1 + k) blobs inner,
      subst (λ c. AreNumbered n (1 + (k + c)) (written_parts n (1 + (k + multiparts inner)) bs later)) (sym (multiparts_are n (1 + k) blobs inner))
          (numbered n (1 + (k + multiparts inner)) bs later),
    )

-- ---- heads

abbrev pub media : PartHead → List ℕ
media h = lowered (h.main ++ 47 ∷ h.sub)

-- parts whose heads are of the form, with multiparts within one another to this depth
abbrev pub AreFit : ℕ → DraftParts → Type 0
AreFit levels none = Unit {0}
AreFit levels (leaf h b later) = IsFitHead h × (is_multipart (media h) ≡ false) × AreFit levels later
AreFit zero (multipart h inner later) = ⊥
AreFit (suc levels) (multipart h inner later) =
    IsFitHead h × (is_multipart (media h) ≡ true) × AreFit levels inner × AreFit (suc levels) later

leaf_fit : (h : PartHead) (coding : Option Coding) → IsFitHead h → IfThere IsUtf8 h.name → is_multipart (media h) ≡ false → IsLeaf (head_text h None coding)
leaf_fit h coding f u e = record {
  head = head_fit h None coding f u tt (λ m. absurd (true≢false (sym m ∙ e)));
  single = e;
}

formed : (levels n k : ℕ) (blobs : List (List ℕ)) (p : DraftParts) → n < 2 ^ 64 → k + multiparts p ≤ 2 ^ 64 → AreFit levels p → AreTextParts p → AreFormed levels (written_parts n k blobs p)
formed levels n k blobs none small top f u = tt
formed levels n k blobs (leaf h b later) small top f u =
    (leaf_fit h (Some (coding_of h (content_of b))) f.0 u.0 f.1, formed levels n k (blobs_after blobs (content_of b)) later small top f.2 u.2)
formed zero n k blobs (multipart h inner later) small top f u = absurd f
formed (suc levels) n k blobs (multipart h inner later) small top f u = (
  head_fit h (Some (boundary_text n k)) (coding_within (holds_message inner)) f.0 u.0 (boundary_good n k small (omega (arith, top))) (λ m. refl),
  f.1,
  formed levels n (1 + k) blobs inner small (omega (arith, top)) f.2 u.1,
  formed (suc levels) n (1 + (k + multiparts inner)) (drop (length (ids_of inner)) blobs) later small (omega (arith, top)) f.3 u.2,
)

-- ---- bodies

first_bytes : (blobs : List (List ℕ)) → AllByRecursion AreBytes blobs → AreBytes (first_blob blobs)
first_bytes [] h i low = absurd (omega (arith, low))
first_bytes (b ∷ bs) h i low = h.0 i low

drop_bytes : (n : ℕ) (blobs : List (List ℕ)) → AllByRecursion AreBytes blobs → AllByRecursion AreBytes (drop n blobs)
drop_bytes zero [] h = h
drop_bytes zero (b ∷ bs) h = h
drop_bytes (suc n) [] h = h
drop_bytes (suc n) (b ∷ bs) h = drop_bytes n bs h.1

after_bytes : (b : Body) (blobs : List (List ℕ)) → AllByRecursion AreBytes blobs → AllByRecursion AreBytes (blobs_after blobs (content_of b))
after_bytes (value t) blobs h = h
after_bytes (blob id) blobs h = drop_bytes 1 blobs h

body_back : (h : PartHead) (b : Body) (blobs : List (List ℕ)) → IsTextBody b → AllByRecursion AreBytes blobs
    → decoded (coding_of h (content_of b)) (encoded_body (coding_of h (content_of b)) (bytes_of blobs (content_of b))) ≡ meant_bytes blobs b
body_back h (value t) blobs u bs = quoted_back t (utf8_bytes t u)
body_back h (blob id) blobs u bs = elim (is_message h) as (λ v. decoded (cond v Plain Base64) (encoded_body (cond v Plain Base64) (first_blob blobs)) ≡ first_blob blobs) [
  | true ↦ refl
  | false ↦ lines_back (first_blob blobs) (first_bytes blobs bs)
]

-- ---- views

-- the view of a head with this name
abbrev named_view : PartHead → Option (List ℕ) → PartView
named_view h name = record (head_view h) { name = name }

abbrev leaf_head : PartHead → Body → HeadText
leaf_head h b = head_text h None (Some (coding_of h (content_of b)))

abbrev leaf_body : List (List ℕ) → PartHead → Body → List ℕ
leaf_body blobs h b = encoded_body (coding_of h (content_of b)) (bytes_of blobs (content_of b))

leaf_view : (h : PartHead) (b : Body) (blobs : List (List ℕ)) (later : ReadParts) (s : PartViews) → IsFitHead h → IfThere IsUtf8 h.name → is_multipart (media h) ≡ false
    → IsTextBody b → AllByRecursion AreBytes blobs → views_of later ≡ s
    → views_of (written.part (node_of_head 0 0 0 (leaf_head h b)) (leaf_body blobs h b) written.none later) ≡ seen.leaf (head_view h) (meant_bytes blobs b) s
leaf_view h b blobs later s f w e u bs l =
    ap (λ v. view_with v (node_of_head 0 0 0 (leaf_head h b)) (leaf_body blobs h b) seen.none (views_of later)) e
    ∙ ap (λ o. seen.leaf (named_view h o) (decoded (coding_of h (content_of b)) (leaf_body blobs h b)) (views_of later)) (names_back h.name w f.name)
    ∙ ap (λ d. seen.leaf (head_view h) d (views_of later)) (body_back h b blobs u bs)
    ∙ ap (λ p. seen.leaf (head_view h) (meant_bytes blobs b) p) l

multipart_view : (h : PartHead) (body : List ℕ) (inner later : ReadParts) (s t : PartViews) (boundary : List ℕ) (coding : Option Coding) → IsFitHead h → IfThere IsUtf8 h.name
    → is_multipart (media h) ≡ true → views_of inner ≡ s → views_of later ≡ t
    → views_of (written.part (node_of_head 0 0 0 (head_text h (Some boundary) coding)) body inner later) ≡ seen.multipart (head_view h) s t
multipart_view h body inner later s t boundary coding f w e i l =
    ap (λ v. view_with v (node_of_head 0 0 0 (head_text h (Some boundary) coding)) body (views_of inner) (views_of later)) e
    ∙ ap (λ o. seen.multipart (named_view h o) (views_of inner) (views_of later)) (names_back h.name w f.name)
    ∙ ap (λ p. seen.multipart (head_view h) p (views_of later)) i
    ∙ ap (λ p. seen.multipart (head_view h) s p) l

views_back : (levels n k : ℕ) (blobs : List (List ℕ)) (p : DraftParts) → AreFit levels p → AreTextParts p → AllByRecursion AreBytes blobs
    → views_of (meant_parts (written_parts n k blobs p)) ≡ meant_views blobs p
views_back levels n k blobs none f u bs = refl
views_back levels n k blobs (leaf h b later) f u bs =
    let after = blobs_after blobs (content_of b) in
    leaf_view h b blobs (meant_parts (written_parts n k after later)) (meant_views after later) f.0 u.0 f.1 u.1 bs
    (views_back levels n k after later f.2 u.2 (after_bytes b blobs bs))
views_back zero n k blobs (multipart h inner later) f u bs = absurd f
views_back (suc levels) n k blobs (multipart h inner later) f u bs =
    let after = drop (length (ids_of inner)) blobs in
    let wi = written_parts n (1 + k) blobs inner in
    let wl = written_parts n (1 + (k + multiparts inner)) after later in
    let head = head_text h (Some (boundary_text n k)) (coding_within (holds_message inner)) in
    multipart_view h (body_text head (part_texts wi)) (meant_parts wi) (meant_parts wl) (meant_views blobs inner) (meant_views after later)
    (boundary_text n k) (coding_within (holds_message inner)) f.0 u.0 f.1
    (views_back levels n (1 + k) blobs inner f.2 u.1 bs)
    (views_back (suc levels) n (1 + (k + multiparts inner)) after later f.3 u.2 (drop_bytes (length (ids_of inner)) blobs bs))

-- ---- messages

pub message_back : (fields : List FieldText) (blobs : List (List ℕ)) (p : DraftParts) (text : List ℕ) → AllByRecursion IsOtherField fields → IsOne p
    → AreFit 32 p → part_count p ≤ 1000 → AreTextParts p → AllByRecursion AreBytes blobs → IsMessage fields blobs p text
    → views_in text ≡ meant_views blobs p
message_back fields blobs none text others one f few u bs is = absurd one
message_back fields blobs (leaf h b later) text others one f few u bs is =
    ap views_in is
    ∙ ap views_of (leaf_back fields (leaf_head h b) (leaf_body blobs h b) others (leaf_fit h (Some (coding_of h (content_of b))) f.0 u.0 f.1))
    ∙ leaf_view h b blobs written.none seen.none f.0 u.0 f.1 u.1 bs refl
    ∙ ap (λ q. seen.leaf (head_view h) (meant_bytes blobs b) (meant_views (blobs_after blobs (content_of b)) q)) (sym one)
message_back fields blobs (multipart h inner later) text others one f few u bs (n, number, is) =
    let head = head_text h (Some (boundary_text n 1)) (coding_within (holds_message inner)) in
    let wi = written_parts n 2 blobs inner in
    let count = multiparts_are n 2 blobs inner in
    let total = parts_are n 2 blobs inner in
    let small = few_multiparts inner in
    let fit = head_fit h (Some (boundary_text n 1)) (coding_within (holds_message inner)) f.0 u.0 (boundary_good n 1 number.below (omega arith)) (λ m. refl) in
    let heads : AreFormed 32 (written.multipart head wi written.none) = (fit, f.1, formed 31 n 2 blobs inner number.below (omega (arith, small, few)) f.2 u.1, tt) in
    let apart = numbered_apart n 1 32 (written.multipart head wi written.none) number.below (omega (arith, count, small, few)) heads
    (refl, numbered n 2 blobs inner, tt) (number.quiet.0, tt) in
    ap views_in is
    ∙ ap views_of (multipart_back fields head wi others apart (omega (arith, total, few)))
    ∙ multipart_view h (body_text head (part_texts wi)) (meant_parts wi) written.none (meant_views blobs inner) seen.none (boundary_text n 1)
    (coding_within (holds_message inner)) f.0 u.0 f.1 (views_back 31 n 2 blobs inner f.2 u.1 bs) refl
    ∙ ap (λ q. seen.multipart (head_view h) (meant_views blobs inner) (meant_views (drop (length (ids_of inner)) blobs) q)) (sym one)

-- a message is its fields and the head of its part, and a body
pub record IsHeaded (fields : List FieldText) (text : List ℕ) : Type 0 where
  pub head : HeadText
  pub body : List ℕ
  pub is : text ≡ message_text fields head body
  pub good : IsHead head

pub message_headed : (fields : List FieldText) (blobs : List (List ℕ)) (p : DraftParts) (text : List ℕ) → IsOne p → AreFit 32 p → AreTextParts p → IsMessage fields blobs p text
    → IsHeaded fields text
message_headed fields blobs none text one f u is = absurd one
message_headed fields blobs (leaf h b later) text one f u is = record {
  head = leaf_head h b;
  body = leaf_body blobs h b;
  is = is;
  good = (leaf_fit h (Some (coding_of h (content_of b))) f.0 u.0 f.1).head;
}
message_headed fields blobs (multipart h inner later) text one f u (n, number, is) = record {
  head = head_text h (Some (boundary_text n 1)) (coding_within (holds_message inner));
  body = body_text (head_text h (Some (boundary_text n 1)) (coding_within (holds_message inner))) (part_texts (written_parts n 2 blobs inner));
  is = is;
  good = head_fit h (Some (boundary_text n 1)) (coding_within (holds_message inner)) f.0 u.0 (boundary_good n 1 number.below (omega arith)) (λ m. refl);
}
