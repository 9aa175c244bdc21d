-- Parts that are written are read back.
use Rattle.std.proofs.Common.{◌≡◌, ℕ, zero, suc, ◌+◌, ◌-◌, ◌≤◌, Bool, true, false, cond, leb, eqb, ◌&&◌, not, List, [], ◌∷◌, ◌++◌, length, take, drop, map, Option, Some, None, refl, sym, ap, subst, ◌∙◌, length-drop, arith}
use Rattle.std.specs.Prelude.{codes, is_some, unwrap_or, slice_range}
use Rattle.std.specs.List.{AllByRecursion, list_all}
use Rattle.std.proofs.lemmas.Bool.{leb-true, ne_eqb, true≢false}
use Rattle.std.proofs.lemmas.List.{append-nil, drop-drop, take_at}
use Rattle.mime_lines.specs.Lines.{lines}
use Rattle.mime_lines.specs.Fields.{body_of}
use Rattle.mime_lines.specs.FieldTexts.{FieldText}
use Rattle.mime_lines.specs.Written.{is_inline}
use Rattle.mime_lines.proofs.SpanFacts.{body_of-le}
use Rattle.mime_lines.proofs.Unfolds.{both_true}
use Rattle.mime_lines.proofs.WrittenFields.{body_back}
use Rattle.mime_cut.specs.Cut.{Piece, piece, cut}
use Rattle.mime_cut.specs.Pieces.{HasBytesAt, HasPieces}
use Rattle.mime_cut.proofs.ReadFacts.{cut_read}
use Rattle.mime_cut.proofs.WrittenCuts.{pieces_back}
use Rattle.mime_type.specs.PartTrees.{Node, PartTrees}
use Rattle.mime_type.specs.PartTrees as trees
use Rattle.mime_type.specs.Content.{is_multipart}
use Rattle.mime_type.specs.Head.{head_at}
use Rattle.mime_type.specs.HeadText.{HeadText, IsHead, IsOtherField, IfThere, IsBoundary, is_name_character, media_of_head, node_of_head, part_fields}
use Rattle.mime_type.proofs.WrittenFields.{good_both, others_good, part_good}
use Rattle.mime_type.proofs.WrittenHeads.{head_back}
use Rattle.mime_tree.specs.Tree.{is_digest, closed, node_at, trees_of, within, part_tree}
use Rattle.mime_tree.specs.PartLimit.{Counted, kept, numbered, next_number, parts_of}
use Rattle.mime_tree.specs.WrittenParts.{WrittenParts, none, leaf, multipart, message_text, body_text, part_texts, written_count, IsLeaf, IsMultipart, AreWritable, ReadParts, without_places, read_parts, meant_parts}
use Rattle.mime_tree.specs.WrittenParts as written

abbrev AllOther : List FieldText → Type 0
AllOther fs = AllByRecursion IsOtherField fs

drop_both : (xs ys : List ℕ) (n : ℕ) → n ≤ length xs → drop n (xs ++ ys) ≡ drop n xs ++ ys
drop_both xs ys zero h = refl
drop_both [] ys (suc n) h = absurd (omega arith)
drop_both (x ∷ xs) ys (suc n) h = drop_both xs ys n (omega arith)

-- ---- one part

-- a piece that has the text of a part
record IsPart (message : List ℕ) (p : Piece) (fields : List FieldText) (h : HeadText) (body : List ℕ) : Type 0 where
  stands : HasBytesAt message p.at p.bytes
  text : p.bytes ≡ message_text fields h body
  others : AllOther fields
  head : IsHead h

abbrev body_place : Piece → ℕ
body_place p = p.at + body_of p.bytes

abbrev end_place : Piece → ℕ
end_place p = p.at + length p.bytes

node_is : (message : List ℕ) (p : Piece) (fields : List FieldText) (h : HeadText) (body : List ℕ) (digest : Bool) → IsPart message p fields h body
    → head_at p.at p.bytes digest ≡ node_of_head p.at (body_place p) (end_place p) h
node_is message p fields h body digest is =
    subst (λ t. head_at p.at t digest ≡ node_of_head p.at (p.at + body_of t) (p.at + length t) h) (sym is.text) (head_back p.at fields h body digest is.others is.head)

body_is : (message : List ℕ) (p : Piece) (fields : List FieldText) (h : HeadText) (body : List ℕ) → IsPart message p fields h body → drop (body_of p.bytes) p.bytes ≡ body
body_is message p fields h body is =
    ap (λ t. drop (body_of t) t) is.text ∙ body_back (fields ++ part_fields h) body (good_both fields (part_fields h) (others_good fields is.others) (part_good h is.head))

body_stands : (message : List ℕ) (p : Piece) (fields : List FieldText) (h : HeadText) (body : List ℕ) → IsPart message p fields h body → HasBytesAt message (body_place p) body
body_stands message p fields h body is =
    let rest = is.stands.0 in (
      rest,
      sym (drop-drop (body_of p.bytes) p.at message) ∙ ap (drop (body_of p.bytes)) is.stands.1
          ∙ drop_both p.bytes rest (body_of p.bytes) (body_of-le p.bytes) ∙ ap (λ t. t ++ rest) (body_is message p fields h body is),
    )

body_read : (message : List ℕ) (p : Piece) (fields : List FieldText) (h : HeadText) (body : List ℕ) → IsPart message p fields h body
    → slice_range message (body_place p) (end_place p) ≡ body
body_read message p fields h body is =
    let stands = body_stands message p fields h body is in
    let size : end_place p - body_place p ≡ length body =
    omega (arith, length-drop (body_of p.bytes) p.bytes, ap length (body_is message p fields h body is), body_of-le p.bytes) in
    ap (take (end_place p - body_place p)) stands.1 ∙ take_at body stands.0 (end_place p - body_place p) (sym size)

abbrev the_node : HeadText → Node
the_node h = node_of_head 0 0 0 h

-- what is read of a part that has these parts within it
part_read : (message : List ℕ) (p : Piece) (fields : List FieldText) (h : HeadText) (body : List ℕ) (x : Node) (inner later : PartTrees) → IsPart message p fields h body
    → x ≡ node_of_head p.at (body_place p) (end_place p) h
    → read_parts message (trees.part x inner later) ≡ written.part (the_node h) body (read_parts message inner) (read_parts message later)
part_read message p fields h body x inner later is e =
    ap (λ y. read_parts message (trees.part y inner later)) e
    ∙ ap (λ b. written.part (the_node h) b (read_parts message inner) (read_parts message later)) (body_read message p fields h body is)

no_boundary : (h : HeadText) (start body end : ℕ) → is_multipart (media_of_head h) ≡ false → (node_of_head start body end h).boundary ≡ None
no_boundary h start body end e = ap (λ v. cond v h.boundary None) e

closed_same : (x : Node) → x.boundary ≡ None → closed x ≡ x
closed_same x e = ap (λ o. cond (is_some o) (record x { media = codes "application/octet-stream"; boundary = None }) x) e

leaf_read : (message : List ℕ) (levels : ℕ) (digest : Bool) (p : Piece) (fields : List FieldText) (h : HeadText) (body : List ℕ) (later : PartTrees)
    → IsPart message p fields h body → is_multipart (media_of_head h) ≡ false
    → read_parts message (part_tree levels digest p later) ≡ written.part (the_node h) body written.none (read_parts message later)
leaf_read message zero digest p fields h body later is single =
    let node = node_is message p fields h body digest is in
    let none' : (head_at p.at p.bytes digest).boundary ≡ None = ap (λ (x : Node). x.boundary) node ∙ no_boundary h p.at (body_place p) (end_place p) single in
    part_read message p fields h body (node_at zero digest p) trees.none later is (closed_same (head_at p.at p.bytes digest) none' ∙ node)
leaf_read message (suc levels) digest p fields h body later is single =
    let x = head_at p.at p.bytes digest in
    let node = node_is message p fields h body digest is in
    let none' : x.boundary ≡ None = ap (λ (x : Node). x.boundary) node ∙ no_boundary h p.at (body_place p) (end_place p) single in
    ap (λ o. read_parts message (trees.part x (within (part_tree levels (is_digest x)) o x.body (drop (body_of p.bytes) p.bytes)) later)) none'
    ∙ part_read message p fields h body x trees.none later is node

-- ---- a multipart

some_is : (o : Option (List ℕ)) → is_some o ≡ true → o ≡ Some (unwrap_or o [])
some_is None h = absurd (true≢false (sym h))
some_is (Some b) h = refl

boundary_is : (h : HeadText) (start body end : ℕ) → IsHead h → is_multipart (media_of_head h) ≡ true → (node_of_head start body end h).boundary ≡ Some (unwrap_or h.boundary [])
boundary_is h start body end is e = ap (λ v. cond v h.boundary None) e ∙ some_is h.boundary (is.cuts e)

name_inline : (b : ℕ) → is_name_character b ≡ true → is_inline b ≡ true
name_inline b h =
    let three = both_true (leb 32 b && leb b 126 && not (eqb b 34)) (not (eqb b 92)) h in
    let two = both_true (leb 32 b && leb b 126) (not (eqb b 34)) three.0 in
    let low : 32 ≤ b = leb-true 32 b (both_true (leb 32 b) (leb b 126) two.0).0 in
    rw (ne_eqb b 10 (λ e. omega (arith, e, low))) refl

all_inline : (t : List ℕ) → list_all is_name_character t ≡ true → list_all is_inline t ≡ true
all_inline [] h = refl
all_inline (b ∷ bs) h =
    let parts = both_true (is_name_character b) (list_all is_name_character bs) h in
    rw (name_inline b parts.0) (all_inline bs parts.1)

boundary_inline : (o : Option (List ℕ)) → IfThere IsBoundary o → list_all is_inline (unwrap_or o []) ≡ true
boundary_inline None h = refl
boundary_inline (Some b) h = all_inline b h.each

abbrev bytes_of : List Piece → List (List ℕ)
bytes_of ps = map (λ (p : Piece). p.bytes) ps

-- what is read of pieces that have the texts of parts
abbrev Reads : List ℕ → ℕ → WrittenParts → Type 0
Reads message levels ws = (digest : Bool) (ps : List Piece) → bytes_of ps ≡ part_texts ws → HasPieces message ps → read_parts message (trees_of (part_tree levels digest) ps) ≡ meant_parts ws

multipart_read : (message : List ℕ) (levels : ℕ) (digest : Bool) (p : Piece) (fields : List FieldText) (h : HeadText) (inner : WrittenParts) (later : PartTrees)
    → IsPart message p fields h (body_text h (part_texts inner)) → IsMultipart h (part_texts inner) → Reads message levels inner
    → read_parts message (part_tree (suc levels) digest p later)
    ≡ written.part (the_node h) (body_text h (part_texts inner)) (meant_parts inner) (read_parts message later)
multipart_read message levels digest p fields h inner later is m reads =
    let body = body_text h (part_texts inner) in
    let b = unwrap_or h.boundary [] in
    let x = head_at p.at p.bytes digest in
    let node = node_is message p fields h body digest is in
    let cuts : x.boundary ≡ Some b = ap (λ (x : Node). x.boundary) node ∙ boundary_is h p.at (body_place p) (end_place p) m.head m.several in
    let each = part_tree levels (is_digest x) in
    let ps = cut b (body_place p) (lines body) in
    let inside : within each x.boundary x.body (drop (body_of p.bytes) p.bytes) ≡ trees_of each ps =
    ap (λ o. within each o x.body (drop (body_of p.bytes) p.bytes)) cuts
    ∙ ap (λ n. trees_of each (cut b n (lines (drop (body_of p.bytes) p.bytes)))) (ap (λ (x : Node). x.body) node)
    ∙ ap (λ t. trees_of each (cut b (body_place p) (lines t))) (body_is message p fields h body is) in
    let read = reads (is_digest x) ps (pieces_back b (part_texts inner) (body_place p) (boundary_inline h.boundary m.head.boundary) m.apart)
    (cut_read message b body (body_place p) (body_stands message p fields h body is)) in
    part_read message p fields h body x (within each x.boundary x.body (drop (body_of p.bytes) p.bytes)) later is node
    ∙ ap (λ f. written.part (the_node h) body (read_parts message f) (read_parts message later)) inside
    ∙ ap (λ f. written.part (the_node h) body f (read_parts message later)) read

-- ---- several parts

cons_parts : (x y : List ℕ) (xs ys : List (List ℕ)) → x ∷ xs ≡ y ∷ ys → (x ≡ y) × (xs ≡ ys)
cons_parts x y xs ys e = (cc, cc)

none_cons : (x : List ℕ) (xs : List (List ℕ)) → x ∷ xs ≡ [] → ⊥
none_cons x xs e = cc

cons_none : (x : List ℕ) (xs : List (List ℕ)) → [] ≡ x ∷ xs → ⊥
cons_none x xs e = cc

all_read : (message : List ℕ) (levels : ℕ) (ws : WrittenParts) → AreWritable levels ws → Reads message levels ws
all_read message levels none w digest [] e h = refl
all_read message levels none w digest (p ∷ ps) e h = absurd (none_cons p.bytes (bytes_of ps) e)
all_read message levels (leaf head body later) w digest [] e h = absurd (cons_none (message_text [] head body) (part_texts later) e)
all_read message levels (leaf head body later) w digest (p ∷ ps) e h =
    let both = cons_parts p.bytes (message_text [] head body) (bytes_of ps) (part_texts later) e in
    leaf_read message levels digest p [] head body (trees_of (part_tree levels digest) ps) (record { stands = h.0; text = both.0; others = tt; head = w.0.head }) w.0.single
    ∙ ap (written.part (the_node head) body written.none) (all_read message levels later w.1 digest ps both.1 h.1)
all_read message zero (multipart head inner later) w digest ps e h = absurd w
all_read message (suc levels) (multipart head inner later) w digest [] e h =
    absurd (cons_none (message_text [] head (body_text head (part_texts inner))) (part_texts later) e)
all_read message (suc levels) (multipart head inner later) w digest (p ∷ ps) e h =
    let body = body_text head (part_texts inner) in
    let both = cons_parts p.bytes (message_text [] head body) (bytes_of ps) (part_texts later) e in
    multipart_read message levels digest p [] head inner (trees_of (part_tree (suc levels) digest) ps) (record { stands = h.0; text = both.0; others = tt; head = w.0.head }) w.0
    (all_read message levels inner w.1)
    ∙ ap (written.part (the_node head) body (meant_parts inner)) (all_read message (suc levels) later w.2 digest ps both.1 h.1)

-- ---- the limit and the numbers

kept_all : (f : PartTrees) (n m : ℕ) → n ≡ trees.part_count f + m → kept f n ≡ record { parts = f; count = m }
kept_all trees.none n m e = let same : n ≡ m = omega (arith, e) in ap (λ k. record { parts = trees.none; count = k }) same
kept_all (trees.part x inner later) zero m e = absurd (omega (arith, e))
kept_all (trees.part x inner later) (suc n) m e =
    let first = kept_all inner n (trees.part_count later + m) (omega (arith, e)) in
    let rest = kept_all later (trees.part_count later + m) m refl in
    ap (λ (a : Counted). let b = kept later a.count in record { parts = trees.part x a.parts b.parts; count = b.count }) first
    ∙ ap (λ (b : Counted). record { parts = trees.part x inner b.parts; count = b.count }) rest

numbers_gone : (message : List ℕ) (f : PartTrees) (n : ℕ) → read_parts message (numbered f n).parts ≡ read_parts message f
numbers_gone message trees.none n = refl
numbers_gone message (trees.part x inner later) n =
    let a = numbered inner (next_number x n) in
    let here = slice_range message x.body x.end in
    ap (λ t. written.part (without_places x) here t (read_parts message (numbered later a.count).parts)) (numbers_gone message inner (next_number x n))
    ∙ ap (written.part (without_places x) here (read_parts message inner)) (numbers_gone message later a.count)

abbrev read_count : ReadParts → ℕ
read_count written.none = 0
read_count (written.part x body inner later) = 1 + (read_count inner + read_count later)

count_read : (message : List ℕ) (f : PartTrees) → read_count (read_parts message f) ≡ trees.part_count f
count_read message trees.none = refl
count_read message (trees.part x inner later) = omega (arith, count_read message inner, count_read message later)

count_meant : (ws : WrittenParts) → read_count (meant_parts ws) ≡ written_count ws
count_meant none = refl
count_meant (leaf h body later) = omega (arith, count_meant later)
count_meant (multipart h inner later) = omega (arith, count_meant inner, count_meant later)

-- a tree that has few enough parts is kept whole, and its numbers aren't read
all_kept : (message : List ℕ) (ws : WrittenParts) (tree : PartTrees) (limit : ℕ) → read_parts message tree ≡ meant_parts ws → written_count ws ≤ limit
    → read_parts message (numbered (kept tree limit).parts 1).parts ≡ meant_parts ws
all_kept message ws tree limit e few =
    let size : trees.part_count tree ≡ written_count ws = sym (count_read message tree) ∙ ap read_count e ∙ count_meant ws in
    let whole = kept_all tree limit (limit - trees.part_count tree) (omega (arith, size, few)) in
    numbers_gone message (kept tree limit).parts 1 ∙ ap (λ (c : Counted). read_parts message c.parts) whole ∙ e

whole_stands : (message : List ℕ) → HasBytesAt message 0 message
whole_stands message = ([], sym (append-nil message))

-- the message is a variable here, so that nothing of its text is computed
leaf_of : (message : List ℕ) (fields : List FieldText) (h : HeadText) (body : List ℕ) → message ≡ message_text fields h body → AllOther fields → IsLeaf h
    → read_parts message (parts_of message) ≡ meant_parts (leaf h body none)
leaf_of message fields h body e others is =
    all_kept message (leaf h body none) (part_tree 32 false (piece 0 message) trees.none) 1000
    (leaf_read message 32 false (piece 0 message) fields h body trees.none (record { stands = whole_stands message; text = e; others = others; head = is.head }) is.single)
    (omega arith)

multipart_of : (message : List ℕ) (fields : List FieldText) (h : HeadText) (inner : WrittenParts) → message ≡ message_text fields h (body_text h (part_texts inner))
    → AllOther fields → AreWritable 32 (multipart h inner none) → written_count (multipart h inner none) ≤ 1000
    → read_parts message (parts_of message) ≡ meant_parts (multipart h inner none)
multipart_of message fields h inner e others w few =
    all_kept message (multipart h inner none) (part_tree 32 false (piece 0 message) trees.none) 1000
    (multipart_read message 31 false (piece 0 message) fields h inner trees.none (record { stands = whole_stands message; text = e; others = others; head = w.0.head }) w.0 (all_read message 31 inner w.1))
    few

pub leaf_back : (fields : List FieldText) (h : HeadText) (body : List ℕ) → AllOther fields → IsLeaf h
    → read_parts (message_text fields h body) (parts_of (message_text fields h body)) ≡ meant_parts (leaf h body none)
leaf_back fields h body others is = leaf_of (message_text fields h body) fields h body refl others is

pub multipart_back : (fields : List FieldText) (h : HeadText) (inner : WrittenParts) → AllOther fields → AreWritable 32 (multipart h inner none) → written_count (multipart h inner none) ≤ 1000
    → read_parts (message_text fields h (body_text h (part_texts inner))) (parts_of (message_text fields h (body_text h (part_texts inner)))) ≡ meant_parts (multipart h inner none)
multipart_back fields h inner others w few = multipart_of (message_text fields h (body_text h (part_texts inner))) fields h inner refl others w few
