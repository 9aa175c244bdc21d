-- The head of a part: its byte offsets, and its boundary.
use Rattle.std.proofs.Common.{◌≡◌, ℕ, zero, suc, ◌+◌, ◌-◌, ◌<◌, ◌≤◌, Bool, true, false, cond, List, [], ◌∷◌, ◌++◌, length, drop, refl, ap, sym, ◌∙◌, arith, Some, None, Option}
use Rattle.std.specs.Prelude.{is_some, codes, slice_range}
use Rattle.std.proofs.lemmas.Bool.{true≢false}
use Rattle.mime_lines.specs.Fields.{body_of}
use Rattle.mime_cut.specs.Cut.{Piece, piece}
use Rattle.mime_type.specs.declared.part.Part.{Part}
use Rattle.mime_type.specs.PartTrees.{Node, none}
use Rattle.mime_type.specs.PartViews.{part_before, joined}
use Rattle.mime_type.specs.Head.{head_at}
use Rattle.mime_tree.specs.Tree.{closed, node_at}
use Rattle.mime_tree.specs.Places.{IsPlaced, AllPlaced}
use Rattle.mime_tree.specs.PartLimit.{next_number}
use Rattle.mime_tree.specs.Budget.{with_number}
use Rattle.mime_lines.proofs.SpanFacts.{body_of-le}
use Rattle.mime_tree.proofs.SliceFacts.{length-slice, drop-slice}

closed_body : (x : Node) → (closed x).body ≡ x.body
closed_body x = elim (is_some x.boundary) as (λ v. (cond v (record x { media = codes "application/octet-stream"; boundary = None }) x).body ≡ x.body) [ true ↦ refl | false ↦ refl ]

closed_start : (x : Node) → (closed x).start ≡ x.start
closed_start x = elim (is_some x.boundary) as (λ v. (cond v (record x { media = codes "application/octet-stream"; boundary = None }) x).start ≡ x.start) [ true ↦ refl | false ↦ refl ]

closed_end : (x : Node) → (closed x).end ≡ x.end
closed_end x = elim (is_some x.boundary) as (λ v. (cond v (record x { media = codes "application/octet-stream"; boundary = None }) x).end ≡ x.end) [ true ↦ refl | false ↦ refl ]

closed_number : (x : Node) → x.number ≡ None → (closed x).number ≡ None
closed_number x h = elim (is_some x.boundary) as (λ v. (cond v (record x { media = codes "application/octet-stream"; boundary = None }) x).number ≡ None) [ true ↦ h | false ↦ h ]

no_number : (o : Option (List ℕ)) (m : ℕ) → is_some o ≡ true → cond (is_some o) None (Some m) ≡ None
no_number None m h = absurd (true≢false (sym h))
no_number (Some b) m h = refl

closed_none : (x : Node) → (closed x).boundary ≡ None
closed_none x = elim x.boundary as (λ o. x.boundary ≡ o → (cond (is_some o) (record x { media = codes "application/octet-stream"; boundary = None }) x).boundary ≡ None) [
  | None ↦ λ h. h
  | Some b ↦ λ _. refl
] refl

pub body_at : (levels : ℕ) (digest : Bool) (p : Piece) → (node_at levels digest p).body ≡ p.at + body_of p.bytes
unfolding head_at
body_at zero digest p = closed_body (head_at p.at p.bytes digest)
body_at (suc levels) digest p = refl

start_at : (levels : ℕ) (digest : Bool) (p : Piece) → (node_at levels digest p).start ≡ p.at
unfolding head_at
start_at zero digest p = closed_start (head_at p.at p.bytes digest)
start_at (suc levels) digest p = refl

pub end_at : (levels : ℕ) (digest : Bool) (p : Piece) → (node_at levels digest p).end ≡ p.at + length p.bytes
unfolding head_at
end_at zero digest p = closed_end (head_at p.at p.bytes digest)
end_at (suc levels) digest p = refl

pub is_some-false : {X : Type 0} → (o : Option X) → is_some o ≡ false → o ≡ None
is_some-false None h = refl
is_some-false (Some x) h = absurd (true≢false h)

-- a part with a boundary may be entered
pub entered : (levels : ℕ) (digest : Bool) (p : Piece) (x : Node) → x ≡ node_at levels digest p → is_some x.boundary ≡ true → 0 < levels
entered zero digest p x e h =
    let shut : x.boundary ≡ None = ap (λ y. y.boundary) e ∙ closed_none (head_at p.at p.bytes digest) in
    absurd (true≢false (sym h ∙ ap is_some shut))
entered (suc levels) digest p x e h = omega arith

pub entered_head : (levels : ℕ) (digest : Bool) (p : Piece) → ¬ (levels ≡ 0) → node_at levels digest p ≡ head_at p.at p.bytes digest
entered_head zero digest p h = absurd (h refl)
entered_head (suc levels) digest p h = refl

number_at : (levels : ℕ) (digest : Bool) (p : Piece) → (node_at levels digest p).number ≡ None
unfolding head_at
number_at zero digest p = closed_number (head_at p.at p.bytes digest) refl
number_at (suc levels) digest p = refl

-- a multipart keeps that it has no number
pub not_numbered : (levels : ℕ) (digest : Bool) (p : Piece) (x : Node) (m : ℕ) → x ≡ node_at levels digest p → is_some x.boundary ≡ true → with_number x m ≡ x
not_numbered levels digest p x m e h =
    let none_yet : x.number ≡ None = ap (λ (y : Node). y.number) e ∙ number_at levels digest p in
    ap (λ v. record x { number = v }) (no_number x.boundary m h ∙ sym none_yet)

pub same_next : (x : Node) (m : ℕ) → is_some x.boundary ≡ true → next_number x m ≡ m
same_next x m h = elim x.boundary as (λ o. is_some o ≡ true → cond (is_some o) m (m + 1) ≡ m) [
  | None ↦ λ k. absurd (true≢false (sym k))
  | Some b ↦ λ k. refl
] h

-- the body of a part between two byte offsets
pub body_slice : (message : List ℕ) (start end levels : ℕ) (digest : Bool) (x : Node) → start ≤ end → end ≤ length message
    → x ≡ node_at levels digest (piece start (slice_range message start end))
    → (drop (body_of (slice_range message start end)) (slice_range message start end) ≡ slice_range message x.body x.end) × (x.body ≤ x.end) × (x.end ≤ length message)
body_slice message start end levels digest x h k e =
    let bytes = slice_range message start end in
    let count : length bytes ≡ end - start = length-slice message start end h k in
    let begins : x.body ≡ start + body_of bytes = ap (λ (y : Node). y.body) e ∙ body_at levels digest (piece start bytes) in
    let ends : x.end ≡ start + length bytes = ap (λ (y : Node). y.end) e ∙ end_at levels digest (piece start bytes) in
    let last : x.end ≡ end = omega arith in
    let inside : body_of bytes ≤ length bytes = body_of-le bytes in (
      drop-slice message start end (body_of bytes) (omega arith) ∙ ap (λ a. slice_range message a end) (sym begins) ∙ ap (slice_range message x.body) (sym last),
      omega arith,
      omega arith,
    )

-- so its byte offsets are within the message
pub part_placed : (message : List ℕ) (start end levels : ℕ) (digest : Bool) (x : Node) → start ≤ end → end ≤ length message
    → x ≡ node_at levels digest (piece start (slice_range message start end)) → IsPlaced (length message) x
part_placed message start end levels digest x h k e =
    let body = body_slice message start end levels digest x h k e in
    let bytes = slice_range message start end in
    let begins : x.body ≡ start + body_of bytes = ap (λ (y : Node). y.body) e ∙ body_at levels digest (piece start bytes) in
    let first : x.start ≡ start = ap (λ (y : Node). y.start) e ∙ start_at levels digest (piece start bytes) in
    record { begins = omega arith; ends = body.1; inside = body.2 }

-- a number is no byte offset
pub numbered_placed : (size : ℕ) (x : Node) (v : Option ℕ) → IsPlaced size x → IsPlaced size (record x { number = v })
numbered_placed size x v h = record { begins = h.begins; ends = h.ends; inside = h.inside }

-- one more part at its byte offsets
pub placed_push : (size : ℕ) (ps : List Part) (p : Part) → AllPlaced size (joined ps none) → AllPlaced size (part_before p none) → AllPlaced size (joined (ps ++ p ∷ []) none)
placed_push size [] p h k = k
placed_push size (q ∷ qs) p h k = (h.0, h.1, placed_push size qs p h.2 k)
