-- What a budget takes of a tree, part by part.
use Rattle.std.proofs.Common.{◌≡◌, ℕ, zero, suc, ◌+◌, ◌-◌, ◌<◌, Bool, false, List, [], ◌∷◌, ◌++◌, drop, refl, ap, sym, ◌∙◌, arith, Some, None}
use Rattle.mime_lines.specs.Fields.{body_of}
use Rattle.mime_cut.specs.declared.line_kind.LineKind.{LineKind}
use Rattle.mime_cut.specs.declared.line_kind.LineKind.TheVariants.{Other, DelimiterLine, CloseDelimiter}
use Rattle.mime_cut.specs.Cut.{Piece, piece, after_line}
use Rattle.mime_type.specs.PartTrees.{Node, PartTrees, none, part}
use Rattle.mime_type.specs.PartViews.{node_of, part_before, joined}
use Rattle.mime_type.specs.declared.part.Part.{Part}
use Rattle.mime_tree.specs.Tree.{is_digest, node_at, within, part_tree}
use Rattle.mime_tree.specs.PartLimit.{kept, numbered, number_of, next_number, parts_of}
use Rattle.mime_tree.specs.declared.walk.TheConstants.{MAX_MULTIPART_LEVELS, MAX_PARTS}
use Rattle.mime_tree.specs.Budget.{Taken, taken, with_number}

abbrev pub took : PartTrees → ℕ → ℕ → Taken
took parts left number = record { parts = parts; left = left; number = number }

pub taken_zero : (f : PartTrees) (m : ℕ) → taken f 0 m ≡ took none 0 m
taken_zero none m = refl
taken_zero (part x a b) m = refl

-- kept and numbered in one walk
taken_is : (f : PartTrees) (n m : ℕ) → taken f n m ≡ took (numbered (kept f n).parts m).parts (kept f n).count (numbered (kept f n).parts m).count
taken_is none n m = refl
taken_is (part x a b) zero m = refl
taken_is (part x a b) (suc n) m =
    let k = kept a n in
    let l = numbered k.parts (next_number x m) in
    ap (λ r. took (part (with_number x m) r.parts (taken b r.left r.number).parts) (taken b r.left r.number).left (taken b r.left r.number).number) (taken_is a n (next_number x m))
    ∙ ap (λ r. took (part (with_number x m) l.parts r.parts) r.left r.number) (taken_is b k.count l.count)

-- what is in a part
abbrev pub inner_of : ℕ → Bool → Piece → PartTrees
inner_of zero digest p = none
inner_of (suc levels) digest p =
    let node = node_at (suc levels) digest p in
    within (part_tree levels (is_digest node)) node.boundary node.body (drop (body_of p.bytes) p.bytes)

grow_is : (levels : ℕ) (digest : Bool) (p : Piece) (later : PartTrees) → part_tree levels digest p later ≡ part (node_at levels digest p) (inner_of levels digest p) later
grow_is zero digest p later = refl
grow_is (suc levels) digest p later = refl

-- a part alone
pub part_alone : (levels : ℕ) (digest : Bool) (p : Piece) (n m k j : ℕ) (node : Node) (inner : PartTrees) → 0 < n → node ≡ node_at levels digest p
    → taken (inner_of levels digest p) (n - 1) (next_number node m) ≡ took inner k j
    → taken (part_tree levels digest p none) n m ≡ took (part (with_number node m) inner none) k j
part_alone levels digest p zero m k j node inner h e f = absurd (omega arith)
part_alone levels digest p (suc n) m k j node inner h e f =
    let x = node_at levels digest p in
    let less : n ≡ suc n - 1 = omega arith in
    let f' : taken (inner_of levels digest p) n (next_number x m) ≡ took inner k j =
    ap (λ i. taken (inner_of levels digest p) i (next_number x m)) less ∙ ap (λ y. taken (inner_of levels digest p) (suc n - 1) (next_number y m)) (sym e) ∙ f in
    ap (λ t. taken t (suc n) m) (grow_is levels digest p none)
    ∙ ap (λ r. took (part (with_number x m) r.parts none) r.left r.number) f'
    ∙ ap (λ y. took (part (with_number y m) inner none) k j) (sym e)

inner_none : (levels : ℕ) (digest : Bool) (p : Piece) → (node_at levels digest p).boundary ≡ None → inner_of levels digest p ≡ none
inner_none zero digest p h = refl
inner_none (suc levels) digest p h =
    let node = node_at (suc levels) digest p in
    ap (λ o. within (part_tree levels (is_digest node)) o node.body (drop (body_of p.bytes) p.bytes)) h

-- a leaf alone
pub leaf_alone : (levels : ℕ) (digest : Bool) (p : Piece) (n m : ℕ) (node : Node) → 0 < n → node ≡ node_at levels digest p → node.boundary ≡ None
    → taken (part_tree levels digest p none) n m ≡ took (part (record node { number = Some m }) none none) (n - 1) (m + 1)
leaf_alone levels digest p n m node h e b =
    let empty : inner_of levels digest p ≡ none = inner_none levels digest p (ap (λ x. x.boundary) (sym e) ∙ b) in
    let next : next_number node m ≡ m + 1 = rw b refl in
    let number : number_of node m ≡ Some m = rw b refl in
    part_alone levels digest p n m (n - 1) (m + 1) node none h e (ap (λ f. taken f (n - 1) (next_number node m)) empty ∙ ap (took none (n - 1)) next)
    ∙ ap (λ v. took (part (record node { number = v }) none none) (n - 1) (m + 1)) number

-- a part before later ones
pub part_first : (levels : ℕ) (digest : Bool) (p : Piece) (later : PartTrees) (n m k j : ℕ) (node : Node) (inner : PartTrees) → 0 < n
    → taken (part_tree levels digest p none) n m ≡ took (part node inner none) k j
    → taken (part_tree levels digest p later) n m ≡ took (part node inner (taken later k j).parts) (taken later k j).left (taken later k j).number
part_first levels digest p later zero m k j node inner h e = absurd (omega arith)
part_first levels digest p later (suc n) m k j node inner h e =
    let x = with_number (node_at levels digest p) m in
    let r = taken (inner_of levels digest p) n (next_number (node_at levels digest p) m) in
    let all : took (part x r.parts none) r.left r.number ≡ took (part node inner none) k j = sym (ap (λ t. taken t (suc n) m) (grow_is levels digest p none)) ∙ e in
    let heads : part x r.parts none ≡ part node inner none = ap (λ (q : Taken). q.parts) all in
    let left_is : r.left ≡ k = ap (λ (q : Taken). q.left) all in
    let number_is : r.number ≡ j = ap (λ (q : Taken). q.number) all in
    let node_is : x ≡ node = cc in
    let inner_is : r.parts ≡ inner = cc in
    ap (λ t. taken t (suc n) m) (grow_is levels digest p later)
    ∙ ap (λ y. took (part y r.parts (taken later r.left r.number).parts) (taken later r.left r.number).left (taken later r.left r.number).number) node_is
    ∙ ap (λ f. took (part node f (taken later r.left r.number).parts) (taken later r.left r.number).left (taken later r.left r.number).number) inner_is
    ∙ ap (λ i. took (part node inner (taken later i r.number).parts) (taken later i r.number).left (taken later i r.number).number) left_is
    ∙ ap (λ i. took (part node inner (taken later k i).parts) (taken later k i).left (taken later k i).number) number_is

-- what is in a multipart
pub inner_more : (levels : ℕ) (digest : Bool) (p : Piece) (node : Node) (body : List ℕ) → 0 < levels → node ≡ node_at levels digest p
    → drop (body_of p.bytes) p.bytes ≡ body
    → inner_of levels digest p ≡ within (part_tree (levels - 1) (is_digest node)) node.boundary node.body body
inner_more zero digest p node body h e f = absurd (omega arith)
inner_more (suc levels) digest p node body h e f =
    let less : levels ≡ suc levels - 1 = omega arith in
    ap (λ y. within (part_tree levels (is_digest y)) y.boundary y.body (drop (body_of p.bytes) p.bytes)) (sym e)
    ∙ ap (within (part_tree levels (is_digest node)) node.boundary node.body) f
    ∙ ap (λ i. within (part_tree i (is_digest node)) node.boundary node.body body) less

-- parts before what was taken
abbrev pub onto : List Part → Taken → Taken
onto items r = took (joined items r.parts) r.left r.number

joined_push : (ps : List Part) (p : Part) (later : PartTrees) → joined (ps ++ p ∷ []) later ≡ joined ps (part_before p later)
joined_push [] p later = refl
joined_push (q ∷ qs) p later = ap (part (node_of q) q.parts) (joined_push qs p later)

-- one more of them
pub onto_push : (items : List Part) (p : Part) (r s : Taken) → s ≡ took (part_before p r.parts) r.left r.number → onto (items ++ p ∷ []) r ≡ onto items s
onto_push items p r s e = ap (λ f. took f r.left r.number) (joined_push items p r.parts) ∙ ap (onto items) (sym e)

-- nothing more is taken
pub finished : (items : List Part) (r all : Taken) (out : PartTrees) (left number : ℕ) → onto items r ≡ all → r ≡ took none left number → out ≡ joined items none
    → all ≡ took out left number
finished items r all out left number e h o = sym e ∙ ap (onto items) h ∙ ap (λ f. took f left number) (sym o)

pub after_none : (b : List ℕ) (kind : LineKind) (at : ℕ) (ls : List (List ℕ)) → ¬ (kind ≡ DelimiterLine) → after_line b kind at ls ≡ []
after_none b Other at ls h = refl
after_none b DelimiterLine at ls h = absurd (h refl)
after_none b CloseDelimiter at ls h = refl

-- the whole tree
pub parts_is : (bytes all : List ℕ) (tree : PartTrees) (left number : ℕ) → all ≡ bytes → taken (part_tree MAX_MULTIPART_LEVELS false (piece 0 all) none) MAX_PARTS 1 ≡ took tree left number → tree ≡ parts_of bytes
parts_is bytes all tree left number e h =
    let f = part_tree MAX_MULTIPART_LEVELS false (piece 0 all) none in
    ap (λ (q : Taken). q.parts) (sym h ∙ taken_is f MAX_PARTS 1) ∙ ap (λ bs. (numbered (kept (part_tree MAX_MULTIPART_LEVELS false (piece 0 bs) none) MAX_PARTS).parts 1).parts) e
