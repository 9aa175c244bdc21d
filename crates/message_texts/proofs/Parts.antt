-- The texts of the parts of a tree, one after another.
use Rattle.std.proofs.Common.{◌≡◌, ℕ, ◌+◌, ◌<◌, ◌≤◌, Bool, true, false, cond, List, [], ◌∷◌, ◌++◌, map, filter, drop, length, get_or, refl, sym, ap, ◌∙◌, append_assoc, append-nil, arith}
use Rattle.std.proofs.lemmas.List.{at_drop_all, at_drop_more}
use Rattle.mime_type.specs.PartTrees.{Node, none}
use Rattle.mime_type.specs.PartViews.{joined, node_of, part_before}
use Rattle.mime_type.specs.declared.part.Part.{Part}
use Rattle.mime_tree.specs.PartLimit.{walked}
use Rattle.mail_summary.specs.Texts.{body_text}
use Rattle.mail_view.specs.Values.{is_text_part}
use Rattle.mail_view.proofs.TreeFacts.{walked-part_before}
use Rattle.message_texts.specs.Texts.{part_texts}

kept_first : (bytes : List ℕ) (x : Node) (xs ys : List Node) (b : Bool) → (part_texts bytes xs ++ part_texts bytes ys) ≡ part_texts bytes (xs ++ ys)
    → (map (body_text bytes) (cond b (x ∷ filter is_text_part xs) (filter is_text_part xs)) ++ part_texts bytes ys) ≡ map (body_text bytes) (cond b (x ∷ filter is_text_part (xs ++ ys)) (filter is_text_part (xs ++ ys)))
kept_first bytes x xs ys true e = ap (λ ts. body_text bytes x ∷ ts) e
kept_first bytes x xs ys false e = e

-- the texts of some parts and of others
pub texts_of_both : (bytes : List ℕ) (xs ys : List Node) → (part_texts bytes xs ++ part_texts bytes ys) ≡ part_texts bytes (xs ++ ys)
texts_of_both bytes [] ys = refl
texts_of_both bytes (x ∷ xs) ys = kept_first bytes x xs ys (is_text_part x) (texts_of_both bytes xs ys)

-- the text of a part itself, and those of the parts within it
pub own_and_inner : (bytes : List ℕ) (p : Part) (before own all : List (List ℕ)) → own ≡ before ++ part_texts bytes (node_of p ∷ []) → all ≡ own ++ part_texts bytes (walked p.parts)
    → all ≡ before ++ part_texts bytes (walked (part_before p none))
own_and_inner bytes p before own all e f =
    f ∙ ap (λ ts. ts ++ part_texts bytes (walked p.parts)) e
    ∙ append_assoc before (part_texts bytes (node_of p ∷ [])) (part_texts bytes (walked p.parts))
    ∙ ap (λ ts. before ++ ts) (texts_of_both bytes (node_of p ∷ []) (walked p.parts))
    ∙ ap (λ (xs : List Node). before ++ part_texts bytes (node_of p ∷ xs)) (sym (append-nil (walked p.parts)))

-- the texts of the parts from an index on
pub texts_from : (bytes : List ℕ) (ps : List Part) (i : ℕ) (p : Part) → i < length ps → p ≡ get_or ps i p
    → part_texts bytes (walked (joined (drop i ps) none)) ≡ part_texts bytes (walked (part_before p none)) ++ part_texts bytes (walked (joined (drop (i + 1) ps) none))
texts_from bytes ps i p within is =
    at_drop_more (λ qs. part_texts bytes (walked (joined qs none))) ps i p within
    ∙ ap (λ q. part_texts bytes (walked (part_before q (joined (drop (i + 1) ps) none)))) (sym is)
    ∙ ap (λ xs. part_texts bytes xs) (walked-part_before p (joined (drop (i + 1) ps) none))
    ∙ sym (texts_of_both bytes (walked (part_before p none)) (walked (joined (drop (i + 1) ps) none)))

-- one part more
pub one_part_more : (bytes : List ℕ) (ps : List Part) (i : ℕ) (p : Part) (first before after : List (List ℕ)) → i < length ps → p ≡ get_or ps i p
    → after ≡ before ++ part_texts bytes (walked (part_before p none))
    → (before ++ part_texts bytes (walked (joined (drop i ps) none))) ≡ (first ++ part_texts bytes (walked (joined ps none)))
    → (after ++ part_texts bytes (walked (joined (drop (i + 1) ps) none))) ≡ (first ++ part_texts bytes (walked (joined ps none)))
one_part_more bytes ps i p first before after within is e so_far =
    ap (λ ts. ts ++ part_texts bytes (walked (joined (drop (i + 1) ps) none))) e
    ∙ append_assoc before (part_texts bytes (walked (part_before p none))) (part_texts bytes (walked (joined (drop (i + 1) ps) none)))
    ∙ ap (λ ts. before ++ ts) (sym (texts_from bytes ps i p within is))
    ∙ so_far

pub no_part_more : (bytes : List ℕ) (ps : List Part) (i : ℕ) (first all : List (List ℕ)) → length ps ≤ i
    → (all ++ part_texts bytes (walked (joined (drop i ps) none))) ≡ (first ++ part_texts bytes (walked (joined ps none)))
    → all ≡ first ++ part_texts bytes (walked (joined ps none))
no_part_more bytes ps i first all past so_far =
    sym (append-nil all) ∙ ap (λ ts. all ++ ts) (sym (at_drop_all (λ qs. part_texts bytes (walked (joined qs none))) ps i past)) ∙ so_far
