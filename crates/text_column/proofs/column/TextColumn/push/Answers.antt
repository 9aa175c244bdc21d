use Rattle.std.proofs.Common.{◌≡◌, ◌++◌, ◌∷◌, [], None, Some, length, ap, sym, subst, ◌∙◌, vec_len, rules}
use Rattle.text_column.specs.declared.mark.Mark.TheVariants.{HasNot, Open}
use Rattle.text_column.specs.Columns.{AreEnds, texts_in}
use Rattle.text_column.proofs.Pushed.{kept_ends, kept_texts, open_ends, open_texts}
use Rattle.text_column.proofs.column.TextColumn.push.Goals as goal

-- the vectors after a text was left out
open_ends_are : (c : goal.After-push_reserved-in_default) → c.push_reserved.new.self.items ≡ c.self.inside.ends.items ++ length c.self.inside.bytes.items ∷ []
open_ends_are c =
    let s = c.self.inside in
    let count : vec_len s.bytes ≡ length s.bytes.items = search rules in
    c.push_reserved.ensures.items ∙ ap (λ es. es ++ c.len.result ∷ []) c.reserve.ensures.items ∙ ap (λ n. s.ends.items ++ n ∷ []) (c.len.ensures ∙ count)

open_marks_are : (c : goal.After-push_reserved-in_default) → c.push_reserved-in_default.new.self.items ≡ c.self.inside.blank.items ++ Open ∷ []
open_marks_are c = c.push_reserved-in_default.ensures.items ∙ ap (λ ms. ms ++ Open ∷ []) c.reserve-2.ensures.items

pub invariant_of-self-in_default : goal.invariant_of-self-in_default
invariant_of-self-in_default c =
    let s = c.self.inside in
    subst (λ es. AreEnds 0 es c.push_reserved-in_default.new.self.items (length s.bytes.items)) (sym (open_ends_are c))
    (subst (λ ms. AreEnds 0 (s.ends.items ++ length s.bytes.items ∷ []) ms (length s.bytes.items)) (sym (open_marks_are c))
    (open_ends s.bytes.items s.ends.items s.blank.items c.self.invariant))

pub returns-in_default-clause-ok : goal.returns-in_default-clause-ok
returns-in_default-clause-ok c =
    let s = c.self.inside in
    rw c.in_default.is
    (ap (λ es. texts_in s.bytes.items 0 es c.push_reserved-in_default.new.self.items) (open_ends_are c)
    ∙ ap (texts_in s.bytes.items 0 (s.ends.items ++ length s.bytes.items ∷ [])) (open_marks_are c)
    ∙ open_texts s.bytes.items s.ends.items s.blank.items c.self.invariant
    ∙ ap (λ ts. ts ++ None ∷ []) c.self.view_is)

-- the vectors after a text was put at the end
kept_ends_are : (c : goal.After-push_reserved-3) → c.push_reserved-2.new.self.items ≡ c.self.inside.ends.items ++ length c.extend_from_slice.new.self.items ∷ []
kept_ends_are c =
    let count : vec_len c.extend_from_slice.new.self ≡ length c.extend_from_slice.new.self.items = search rules in
    c.push_reserved-2.ensures.items ∙ ap (λ es. es ++ c.len-2.result ∷ []) c.reserve.ensures.items ∙ ap (λ n. c.self.inside.ends.items ++ n ∷ []) (c.len-2.ensures ∙ count)

kept_marks_are : (c : goal.After-push_reserved-3) → c.push_reserved-3.new.self.items ≡ c.self.inside.blank.items ++ HasNot ∷ []
kept_marks_are c = c.push_reserved-3.ensures.items ∙ ap (λ ms. ms ++ HasNot ∷ []) c.reserve-2.ensures.items

pub invariant_of-self-2 : goal.invariant_of-self-2
invariant_of-self-2 c =
    let s = c.self.inside in
    let after = c.extend_from_slice.new.self.items in
    subst (λ es. AreEnds 0 es c.push_reserved-3.new.self.items (length after)) (sym (kept_ends_are c))
    (subst (λ ms. AreEnds 0 (s.ends.items ++ length after ∷ []) ms (length after)) (sym (kept_marks_are c))
    (kept_ends s.bytes.items c.in-Some.text.now after s.ends.items s.blank.items c.self.invariant c.in_ok-extend_from_slice.ensures.items))

pub returns-clause-ok : goal.returns-clause-ok
returns-clause-ok c =
    let s = c.self.inside in
    let after = c.extend_from_slice.new.self.items in
    rw c.in-Some.is
    (ap (λ es. texts_in after 0 es c.push_reserved-3.new.self.items) (kept_ends_are c)
    ∙ ap (texts_in after 0 (s.ends.items ++ length after ∷ [])) (kept_marks_are c)
    ∙ kept_texts s.bytes.items c.in-Some.text.now after s.ends.items s.blank.items c.self.invariant c.in_ok-extend_from_slice.ensures.items
    ∙ ap (λ ts. ts ++ Some c.in-Some.text.now ∷ []) c.self.view_is)
