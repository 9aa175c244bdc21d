-- Texts that are put together in steps.
use Rattle.std.proofs.Common.{◌≡◌, ℕ, List, [], ◌∷◌, ◌++◌, sym, ap, ◌∙◌, append_assoc}
use Rattle.std.specs.List.{flat_map}
use Rattle.std.proofs.lemmas.List.{append-nil}
use Rattle.std.proofs.lemmas.Grind.{flat_map-append}
use Rattle.mime_lines.specs.FieldTexts.{FieldText}
use Rattle.mime_lines.specs.Written.{crlf, field_line}
use Rattle.mime_type.specs.HeadText.{HeadText, part_fields}
use Rattle.mime_tree.specs.WrittenParts.{message_text}

pub opening_steps : (f o a e : List ℕ) → a ≡ o ++ f → e ≡ a ++ crlf → e ≡ o ++ (f ++ crlf)
opening_steps f o a e p q = q ∙ ap (λ t. t ++ crlf) p ∙ append_assoc o f crlf

pub leaf_steps : (h : HeadText) (o a b e body : List ℕ) → a ≡ o ++ flat_map field_line (part_fields h) → b ≡ a ++ crlf → e ≡ b ++ body
    → e ≡ o ++ message_text [] h body
leaf_steps h o a b e body p q r =
    let f = flat_map field_line (part_fields h) in
    r ∙ ap (λ t. t ++ body) (q ∙ ap (λ t. t ++ crlf) p) ∙ append_assoc (o ++ f) crlf body ∙ append_assoc o f (crlf ++ body)

regroup : (o f d i l v : List ℕ) → ((((o ++ f) ++ d) ++ i) ++ l) ++ v ≡ o ++ (f ++ (d ++ (i ++ (l ++ v))))
regroup o f d i l v = simp append_assoc

pub header_steps : (first later : List FieldText) (date id version : FieldText) (o a b c d e : List ℕ) → a ≡ o ++ flat_map field_line first
    → b ≡ a ++ field_line date → c ≡ b ++ field_line id → d ≡ c ++ flat_map field_line later → e ≡ d ++ field_line version
    → e ≡ o ++ flat_map field_line (first ++ (date ∷ id ∷ (later ++ version ∷ [])))
header_steps first later date id version o a b c d e p q r s t =
    let f = flat_map field_line first in
    let l = flat_map field_line later in
    t ∙ ap (λ x. x ++ field_line version) (s ∙ ap (λ x. x ++ l) (r ∙ ap (λ x. x ++ field_line id) (q ∙ ap (λ x. x ++ field_line date) p)))
    ∙ regroup o f (field_line date) (field_line id) l (field_line version)
    ∙ ap (λ x. o ++ x) (sym (flat_map-append field_line first (date ∷ id ∷ (later ++ version ∷ []))
    ∙ ap (λ x. f ++ (field_line date ++ (field_line id ++ x))) (flat_map-append field_line later (version ∷ []) ∙ ap (λ x. l ++ x) (append-nil (field_line version)))))
