-- The fields of a part's head, one after the other.
use Rattle.std.proofs.Common.{◌≡◌, ℕ, List, [], ◌∷◌, ◌++◌, Option, None, Some, codes, refl, sym, ap, ◌∙◌, append_assoc}
use Rattle.std.specs.Prelude.{option_map}
use Rattle.std.specs.List.{flat_map}
use Rattle.std.proofs.lemmas.List.{append-nil}
use Rattle.mime_lines.specs.FieldTexts.{FieldText}
use Rattle.mime_lines.specs.Written.{crlf, field_line, fold}
use Rattle.mime_type.specs.Grammar.{Pair}
use Rattle.mime_type.specs.HeadText.{HeadText, between_quotes, cid_value, coding_value, disposition_value, field_if, language_value, location_value, name_text, parameter_if, parameters_text, part_fields, type_parameters, type_value}
use Rattle.mime_writer.specs.Heads.{cid_field, coding_field, disposition_field, field_text, language_field, location_field, name_parameter, type_field}

flat_both : (fs gs : List FieldText) → flat_map field_line (fs ++ gs) ≡ flat_map field_line fs ++ flat_map field_line gs
flat_both [] gs = refl
flat_both (f ∷ fs) gs = ap (λ t. field_line f ++ t) (flat_both fs gs) ∙ sym (append_assoc (field_line f) (flat_map field_line fs) (flat_map field_line gs))

one_field : (name : List ℕ) (o : Option (List ℕ)) → flat_map field_line (field_if name o) ≡ field_text name o
one_field name None = refl
one_field name (Some value) = append-nil (field_line (record { name = name; value = value }))

field_more : (name : List ℕ) (o : Option (List ℕ)) (gs : List FieldText) (t : List ℕ) → flat_map field_line gs ≡ t
    → flat_map field_line (field_if name o ++ gs) ≡ field_text name o ++ t
field_more name o gs t e = flat_both (field_if name o) gs ∙ ap (λ u. u ++ flat_map field_line gs) (one_field name o) ∙ ap (λ u. field_text name o ++ u) e

abbrev disposition_text : HeadText → List ℕ
disposition_text h = field_text (codes "Content-Disposition") (option_map (disposition_value fold h.name) h.disposition)

fields_are : (h : HeadText) → flat_map field_line (part_fields h)
    ≡ type_field h ++ (disposition_text h ++ (cid_field h.cid ++ (language_field h.language ++ (location_field h.location ++ coding_field h.coding))))
fields_are h =
    let coding = one_field (codes "Content-Transfer-Encoding") (option_map coding_value h.coding) in
    let location = field_more (codes "Content-Location") (option_map location_value h.location) (field_if (codes "Content-Transfer-Encoding") (option_map coding_value h.coding)) (coding_field h.coding) coding in
    let language = field_more (codes "Content-Language") (option_map language_value h.language)
    (field_if (codes "Content-Location") (option_map location_value h.location) ++ field_if (codes "Content-Transfer-Encoding") (option_map coding_value h.coding))
    (location_field h.location ++ coding_field h.coding) location in
    let cid = field_more (codes "Content-ID") (option_map cid_value h.cid)
    (field_if (codes "Content-Language") (option_map language_value h.language)
    ++ (field_if (codes "Content-Location") (option_map location_value h.location) ++ field_if (codes "Content-Transfer-Encoding") (option_map coding_value h.coding)))
    (language_field h.language ++ (location_field h.location ++ coding_field h.coding)) language in
    let disposition = field_more (codes "Content-Disposition") (option_map (disposition_value fold h.name) h.disposition)
    (field_if (codes "Content-ID") (option_map cid_value h.cid)
    ++ (field_if (codes "Content-Language") (option_map language_value h.language)
    ++ (field_if (codes "Content-Location") (option_map location_value h.location) ++ field_if (codes "Content-Transfer-Encoding") (option_map coding_value h.coding))))
    (cid_field h.cid ++ (language_field h.language ++ (location_field h.location ++ coding_field h.coding))) cid in
    ap (λ t. field_line (record { name = codes "Content-Type"; value = type_value fold h }) ++ t) disposition

pub head_steps : (h : HeadText) (o a b c d e : List ℕ) → a ≡ o ++ type_field h → b ≡ a ++ disposition_text h → c ≡ b ++ cid_field h.cid
    → d ≡ c ++ language_field h.language → e ≡ d ++ location_field h.location → e ++ coding_field h.coding ≡ o ++ flat_map field_line (part_fields h)
head_steps h o a b c d e p q r s t =
    let n = coding_field h.coding in
    let m = location_field h.location ++ n in
    let l = language_field h.language ++ m in
    let k = cid_field h.cid ++ l in
    ap (λ x. x ++ n) t ∙ append_assoc d (location_field h.location) n
    ∙ ap (λ x. x ++ m) s ∙ append_assoc c (language_field h.language) m
    ∙ ap (λ x. x ++ l) r ∙ append_assoc b (cid_field h.cid) l
    ∙ ap (λ x. x ++ k) q ∙ append_assoc a (disposition_text h) k
    ∙ ap (λ x. x ++ (disposition_text h ++ k)) p ∙ append_assoc o (type_field h) (disposition_text h ++ k)
    ∙ ap (λ x. o ++ x) (sym (fields_are h))

-- texts that were added one after the other
pub three : (o a b c x y z : List ℕ) → a ≡ o ++ x → b ≡ a ++ y → c ≡ b ++ z → c ≡ o ++ (x ++ (y ++ z))
three o a b c x y z p q r =
    r ∙ ap (λ t. t ++ z) q ∙ append_assoc a y z ∙ ap (λ t. t ++ (y ++ z)) p ∙ append_assoc o x (y ++ z)

pub four : (o a b c d x y z w : List ℕ) → a ≡ o ++ x → b ≡ a ++ y → c ≡ b ++ z → d ≡ c ++ w → d ≡ o ++ (x ++ (y ++ (z ++ w)))
four o a b c d x y z w p q r s =
    three o a b d x y (z ++ w) p q (s ∙ ap (λ t. t ++ w) r ∙ append_assoc b z w)

params_both : (ps qs : List Pair) → parameters_text (ps ++ qs) ≡ parameters_text ps ++ parameters_text qs
params_both [] qs = refl
params_both (p ∷ ps) qs =
    ap (λ t. 59 ∷ 32 ∷ (p.name ++ 61 ∷ (p.value ++ t))) (params_both ps qs)
    ∙ ap (λ t. 59 ∷ 32 ∷ (p.name ++ 61 ∷ t)) (sym (append_assoc p.value (parameters_text ps) (parameters_text qs)))
    ∙ ap (λ t. 59 ∷ 32 ∷ t) (sym (append_assoc p.name (61 ∷ (p.value ++ parameters_text ps)) (parameters_text qs)))

-- the Content-Type field
pub type_steps : (h : HeadText) (o a b c d e f g k : List ℕ) → a ≡ o ++ codes "Content-Type: " → b ≡ a ++ h.main → c ≡ b ++ 47 ∷ [] → d ≡ c ++ h.sub
    → e ≡ d ++ parameters_text (parameter_if (codes "charset") h.charset) → f ≡ e ++ parameters_text (parameter_if (codes "name") (name_text fold h.name))
    → g ≡ f ++ parameters_text (parameter_if (codes "boundary") (option_map between_quotes h.boundary)) → k ≡ g ++ crlf → k ≡ o ++ type_field h
type_steps h o a b c d e f g k p q r s t u v w =
    let C = parameter_if (codes "charset") h.charset in
    let N = parameter_if (codes "name") (name_text fold h.name) in
    let B = parameter_if (codes "boundary") (option_map between_quotes h.boundary) in
    let all : parameters_text (type_parameters fold h) ≡ parameters_text C ++ (parameters_text N ++ parameters_text B) =
    params_both C (N ++ B) ∙ ap (λ x. parameters_text C ++ x) (params_both N B) in
    let back = four d e f g k (parameters_text C) (parameters_text N) (parameters_text B) crlf t u v w in
    let tail : parameters_text C ++ (parameters_text N ++ (parameters_text B ++ crlf)) ≡ parameters_text (type_parameters fold h) ++ crlf =
    ap (λ x. parameters_text C ++ x) (sym (append_assoc (parameters_text N) (parameters_text B) crlf))
    ∙ sym (append_assoc (parameters_text C) (parameters_text N ++ parameters_text B) crlf) ∙ ap (λ x. x ++ crlf) (sym all) in
    let rest = parameters_text (type_parameters fold h) ++ crlf in
    let front = four o a b c d (codes "Content-Type: ") h.main (47 ∷ []) h.sub p q r s in
    let whole : (codes "Content-Type: " ++ (h.main ++ (47 ∷ h.sub))) ++ rest ≡ type_field h =
    ap (λ x. codes "Content-Type: " ++ x) (append_assoc h.main (47 ∷ h.sub) rest ∙ ap (λ x. h.main ++ 47 ∷ x) (sub_text h.sub (parameters_text (type_parameters fold h))) ∙ sym (main_text h.main (h.sub ++ parameters_text (type_parameters fold h)))) in
    back ∙ ap (λ x. d ++ x) tail ∙ ap (λ x. x ++ rest) front ∙ append_assoc o (codes "Content-Type: " ++ (h.main ++ (47 ∷ h.sub))) rest ∙ ap (λ x. o ++ x) whole
  where
    sub_text : (sub params : List ℕ) → sub ++ (params ++ crlf) ≡ (sub ++ params) ++ crlf
    sub_text sub params = sym (append_assoc sub params crlf)

    main_text : (main rest : List ℕ) → (main ++ 47 ∷ rest) ++ crlf ≡ main ++ 47 ∷ (rest ++ crlf)
    main_text main rest = append_assoc main (47 ∷ rest) crlf

-- the Content-Disposition field
pub disposition_steps : (name : Option (List ℕ)) (o a b c d disposition : List ℕ) → a ≡ o ++ codes "Content-Disposition: " → b ≡ a ++ disposition
    → c ≡ b ++ name_parameter (codes "filename") name → d ≡ c ++ crlf → d ≡ o ++ disposition_field (Some disposition) name
disposition_steps name o a b c d disposition p q r s =
    let params = name_parameter (codes "filename") name in
    four o a b c d (codes "Content-Disposition: ") disposition params crlf p q r s
    ∙ ap (λ x. o ++ (codes "Content-Disposition: " ++ x)) (sym (append_assoc disposition params crlf))
