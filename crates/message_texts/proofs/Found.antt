-- What is found in lists of texts.
use Rattle.std.proofs.Common.{◌≡◌, ℕ, ◌<◌, ◌+◌, drop, get_or, codes, Option, Some, None, IfOk, IfSome, subst, Bool, true, false, ◌&&◌, ◌||◌, cond, not, List, [], ◌∷◌, ◌++◌, map, filter, length, refl, sym, ap, ap₂, ◌∙◌}
use Rattle.std.specs.Prelude.{◌==◌, Result, Ok, Err}
use Rattle.std.specs.List.{list_any}
use Rattle.std.proofs.Math.Dec.{eqb-suc-zero}
use Rattle.std.proofs.lemmas.List.{at_drop_more}
use Rattle.std.proofs.lemmas.List.Folds.{list_any-append}
use Rattle.jm_base.specs.declared.memory.NoMemory.{NoMemory}
use Rattle.mime_tree.specs.PartLimit.{parts_of, walked}
use Rattle.filter_terms.specs.Texts.{has_text}
use Rattle.filter_terms.specs.declared.texts.Place.TheVariants.{Text}
use denote.Ref.{Bor}
use Rattle.mime_lines.specs.Fields.{fields_of}
use Rattle.mime_lines.specs.FieldOffsets.{is_named, value_in}
use Rattle.mime_lines.specs.FieldTexts.{FieldText, read_at}
use Rattle.mime_lines.specs.declared.field.Field.{Field}
use Rattle.header_forms.specs.Texts.{text_form}
use Rattle.mail_view.specs.Headers.{values_of}
use Rattle.filter_terms.specs.Contains.{contains, some_contains}
use Rattle.message_texts.specs.Texts.{field_has, field_texts, is_field_named, main_texts, message_texts, part_texts, texts_among}

pub or_false : (a : Bool) → (a || false) ≡ a
or_false true = refl
or_false false = refl

any_map : {A B : Type 0} (p : B → Bool) (f : A → B) (xs : List A) → list_any p (map f xs) ≡ list_any (λ x. p (f x)) xs
any_map p f [] = refl
any_map p f (x ∷ xs) = ap (λ r. p (f x) || r) (any_map p f xs)

any_filter : {A : Type 0} (p q : A → Bool) (xs : List A) → list_any p (filter q xs) ≡ list_any (λ x. q x && p x) xs
any_filter p q [] = refl
any_filter p q (x ∷ xs) =
    elim (q x) as (λ b. list_any p (cond b (x ∷ filter q xs) (filter q xs)) ≡ ((b && p x) || list_any (λ y. q y && p y) xs)) [
      | true ↦ ap (λ r. p x || r) (any_filter p q xs)
      | false ↦ any_filter p q xs
    ]

-- some field of the name contains the needle
pub some_field_has : (bytes name needle : List ℕ) (fs : List Field) → some_contains needle (texts_among bytes fs name) ≡ list_any (λ f. field_has name needle f) (map (read_at bytes) fs)
some_field_has bytes name needle fs =
    any_map (λ text. contains needle text) text_form (values_of bytes name fs)
    ∙ any_map (λ value. contains needle (text_form value)) (value_in bytes) (filter (is_named bytes name) fs)
    ∙ any_filter (λ f. contains needle (text_form (value_in bytes f))) (is_named bytes name) fs
    ∙ sym (any_map (λ f. field_has name needle f) (read_at bytes) fs)

-- some field of one of the names contains the needle
pub some_named_has : (bytes needle : List ℕ) (fs : List FieldText) → fs ≡ map (read_at bytes) (fields_of bytes) → (names : List (Bor (List ℕ)))
    → list_any (λ (name : Bor (List ℕ)). list_any (λ f. field_has name.now needle f) fs) names ≡ list_any (λ (name : Bor (List ℕ)). some_contains needle (field_texts bytes name.now)) names
some_named_has bytes needle fs all [] = refl
some_named_has bytes needle fs all (n ∷ ns) =
    ap₂ (λ a b. a || b) (ap (λ (gs : List FieldText). list_any (λ f. field_has n.now needle f) gs) all ∙ sym (some_field_has bytes n.now needle (fields_of bytes))) (some_named_has bytes needle fs all ns)

-- there is a field of the name
some_span_named : (bytes name : List ℕ) (fs : List Field) → not (length (texts_among bytes fs name) == 0) ≡ list_any (λ f. is_named bytes name f) fs
some_span_named bytes name [] = refl
some_span_named bytes name (f ∷ fs) =
    elim (is_named bytes name f) as (λ b. not (length (map text_form (map (value_in bytes) (cond b (f ∷ filter (is_named bytes name) fs) (filter (is_named bytes name) fs)))) == 0) ≡ (b || list_any (λ g. is_named bytes name g) fs)) [
      | true ↦ ap not (eqb-suc-zero (length (map text_form (map (value_in bytes) (filter (is_named bytes name) fs)))))
      | false ↦ some_span_named bytes name fs
    ]

pub some_field_named : (bytes name : List ℕ) (fs : List FieldText) → fs ≡ map (read_at bytes) (fields_of bytes) → not (length (field_texts bytes name) == 0) ≡ list_any (λ f. is_field_named name f) fs
some_field_named bytes name fs all =
    some_span_named bytes name (fields_of bytes)
    ∙ sym (any_map (λ f. is_field_named name f) (read_at bytes) (fields_of bytes))
    ∙ ap (λ (gs : List FieldText). list_any (λ f. is_field_named name f) gs) (sym all)

regrouped : (a b c d e : Bool) → ((((a || b) || c) || d) || e) ≡ (a || (b || (c || (d || (e || false)))))
regrouped true b c d e = refl
regrouped false true c d e = refl
regrouped false false true d e = refl
regrouped false false false true e = refl
regrouped false false false false true = refl
regrouped false false false false false = refl

-- the lists of texts of the fields that the condition `text` looks at
pub in_main : (needle : List ℕ) (a b c d e : List (List ℕ)) → some_contains needle ((((a ++ b) ++ c) ++ d) ++ e) ≡ (some_contains needle a || (some_contains needle b || (some_contains needle c || (some_contains needle d || (some_contains needle e || false)))))
in_main needle a b c d e =
    let p = λ (text : List ℕ). contains needle text in
    list_any-append p (((a ++ b) ++ c) ++ d) e
    ∙ ap (λ r. r || list_any p e) (list_any-append p ((a ++ b) ++ c) d
    ∙ ap (λ r. r || list_any p d) (list_any-append p (a ++ b) c
    ∙ ap (λ r. r || list_any p c) (list_any-append p a b)))
    ∙ regrouped (list_any p a) (list_any p b) (list_any p c) (list_any p d) (list_any p e)

if_ok_by : (r : Result Bool NoMemory) (a b : Bool) → a ≡ b → IfOk r (λ x. x ≡ a) → IfOk r (λ x. x ≡ b)
if_ok_by r a b same h = subst (λ (v : Bool). IfOk r (λ x. x ≡ v)) same h

-- what is found in the header of a message, by its fields
pub header_found : (bytes self needle : List ℕ) (kept shown : List FieldText) (names : List (Bor (List ℕ))) (r : Result Bool NoMemory) → bytes ≡ self → kept ≡ map (read_at bytes) (fields_of bytes) → shown ≡ kept
    → IfOk r (λ b. b ≡ list_any (λ (name : Bor (List ℕ)). list_any (λ f. field_has name.now needle f) shown) names)
    → IfOk r (λ b. b ≡ list_any (λ (name : Bor (List ℕ)). some_contains needle (field_texts self name.now)) names)
header_found bytes self needle kept shown names r same all is h =
    if_ok_by r _ _
    (some_named_has bytes needle shown (is ∙ all) names ∙ ap (λ (bs : List ℕ). list_any (λ (name : Bor (List ℕ)). some_contains needle (field_texts bs name.now)) names) same) h

-- the fields that are kept are those of the header
pub kept_fields : (fields : Option (List FieldText)) (kept all : List FieldText) → IfSome fields (λ fs. fs ≡ all) → fields ≡ Some kept → kept ≡ all
kept_fields None kept all h is = absurd (cc)
kept_fields (Some fs) kept all h is = let same : fs ≡ kept = cc in sym same ∙ h

-- there is a field of the name among those that were listed
pub listed_field_named : (bytes self name : List ℕ) (kept shown : List FieldText) (r : Bool) → bytes ≡ self → kept ≡ map (read_at bytes) (fields_of bytes) → shown ≡ kept → r ≡ list_any (λ f. is_field_named name f) shown
    → r ≡ not (length (field_texts self name) == 0)
listed_field_named bytes self name kept shown r same all is h =
    h ∙ (sym (some_field_named bytes name shown (is ∙ all)) ∙ ap (λ (bs : List ℕ). not (length (field_texts bs name) == 0)) same)

-- what is found in the texts of the parts that were decoded
pub body_found : (bytes self needle : List ℕ) (texts shown : List (List ℕ)) (found : Bool) → bytes ≡ self → texts ≡ part_texts bytes (walked (parts_of bytes)) → shown ≡ texts → found ≡ some_contains needle shown
    → found ≡ some_contains needle (part_texts self (walked (parts_of self)))
body_found bytes self needle texts shown found same all is h =
    h ∙ ap (some_contains needle) (is ∙ all) ∙ ap (λ (bs : List ℕ). some_contains needle (part_texts bs (walked (parts_of bs)))) same

kept_texts : (bodies : Option (List (List ℕ))) (texts all : List (List ℕ)) → IfSome bodies (λ ts. ts ≡ all) → bodies ≡ Some texts → texts ≡ all
kept_texts None texts all h is = absurd (cc)
kept_texts (Some ts) texts all h is = let same : ts ≡ texts = cc in sym same ∙ h

-- what is found in the texts of the parts that are kept
pub kept_found : (bytes self needle : List ℕ) (bodies : Option (List (List ℕ))) (texts shown : List (List ℕ)) (found : Bool) → bytes ≡ self → IfSome bodies (λ ts. ts ≡ part_texts bytes (walked (parts_of bytes))) → bodies ≡ Some texts → shown ≡ texts
    → found ≡ some_contains needle shown → found ≡ some_contains needle (part_texts self (walked (parts_of self)))
kept_found bytes self needle bodies texts shown found same all is shows h =
    body_found bytes self needle texts shown found same (kept_texts bodies texts (part_texts bytes (walked (parts_of bytes))) all is) shows h

-- what is found in the bodies where nothing is in the header
pub text_found : (now self needle : List ℕ) (header : Bool) (r : Result Bool NoMemory) → now ≡ self → header ≡ some_contains needle (main_texts (message_texts self)) → header ≡ false
    → IfOk r (λ b. b ≡ some_contains needle (part_texts now (walked (parts_of now)))) → IfOk r (λ b. b ≡ has_text (message_texts self) Text needle)
text_found now self needle header r same found nothing h =
    if_ok_by r _ _
    (ap (λ (bs : List ℕ). some_contains needle (part_texts bs (walked (parts_of bs)))) same
    ∙ ap (λ b. b || some_contains needle (part_texts self (walked (parts_of self)))) (sym nothing ∙ found)
    ∙ sym (list_any-append (λ (text : List ℕ). contains needle text) (main_texts (message_texts self)) (part_texts self (walked (parts_of self))))) h

pub found_in_header : (self needle : List ℕ) (header : Bool) → header ≡ some_contains needle (main_texts (message_texts self)) → header ≡ true → true ≡ has_text (message_texts self) Text needle
found_in_header self needle header found something =
    ap (λ b. b || some_contains needle (part_texts self (walked (parts_of self)))) (sym something ∙ found)
    ∙ sym (list_any-append (λ (text : List ℕ). contains needle text) (main_texts (message_texts self)) (part_texts self (walked (parts_of self))))

-- the message that is opened has the texts of its bytes
pub opened_texts : (r : Result (List ℕ) NoMemory) (bytes blob : List ℕ) → bytes ≡ blob → IfOk r (λ m. m ≡ bytes) → IfOk r (λ m. message_texts m ≡ message_texts blob)
opened_texts (Ok m) bytes blob same h = ap message_texts (h ∙ same)
opened_texts (Err e) bytes blob same h = h

-- one name more
pub next_name : (needle : List ℕ) (fs : List FieldText) (names : List (Bor (List ℕ))) (i : ℕ) (d : Bor (List ℕ)) (found : Bool) → i < length names → found ≡ list_any (λ f. field_has (get_or names i d).now needle f) fs → found ≡ false
    → list_any (λ (name : Bor (List ℕ)). list_any (λ f. field_has name.now needle f) fs) (drop i names) ≡ list_any (λ (name : Bor (List ℕ)). list_any (λ f. field_has name.now needle f) fs) names
    → list_any (λ (name : Bor (List ℕ)). list_any (λ f. field_has name.now needle f) fs) (drop (i + 1) names) ≡ list_any (λ (name : Bor (List ℕ)). list_any (λ f. field_has name.now needle f) fs) names
next_name needle fs names i d found within is nothing so_far =
    ap (λ b. b || list_any (λ (name : Bor (List ℕ)). list_any (λ f. field_has name.now needle f) fs) (drop (i + 1) names)) (sym nothing ∙ is)
    ∙ sym (at_drop_more (λ ns. list_any (λ (name : Bor (List ℕ)). list_any (λ f. field_has name.now needle f) fs) ns) names i d within)
    ∙ so_far

-- what is found in the fields of the names that the condition `text` looks at
pub main_by_names : (self needle : List ℕ) (r : Result Bool NoMemory) (a b c d e : List ℕ) → a ≡ codes "From" → b ≡ codes "To" → c ≡ codes "Cc" → d ≡ codes "Bcc" → e ≡ codes "Subject"
    → IfOk r (λ x. x ≡ (some_contains needle (field_texts self a) || (some_contains needle (field_texts self b) || (some_contains needle (field_texts self c) || (some_contains needle (field_texts self d) || (some_contains needle (field_texts self e) || false))))))
    → IfOk r (λ x. x ≡ some_contains needle (main_texts (message_texts self)))
main_by_names self needle r a b c d e ea eb ec ed ee h =
    let found = λ (name : List ℕ). some_contains needle (field_texts self name) in
    if_ok_by r _ _
    (ap₂ (λ x y. x || y) (ap found ea)
    (ap₂ (λ x y. x || y) (ap found eb) (ap₂ (λ x y. x || y) (ap found ec) (ap₂ (λ x y. x || y) (ap found ed) (ap (λ x. x || false) (ap found ee)))))
    ∙ sym (in_main needle (field_texts self (codes "From")) (field_texts self (codes "To")) (field_texts self (codes "Cc")) (field_texts self (codes "Bcc")) (field_texts self (codes "Subject")))) h
