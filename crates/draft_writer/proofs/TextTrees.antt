-- The strings of a draft are UTF-8, since those of its create are.
use Rattle.std.proofs.Common.{ℕ, zero, suc, true, false, cond, eqb, List, [], ◌∷◌, ◌++◌, length, map, Option, None, Some, Less, Equal, Greater, codes}
use Rattle.std.specs.Prelude.{bytes_eq, option_and_then, option_map, unwrap_or}
use Rattle.std.specs.List.{AllByRecursion}
use Rattle.std.specs.Ordering.{nat_cmp, match_ordering}
use Rattle.std.specs.Cmp.Lexicographic.{slice_cmp}
use Rattle.std.specs.Str.{IsUtf8}
use Rattle.std.proofs.lemmas.Str.{IsUtf8-nil}
use Rattle.mime_type.specs.HeadText.{IfThere}
use Rattle.jm_json.specs.Tree.{Tree, null, boolean, number, text, list, object, Trees, no_trees, tree, Fields, no_fields, field}
use Rattle.jm_json.specs.Find.{as_text, find, list_of, pairs_of}
use Rattle.jm_json.specs.Order.{put}
use Rattle.draft_form.specs.Bodies.{first_of, first_part, mixed_before, structure_with, text_before, values_in, whole_part, with_attached}
use Rattle.draft_form.specs.Drafts.{later_fields}
use Rattle.draft_form.specs.Headers.{address_of, field_at, fields_if, first_fields, given_value, value_of}
use Rattle.draft_form.specs.Members.{is_given, is_null, items_in, list_items, members_in, string_of, text_at}
use Rattle.draft_form.specs.Names.{field_named, put_field, put_fields, text_field, text_fields}
use Rattle.draft_form.specs.Parts.{head_of, is_multipart, named_value, value_text}
use Rattle.draft_form.specs.Structures.{DraftParts, body_of, each_before, leaf, multipart_with, none, part_before, sub_parts}
use Rattle.draft_form.specs.declared.draft.FieldValue.{FieldValue}
use Rattle.draft_form.specs.declared.draft.ValueForm.{ValueForm}
use Rattle.draft_form.specs.declared.draft.ValueForm.TheVariants.{Addresses, Plain, Identifiers}
use Rattle.draft_form.specs.Structures.{blob, value}
use Rattle.header_forms.specs.declared.address.Address.{Address}
use Rattle.draft_writer.specs.ReadBack.{AreTextFields, AreTextMembers, AreTextParts, AreTextTrees, HoldTexts, IsTextBody, IsTextDraft, IsTextTree, IsTextValue}
use Rattle.draft_writer.proofs.FieldsFit.{IsTextField, all_both}

-- ---- trees

list_texts : (ts : Trees) → AreTextTrees ts → AllByRecursion IsTextTree (list_of ts)
list_texts no_trees h = tt
list_texts (tree t ts) h = (h.0, list_texts ts h.1)

pairs_texts : (fs : Fields) → AreTextMembers fs → HoldTexts (pairs_of fs)
pairs_texts no_fields h = tt
pairs_texts (field k t fs) h = (h.0, pairs_texts fs h.1)

items_texts : (t : Tree) → IsTextTree t → AllByRecursion IsTextTree (list_items t)
items_texts null h = tt
items_texts (boolean b) h = tt
items_texts (number z) h = tt
items_texts (text s) h = tt
items_texts (list ts) h = list_texts ts h
items_texts (object fs) h = tt

members_texts : (t : Tree) → IsTextTree t → HoldTexts (members_in t)
members_texts null h = tt
members_texts (boolean b) h = tt
members_texts (number z) h = tt
members_texts (text s) h = tt
members_texts (list ts) h = tt
members_texts (object fs) h = pairs_texts fs h

string_text : (t : Tree) → IsTextTree t → IsUtf8 (string_of t)
string_text null h = IsUtf8-nil
string_text (boolean b) h = IsUtf8-nil
string_text (number z) h = IsUtf8-nil
string_text (text s) h = h
string_text (list ts) h = IsUtf8-nil
string_text (object fs) h = IsUtf8-nil

found_text : (name : List ℕ) (ms : List (List ℕ × Tree)) → HoldTexts ms → IfThere IsTextTree (find name ms)
found_text name [] h = tt
found_text name (m ∷ ms) h = elim (bytes_eq m.0 name) as (λ v. IfThere IsTextTree (cond v (Some m.1) (find name ms))) [
  | true ↦ h.0
  | false ↦ found_text name ms h.1
]

found_items : (o : Option Tree) → IfThere IsTextTree o → AllByRecursion IsTextTree (items_in o)
found_items None h = tt
found_items (Some t) h = items_texts t h

as_utf8 : (o : Option Tree) → IfThere IsTextTree o → IfThere IsUtf8 (option_and_then as_text o)
as_utf8 None h = tt
as_utf8 (Some null) h = tt
as_utf8 (Some (boolean b)) h = tt
as_utf8 (Some (number z)) h = tt
as_utf8 (Some (text s)) h = h
as_utf8 (Some (list ts)) h = tt
as_utf8 (Some (object fs)) h = tt

utf8_at : (name : List ℕ) (ms : List (List ℕ × Tree)) → HoldTexts ms → IfThere IsUtf8 (text_at name ms)
utf8_at name ms h = as_utf8 (find name ms) (found_text name ms h)

or_utf8 : (o : Option (List ℕ)) → IfThere IsUtf8 o → IsUtf8 (unwrap_or o [])
or_utf8 None h = IsUtf8-nil
or_utf8 (Some s) h = h

-- ---- fields

names_text : (ts : List Tree) → AllByRecursion IsTextTree ts → AllByRecursion (λ (a : Address). IfThere IsUtf8 a.name) (map address_of ts)
names_text [] h = tt
names_text (t ∷ ts) h = (utf8_at (codes "name") (members_in t) (members_texts t h.0), names_text ts h.1)

form_text : (form : ValueForm) (t : Tree) → IsTextTree t → IsTextValue (value_of form t)
form_text Addresses t h = names_text (list_items t) (items_texts t h)
form_text Plain t h = string_text t h
form_text Identifiers t h = tt

given_text : (form : ValueForm) (o : Option Tree) → IfThere IsTextTree o → IfThere IsTextValue (given_value form o)
given_text form None h = tt
given_text form (Some t) h = elim (is_null t) as (λ v. IfThere IsTextValue (cond v None (Some (value_of form t)))) [
  | true ↦ tt
  | false ↦ form_text form t h
]

one_field : (name : List ℕ) (o : Option FieldValue) → IfThere IsTextValue o → AreTextFields (fields_if name o)
one_field name None h = tt
one_field name (Some v) h = (h, tt)

at_text : (ms : List (List ℕ × Tree)) (name : List ℕ) (form : ValueForm) (property : List ℕ) → HoldTexts ms → AreTextFields (field_at name form property ms)
at_text ms name form property h = one_field name (given_value form (find property ms)) (given_text form (find property ms) (found_text property ms h))

first_text : (ms : List (List ℕ × Tree)) → HoldTexts ms → AreTextFields (first_fields ms)
first_text ms h =
    let f1 = field_at (codes "From") Addresses (codes "from") ms in
    let f2 = field_at (codes "Sender") Addresses (codes "sender") ms in
    let f3 = field_at (codes "Reply-To") Addresses (codes "replyTo") ms in
    let f4 = field_at (codes "To") Addresses (codes "to") ms in
    let f5 = field_at (codes "Cc") Addresses (codes "cc") ms in
    let f6 = field_at (codes "Bcc") Addresses (codes "bcc") ms in
    let f7 = field_at (codes "Subject") Plain (codes "subject") ms in
    all_both IsTextField f1 (f2 ++ (f3 ++ (f4 ++ (f5 ++ (f6 ++ f7))))) (at_text ms (codes "From") Addresses (codes "from") h)
    (all_both IsTextField f2 (f3 ++ (f4 ++ (f5 ++ (f6 ++ f7)))) (at_text ms (codes "Sender") Addresses (codes "sender") h)
    (all_both IsTextField f3 (f4 ++ (f5 ++ (f6 ++ f7))) (at_text ms (codes "Reply-To") Addresses (codes "replyTo") h)
    (all_both IsTextField f4 (f5 ++ (f6 ++ f7)) (at_text ms (codes "To") Addresses (codes "to") h)
    (all_both IsTextField f5 (f6 ++ f7) (at_text ms (codes "Cc") Addresses (codes "cc") h)
    (all_both IsTextField f6 f7 (at_text ms (codes "Bcc") Addresses (codes "bcc") h) (at_text ms (codes "Subject") Plain (codes "subject") h))))))

put_text : (k : List ℕ) (t : Tree) (ms : List (List ℕ × Tree)) → IsTextTree t → HoldTexts ms → HoldTexts (put k t ms)
put_text k t [] g h = (g, tt)
put_text k t (m ∷ ms) g h = elim (slice_cmp nat_cmp k m.0) as (λ o. HoldTexts (match_ordering o ((k, t) ∷ m ∷ ms) ((k, t) ∷ ms) (m ∷ put k t ms))) [
  | Less ↦ (g, h)
  | Equal ↦ (g, h.1)
  | Greater ↦ (h.0, put_text k t ms g h.1)
]

put_step : (o : Option (List ℕ)) (t : Tree) (fields : List (List ℕ × Tree)) → IsTextTree t → HoldTexts fields → HoldTexts (put_field o t fields)
put_step None t fields g h = h
put_step (Some name) t fields g h = put_text name (text (string_of t)) fields (string_text t g) h

puts_text : (rest fields : List (List ℕ × Tree)) → HoldTexts rest → HoldTexts fields → HoldTexts (put_fields rest fields)
puts_text [] fields g h = h
puts_text (m ∷ rest) fields g h = puts_text rest (put_field (field_named m.0) m.1 fields) g.1 (put_step (field_named m.0) m.1 fields g.0 h)

strings_text : (ms : List (List ℕ × Tree)) → HoldTexts ms → AreTextFields (map text_field ms)
strings_text [] h = tt
strings_text (m ∷ ms) h = (string_text m.1 h.0, strings_text ms h.1)

later_text : (ms : List (List ℕ × Tree)) → HoldTexts ms → AreTextFields (later_fields ms)
later_text ms h =
    let f1 = field_at (codes "In-Reply-To") Identifiers (codes "inReplyTo") ms in
    let f2 = field_at (codes "References") Identifiers (codes "references") ms in
    all_both IsTextField (f1 ++ f2) (text_fields ms)
    (all_both IsTextField f1 f2 (at_text ms (codes "In-Reply-To") Identifiers (codes "inReplyTo") h) (at_text ms (codes "References") Identifiers (codes "references") h))
    (strings_text (put_fields ms []) (puts_text ms [] h tt))

-- ---- parts

value_utf8 : (o : Option Tree) → IfThere IsTextTree o → IsUtf8 (value_text o)
value_utf8 None h = IsUtf8-nil
value_utf8 (Some t) h = or_utf8 (text_at (codes "value") (members_in t)) (utf8_at (codes "value") (members_in t) (members_texts t h))

named_utf8 : (values : List (List ℕ × Tree)) (o : Option (List ℕ)) → HoldTexts values → IsUtf8 (named_value values o)
named_utf8 values None h = IsUtf8-nil
named_utf8 values (Some id) h = value_utf8 (find id values) (found_text id values h)

body_text : (values ms : List (List ℕ × Tree)) → HoldTexts values → IsTextBody (body_of values ms)
body_text values ms h = elim (is_given (find (codes "partId") ms)) as (λ v. IsTextBody (cond v (value (named_value values (text_at (codes "partId") ms))) (blob (unwrap_or (text_at (codes "blobId") ms) [])))) [
  | true ↦ named_utf8 values (text_at (codes "partId") ms) h
  | false ↦ tt
]

abbrev Texts : ℕ → List (List ℕ × Tree) → Type 0
Texts levels values = (t : Tree) (later : DraftParts) → IsTextTree t → AreTextParts later → AreTextParts (part_before levels values t later)

each_text : (levels : ℕ) (values : List (List ℕ × Tree)) → Texts levels values → (ts : List Tree) (later : DraftParts) → AllByRecursion IsTextTree ts → AreTextParts later
    → AreTextParts (each_before (part_before levels values) ts later)
each_text levels values one [] later h l = l
each_text levels values one (t ∷ ts) later h l = one t (each_before (part_before levels values) ts later) h.0 (each_text levels values one ts later h.1 l)

part_text : (levels : ℕ) (values : List (List ℕ × Tree)) → HoldTexts values → Texts levels values
part_text zero values u t later h l = l
part_text (suc levels) values u t later h l =
    let ms = members_in t in
    let m = members_texts t h in
    let name = utf8_at (codes "name") ms m in
    elim (is_multipart ms) as (λ v. AreTextParts (cond v (multipart_with (part_before levels values) ms later) (leaf (head_of ms) (body_of values ms) later))) [
      | true ↦ (name, each_text levels values (part_text levels values u) (sub_parts t) none (found_items (find (codes "subParts") ms) (found_text (codes "subParts") ms m)) tt, l)
      | false ↦ (name, body_text values ms u, l)
    ]

lists_text : (values : List (List ℕ × Tree)) (t h : Option Tree) (later : DraftParts) → HoldTexts values → IfThere IsTextTree t → IfThere IsTextTree h → AreTextParts later
    → AreTextParts (text_before values t h later)
lists_text values None None later u a b l = (tt, IsUtf8-nil, l)
lists_text values (Some t) None later u a b l = part_text 1 values u t later a l
lists_text values None (Some h) later u a b l = part_text 1 values u h later b l
lists_text values (Some t) (Some h) later u a b l = (tt, part_text 1 values u t (part_before 1 values h none) a (part_text 1 values u h none b tt), l)

attached_text : (values : List (List ℕ × Tree)) (t h : Option Tree) (attached : List Tree) → HoldTexts values → IfThere IsTextTree t → IfThere IsTextTree h
    → AllByRecursion IsTextTree attached → AreTextParts (with_attached values t h attached)
attached_text values t h attached u a b c = elim (eqb (length attached) 0) as (λ v. AreTextParts (cond v (text_before values t h none) (mixed_before values t h attached))) [
  | true ↦ lists_text values t h none u a b tt
  | false ↦ (tt, lists_text values t h (each_before (part_before 1 values) attached none) u a b (each_text 1 values (part_text 1 values u) attached none c tt), tt)
]

whole_text : (values : List (List ℕ × Tree)) (t : Tree) → HoldTexts values → IsTextTree t → AreTextParts (whole_part values t)
unfolding whole_part
whole_text values t u h = part_text 32 values u t none h tt

first_item : (ts : List Tree) → AllByRecursion IsTextTree ts → IfThere IsTextTree (first_of ts)
first_item [] h = tt
first_item (t ∷ ts) h = h.0

first_sent : (property : List ℕ) (ms : List (List ℕ × Tree)) → HoldTexts ms → IfThere IsTextTree (first_part property ms)
first_sent property ms h = first_item (items_in (find property ms)) (found_items (find property ms) (found_text property ms h))

values_text : (o : Option Tree) → IfThere IsTextTree o → HoldTexts (unwrap_or (option_map members_in o) [])
values_text None h = tt
values_text (Some t) h = members_texts t h

parts_text : (ms : List (List ℕ × Tree)) (o : Option Tree) → HoldTexts ms → IfThere IsTextTree o → AreTextParts (structure_with ms o)
parts_text ms (Some t) h g = whole_text (values_in ms) t (values_text (find (codes "bodyValues") ms) (found_text (codes "bodyValues") ms h)) g
parts_text ms None h g =
    attached_text (values_in ms) (first_part (codes "textBody") ms) (first_part (codes "htmlBody") ms) (items_in (find (codes "attachments") ms))
    (values_text (find (codes "bodyValues") ms) (found_text (codes "bodyValues") ms h)) (first_sent (codes "textBody") ms h) (first_sent (codes "htmlBody") ms h)
    (found_items (find (codes "attachments") ms) (found_text (codes "attachments") ms h))

pub draft_text : (ms : List (List ℕ × Tree)) → HoldTexts ms → IsTextDraft ms
draft_text ms h = record {
  first = first_text ms h;
  later = later_text ms h;
  parts = parts_text ms (find (codes "bodyStructure") ms) h (found_text (codes "bodyStructure") ms h);
}
