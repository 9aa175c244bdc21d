-- The fields of a draft can be written.
use Rattle.std.proofs.Common.{◌≡◌, ℕ, ◌<◌, ◌≤◌, Bool, true, false, cond, eqb, leb, ◌&&◌, ◌||◌, not, List, [], ◌∷◌, ◌++◌, length, map, Option, None, Some, codes, refl, sym, ap, ◌∙◌, arith}
use Rattle.std.specs.Prelude.{bytes_eq, option_and_then, unwrap_or}
use Rattle.std.specs.List.{AllByRecursion, list_all, list_any, starts_with}
use Rattle.std.specs.Prelude.{nat_eq}
use Rattle.std.specs.Ordering.{nat_cmp, match_ordering}
use Rattle.std.proofs.Common.{Less, Equal, Greater}
use Rattle.std.specs.Cmp.Lexicographic.{slice_cmp}
use Rattle.std.specs.Str.{IsUtf8}
use Rattle.std.proofs.lemmas.Bool.{true≢false, lt-leb, ltb-true, ltb-false, ne_eqb}
use Rattle.std.proofs.lemmas.Option.{none-some}
use Rattle.std.proofs.lemmas.Slice.Eq.{bytes_eq-Decides}
use lib.Dec.{ltb}
use Rattle.jm_json.specs.Tree.{Tree, null, boolean, number, text, list, object}
use Rattle.jm_json.specs.Find.{as_text, find}
use Rattle.jm_json.specs.Order.{put}
use Rattle.mime_lines.specs.FieldOffsets.{lowered}
use Rattle.mime_lines.specs.Fields.{is_name_byte}
use Rattle.mime_lines.specs.Written.{is_folded}
use Rattle.mime_lines.proofs.Unfolds.{both_true, not_true}
use Rattle.mime_type.specs.HeadText.{IfThere, IsOtherField}
use Rattle.header_forms.specs.WrittenForms.{IsFieldText, IsId, IsMailbox, IsName, has_no_outer_white, is_address_character, is_id_character}
use Rattle.header_forms.specs.declared.address.Address.{Address}
use Rattle.header_forms.proofs.WrittenFolds.{addresses_folded, ids_folded, text_folded}
use Rattle.header_forms.proofs.WrittenTexts.{all_weaker, by_table}
use Rattle.draft_form.specs.Drafts.{address_properties, bad_among, bad_names, filing_names, id_properties, is_good, is_good_body, later_fields, may_be}
use Rattle.draft_form.specs.Bodies.{are_attachments, are_values, is_body, is_structure}
use Rattle.draft_form.specs.Headers.{is_date, address_from, address_names, address_of, field_at, fields_if, first_fields, given_value, has_address, is_value, reply_fields, value_of}
use Rattle.draft_form.specs.Members.{has_names, is_list, is_name_of, is_null, is_object, is_text, list_items, members_in, optional, required, string_of, text_at}
use Rattle.draft_form.specs.Names.{begins_with, field_named, is_free_name, is_good_header, is_name_character, is_one_of, is_own_name, put_field, put_fields, taken_fields, text_field, text_fields, twin_count}
use Rattle.draft_form.specs.Texts.{are_shown, are_some, is_field_text, keeps}
use Rattle.draft_form.specs.declared.draft.DraftField.{DraftField}
use Rattle.draft_form.specs.declared.draft.FieldValue.{FieldValue}
use Rattle.draft_form.specs.declared.draft.FieldValue.TheVariants.{OfAddresses, OfText, OfIdentifiers}
use Rattle.draft_form.specs.declared.draft.ValueForm.{ValueForm}
use Rattle.draft_form.specs.declared.draft.ValueForm.TheVariants.{Addresses, Plain, Identifiers}
use Rattle.draft_form.specs.declared.texts.TextRule.TheVariants.{Address as AddressRule, DisplayName, FieldText as TextOfField, Identifier}
use Rattle.draft_writer.specs.Fields.{field_of, value_text}
use Rattle.draft_writer.specs.ReadBack.{AreTextFields, IsTextValue}
use Rattle.draft_writer.proofs.HeadsBack.{text_shown}
use Rattle.draft_writer.proofs.HeadsFit.{each_text, front_is, some_of, some_texts, text_in}
use Rattle.draft_writer.proofs.PartsFit.{in_list, in_object, sent_good, some_none}

-- ---- values

-- a value that can be written
abbrev pub IsGoodValue : FieldValue → Type 0
IsGoodValue (OfAddresses addresses) = AllByRecursion IsMailbox addresses
IsGoodValue (OfText t) = IsFieldText t
IsGoodValue (OfIdentifiers ids) = (0 < length ids) × AllByRecursion IsId ids

value_folded : (v : FieldValue) → IsGoodValue v → is_folded (value_text v) ≡ true
value_folded (OfAddresses addresses) h = addresses_folded addresses h
value_folded (OfText t) h = text_folded t h
value_folded (OfIdentifiers ids) h = ids_folded ids h.1

pub field_text_of : (t : List ℕ) → IsUtf8 t → is_field_text t ≡ true → IsFieldText t
field_text_of t u h =
    let parts = both_true (are_shown t) (has_no_outer_white t) h in
    record { utf8 = u; shown = text_shown t u parts.0; dark = parts.1 }

id_of : (s : List ℕ) → keeps Identifier s ≡ true → IsId s
id_of s h =
    let parts = some_of is_id_character s (both_true (leb (length s) 900) (are_some is_id_character s) h).1 in
    record { some = parts.0; each = parts.1 }

-- an e-mail address that is sent
record IsGoodEmail (s : List ℕ) : Type 0 where
  some : 0 < length s
  each : list_all is_address_character s ≡ true

email_of : (o : Option Tree) → required (is_text AddressRule) o ≡ true → IsGoodEmail (unwrap_or (option_and_then as_text o) [])
email_of None h = absurd (true≢false (sym h))
email_of (Some null) h = absurd (true≢false (sym h))
email_of (Some (boolean b)) h = absurd (true≢false (sym h))
email_of (Some (number z)) h = absurd (true≢false (sym h))
email_of (Some (text s)) h = let parts = some_of is_address_character s h in record { some = parts.0; each = parts.1 }
email_of (Some (list ts)) h = absurd (true≢false (sym h))
email_of (Some (object fs)) h = absurd (true≢false (sym h))

name_of : (o : Option (List ℕ)) → IfThere IsUtf8 o → IfThere (λ s. keeps DisplayName s ≡ true) o → IsName o
name_of None u h = tt
name_of (Some s) u h =
    let parts = both_true (ltb 0 (length s)) (is_field_text s) h in
    (field_text_of s u parts.1, ltb-true 0 (length s) parts.0)

mailbox_of : (ms : List (List ℕ × Tree)) → has_address ms ≡ true → IfThere IsUtf8 (text_at (codes "name") ms) → IsMailbox (address_from ms)
mailbox_of ms h u =
    let email = required (is_text AddressRule) (find (codes "email") ms) in
    let name = optional (is_text DisplayName) (find (codes "name") ms) in
    let parts = both_true email name (both_true (has_names address_names ms) (email && name) h).1 in
    let good = email_of (find (codes "email") ms) parts.0 in
    record {
      some = good.some;
      each = good.each;
      name = name_of (text_at (codes "name") ms) u (text_in DisplayName (λ s. keeps DisplayName s ≡ true) (λ s k. k) (find (codes "name") ms) parts.1);
    }

mailboxes_of : (ts : List Tree) → list_all (is_object has_address) ts ≡ true → AllByRecursion (λ (a : Address). IfThere IsUtf8 a.name) (map address_of ts)
    → AllByRecursion IsMailbox (map address_of ts)
mailboxes_of [] h u = tt
mailboxes_of (t ∷ ts) h u =
    let parts = both_true (is_object has_address t) (list_all (is_object has_address) ts) h in
    (mailbox_of (members_in t) (in_object has_address t parts.0) u.0, mailboxes_of ts parts.1 u.1)

pub good_text : (t : Tree) → is_text TextOfField t ≡ true → is_field_text (string_of t) ≡ true
good_text null h = absurd (true≢false (sym h))
good_text (boolean b) h = absurd (true≢false (sym h))
good_text (number z) h = absurd (true≢false (sym h))
good_text (text s) h = h
good_text (list ts) h = absurd (true≢false (sym h))
good_text (object fs) h = absurd (true≢false (sym h))

pub value_good : (form : ValueForm) (t : Tree) → is_value form t ≡ true → IsTextValue (value_of form t) → IsGoodValue (value_of form t)
value_good Addresses t h u = mailboxes_of (list_items t) (in_list (is_object has_address) t h) u
value_good Plain t h u = field_text_of (string_of t) u (good_text t h)
value_good Identifiers t h u =
    let parts = both_true (ltb 0 (length (list_items t))) (is_list (is_text Identifier) t) h in
    (some_texts (list_items t) (ltb-true 0 (length (list_items t)) parts.0), each_text Identifier IsId id_of (list_items t) (in_list (is_text Identifier) t parts.1))

-- the value of a property, if it is sent
abbrev pub IfGood : Option FieldValue → Type 0
IfGood o = IfThere IsGoodValue o

given_good : (form : ValueForm) (o : Option Tree) → IfThere (λ t. may_be form t ≡ true) o → IfThere IsTextValue (given_value form o) → IfGood (given_value form o)
given_good form None h u = tt
given_good form (Some t) h u = elim (is_null t) as (λ v. (v || is_value form t) ≡ true → IfThere IsTextValue (cond v None (Some (value_of form t))) → IfGood (cond v None (Some (value_of form t)))) [
  | true ↦ λ _ _. tt
  | false ↦ λ k w. value_good form t k w
] h u

-- ---- names

pub record IsOtherName (name : List ℕ) : Type 0 where
  pub some : 0 < length name
  pub each : list_all is_name_byte name ≡ true
  pub other : starts_with nat_eq (lowered name) (codes "content-") ≡ false

-- a field that can be written
pub record IsGoodField (f : DraftField) : Type 0 where
  pub name : IsOtherName f.name
  pub value : IsGoodValue f.value

abbrev yes : ℕ → Bool
yes c = true

above_none : (a b : Bool) → a ≡ false → (b && a) ≡ false
above_none a true h = h
above_none a false h = refl

high_name : (b : ℕ) → 127 ≤ b → is_name_character b ≡ false
high_name b h =
    ap (λ v. ((v || (leb 65 b && leb b 90)) || (leb 97 b && leb b 122)) || eqb b 45) (above_none (leb b 57) (leb 48 b) (lt-leb b 57 (omega (arith, h))))
    ∙ ap (λ v. (v || (leb 97 b && leb b 122)) || eqb b 45) (above_none (leb b 90) (leb 65 b) (lt-leb b 90 (omega (arith, h))))
    ∙ ap (λ v. v || eqb b 45) (above_none (leb b 122) (leb 97 b) (lt-leb b 122 (omega (arith, h))))
    ∙ ne_eqb b 45 (λ e. omega (arith, h, e))

name_byte : (b : ℕ) → is_name_character b ≡ true → is_name_byte b ≡ true
name_byte b h = elim (ltb b 127) as (λ v. ltb b 127 ≡ v → is_name_byte b ≡ true) [
  | true ↦ λ e. by_table is_name_character is_name_byte refl b (ltb-true b 127 e) h
  | false ↦ λ e. absurd (true≢false (sym h ∙ high_name b (ltb-false b 127 e)))
] refl

pub free_name : (name : List ℕ) → is_free_name name ≡ true → IsOtherName name
free_name name h =
    let content = begins_with (codes "Content-") name in
    let a = both_true (ltb 0 (length name)) (leb (length name) 64 && (list_all is_name_character name && (not (is_one_of taken_fields name) && not content))) h in
    let b = both_true (leb (length name) 64) (list_all is_name_character name && (not (is_one_of taken_fields name) && not content)) a.1 in
    let c = both_true (list_all is_name_character name) (not (is_one_of taken_fields name) && not content) b.1 in
    let d = both_true (not (is_one_of taken_fields name)) (not content) c.1 in
    record {
      some = ltb-true 0 (length name) a.0;
      each = all_weaker is_name_character is_name_byte name_byte name c.0;
      other = front_is (codes "content-") name ∙ not_true content d.1;
    }

-- ---- lists of fields

pub all_both : {A : Type 0} (P : A → Type 0) (xs ys : List A) → AllByRecursion P xs → AllByRecursion P ys → AllByRecursion P (xs ++ ys)
all_both P [] ys h k = k
all_both P (x ∷ xs) ys h k = (h.0, all_both P xs ys h.1 k)

pub all_front : {A : Type 0} (P : A → Type 0) (xs ys : List A) → AllByRecursion P (xs ++ ys) → AllByRecursion P xs
all_front P [] ys h = tt
all_front P (x ∷ xs) ys h = (h.0, all_front P xs ys h.1)

pub all_back : {A : Type 0} (P : A → Type 0) (xs ys : List A) → AllByRecursion P (xs ++ ys) → AllByRecursion P ys
all_back P [] ys h = h
all_back P (x ∷ xs) ys h = all_back P xs ys h.1

abbrev pub IsTextField : DraftField → Type 0
IsTextField f = IsTextValue f.value

sent_text : (name : List ℕ) (o : Option FieldValue) → AllByRecursion IsTextField (fields_if name o) → IfThere IsTextValue o
sent_text name None h = tt
sent_text name (Some v) h = h.0

sent_field : (name : List ℕ) (o : Option FieldValue) → IsOtherName name → IfGood o → AllByRecursion IsGoodField (fields_if name o)
sent_field name None n h = tt
sent_field name (Some v) n h = (record { name = n; value = h }, tt)

field_good : (ms : List (List ℕ × Tree)) (name : List ℕ) (form : ValueForm) (property : List ℕ) → IsOtherName name → IfThere (λ t. may_be form t ≡ true) (find property ms)
    → AllByRecursion IsTextField (field_at name form property ms) → AllByRecursion IsGoodField (field_at name form property ms)
field_good ms name form property n h u =
    sent_field name (given_value form (find property ms)) n (given_good form (find property ms) h (sent_text name (given_value form (find property ms)) u))

-- the names of properties
name_from : IsOtherName (codes "From")
name_from = record { some = omega arith; each = refl; other = refl }

name_sender : IsOtherName (codes "Sender")
name_sender = record { some = omega arith; each = refl; other = refl }

name_reply : IsOtherName (codes "Reply-To")
name_reply = record { some = omega arith; each = refl; other = refl }

name_to : IsOtherName (codes "To")
name_to = record { some = omega arith; each = refl; other = refl }

name_cc : IsOtherName (codes "Cc")
name_cc = record { some = omega arith; each = refl; other = refl }

name_bcc : IsOtherName (codes "Bcc")
name_bcc = record { some = omega arith; each = refl; other = refl }

name_subject : IsOtherName (codes "Subject")
name_subject = record { some = omega arith; each = refl; other = refl }

name_in_reply : IsOtherName (codes "In-Reply-To")
name_in_reply = record { some = omega arith; each = refl; other = refl }

name_references : IsOtherName (codes "References")
name_references = record { some = omega arith; each = refl; other = refl }

pub first_good : (ms : List (List ℕ × Tree)) → bad_names ms ≡ [] → AreTextFields (first_fields ms) → AllByRecursion IsGoodField (first_fields ms)
first_good ms h u =
    let f1 = field_at (codes "From") Addresses (codes "from") ms in
    let f2 = field_at (codes "Sender") Addresses (codes "sender") ms in
    let f3 = field_at (codes "Reply-To") Addresses (codes "replyTo") ms in
    let f4 = field_at (codes "To") Addresses (codes "to") ms in
    let f5 = field_at (codes "Cc") Addresses (codes "cc") ms in
    let f6 = field_at (codes "Bcc") Addresses (codes "bcc") ms in
    let f7 = field_at (codes "Subject") Plain (codes "subject") ms in
    let u2 = all_back IsTextField f1 (f2 ++ (f3 ++ (f4 ++ (f5 ++ (f6 ++ f7))))) u in
    let u3 = all_back IsTextField f2 (f3 ++ (f4 ++ (f5 ++ (f6 ++ f7)))) u2 in
    let u4 = all_back IsTextField f3 (f4 ++ (f5 ++ (f6 ++ f7))) u3 in
    let u5 = all_back IsTextField f4 (f5 ++ (f6 ++ f7)) u4 in
    let u6 = all_back IsTextField f5 (f6 ++ f7) u5 in
    let u7 = all_back IsTextField f6 f7 u6 in
    let addresses = λ (t : Tree). may_be Addresses t ≡ true in
    let plain = λ (t : Tree). may_be Plain t ≡ true in
    let g1 = field_good ms (codes "From") Addresses (codes "from") name_from (sent_good ms (codes "from") addresses h (λ t k. k) (find (codes "from") ms) refl) (all_front IsTextField f1 (f2 ++ (f3 ++ (f4 ++ (f5 ++ (f6 ++ f7))))) u) in
    let g2 = field_good ms (codes "Sender") Addresses (codes "sender") name_sender (sent_good ms (codes "sender") addresses h (λ t k. k) (find (codes "sender") ms) refl) (all_front IsTextField f2 (f3 ++ (f4 ++ (f5 ++ (f6 ++ f7)))) u2) in
    let g3 = field_good ms (codes "Reply-To") Addresses (codes "replyTo") name_reply (sent_good ms (codes "replyTo") addresses h (λ t k. k) (find (codes "replyTo") ms) refl) (all_front IsTextField f3 (f4 ++ (f5 ++ (f6 ++ f7))) u3) in
    let g4 = field_good ms (codes "To") Addresses (codes "to") name_to (sent_good ms (codes "to") addresses h (λ t k. k) (find (codes "to") ms) refl) (all_front IsTextField f4 (f5 ++ (f6 ++ f7)) u4) in
    let g5 = field_good ms (codes "Cc") Addresses (codes "cc") name_cc (sent_good ms (codes "cc") addresses h (λ t k. k) (find (codes "cc") ms) refl) (all_front IsTextField f5 (f6 ++ f7) u5) in
    let g6 = field_good ms (codes "Bcc") Addresses (codes "bcc") name_bcc (sent_good ms (codes "bcc") addresses h (λ t k. k) (find (codes "bcc") ms) refl) (all_front IsTextField f6 f7 u6) in
    let g7 = field_good ms (codes "Subject") Plain (codes "subject") name_subject (sent_good ms (codes "subject") plain h (λ t k. k) (find (codes "subject") ms) refl) u7 in
    all_both IsGoodField f1 (f2 ++ (f3 ++ (f4 ++ (f5 ++ (f6 ++ f7))))) g1
    (all_both IsGoodField f2 (f3 ++ (f4 ++ (f5 ++ (f6 ++ f7)))) g2
    (all_both IsGoodField f3 (f4 ++ (f5 ++ (f6 ++ f7))) g3
    (all_both IsGoodField f4 (f5 ++ (f6 ++ f7)) g4
    (all_both IsGoodField f5 (f6 ++ f7) g5
    (all_both IsGoodField f6 f7 g6 g7)))))

reply_good : (ms : List (List ℕ × Tree)) → bad_names ms ≡ [] → AreTextFields (reply_fields ms) → AllByRecursion IsGoodField (reply_fields ms)
reply_good ms h u =
    let f1 = field_at (codes "In-Reply-To") Identifiers (codes "inReplyTo") ms in
    let f2 = field_at (codes "References") Identifiers (codes "references") ms in
    let ids = λ (t : Tree). may_be Identifiers t ≡ true in
    all_both IsGoodField f1 f2
    (field_good ms (codes "In-Reply-To") Identifiers (codes "inReplyTo") name_in_reply (sent_good ms (codes "inReplyTo") ids h (λ t k. k) (find (codes "inReplyTo") ms) refl) (all_front IsTextField f1 f2 u))
    (field_good ms (codes "References") Identifiers (codes "references") name_references (sent_good ms (codes "references") ids h (λ t k. k) (find (codes "references") ms) refl) (all_back IsTextField f1 f2 u))

-- ---- header:NAME:asText

not_one : (key other name : List ℕ) → field_named key ≡ Some name → field_named other ≡ None → bytes_eq key other ≡ false
not_one key other name e n = elim (bytes_eq key other) as (λ v. bytes_eq key other ≡ v → v ≡ false) [
  | true ↦ λ s. absurd (none-some name (sym n ∙ ap field_named (sym ((bytes_eq-Decides key other).0 s)) ∙ e))
  | false ↦ λ _. refl
] refl

not_named : (names : List (List ℕ)) (key name : List ℕ) → field_named key ≡ Some name → AllByRecursion (λ n. field_named n ≡ None) names → is_name_of names key ≡ false
not_named [] key name e h = refl
not_named (n ∷ ns) key name e h =
    ap (λ v. v || list_any (bytes_eq key) ns) (not_one key n name e h.0) ∙ not_named ns key name e h.1

pub header_is : (ms : List (List ℕ × Tree)) (key name : List ℕ) (t : Tree) → field_named key ≡ Some name → is_good ms key t ≡ is_good_header ms key t
header_is ms key name t e =
    let b5 = is_good_body ms key t in
    let b4 = cond (bytes_eq key (codes "sentAt")) (is_null t || is_date t) b5 in
    let b3 = cond (bytes_eq key (codes "subject")) (may_be Plain t) b4 in
    let b2 = cond (is_name_of id_properties key) (may_be Identifiers t) b3 in
    let b1 = cond (is_name_of address_properties key) (may_be Addresses t) b2 in
    let c5 = is_good_header ms key t in
    let c4 = cond (bytes_eq key (codes "bodyValues")) (are_values t) c5 in
    let c3 = cond (bytes_eq key (codes "attachments")) (are_attachments ms t) c4 in
    let c2 = cond (bytes_eq key (codes "htmlBody")) (is_body ms (codes "text/html") t) c3 in
    let c1 = cond (bytes_eq key (codes "textBody")) (is_body ms (codes "text/plain") t) c2 in
    ap (λ v. cond v true b1) (not_named filing_names key name e (refl, (refl, (refl, tt))))
    ∙ ap (λ v. cond v (may_be Addresses t) b2) (not_named address_properties key name e (refl, (refl, (refl, (refl, (refl, (refl, tt)))))))
    ∙ ap (λ v. cond v (may_be Identifiers t) b3) (not_named id_properties key name e (refl, (refl, (refl, tt))))
    ∙ ap (λ v. cond v (may_be Plain t) b4) (not_one key (codes "subject") name e refl)
    ∙ ap (λ v. cond v (is_null t || is_date t) b5) (not_one key (codes "sentAt") name e refl)
    ∙ ap (λ v. cond v (is_structure ms t) c1) (not_one key (codes "bodyStructure") name e refl)
    ∙ ap (λ v. cond v (is_body ms (codes "text/plain") t) c2) (not_one key (codes "textBody") name e refl)
    ∙ ap (λ v. cond v (is_body ms (codes "text/html") t) c3) (not_one key (codes "htmlBody") name e refl)
    ∙ ap (λ v. cond v (are_attachments ms t) c4) (not_one key (codes "attachments") name e refl)
    ∙ ap (λ v. cond v (are_values t) c5) (not_one key (codes "bodyValues") name e refl)

-- a field as text that can be written
pub record IsGoodMember (m : List ℕ × Tree) : Type 0 where
  pub name : is_free_name m.0 ≡ true
  pub value : is_field_text (string_of m.1) ≡ true

put_good : (k : List ℕ) (t : Tree) (ms : List (List ℕ × Tree)) → IsGoodMember (k, t) → AllByRecursion IsGoodMember ms → AllByRecursion IsGoodMember (put k t ms)
put_good k t [] g h = (g, tt)
put_good k t (m ∷ ms) g h = elim (slice_cmp nat_cmp k m.0) as (λ o. AllByRecursion IsGoodMember (match_ordering o ((k, t) ∷ m ∷ ms) ((k, t) ∷ ms) (m ∷ put k t ms))) [
  | Less ↦ (g, h)
  | Equal ↦ (g, h.1)
  | Greater ↦ (h.0, put_good k t ms g h.1)
]

abbrev IsGoodIn : List (List ℕ × Tree) → List ℕ × Tree → Type 0
IsGoodIn ms m = is_good ms m.0 m.1 ≡ true

member_good : (ms : List (List ℕ × Tree)) (key name : List ℕ) (t : Tree) → is_good ms key t ≡ true → field_named key ≡ Some name → IsGoodMember (name, text (string_of t))
member_good ms key name t h e =
    let parts = both_true (is_text TextOfField t) (is_own_name ms (field_named key)) (sym (header_is ms key name t e) ∙ h) in
    let own = both_true (is_free_name name) (leb (twin_count name ms) 1) (ap (is_own_name ms) (sym e) ∙ parts.1) in
    record { name = own.0; value = good_text t parts.0 }

put_step : (ms : List (List ℕ × Tree)) (m : List ℕ × Tree) (fields : List (List ℕ × Tree)) (o : Option (List ℕ)) → IsGoodIn ms m → field_named m.0 ≡ o → AllByRecursion IsGoodMember fields
    → AllByRecursion IsGoodMember (put_field o m.1 fields)
put_step ms m fields None g e h = h
put_step ms m fields (Some name) g e h = put_good name (text (string_of m.1)) fields (member_good ms m.0 name m.1 g e) h

puts_good : (ms rest fields : List (List ℕ × Tree)) → AllByRecursion (IsGoodIn ms) rest → AllByRecursion IsGoodMember fields → AllByRecursion IsGoodMember (put_fields rest fields)
puts_good ms [] fields g h = h
puts_good ms (m ∷ rest) fields g h =
    puts_good ms rest (put_field (field_named m.0) m.1 fields) g.1 (put_step ms m fields (field_named m.0) g.0 refl h)

all_good : (ms rest : List (List ℕ × Tree)) → bad_among ms rest ≡ [] → AllByRecursion (IsGoodIn ms) rest
all_good ms [] h = tt
all_good ms (m ∷ rest) h =
    elim (is_good ms m.0 m.1) as (λ v. is_good ms m.0 m.1 ≡ v → cond v (bad_among ms rest) (m.0 ∷ bad_among ms rest) ≡ [] → IsGoodIn ms m × AllByRecursion (IsGoodIn ms) rest) [
      | true ↦ λ g k. (g, all_good ms rest k)
      | false ↦ λ _ k. absurd (some_none m.0 (bad_among ms rest) k)
    ] refl h

pub members_good : (ms : List (List ℕ × Tree)) → bad_names ms ≡ [] → AllByRecursion IsGoodMember (put_fields ms [])
members_good ms h = puts_good ms ms [] (all_good ms ms h) tt

pub texts_good : (ms : List (List ℕ × Tree)) → AllByRecursion IsGoodMember ms → AreTextFields (map text_field ms) → AllByRecursion IsGoodField (map text_field ms)
texts_good [] h u = tt
texts_good (m ∷ ms) h u = (record { name = free_name m.0 h.0.name; value = field_text_of (string_of m.1) u.0 h.0.value }, texts_good ms h.1 u.1)

pub later_good : (ms : List (List ℕ × Tree)) → bad_names ms ≡ [] → AreTextFields (later_fields ms) → AllByRecursion IsGoodField (later_fields ms)
later_good ms h u =
    all_both IsGoodField (reply_fields ms) (text_fields ms) (reply_good ms h (all_front IsTextField (reply_fields ms) (text_fields ms) u))
    (texts_good (put_fields ms []) (members_good ms h) (all_back IsTextField (reply_fields ms) (text_fields ms) u))

-- ---- fields as they are written

pub field_other : (f : DraftField) → IsGoodField f → IsOtherField (field_of f)
field_other f g = record { field = record { some = g.name.some; name = g.name.each; value = value_folded f.value g.value }; other = g.name.other }

pub fields_other : (fs : List DraftField) → AllByRecursion IsGoodField fs → AllByRecursion IsOtherField (map field_of fs)
fields_other [] h = tt
fields_other (f ∷ fs) h = (field_other f h.0, fields_other fs h.1)
