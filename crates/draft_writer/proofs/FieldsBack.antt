-- The fields of a draft's message are read back.
use Rattle.std.proofs.Common.{◌≡◌, ℕ, ◌<◌, ◌^◌, Bool, true, false, cond, leb, ◌&&◌, ◌||◌, not, List, [], ◌∷◌, ◌++◌, length, map, reverse, Option, None, Some, codes, refl, sym, ap, ◌∙◌}
use Rattle.std.specs.Prelude.{bytes_eq, find as find_first, option_and_then, option_map}
use Rattle.std.specs.List.{AllByRecursion, list_any}
use Rattle.std.specs.Option.{option_or}
use Rattle.std.proofs.lemmas.Bool.{true≢false}
use Rattle.std.proofs.lemmas.List.{append-nil, map-append, reverse-append}
use Rattle.std.proofs.lemmas.List.Folds.{find-append}
use Rattle.std.proofs.lemmas.Slice.Eq.{bytes_eq-Decides}
use Rattle.jm_json.specs.Tree.{Tree}
use Rattle.jm_json.specs.Find.{find}
use Rattle.mail_text.specs.Texts.{is_same_name}
use Rattle.mime_lines.specs.FieldOffsets.{is_named, last_value_of, lowered, value_in}
use Rattle.mime_lines.specs.FieldTexts.{FieldText, read_at}
use Rattle.mime_lines.specs.Fields.{fields_of}
use Rattle.mime_lines.specs.Written.{fold, header_and_body}
use Rattle.mime_lines.specs.declared.field.Field.{Field}
use Rattle.mime_lines.proofs.ReadFacts.{fields_read}
use Rattle.mime_lines.proofs.Unfolds.{both_true, not_true}
use Rattle.mime_lines.proofs.WrittenFields.{fields_back}
use Rattle.mime_type.specs.HeadText.{HeadText, IsHead, IsOtherField, cid_value, coding_value, disposition_value, field_if, language_value, location_value, part_fields, type_value}
use Rattle.mime_type.proofs.WrittenFields.{good_both, others_good, part_good}
use Rattle.header_forms.specs.Dates.{date_text, date_time_text}
use Rattle.header_forms.specs.Texts.{on_one_line}
use Rattle.header_forms.specs.WrittenForms.{date_value, ids_value}
use Rattle.header_forms.proofs.WrittenAddresses.{addresses_back}
use Rattle.header_forms.proofs.WrittenDates.{date_back}
use Rattle.header_forms.proofs.WrittenIds.{ids_back}
use Rattle.header_forms.proofs.WrittenTexts.{text_back}
use Rattle.mime_writer.specs.DateTimes.{zoned}
use Rattle.draft_form.specs.Drafts.{bad_names, draft_in, later_fields, may_be}
use Rattle.draft_form.specs.Headers.{field_at, fields_if, first_fields, given_date, given_id, given_value, is_date, reply_fields, value_of}
use Rattle.draft_form.specs.Members.{is_null}
use Rattle.draft_form.specs.Names.{begins_with, is_free_name, is_one_of, put_fields, taken_fields, text_field, text_fields}
use Rattle.draft_form.specs.declared.draft.DraftField.{DraftField}
use Rattle.draft_form.specs.declared.draft.FieldValue.{FieldValue}
use Rattle.draft_form.specs.declared.draft.FieldValue.TheVariants.{OfAddresses, OfText, OfIdentifiers}
use Rattle.draft_form.specs.declared.draft.ValueForm.{ValueForm}
use Rattle.draft_form.specs.declared.draft.ValueForm.TheVariants.{Addresses, Plain, Identifiers}
use Rattle.draft_writer.specs.Fields.{date_or, field_of, ids_or, message_fields, value_text, version_field}
use Rattle.draft_writer.specs.ReadBack.{AreFieldsShown, IsTextDraft, last_in, shown_in, shown_value}
use Rattle.draft_writer.proofs.DatesFit.{date_or_fit, ids_or_fit}
use Rattle.draft_writer.proofs.FieldsFit.{IfGood, IsGoodField, IsGoodMember, IsGoodValue, all_back, all_front, first_good, later_good, members_good}
use Rattle.draft_writer.proofs.PartsFit.{sent_good}
use lib.Dec.{ltb}

-- ---- the last field of a name

abbrev pub one_of : List ℕ → List ℕ → List ℕ → Option (List ℕ)
one_of n v name = cond (bytes_eq (lowered n) (lowered name)) (Some v) None

abbrev pub last_of : List ℕ → List FieldText → Option (List ℕ)
last_of name [] = None
last_of name (f ∷ fs) = option_or (last_of name fs) (one_of f.name f.value name)

map_or : (g : Field → List ℕ) (a b : Option Field) → option_map g (option_or a b) ≡ option_or (option_map g a) (option_map g b)
map_or g None b = refl
map_or g (Some x) b = refl

read_last : (bytes name : List ℕ) (fs : List Field) → last_value_of bytes name fs ≡ last_of name (map (read_at bytes) fs)
read_last bytes name [] = refl
read_last bytes name (f ∷ fs) =
    ap (λ r. option_map (value_in bytes) (find_first (is_named bytes name) r)) (reverse-append (f ∷ []) fs)
    ∙ ap (option_map (value_in bytes)) (find-append (is_named bytes name) (reverse fs) (f ∷ []))
    ∙ map_or (value_in bytes) (find_first (is_named bytes name) (reverse fs)) (find_first (is_named bytes name) (f ∷ []))
    ∙ ap (λ o. option_or o (option_map (value_in bytes) (cond (is_named bytes name f) (Some f) None))) (read_last bytes name fs)
    ∙ ap (option_or (last_of name (map (read_at bytes) fs))) (one_named (is_named bytes name f))
  where
    one_named : (v : Bool) → option_map (value_in bytes) (cond v (Some f) None) ≡ cond v (Some (value_in bytes f)) None
    one_named true = refl
    one_named false = refl

pub or_none : (a : Option (List ℕ)) → option_or a None ≡ a
or_none None = refl
or_none (Some x) = refl

or_assoc : (a b c : Option (List ℕ)) → option_or (option_or a b) c ≡ option_or a (option_or b c)
or_assoc None b c = refl
or_assoc (Some x) b c = refl

pub last_both : (name : List ℕ) (xs ys : List FieldText) → last_of name (xs ++ ys) ≡ option_or (last_of name ys) (last_of name xs)
last_both name [] ys = sym (or_none (last_of name ys))
last_both name (x ∷ xs) ys =
    ap (λ o. option_or o (one_of x.name x.value name)) (last_both name xs ys)
    ∙ or_assoc (last_of name ys) (last_of name xs) (one_of x.name x.value name)

-- ---- fields by a table

abbrev pub Entry : Type 0
Entry = List ℕ × Option (List ℕ)

abbrev pub spread : List Entry → List FieldText
spread [] = []
spread (e ∷ es) = field_if e.0 e.1 ++ spread es

abbrev pub last_entry : List ℕ → List Entry → Option (List ℕ)
last_entry name [] = None
last_entry name (e ∷ es) = cond (bytes_eq (lowered e.0) (lowered name)) (option_or (last_entry name es) e.1) (last_entry name es)

or_cond : (a b : Option (List ℕ)) (v : Bool) → option_or a (cond v b None) ≡ cond v (option_or a b) a
or_cond a b true = refl
or_cond a b false = or_none a

three_none : (a : Option (List ℕ)) → option_or (option_or (option_or a None) None) None ≡ a
three_none None = refl
three_none (Some x) = refl

last_if : (name n : List ℕ) (o : Option (List ℕ)) → last_of name (field_if n o) ≡ cond (bytes_eq (lowered n) (lowered name)) o None
last_if name n None = sym (no_value (bytes_eq (lowered n) (lowered name)) None refl)
  where
    no_value : (v : Bool) (o : Option (List ℕ)) → o ≡ None → cond v o None ≡ None
    no_value true o e = e
    no_value false o e = refl
last_if name n (Some v) = refl

pub last_spread : (name : List ℕ) (es : List Entry) → last_of name (spread es) ≡ last_entry name es
last_spread name [] = refl
last_spread name (e ∷ es) =
    last_both name (field_if e.0 e.1) (spread es)
    ∙ ap (λ o. option_or o (last_of name (field_if e.0 e.1))) (last_spread name es)
    ∙ ap (option_or (last_entry name es)) (last_if name e.0 e.1)
    ∙ or_cond (last_entry name es) e.1 (bytes_eq (lowered e.0) (lowered name))

pub no_entry : (name : List ℕ) (es : List Entry) → AllByRecursion (λ (e : Entry). bytes_eq (lowered e.0) (lowered name) ≡ false) es → last_entry name es ≡ None
no_entry name [] h = refl
no_entry name (e ∷ es) h = ap (λ v. cond v (option_or (last_entry name es) e.1) (last_entry name es)) h.0 ∙ no_entry name es h.1

abbrev entry : List ℕ → ValueForm → List ℕ → List (List ℕ × Tree) → Entry
entry name form property ms = (name, option_map value_text (given_value form (find property ms)))

seg_last : (name : List ℕ) (o : Option FieldValue) → map field_of (fields_if name o) ≡ spread ((name, option_map value_text o) ∷ [])
seg_last name None = refl
seg_last name (Some v) = refl

seg_next : (name : List ℕ) (o : Option FieldValue) (fs : List DraftField) (es : List Entry) → map field_of fs ≡ spread es
    → map field_of (fields_if name o ++ fs) ≡ spread ((name, option_map value_text o) ∷ es)
seg_next name None fs es h = h
seg_next name (Some v) fs es h = ap (λ t. field_of (record { name = name; value = v }) ∷ t) h

abbrev pub first_table : List (List ℕ × Tree) → List Entry
first_table ms =
    entry (codes "From") Addresses (codes "from") ms ∷ entry (codes "Sender") Addresses (codes "sender") ms
    ∷ entry (codes "Reply-To") Addresses (codes "replyTo") ms ∷ entry (codes "To") Addresses (codes "to") ms
    ∷ entry (codes "Cc") Addresses (codes "cc") ms ∷ entry (codes "Bcc") Addresses (codes "bcc") ms
    ∷ entry (codes "Subject") Plain (codes "subject") ms ∷ []

abbrev pub reply_table : List (List ℕ × Tree) → List Entry
reply_table ms = entry (codes "In-Reply-To") Identifiers (codes "inReplyTo") ms ∷ entry (codes "References") Identifiers (codes "references") ms ∷ []

abbrev given : ValueForm → List ℕ → List (List ℕ × Tree) → Option FieldValue
given form property ms = given_value form (find property ms)

pub first_spread : (ms : List (List ℕ × Tree)) → map field_of (first_fields ms) ≡ spread (first_table ms)
first_spread ms =
    let f7 = field_at (codes "Subject") Plain (codes "subject") ms in
    let f6 = field_at (codes "Bcc") Addresses (codes "bcc") ms ++ f7 in
    let f5 = field_at (codes "Cc") Addresses (codes "cc") ms ++ f6 in
    let f4 = field_at (codes "To") Addresses (codes "to") ms ++ f5 in
    let f3 = field_at (codes "Reply-To") Addresses (codes "replyTo") ms ++ f4 in
    let f2 = field_at (codes "Sender") Addresses (codes "sender") ms ++ f3 in
    let t7 : List Entry = entry (codes "Subject") Plain (codes "subject") ms ∷ [] in
    let t6 : List Entry = entry (codes "Bcc") Addresses (codes "bcc") ms ∷ t7 in
    let t5 : List Entry = entry (codes "Cc") Addresses (codes "cc") ms ∷ t6 in
    let t4 : List Entry = entry (codes "To") Addresses (codes "to") ms ∷ t5 in
    let t3 : List Entry = entry (codes "Reply-To") Addresses (codes "replyTo") ms ∷ t4 in
    let t2 : List Entry = entry (codes "Sender") Addresses (codes "sender") ms ∷ t3 in
    seg_next (codes "From") (given Addresses (codes "from") ms) f2 t2
    (seg_next (codes "Sender") (given Addresses (codes "sender") ms) f3 t3
    (seg_next (codes "Reply-To") (given Addresses (codes "replyTo") ms) f4 t4
    (seg_next (codes "To") (given Addresses (codes "to") ms) f5 t5
    (seg_next (codes "Cc") (given Addresses (codes "cc") ms) f6 t6
    (seg_next (codes "Bcc") (given Addresses (codes "bcc") ms) f7 t7
    (seg_last (codes "Subject") (given Plain (codes "subject") ms)))))))

pub reply_spread : (ms : List (List ℕ × Tree)) → map field_of (reply_fields ms) ≡ spread (reply_table ms)
reply_spread ms =
    seg_next (codes "In-Reply-To") (given Identifiers (codes "inReplyTo") ms) (field_at (codes "References") Identifiers (codes "references") ms)
    (entry (codes "References") Identifiers (codes "references") ms ∷ [])
    (seg_last (codes "References") (given Identifiers (codes "references") ms))

abbrev pub part_table : HeadText → List Entry
part_table h =
    (codes "Content-Type", Some (type_value fold h)) ∷ (codes "Content-Disposition", option_map (disposition_value fold h.name) h.disposition)
    ∷ (codes "Content-ID", option_map cid_value h.cid) ∷ (codes "Content-Language", option_map language_value h.language)
    ∷ (codes "Content-Location", option_map location_value h.location) ∷ (codes "Content-Transfer-Encoding", option_map coding_value h.coding) ∷ []

pub part_spread : (h : HeadText) → part_fields h ≡ spread (part_table h)
part_spread h =
    ap (λ t. record { name = codes "Content-Type"; value = type_value fold h }
    ∷ (field_if (codes "Content-Disposition") (option_map (disposition_value fold h.name) h.disposition)
    ++ (field_if (codes "Content-ID") (option_map cid_value h.cid)
    ++ (field_if (codes "Content-Language") (option_map language_value h.language)
    ++ (field_if (codes "Content-Location") (option_map location_value h.location) ++ t)))))
    (sym (append-nil (field_if (codes "Content-Transfer-Encoding") (option_map coding_value h.coding))))

-- ---- other names

pub any_at : (p : List ℕ → Bool) (xs : List (List ℕ)) (x : List ℕ) → list_any p xs ≡ false → list_any (bytes_eq x) xs ≡ true → p x ≡ false
any_at p [] x h k = absurd (true≢false (sym k))
any_at p (y ∷ ys) x h k = elim (bytes_eq x y) as (λ v. bytes_eq x y ≡ v → (v || list_any (bytes_eq x) ys) ≡ true → p x ≡ false) [
  | true ↦ λ e _. ap p ((bytes_eq-Decides x y).0 e) ∙ (neither (p y) (list_any p ys) h).0
  | false ↦ λ _ j. any_at p ys x (neither (p y) (list_any p ys) h).1 j
] refl k
  where
    neither : (a b : Bool) → (a || b) ≡ false → (a ≡ false) × (b ≡ false)
    neither true b h = absurd (true≢false h)
    neither false b h = (refl, h)

pub not_taken : (name : List ℕ) → is_free_name name ≡ true → is_one_of taken_fields name ≡ false
not_taken name h =
    let content = begins_with (codes "Content-") name in
    let taken = is_one_of taken_fields name in
    let a = both_true (ltb 0 (length name)) _ h in
    let b = both_true (leb (length name) 64) _ a.1 in
    let c = both_true _ (not taken && not content) b.1 in
    not_true taken (both_true (not taken) (not content) c.1).0

absent_texts : (name : List ℕ) (ms : List (List ℕ × Tree)) → list_any (bytes_eq name) taken_fields ≡ true → AllByRecursion IsGoodMember ms
    → last_of name (map field_of (map text_field ms)) ≡ None
absent_texts name [] k h = refl
absent_texts name (m ∷ ms) k h =
    ap (λ o. option_or o (one_of m.0 (value_text (text_field m).value) name)) (absent_texts name ms k h.1)
    ∙ ap (λ v. cond v (Some (value_text (text_field m).value)) None) (any_at (is_same_name m.0) taken_fields name (not_taken m.0 h.0.name) k)

-- ---- a field of a message

abbrev pub date_line : List (List ℕ × Tree) → ℕ → List ℕ
date_line ms moment = date_value (zoned (date_or moment (given_date (find (codes "sentAt") ms))))

abbrev pub id_line : List (List ℕ × Tree) → ℕ → ℕ → List ℕ
id_line ms number moment = ids_value (ids_or number moment (given_id (find (codes "messageId") ms)))

-- what the fields of a known name are
abbrev known : List ℕ → List (List ℕ × Tree) → ℕ → ℕ → Option (List ℕ)
known name ms number moment =
    option_or (option_or (option_or (option_or (last_of name (version_field ∷ [])) (last_entry name (reply_table ms)))
    (one_of (codes "Message-ID") (id_line ms number moment) name)) (one_of (codes "Date") (date_line ms moment) name)) (last_entry name (first_table ms))

later_last : (name : List ℕ) (ms : List (List ℕ × Tree)) → bad_names ms ≡ [] → list_any (bytes_eq name) taken_fields ≡ true
    → last_of name (map field_of (later_fields ms)) ≡ last_entry name (reply_table ms)
later_last name ms good k =
    ap (last_of name) (map-append field_of (reply_fields ms) (text_fields ms))
    ∙ last_both name (map field_of (reply_fields ms)) (map field_of (text_fields ms))
    ∙ ap (λ o. option_or o (last_of name (map field_of (reply_fields ms)))) (absent_texts name (put_fields ms []) k (members_good ms good))
    ∙ ap (last_of name) (reply_spread ms) ∙ last_spread name (reply_table ms)

message_last : (name : List ℕ) (ms : List (List ℕ × Tree)) (number moment : ℕ) → bad_names ms ≡ [] → list_any (bytes_eq name) taken_fields ≡ true
    → last_of name (message_fields (draft_in ms) number moment) ≡ known name ms number moment
message_last name ms number moment good k =
    let later = map field_of (later_fields ms) in
    let id = one_of (codes "Message-ID") (id_line ms number moment) name in
    let date = one_of (codes "Date") (date_line ms moment) name in
    let version = last_of name (version_field ∷ []) in
    last_both name (map field_of (first_fields ms)) _
    ∙ ap (λ o. option_or (option_or (option_or o id) date) (last_of name (map field_of (first_fields ms)))) (last_both name later (version_field ∷ []) ∙ ap (option_or version) (later_last name ms good k))
    ∙ ap (option_or (option_or (option_or (option_or version (last_entry name (reply_table ms))) id) date)) (ap (last_of name) (first_spread ms) ∙ last_spread name (first_table ms))

whole_last : (name : List ℕ) (ms : List (List ℕ × Tree)) (number moment : ℕ) (h : HeadText) → bad_names ms ≡ [] → list_any (bytes_eq name) taken_fields ≡ true
    → last_entry name (part_table h) ≡ None
    → last_of name (message_fields (draft_in ms) number moment ++ part_fields h) ≡ known name ms number moment
whole_last name ms number moment h good k none =
    last_both name (message_fields (draft_in ms) number moment) (part_fields h)
    ∙ ap (λ o. option_or o (last_of name (message_fields (draft_in ms) number moment))) (ap (last_of name) (part_spread h) ∙ last_spread name (part_table h) ∙ none)
    ∙ message_last name ms number moment good k

pub text_last : (name : List ℕ) (fields : List FieldText) (h : HeadText) (body : List ℕ) → AllByRecursion IsOtherField fields → IsHead h
    → last_in name (header_and_body (fields ++ part_fields h) body) ≡ last_of name (fields ++ part_fields h)
text_last name fields h body others is =
    let text = header_and_body (fields ++ part_fields h) body in
    read_last text name (fields_of text)
    ∙ ap (last_of name) (fields_read text ∙ fields_back (fields ++ part_fields h) body (good_both fields (part_fields h) (others_good fields others) (part_good h is)))

-- ---- values

value_back : (form : ValueForm) (t : Tree) → IsGoodValue (value_of form t) → shown_value form (value_text (value_of form t)) ≡ value_of form t
value_back Addresses t h = ap OfAddresses (addresses_back _ h)
value_back Plain t h = ap OfText (text_back _ h)
value_back Identifiers t h = ap OfIdentifiers (ids_back _ h.1)

given_back : (form : ValueForm) (o : Option Tree) → IfGood (given_value form o) → option_map (shown_value form) (option_map value_text (given_value form o)) ≡ given_value form o
given_back form None h = refl
given_back form (Some t) h =
    elim (is_null t) as (λ v. IfGood (cond v None (Some (value_of form t))) → option_map (shown_value form) (option_map value_text (cond v None (Some (value_of form t)))) ≡ cond v None (Some (value_of form t))) [
      | true ↦ λ _. refl
      | false ↦ λ k. ap Some (value_back form t k)
    ] h

good_in : (name : List ℕ) (o : Option FieldValue) → AllByRecursion IsGoodField (fields_if name o) → IfGood o
good_in name None h = tt
good_in name (Some v) h = h.0.value

-- ---- the fields of a message

abbrev KnownIn : List (List ℕ × Tree) → ℕ → ℕ → List ℕ → List ℕ → Type 0
KnownIn ms number moment text name = last_in name text ≡ known name ms number moment

shown_back : (ms : List (List ℕ × Tree)) (name : List ℕ) (form : ValueForm) (property text : List ℕ) → last_in name text ≡ option_map value_text (given form property ms)
    → IfGood (given form property ms) → shown_in name form text ≡ given form property ms
shown_back ms name form property text e g = ap (option_map (shown_value form)) e ∙ given_back form (find property ms) g

pub fields_shown : (ms : List (List ℕ × Tree)) (number moment : ℕ) (h : HeadText) (body : List ℕ) → bad_names ms ≡ [] → IsTextDraft ms → number < 2 ^ 64 → moment < 2 ^ 64
    → AllByRecursion IsOtherField (message_fields (draft_in ms) number moment) → IsHead h
    → AreFieldsShown ms number moment (header_and_body (message_fields (draft_in ms) number moment ++ part_fields h) body)
fields_shown ms number moment h body good u low small others is =
    let fields = message_fields (draft_in ms) number moment in
    let text = header_and_body (fields ++ part_fields h) body in
    let f1 = field_at (codes "From") Addresses (codes "from") ms in
    let f2 = field_at (codes "Sender") Addresses (codes "sender") ms in
    let f3 = field_at (codes "Reply-To") Addresses (codes "replyTo") ms in
    let f4 = field_at (codes "To") Addresses (codes "to") ms in
    let f5 = field_at (codes "Cc") Addresses (codes "cc") ms in
    let f6 = field_at (codes "Bcc") Addresses (codes "bcc") ms in
    let f7 = field_at (codes "Subject") Plain (codes "subject") ms in
    let r1 = field_at (codes "In-Reply-To") Identifiers (codes "inReplyTo") ms in
    let r2 = field_at (codes "References") Identifiers (codes "references") ms in
    let u1 = first_good ms good u.first in
    let u2 = all_back IsGoodField f1 (f2 ++ (f3 ++ (f4 ++ (f5 ++ (f6 ++ f7))))) u1 in
    let u3 = all_back IsGoodField f2 (f3 ++ (f4 ++ (f5 ++ (f6 ++ f7)))) u2 in
    let u4 = all_back IsGoodField f3 (f4 ++ (f5 ++ (f6 ++ f7))) u3 in
    let u5 = all_back IsGoodField f4 (f5 ++ (f6 ++ f7)) u4 in
    let u6 = all_back IsGoodField f5 (f6 ++ f7) u5 in
    let u7 = all_back IsGoodField f6 f7 u6 in
    let v1 = all_front IsGoodField (r1 ++ r2) (text_fields ms) (later_good ms good u.later) in
    let at = λ (name : List ℕ) (k : list_any (bytes_eq name) taken_fields ≡ true) (none : last_entry name (part_table h) ≡ None).
    text_last name fields h body others is ∙ whole_last name ms number moment h good k none in
    let g1 = good_in (codes "From") (given Addresses (codes "from") ms) (all_front IsGoodField f1 (f2 ++ (f3 ++ (f4 ++ (f5 ++ (f6 ++ f7))))) u1) in
    let g2 = good_in (codes "Sender") (given Addresses (codes "sender") ms) (all_front IsGoodField f2 (f3 ++ (f4 ++ (f5 ++ (f6 ++ f7)))) u2) in
    let g3 = good_in (codes "Reply-To") (given Addresses (codes "replyTo") ms) (all_front IsGoodField f3 (f4 ++ (f5 ++ (f6 ++ f7))) u3) in
    let g4 = good_in (codes "To") (given Addresses (codes "to") ms) (all_front IsGoodField f4 (f5 ++ (f6 ++ f7)) u4) in
    let g5 = good_in (codes "Cc") (given Addresses (codes "cc") ms) (all_front IsGoodField f5 (f6 ++ f7) u5) in
    let g6 = good_in (codes "Bcc") (given Addresses (codes "bcc") ms) (all_front IsGoodField f6 f7 u6) in
    let g7 = good_in (codes "Subject") (given Plain (codes "subject") ms) u7 in
    let h1 = good_in (codes "In-Reply-To") (given Identifiers (codes "inReplyTo") ms) (all_front IsGoodField r1 r2 v1) in
    let h2 = good_in (codes "References") (given Identifiers (codes "references") ms) (all_back IsGoodField r1 r2 v1) in
    let date = date_or_fit moment (find (codes "sentAt") ms) (sent_good ms (codes "sentAt") (λ t. (is_null t || is_date t) ≡ true) good (λ t k. k) (find (codes "sentAt") ms) refl) in
    let ids = ids_or_fit number moment (find (codes "messageId") ms) low small
    (sent_good ms (codes "messageId") (λ t. may_be Identifiers t ≡ true) good (λ t k. k) (find (codes "messageId") ms) refl) in
    record {
      from = shown_back ms (codes "From") Addresses (codes "from") text (at (codes "From") refl refl) g1;
      sender = shown_back ms (codes "Sender") Addresses (codes "sender") text (at (codes "Sender") refl refl) g2;
      reply_to = shown_back ms (codes "Reply-To") Addresses (codes "replyTo") text (at (codes "Reply-To") refl refl) g3;
      to = shown_back ms (codes "To") Addresses (codes "to") text (at (codes "To") refl refl) g4;
      cc = shown_back ms (codes "Cc") Addresses (codes "cc") text (at (codes "Cc") refl refl) g5;
      bcc = shown_back ms (codes "Bcc") Addresses (codes "bcc") text (at (codes "Bcc") refl refl) g6;
      subject = shown_back ms (codes "Subject") Plain (codes "subject") text (at (codes "Subject") refl refl) g7;
      date = ap (option_and_then (λ v. date_text (on_one_line v))) (at (codes "Date") refl refl)
          ∙ ap (option_map date_time_text) (date_back (zoned (date_or moment (given_date (find (codes "sentAt") ms)))) date);
      message_id = ap (option_map (shown_value Identifiers)) (at (codes "Message-ID") refl refl)
          ∙ ap (λ i. Some (OfIdentifiers i)) (ids_back (ids_or number moment (given_id (find (codes "messageId") ms))) ids.1);
      in_reply_to = shown_back ms (codes "In-Reply-To") Identifiers (codes "inReplyTo") text (at (codes "In-Reply-To") refl refl ∙ three_none (option_map value_text (given Identifiers (codes "inReplyTo") ms))) h1;
      references = shown_back ms (codes "References") Identifiers (codes "references") text (at (codes "References") refl refl ∙ three_none (option_map value_text (given Identifiers (codes "references") ms))) h2;
    }
