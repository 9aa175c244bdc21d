-- The fields that a create sends as text are read back.
use Rattle.std.proofs.Common.{◌≡◌, ℕ, ◌+◌, ◌≤◌, Bool, true, false, cond, List, [], ◌∷◌, ◌++◌, map, Option, None, Some, Less, Equal, Greater, codes, refl, sym, ap, subst, ◌∙◌, arith}
use Rattle.std.specs.Prelude.{bytes_eq, nat_eq, option_map}
use Rattle.std.specs.Str.{IsUtf8}
use Rattle.std.specs.List.{AllByRecursion, list_any, starts_with}
use Rattle.std.specs.Option.{option_or}
use Rattle.std.specs.Ordering.{is_eq, nat_cmp, match_ordering}
use Rattle.std.proofs.lemmas.Map.Text.{is_eq-slice_cmp}
use Rattle.std.specs.Cmp.Lexicographic.{slice_cmp}
use Rattle.std.proofs.lemmas.Bool.{true≢false, leb-true}
use Rattle.std.proofs.lemmas.Option.{none-some, same_Some}
use Rattle.std.proofs.lemmas.List.{map-append}
use Rattle.std.proofs.lemmas.Slice.Eq.{bytes_eq-Decides}
use Rattle.jm_json.specs.Tree.{Tree, text}
use Rattle.jm_json.specs.Find.{find}
use Rattle.jm_json.specs.Order.{put}
use Rattle.mail_text.specs.Texts.{is_same_name}
use Rattle.mime_lines.specs.FieldOffsets.{lowered}
use Rattle.mime_lines.specs.FieldTexts.{FieldText}
use Rattle.mime_lines.specs.Written.{header_and_body}
use Rattle.mime_lines.proofs.Unfolds.{both_true}
use Rattle.mime_type.specs.HeadText.{HeadText, IsHead, IsOtherField, part_fields}
use Rattle.header_forms.specs.WrittenForms.{text_value}
use Rattle.header_forms.proofs.WrittenTexts.{text_back}
use Rattle.draft_form.specs.Drafts.{bad_names, draft_in, later_fields}
use Rattle.draft_form.specs.Headers.{first_fields, reply_fields}
use Rattle.draft_form.specs.Members.{is_text, string_of}
use Rattle.draft_form.specs.Names.{field_named, is_free_name, is_own_name, is_same_field, put_field, put_fields, taken_fields, text_field, text_fields, twin_count}
use Rattle.draft_form.specs.declared.texts.TextRule.TheVariants.{FieldText as TextOfField}
use Rattle.draft_form.specs.declared.draft.FieldValue.TheVariants.{OfText}
use Rattle.draft_form.specs.declared.draft.ValueForm.TheVariants.{Plain}
use Rattle.draft_writer.specs.Fields.{field_of, message_fields, version_field}
use Rattle.draft_writer.specs.ReadBack.{AreTextFields, AreTextsShown, IsTextDraft, shown_value}
use Rattle.draft_writer.proofs.FieldsBack.{last_both, last_of, last_spread, no_entry, one_of, id_line, date_line, or_none, part_spread, part_table, text_last, any_at, not_taken}
use Rattle.draft_writer.proofs.FieldsFit.{all_back, field_text_of, free_name, good_text, header_is, IsTextField}
use Rattle.draft_writer.proofs.PartsFit.{good_at}

-- ---- names

turned_same : (x y : List ℕ) → bytes_eq x y ≡ true → bytes_eq y x ≡ true
turned_same x y e = (bytes_eq-Decides y x).1 (sym ((bytes_eq-Decides x y).0 e))

turned : (x y : List ℕ) → bytes_eq x y ≡ false → bytes_eq y x ≡ false
turned x y e = elim (bytes_eq y x) as (λ w. bytes_eq y x ≡ w → w ≡ false) [
  | true ↦ λ h. absurd (true≢false (sym (turned_same y x h) ∙ e))
  | false ↦ λ _. refl
] refl

-- no free name is one of these
other_taken : (name n : List ℕ) → is_free_name name ≡ true → list_any (bytes_eq n) taken_fields ≡ true → bytes_eq (lowered n) (lowered name) ≡ false
other_taken name n h k = turned (lowered name) (lowered n) (any_at (is_same_name name) taken_fields n (not_taken name h) k)

other_content : (name n : List ℕ) → is_free_name name ≡ true → starts_with nat_eq (lowered n) (codes "content-") ≡ true → bytes_eq (lowered n) (lowered name) ≡ false
other_content name n h k = elim (bytes_eq (lowered n) (lowered name)) as (λ v. bytes_eq (lowered n) (lowered name) ≡ v → v ≡ false) [
  | true ↦ λ e. absurd (true≢false (sym k ∙ ap (λ t. starts_with nat_eq t (codes "content-")) ((bytes_eq-Decides (lowered n) (lowered name)).0 e) ∙ (free_name name h).other))
  | false ↦ λ _. refl
] refl

-- ---- members that are put in order

abbrev fields_by : List (List ℕ × Tree) → List FieldText
fields_by ms = map field_of (map text_field ms)

abbrev line : Tree → List ℕ
line t = text_value (string_of t)

abbrev one : List ℕ → List ℕ → Tree → Option Tree
one name k t = cond (bytes_eq (lowered k) (lowered name)) (Some t) None

-- the value of the last member of this name
abbrev last_member : List ℕ → List (List ℕ × Tree) → Option Tree
last_member name [] = None
last_member name (m ∷ ms) = option_or (last_member name ms) (one name m.0 m.1)

map_or : (a b : Option Tree) → option_map line (option_or a b) ≡ option_or (option_map line a) (option_map line b)
map_or None b = refl
map_or (Some x) b = refl

map_one : (t : Tree) (v : Bool) → cond v (Some (line t)) None ≡ option_map line (cond v (Some t) None)
map_one t true = refl
map_one t false = refl

members_are : (name : List ℕ) (ms : List (List ℕ × Tree)) → last_of name (fields_by ms) ≡ option_map line (last_member name ms)
members_are name [] = refl
members_are name (m ∷ ms) =
    ap (λ o. option_or o (one_of m.0 (line m.1) name)) (members_are name ms)
    ∙ ap (option_or (option_map line (last_member name ms))) (map_one m.1 (bytes_eq (lowered m.0) (lowered name)))
    ∙ sym (map_or (last_member name ms) (one name m.0 m.1))

member_utf8 : (name : List ℕ) (ms : List (List ℕ × Tree)) (t : Tree) → AreTextFields (map text_field ms) → last_member name ms ≡ Some t → IsUtf8 (string_of t)
member_utf8 name [] t u h = absurd (none-some t h)
member_utf8 name (m ∷ ms) t u h =
    elim (last_member name ms) as (λ o. last_member name ms ≡ o → option_or o (one name m.0 m.1) ≡ Some t → IsUtf8 (string_of t)) [
      | None ↦ λ _ k. elim (bytes_eq (lowered m.0) (lowered name)) as (λ v. cond v (Some m.1) None ≡ Some t → IsUtf8 (string_of t)) [
        | true ↦ λ j. subst (λ x. IsUtf8 (string_of x)) (same_Some m.1 t j) u.0
        | false ↦ λ j. absurd (none-some t j)
      ] k
      | Some x ↦ λ e k. member_utf8 name ms t u.1 (e ∙ k)
    ] refl h

or_nothing : (a : Option Tree) → option_or a None ≡ a
or_nothing None = refl
or_nothing (Some x) = refl

none_before : (a b : Option Tree) → option_or a b ≡ None → (a ≡ None) × (b ≡ None)
none_before None b h = (refl, h)
none_before (Some x) b h = absurd (none-some x (sym h))

same_key : (k x : List ℕ) → slice_cmp nat_cmp k x ≡ Equal → k ≡ x
same_key k x e = (bytes_eq-Decides k x).0 (sym (is_eq-slice_cmp k x) ∙ ap is_eq e)

put_other : (name k : List ℕ) (t : Tree) (fs : List (List ℕ × Tree)) → bytes_eq (lowered k) (lowered name) ≡ false
    → last_member name (put k t fs) ≡ last_member name fs
put_other name k t [] e = ap (λ v. cond v (Some t) None) e
put_other name k t (m ∷ fs) e =
    elim (slice_cmp nat_cmp k m.0) as (λ o. slice_cmp nat_cmp k m.0 ≡ o → last_member name (match_ordering o ((k, t) ∷ m ∷ fs) ((k, t) ∷ fs) (m ∷ put k t fs)) ≡ last_member name (m ∷ fs)) [
      | Less ↦ λ _. ap (λ v. option_or (last_member name (m ∷ fs)) (cond v (Some t) None)) e ∙ or_nothing (last_member name (m ∷ fs))
      | Equal ↦ λ s.
          let at : bytes_eq (lowered m.0) (lowered name) ≡ false = ap (λ x. bytes_eq (lowered x) (lowered name)) (sym (same_key k m.0 s)) ∙ e in
          ap (λ v. option_or (last_member name fs) (cond v (Some t) None)) e
          ∙ sym (ap (λ v. option_or (last_member name fs) (cond v (Some m.1) None)) at)
      | Greater ↦ λ _. ap (λ o. option_or o (one name m.0 m.1)) (put_other name k t fs e)
    ] refl

put_same : (name k : List ℕ) (t : Tree) (fs : List (List ℕ × Tree)) → bytes_eq (lowered k) (lowered name) ≡ true → last_member name fs ≡ None
    → last_member name (put k t fs) ≡ Some t
put_same name k t [] e h = ap (λ v. cond v (Some t) None) e
put_same name k t (m ∷ fs) e h =
    let before = none_before (last_member name fs) (one name m.0 m.1) h in
    elim (slice_cmp nat_cmp k m.0) as (λ o. last_member name (match_ordering o ((k, t) ∷ m ∷ fs) ((k, t) ∷ fs) (m ∷ put k t fs)) ≡ Some t) [
      | Less ↦ ap (λ o. option_or o (one name k t)) h ∙ ap (λ v. cond v (Some t) None) e
      | Equal ↦ ap (λ o. option_or o (one name k t)) before.0 ∙ ap (λ v. cond v (Some t) None) e
      | Greater ↦ ap (λ o. option_or o (one name m.0 m.1)) (put_same name k t fs e before.0)
    ]

-- ---- no other member has the name

abbrev twins : List ℕ → Option (List ℕ) → ℕ → ℕ
twins name o n = cond (is_same_field name o) (1 + n) n

none_step : (name : List ℕ) (t : Tree) (rest fields : List (List ℕ × Tree))
    → ((others : List (List ℕ × Tree)) → twin_count name rest ≡ 0 → last_member name (put_fields rest others) ≡ last_member name others)
    → (o : Option (List ℕ)) → twins name o (twin_count name rest) ≡ 0 → last_member name (put_fields rest (put_field o t fields)) ≡ last_member name fields
none_step name t rest fields next None k = next fields k
none_step name t rest fields next (Some other) k = elim (is_same_name name other) as (λ v. is_same_name name other ≡ v → cond v (1 + twin_count name rest) (twin_count name rest) ≡ 0 → last_member name (put_fields rest (put other (text (string_of t)) fields)) ≡ last_member name fields) [
  | true ↦ λ _ z. absurd (omega (arith, z))
  | false ↦ λ s z. next (put other (text (string_of t)) fields) z ∙ put_other name other (text (string_of t)) fields (turned (lowered name) (lowered other) s)
] refl k

none_other : (name : List ℕ) (rest fields : List (List ℕ × Tree)) → twin_count name rest ≡ 0 → last_member name (put_fields rest fields) ≡ last_member name fields
none_other name [] fields h = refl
none_other name (m ∷ rest) fields h = none_step name m.1 rest fields (none_other name rest) (field_named m.0) h

same_self : (x : List ℕ) → bytes_eq x x ≡ true
same_self x = (bytes_eq-Decides x x).1 refl

at_least : (key name : List ℕ) (t : Tree) (rest : List (List ℕ × Tree)) → find key rest ≡ Some t → field_named key ≡ Some name → 1 ≤ twin_count name rest
at_least key name t [] h e = absurd (none-some t h)
at_least key name t (m ∷ rest) h e =
    elim (bytes_eq m.0 key) as (λ v. bytes_eq m.0 key ≡ v → cond v (Some m.1) (find key rest) ≡ Some t → 1 ≤ twins name (field_named m.0) (twin_count name rest)) [
      | true ↦ λ s _. subst (λ o. 1 ≤ twins name o (twin_count name rest)) (sym (ap field_named ((bytes_eq-Decides m.0 key).0 s) ∙ e))
          (subst (λ v. 1 ≤ cond v (1 + twin_count name rest) (twin_count name rest)) (sym (same_self (lowered name))) (omega arith))
      | false ↦ λ _ k. more (is_same_field name (field_named m.0)) (at_least key name t rest k e)
    ] refl h
  where
    more : (v : Bool) → 1 ≤ twin_count name rest → 1 ≤ cond v (1 + twin_count name rest) (twin_count name rest)
    more true k = omega arith
    more false k = k

abbrev Puts : List ℕ → List ℕ → Tree → List (List ℕ × Tree) → Type 0
Puts key name t rest = (others : List (List ℕ × Tree)) → find key rest ≡ Some t → twin_count name rest ≤ 1 → last_member name others ≡ None
    → last_member name (put_fields rest others) ≡ Some (text (string_of t))

later_put : (key name : List ℕ) (t : Tree) (m : List ℕ × Tree) (rest fields : List (List ℕ × Tree)) → Puts key name t rest → field_named key ≡ Some name
    → last_member name fields ≡ None → (o : Option (List ℕ)) → find key rest ≡ Some t → twins name o (twin_count name rest) ≤ 1
    → last_member name (put_fields rest (put_field o m.1 fields)) ≡ Some (text (string_of t))
later_put key name t m rest fields next e n None f j = next fields f j n
later_put key name t m rest fields next e n (Some other) f j =
    let x = text (string_of m.1) in
    elim (is_same_name name other) as (λ v. is_same_name name other ≡ v → cond v (1 + twin_count name rest) (twin_count name rest) ≤ 1 → last_member name (put_fields rest (put other x fields)) ≡ Some (text (string_of t))) [
      | true ↦ λ _ z. let some = at_least key name t rest f e in absurd (omega (arith, z, some))
      | false ↦ λ s z. next (put other x fields) f z (put_other name other x fields (turned (lowered name) (lowered other) s) ∙ n)
    ] refl j

no_more : (n : ℕ) → 1 + n ≤ 1 → n ≡ 0
no_more n h = omega (arith, h)

here_put : (name : List ℕ) (t : Tree) (m : List ℕ × Tree) (rest fields : List (List ℕ × Tree)) → last_member name fields ≡ None → field_named m.0 ≡ Some name → m.1 ≡ t
    → twins name (field_named m.0) (twin_count name rest) ≤ 1 → last_member name (put_fields rest (put_field (field_named m.0) m.1 fields)) ≡ Some (text (string_of t))
here_put name t m rest fields n named same k =
    let none : twin_count name rest ≡ 0 =
    no_more (twin_count name rest) (subst (λ v. cond v (1 + twin_count name rest) (twin_count name rest) ≤ 1) (same_self (lowered name)) (subst (λ o. twins name o (twin_count name rest) ≤ 1) named k)) in
    ap (λ o. last_member name (put_fields rest (put_field o m.1 fields))) named
    ∙ none_other name rest (put name (text (string_of m.1)) fields) none
    ∙ put_same name name (text (string_of m.1)) fields (same_self (lowered name)) n
    ∙ ap (λ x. Some (text (string_of x))) same

put_one : (key name : List ℕ) (t : Tree) (rest : List (List ℕ × Tree)) → field_named key ≡ Some name → Puts key name t rest
put_one key name t [] e fields h k n = absurd (none-some t h)
put_one key name t (m ∷ rest) e fields h k n =
    elim (bytes_eq m.0 key) as (λ v. bytes_eq m.0 key ≡ v → cond v (Some m.1) (find key rest) ≡ Some t → last_member name (put_fields rest (put_field (field_named m.0) m.1 fields)) ≡ Some (text (string_of t))) [
      | true ↦ λ s f. here_put name t m rest fields n (ap field_named ((bytes_eq-Decides m.0 key).0 s) ∙ e) (same_Some m.1 t f) k
      | false ↦ λ _ f. later_put key name t m rest fields (put_one key name t rest e) e n (field_named m.0) f k
    ] refl h

-- ---- the field of a message

no_name : (name : List ℕ) (f : FieldText) → bytes_eq (lowered f.name) (lowered name) ≡ false → (o : Option (List ℕ)) → option_or o (cond (bytes_eq (lowered f.name) (lowered name)) (Some f.value) None) ≡ o
no_name name f e o = ap (λ v. option_or o (cond v (Some f.value) None)) e ∙ or_none o

text_found : (ms : List (List ℕ × Tree)) (number moment : ℕ) (h : HeadText) (key name : List ℕ) (t : Tree) → bad_names ms ≡ [] → find key ms ≡ Some t → field_named key ≡ Some name
    → last_of name (message_fields (draft_in ms) number moment ++ part_fields h) ≡ Some (line t)
text_found ms number moment h key name t good at named =
    let header = both_true (is_text TextOfField t) (is_own_name ms (field_named key)) (sym (header_is ms key name t named) ∙ good_at ms key t good at) in
    let own = both_true (is_free_name name) _ (ap (is_own_name ms) (sym named) ∙ header.1) in
    let free = own.0 in
    let texts = members_are name (put_fields ms []) ∙ ap (option_map line) (put_one key name t ms named [] at (leb-true (twin_count name ms) 1 own.1) refl) in
    let later = map field_of (later_fields ms) in
    let parts : last_of name (part_fields h) ≡ None =
    ap (last_of name) (part_spread h) ∙ last_spread name (part_table h)
    ∙ no_entry name (part_table h) (
      other_content name (codes "Content-Type") free refl,
      (
        other_content name (codes "Content-Disposition") free refl,
        (
          other_content name (codes "Content-ID") free refl,
          (other_content name (codes "Content-Language") free refl, (other_content name (codes "Content-Location") free refl, (other_content name (codes "Content-Transfer-Encoding") free refl, tt))),
        ),
      ),
    ) in
    let version : last_of name (version_field ∷ []) ≡ None = no_name name version_field (other_taken name (codes "MIME-Version") free refl) None in
    let mine : last_of name later ≡ Some (line t) =
    ap (last_of name) (map-append field_of (reply_fields ms) (text_fields ms))
    ∙ last_both name (map field_of (reply_fields ms)) (map field_of (text_fields ms))
    ∙ ap (λ o. option_or o (last_of name (map field_of (reply_fields ms)))) texts in
    last_both name (message_fields (draft_in ms) number moment) (part_fields h)
    ∙ ap (λ o. option_or o (last_of name (message_fields (draft_in ms) number moment))) parts
    ∙ last_both name (map field_of (first_fields ms)) _
    ∙ ap (λ o. option_or (option_or (option_or o (one_of (codes "Message-ID") (id_line ms number moment) name)) (one_of (codes "Date") (date_line ms moment) name)) (last_of name (map field_of (first_fields ms)))) (last_both name later (version_field ∷ [])
    ∙ ap (λ o. option_or o (last_of name later)) version ∙ mine)

pub texts_shown : (ms : List (List ℕ × Tree)) (number moment : ℕ) (h : HeadText) (body : List ℕ) → bad_names ms ≡ [] → IsTextDraft ms
    → AllByRecursion IsOtherField (message_fields (draft_in ms) number moment) → IsHead h
    → AreTextsShown ms (header_and_body (message_fields (draft_in ms) number moment ++ part_fields h) body)
texts_shown ms number moment h body good u others is key name t at named =
    let header = both_true (is_text TextOfField t) (is_own_name ms (field_named key)) (sym (header_is ms key name t named) ∙ good_at ms key t good at) in
    let own = both_true (is_free_name name) _ (ap (is_own_name ms) (sym named) ∙ header.1) in
    let utf8 = member_utf8 name (put_fields ms []) (text (string_of t)) (all_back IsTextField (reply_fields ms) (text_fields ms) u.later)
    (put_one key name t ms named [] at (leb-true (twin_count name ms) 1 own.1) refl) in
    ap (option_map (shown_value Plain)) (text_last name (message_fields (draft_in ms) number moment) h body others is ∙ text_found ms number moment h key name t good at named)
    ∙ ap (λ s. Some (OfText s)) (text_back (string_of t) (field_text_of (string_of t) utf8 (good_text t header.0)))
