-- What the form of a draft says of its parts.
use Rattle.std.proofs.Common.{◌≡◌, ℕ, zero, suc, ◌+◌, ◌≤◌, Bool, true, false, cond, eqb, ◌&&◌, List, [], ◌∷◌, length, Option, None, Some, codes, refl, sym, ap, subst, ◌∙◌, arith}
use Rattle.std.specs.Prelude.{bytes_eq}
use Rattle.std.specs.List.{list_all}
use Rattle.std.proofs.lemmas.Bool.{true≢false, leb-true}
use Rattle.std.proofs.lemmas.Slice.Eq.{bytes_eq-Decides}
use Rattle.std.proofs.lemmas.Option.{none-some, same_Some}
use Rattle.mime_lines.proofs.Unfolds.{both_true}
use Rattle.mime_type.specs.HeadText.{IfThere}
use Rattle.jm_json.specs.Tree.{Tree, null, boolean, number, text, list, object}
use Rattle.jm_json.specs.Find.{find}
use Rattle.draft_form.specs.Bodies.{first_of, first_part, has_blob, has_few_parts, has_lists, has_type, is_attachment, is_body, is_one, is_whole, mixed_before, plain_head, structure_in, structure_with, text_before, values_in, whole_part, with_attached}
use Rattle.draft_form.specs.Drafts.{bad_among, bad_names, is_good}
use Rattle.draft_form.specs.Members.{is_list, is_object, items_in, list_items, members_in}
use Rattle.draft_form.specs.Parts.{has_part, head_of}
use Rattle.draft_form.specs.Parts as part
use Rattle.draft_form.specs.Structures.{DraftParts, body_of, each_before, is_part, leaf, multipart_with, none, part_before, part_count, sub_parts}
use Rattle.draft_writer.proofs.HeadsBack.{IsFitHead}
use Rattle.draft_writer.proofs.HeadsFit.{part_is}
use Rattle.draft_writer.proofs.PartsBack.{AreFit}

-- ---- a part with those within it

pub in_object : (rule : List (List ℕ × Tree) → Bool) (t : Tree) → is_object rule t ≡ true → rule (members_in t) ≡ true
in_object rule null h = absurd (true≢false (sym h))
in_object rule (boolean b) h = absurd (true≢false (sym h))
in_object rule (number z) h = absurd (true≢false (sym h))
in_object rule (text s) h = absurd (true≢false (sym h))
in_object rule (list ts) h = absurd (true≢false (sym h))
in_object rule (object fs) h = h

abbrev Places : ℕ → ℕ → List (List ℕ × Tree) → Type 0
Places levels n values = (t : Tree) (later : DraftParts) → is_part levels values t ≡ true → AreFit n later → AreFit n (part_before levels values t later)

each_fit : (levels n : ℕ) (values : List (List ℕ × Tree)) → Places levels n values → (ts : List Tree) (later : DraftParts) → list_all (is_part levels values) ts ≡ true
    → AreFit n later → AreFit n (each_before (part_before levels values) ts later)
each_fit levels n values one [] later h l = l
each_fit levels n values one (t ∷ ts) later h l =
    let parts = both_true (is_part levels values t) (list_all (is_part levels values) ts) h in
    one t (each_before (part_before levels values) ts later) parts.0 (each_fit levels n values one ts later parts.1 l)

part_fit : (levels n : ℕ) (values : List (List ℕ × Tree)) → levels ≤ n → Places levels n values
part_fit zero n values low t later h l = absurd (true≢false (sym h))
part_fit (suc levels) zero values low t later h l = absurd (omega (arith, low))
part_fit (suc levels) (suc n) values low t later h l =
    let ms = members_in t in
    let parts = both_true (is_object (has_part values) t) (list_all (is_part levels values) (sub_parts t)) h in
    let fit = part_is values ms (in_object (has_part values) t parts.0) in
    elim (part.is_multipart ms) as (λ v. part.is_multipart ms ≡ v → AreFit (suc n) (cond v (multipart_with (part_before levels values) ms later) (leaf (head_of ms) (body_of values ms) later))) [
      | true ↦ λ e. (fit.head, fit.several ∙ e, each_fit levels n values (part_fit levels n values (omega (arith, low))) (sub_parts t) none parts.1 tt, l)
      | false ↦ λ e. (fit.head, fit.several ∙ e, l)
    ] refl

-- ---- the parts of lists

plain_fit : IsFitHead (plain_head (codes "text") (codes "plain") (Some (codes "utf-8")))
plain_fit = record {
  main = record { some = omega arith; each = refl };
  sub = record { some = omega arith; each = refl };
  charset = record { some = omega arith; each = refl };
  name = tt;
  disposition = tt;
  cid = tt;
  language = tt;
  location = tt;
}

mixed_fit : IsFitHead (plain_head (codes "multipart") (codes "mixed") None)
mixed_fit = record {
  main = record { some = omega arith; each = refl };
  sub = record { some = omega arith; each = refl };
  charset = tt;
  name = tt;
  disposition = tt;
  cid = tt;
  language = tt;
  location = tt;
}

alternative_fit : IsFitHead (plain_head (codes "multipart") (codes "alternative") None)
alternative_fit = record {
  main = record { some = omega arith; each = refl };
  sub = record { some = omega arith; each = refl };
  charset = tt;
  name = tt;
  disposition = tt;
  cid = tt;
  language = tt;
  location = tt;
}

abbrev IsFlat : List (List ℕ × Tree) → Tree → Type 0
IsFlat values t = is_part 1 values t ≡ true

text_fit : (n : ℕ) (values : List (List ℕ × Tree)) (t h : Option Tree) (later : DraftParts) → 1 ≤ n → IfThere (IsFlat values) t → IfThere (IsFlat values) h
    → AreFit (suc n) later → AreFit (suc n) (text_before values t h later)
text_fit n values None None later low a b l = (plain_fit, refl, l)
text_fit n values (Some t) None later low a b l = part_fit 1 (suc n) values (omega arith) t later a l
text_fit n values None (Some h) later low a b l = part_fit 1 (suc n) values (omega arith) h later b l
text_fit n values (Some t) (Some h) later low a b l =
    (alternative_fit, refl, part_fit 1 n values low t (part_before 1 values h none) a (part_fit 1 n values low h none b tt), l)

lists_fit : (values : List (List ℕ × Tree)) (t h : Option Tree) (attached : List Tree) → IfThere (IsFlat values) t → IfThere (IsFlat values) h
    → list_all (is_part 1 values) attached ≡ true → AreFit 32 (with_attached values t h attached)
lists_fit values t h attached a b c = elim (eqb (length attached) 0) as (λ v. AreFit 32 (cond v (text_before values t h none) (mixed_before values t h attached))) [
  | true ↦ text_fit 31 values t h none (omega arith) a b tt
  | false ↦ (
    mixed_fit,
    refl,
    text_fit 30 values t h (each_before (part_before 1 values) attached none) (omega arith) a b
        (each_fit 1 31 values (part_fit 1 31 values (omega arith)) attached none c tt),
    tt,
  )
]

-- ---- how many there are

none_within : (values : List (List ℕ × Tree)) (ts : List Tree) → each_before (part_before 0 values) ts none ≡ none
none_within values [] = refl
none_within values (t ∷ ts) = none_within values ts

flat_count : (values : List (List ℕ × Tree)) (t : Tree) (later : DraftParts) → part_count (part_before 1 values t later) ≡ 1 + part_count later
flat_count values t later =
    let ms = members_in t in
    let inner : part_count (each_before (part_before 0 values) (sub_parts t) none) ≡ 0 = ap part_count (none_within values (sub_parts t)) in
    elim (part.is_multipart ms) as (λ v. part_count (cond v (multipart_with (part_before 0 values) ms later) (leaf (head_of ms) (body_of values ms) later)) ≡ 1 + part_count later) [
      | true ↦ ap (λ n. 1 + (n + part_count later)) inner ∙ omega arith
      | false ↦ refl
    ]

text_count : (values : List (List ℕ × Tree)) (t h : Option Tree) → part_count (text_before values t h none) ≤ 1000
text_count values None None = omega arith
text_count values (Some t) None = omega (arith, flat_count values t none)
text_count values None (Some h) = omega (arith, flat_count values h none)
text_count values (Some t) (Some h) = omega (arith, flat_count values t (part_before 1 values h none), flat_count values h none)

-- ---- what is good

pub some_none : (x : List ℕ) (xs : List (List ℕ)) → x ∷ xs ≡ [] → ⊥
some_none x xs e = cc

found_good : (ms later : List (List ℕ × Tree)) (name : List ℕ) (t : Tree) → bad_among ms later ≡ [] → find name later ≡ Some t → is_good ms name t ≡ true
found_good ms [] name t h e = absurd (none-some t e)
found_good ms (m ∷ later) name t h e =
    elim (is_good ms m.0 m.1) as (λ v. is_good ms m.0 m.1 ≡ v → cond v (bad_among ms later) (m.0 ∷ bad_among ms later) ≡ [] → is_good ms name t ≡ true) [
      | true ↦ λ g k. elim (bytes_eq m.0 name) as (λ w. bytes_eq m.0 name ≡ w → cond w (Some m.1) (find name later) ≡ Some t → is_good ms name t ≡ true) [
        | true ↦ λ s f. ap (λ x. is_good ms x t) (sym ((bytes_eq-Decides m.0 name).0 s)) ∙ ap (λ x. is_good ms m.0 x) (sym (same_Some m.1 t f)) ∙ g
        | false ↦ λ _ f. found_good ms later name t k f
      ] refl e
      | false ↦ λ _ k. absurd (some_none m.0 (bad_among ms later) k)
    ] refl h

pub good_at : (ms : List (List ℕ × Tree)) (name : List ℕ) (t : Tree) → bad_names ms ≡ [] → find name ms ≡ Some t → is_good ms name t ≡ true
good_at ms name t h e = found_good ms ms name t h e

-- ---- the structure of a draft

one_flat : (values : List (List ℕ × Tree)) (type : List ℕ) (ts : List Tree) → is_one values type ts ≡ true → IfThere (IsFlat values) (first_of ts)
one_flat values type [] h = tt
one_flat values type (t ∷ ts) h =
    let a = both_true (eqb (length ts) 0) (is_part 1 values t && has_type type t) h in
    (both_true (is_part 1 values t) (has_type type t) a.1).0

pub in_list : (rule : Tree → Bool) (t : Tree) → is_list rule t ≡ true → list_all rule (list_items t) ≡ true
in_list rule null h = refl
in_list rule (boolean b) h = refl
in_list rule (number z) h = refl
in_list rule (text s) h = refl
in_list rule (list ts) h = h
in_list rule (object fs) h = refl

each_flat : (values : List (List ℕ × Tree)) (ts : List Tree) → list_all (is_attachment values) ts ≡ true → list_all (is_part 1 values) ts ≡ true
each_flat values [] h = refl
each_flat values (t ∷ ts) h =
    let a = both_true (is_attachment values t) (list_all (is_attachment values) ts) h in
    rw ((both_true (is_part 1 values t) (has_blob t) a.0).0) (each_flat values ts a.1)

pub record IsFitStructure (ms : List (List ℕ × Tree)) : Type 0 where
  pub fit : AreFit 32 (structure_in ms)
  pub few : part_count (structure_in ms) ≤ 1000

-- what is sent as text, as HTML and as attachments, when no structure is
few_when : (ms : List (List ℕ × Tree)) → has_few_parts ms ≡ true → part_count (structure_in ms) ≤ 1000
few_when ms h = leb-true (part_count (structure_in ms)) 1000 h

record IsFitWith (ms : List (List ℕ × Tree)) (o : Option Tree) : Type 0 where
  fit : AreFit 32 (structure_with ms o)
  few : part_count (structure_with ms o) ≤ 1000

body_flat : (ms : List (List ℕ × Tree)) (type : List ℕ) (o : Option Tree) → IfThere (λ t. is_body ms type t ≡ true) o → IfThere (IsFlat (values_in ms)) (first_of (items_in o))
body_flat ms type None h = tt
body_flat ms type (Some t) h = one_flat (values_in ms) type (list_items t) (both_true (has_lists ms) (is_one (values_in ms) type (list_items t)) h).1

-- a property that is sent is good
pub sent_good : (ms : List (List ℕ × Tree)) (name : List ℕ) (P : Tree → Type 0) → bad_names ms ≡ [] → ((t : Tree) → is_good ms name t ≡ true → P t) → (o : Option Tree) → find name ms ≡ o
    → IfThere P o
sent_good ms name P h by None e = tt
sent_good ms name P h by (Some t) e = by t (good_at ms name t h e)

of_lists : (ms : List (List ℕ × Tree)) (o : Option Tree) → bad_names ms ≡ [] → find (codes "bodyStructure") ms ≡ None → find (codes "attachments") ms ≡ o → IsFitWith ms None
of_lists ms o h absent e =
    let values = values_in ms in
    let t = find (codes "textBody") ms in
    let w = find (codes "htmlBody") ms in
    let text = body_flat ms (codes "text/plain") t (sent_good ms (codes "textBody") (λ x. is_body ms (codes "text/plain") x ≡ true) h (λ x k. k) t refl) in
    let html = body_flat ms (codes "text/html") w (sent_good ms (codes "htmlBody") (λ x. is_body ms (codes "text/html") x ≡ true) h (λ x k. k) w refl) in
    elim o as (λ z. find (codes "attachments") ms ≡ z → IsFitWith ms None) [
      | None ↦ λ f. record {
        fit = lists_fit values (first_part (codes "textBody") ms) (first_part (codes "htmlBody") ms) (items_in (find (codes "attachments") ms)) text html
            (ap (λ z. list_all (is_part 1 values) (items_in z)) f);
        few = subst (λ z. part_count (with_attached values (first_part (codes "textBody") ms) (first_part (codes "htmlBody") ms) (items_in z)) ≤ 1000) (sym f)
            (text_count values (first_part (codes "textBody") ms) (first_part (codes "htmlBody") ms));
      }
      | Some a ↦ λ f.
          let good = both_true (has_lists ms) (is_list (is_attachment values) a && has_few_parts ms) (good_at ms (codes "attachments") a h f) in
          let parts = both_true (is_list (is_attachment values) a) (has_few_parts ms) good.1 in
          record {
            fit = lists_fit values (first_part (codes "textBody") ms) (first_part (codes "htmlBody") ms) (items_in (find (codes "attachments") ms)) text html
                (ap (λ z. list_all (is_part 1 values) (items_in z)) f ∙ each_flat values (list_items a) (in_list (is_attachment values) a parts.0));
            few = subst (λ z. part_count (structure_with ms z) ≤ 1000) absent (few_when ms parts.1);
          }
    ] e

whole_fit : (ms : List (List ℕ × Tree)) (t : Tree) → is_whole (values_in ms) t ≡ true → AreFit 32 (whole_part (values_in ms) t)
unfolding whole_part is_whole
whole_fit ms t h = part_fit 32 32 (values_in ms) (omega arith) t none h tt

of_structure : (ms : List (List ℕ × Tree)) (o : Option Tree) → bad_names ms ≡ [] → find (codes "bodyStructure") ms ≡ o → IsFitWith ms o
of_structure ms None h e = of_lists ms (find (codes "attachments") ms) h e refl
of_structure ms (Some t) h e =
    let parts = both_true (is_whole (values_in ms) t) (has_few_parts ms) (good_at ms (codes "bodyStructure") t h e) in
    record {
      fit = whole_fit ms t parts.0;
      few = subst (λ z. part_count (structure_with ms z) ≤ 1000) e (few_when ms parts.1);
    }

pub structure_fit : (ms : List (List ℕ × Tree)) → bad_names ms ≡ [] → IsFitStructure ms
structure_fit ms h =
    let all = of_structure ms (find (codes "bodyStructure") ms) h refl in
    record { fit = all.fit; few = all.few }
