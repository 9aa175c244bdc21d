-- What the form of a draft says of the head of a part.
use Rattle.std.proofs.Common.{◌≡◌, ℕ, ◌<◌, Bool, true, false, cond, eqb, leb, ◌&&◌, List, [], ◌∷◌, ◌++◌, length, map, take, get_or, Option, None, Some, codes, refl, sym, ap, ◌∙◌, arith}
use Rattle.std.specs.Prelude.{option_and_then, unwrap_or}
use Rattle.std.specs.List.{AllByRecursion, list_all, position_or_len, before_first, after_first}
use Rattle.std.specs.Cmp.Lexicographic.{pointwise}
use Rattle.std.specs.Char.{to_ascii_lowercase}
use Rattle.std.proofs.lemmas.Bool.{true≢false, eqb-true, ltb-true, eqb-false, ne_eqb}
use Rattle.std.proofs.lemmas.List.Sums.{passes_at_first, split_at_first}
use lib.Dec.{ltb}
use Rattle.std.proofs.Math.Dec.{leb-suc-suc, leb-suc-zero, leb-zero}
use Rattle.mime_lines.specs.FieldOffsets.{lowered}
use Rattle.mime_lines.proofs.Unfolds.{both_true}
use Rattle.mime_type.specs.Content.{is_multipart}
use Rattle.mime_type.specs.Characters.{is_token}
use Rattle.mime_type.specs.HeadText.{AreTags, IfThere, IsLabel, is_label_character}
use Rattle.mime_type.specs.TypeText.{IsToken}
use Rattle.jm_json.specs.Tree.{Tree, null, boolean, number, text, list, object}
use Rattle.jm_json.specs.Find.{as_text, find, list_of}
use Rattle.draft_form.specs.Members.{is_given, is_some_list, is_text, optional, required, string_of, text_at, texts_in}
use Rattle.draft_form.specs.Names.{begins_with}
use Rattle.draft_form.specs.Parts.{are_tokens, at_slash, charset_of, has_labels, has_part, head_of, holds, is_slash, is_type, language_of, main_of, part_names, sub_of, type_of}
use Rattle.draft_form.specs.Parts as part
use Rattle.draft_form.specs.Members.{has_names}
use Rattle.draft_form.specs.Texts.{are_some, keeps}
use Rattle.draft_form.specs.declared.texts.TextRule.{TextRule}
use Rattle.draft_form.specs.declared.texts.TextRule.TheVariants.{Label, Shown, Token}
use Rattle.draft_writer.proofs.HeadsBack.{IsFitHead, IsShownText}
use Rattle.draft_writer.proofs.PartsBack.{media}

-- ---- strings

pub some_of : (class : ℕ → Bool) (s : List ℕ) → are_some class s ≡ true → (0 < length s) × (list_all class s ≡ true)
some_of class s h =
    let parts = both_true (ltb 0 (length s)) (list_all class s) h in
    (ltb-true 0 (length s) parts.0, parts.1)

token_of : (s : List ℕ) → keeps Token s ≡ true → IsToken s
token_of s h =
    let parts = some_of is_token s h in
    record { some = parts.0; each = parts.1 }

label_of : (s : List ℕ) → keeps Label s ≡ true → IsLabel s
label_of s h =
    let parts = some_of is_label_character s (both_true (leb (length s) 900) (are_some is_label_character s) h).1 in
    record { some = parts.0; each = parts.1 }

pub text_in : (rule : TextRule) (P : List ℕ → Type 0) → ((s : List ℕ) → keeps rule s ≡ true → P s) → (o : Option Tree) → optional (is_text rule) o ≡ true
    → IfThere P (option_and_then as_text o)
text_in rule P by None h = tt
text_in rule P by (Some null) h = tt
text_in rule P by (Some (boolean b)) h = tt
text_in rule P by (Some (number z)) h = tt
text_in rule P by (Some (text s)) h = by s h
text_in rule P by (Some (list ts)) h = tt
text_in rule P by (Some (object fs)) h = tt

pub each_text : (rule : TextRule) (P : List ℕ → Type 0) → ((s : List ℕ) → keeps rule s ≡ true → P s) → (ts : List Tree) → list_all (is_text rule) ts ≡ true
    → AllByRecursion P (texts_in ts)
each_text rule P by [] h = tt
each_text rule P by (t ∷ ts) h =
    let parts = both_true (is_text rule t) (list_all (is_text rule) ts) h in
    (one_text t parts.0, each_text rule P by ts parts.1)
  where
    one_text : (t : Tree) → is_text rule t ≡ true → P (string_of t)
    one_text null h = absurd (true≢false (sym h))
    one_text (boolean b) h = absurd (true≢false (sym h))
    one_text (number z) h = absurd (true≢false (sym h))
    one_text (text s) h = by s h
    one_text (list ts) h = absurd (true≢false (sym h))
    one_text (object fs) h = absurd (true≢false (sym h))

pub some_texts : (ts : List Tree) → 0 < length ts → 0 < length (texts_in ts)
some_texts [] h = h
some_texts (t ∷ ts) h = omega arith

tags_in : (o : Option Tree) → optional (is_some_list (is_text Token)) o ≡ true → IfThere AreTags (language_of o)
tags_in None h = tt
tags_in (Some null) h = tt
tags_in (Some (boolean b)) h = tt
tags_in (Some (number z)) h = tt
tags_in (Some (text s)) h = tt
tags_in (Some (list ts)) h =
    let parts = both_true (ltb 0 (length (list_of ts))) (list_all (is_text Token) (list_of ts)) h in
    record { some = some_texts (list_of ts) (ltb-true 0 (length (list_of ts)) parts.0); each = each_text Token IsToken token_of (list_of ts) parts.1 }
tags_in (Some (object fs)) h = tt

-- ---- types

type_good : (o : Option Tree) → required is_type o ≡ true → are_tokens (at_slash (unwrap_or (option_and_then as_text o) [])) ≡ true
type_good None h = absurd (true≢false (sym h))
type_good (Some null) h = absurd (true≢false (sym h))
type_good (Some (boolean b)) h = absurd (true≢false (sym h))
type_good (Some (number z)) h = absurd (true≢false (sym h))
type_good (Some (text s)) h = h
type_good (Some (list ts)) h = absurd (true≢false (sym h))
type_good (Some (object fs)) h = absurd (true≢false (sym h))

record IsCut (s front back : List ℕ) : Type 0 where
  main : IsToken front
  sub : IsToken back
  is : s ≡ front ++ 47 ∷ back

type_cut : (s : List ℕ) → are_tokens (at_slash s) ≡ true → IsCut s (main_of (at_slash s)) (sub_of (at_slash s))
type_cut s h =
    let p = position_or_len is_slash s in
    let x : List ℕ × List ℕ = (before_first is_slash s, after_first is_slash s) in
    elim (ltb p (length s)) as (λ v. ltb p (length s) ≡ v → are_tokens (cond v (Some x) None) ≡ true → IsCut s (main_of (cond v (Some x) None)) (sub_of (cond v (Some x) None))) [
      | true ↦ λ e k.
          let tokens = both_true (keeps Token x.0) (keeps Token x.1) k in
          let low = ltb-true p (length s) e in
          let slash : get_or s p 0 ≡ 47 = eqb-true (get_or s p 0) 47 (passes_at_first is_slash s 0 low) in
          record {
            main = token_of x.0 tokens.0;
            sub = token_of x.1 tokens.1;
            is = split_at_first is_slash s 0 low ∙ ap (λ b. before_first is_slash s ++ b ∷ after_first is_slash s) slash;
          }
      | false ↦ λ _ k. absurd (true≢false (sym k))
    ] refl h

eqb_swap : (a b : ℕ) → eqb a b ≡ eqb b a
eqb_swap a b = elim (eqb b a) as (λ v. eqb b a ≡ v → eqb a b ≡ v) [
  | true ↦ λ e. ap (λ x. eqb a x) (eqb-true b a e) ∙ same a
  | false ↦ λ e. ne_eqb a b (λ s. eqb-false b a e (sym s))
] refl
  where
    same : (a : ℕ) → eqb a a ≡ true
    same a = elim (eqb a a) as (λ v. eqb a a ≡ v → v ≡ true) [ true ↦ λ _. refl | false ↦ λ e. absurd (eqb-false a a e refl) ] refl

pub front_is : (m s : List ℕ) → pointwise eqb m (take (length m) (map to_ascii_lowercase s)) ≡ (leb (length m) (length s) && pointwise eqb (map to_ascii_lowercase (take (length m) s)) m)
front_is [] s = sym (ap (λ v. v && true) (leb-zero (length s)))
front_is (x ∷ xs) [] = sym (ap (λ v. v && false) (leb-suc-zero (length xs)))
front_is (x ∷ xs) (b ∷ bs) =
    let l = leb (length xs) (length bs) in
    let p = pointwise eqb (map to_ascii_lowercase (take (length xs) bs)) xs in
    ap (λ v. v && pointwise eqb xs (take (length xs) (map to_ascii_lowercase bs))) (eqb_swap x (to_ascii_lowercase b))
    ∙ ap (λ v. eqb (to_ascii_lowercase b) x && v) (front_is xs bs)
    ∙ turned (eqb (to_ascii_lowercase b) x) l p
    ∙ ap (λ v. v && (eqb (to_ascii_lowercase b) x && p)) (sym (leb-suc-suc (length xs) (length bs)))
  where
    turned : (a l p : Bool) → (a && (l && p)) ≡ (l && (a && p))
    turned true l p = refl
    turned false true p = refl
    turned false false p = refl

multipart_is : (s : List ℕ) → is_multipart (lowered s) ≡ begins_with (codes "multipart/") s
multipart_is s = front_is (codes "multipart/") s

-- ---- heads

pub record IsPartOf (ms : List (List ℕ × Tree)) : Type 0 where
  pub head : IsFitHead (head_of ms)
  pub several : is_multipart (media (head_of ms)) ≡ part.is_multipart ms

charset_fit : (ms : List (List ℕ × Tree)) → optional (is_text Token) (find (codes "charset") ms) ≡ true → IfThere IsToken (charset_of ms)
charset_fit ms h = elim (is_given (find (codes "partId") ms)) as (λ v. IfThere IsToken (cond v (Some (codes "utf-8")) (text_at (codes "charset") ms))) [
  | true ↦ record { some = omega arith; each = refl }
  | false ↦ text_in Token IsToken token_of (find (codes "charset") ms) h
]

pub part_is : (values ms : List (List ℕ × Tree)) → has_part values ms ≡ true → IsPartOf ms
part_is values ms h =
    let a = both_true (has_names part_names ms) (required is_type (find (codes "type") ms) && (has_labels ms && holds values ms)) h in
    let b = both_true (required is_type (find (codes "type") ms)) (has_labels ms && holds values ms) a.1 in
    let c = both_true (has_labels ms) (holds values ms) b.1 in
    let label = λ (name : List ℕ). optional (is_text Label) (find name ms) in
    let token = λ (name : List ℕ). optional (is_text Token) (find name ms) in
    let shown = optional (is_text Shown) (find (codes "name") ms) in
    let tags = optional (is_some_list (is_text Token)) (find (codes "language") ms) in
    let l1 = both_true (token (codes "charset")) (token (codes "disposition") && (label (codes "cid") && (label (codes "location") && (shown && tags)))) c.0 in
    let l2 = both_true (token (codes "disposition")) (label (codes "cid") && (label (codes "location") && (shown && tags))) l1.1 in
    let l3 = both_true (label (codes "cid")) (label (codes "location") && (shown && tags)) l2.1 in
    let l4 = both_true (label (codes "location")) (shown && tags) l3.1 in
    let l5 = both_true shown tags l4.1 in
    let cut = type_cut (type_of ms) (type_good (find (codes "type") ms) b.0) in
    record {
      head = record {
        main = cut.main;
        sub = cut.sub;
        charset = charset_fit ms l1.0;
        name = text_in Shown IsShownText (λ s k. k) (find (codes "name") ms) l5.0;
        disposition = text_in Token IsToken token_of (find (codes "disposition") ms) l2.0;
        cid = text_in Label IsLabel label_of (find (codes "cid") ms) l3.0;
        language = tags_in (find (codes "language") ms) l5.1;
        location = text_in Label IsLabel label_of (find (codes "location") ms) l4.0;
      };
      several = ap (λ t. is_multipart (lowered t)) (sym cut.is) ∙ multipart_is (type_of ms);
    }
