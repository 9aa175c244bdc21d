-- What holds of the mailboxes and keywords that an update makes of those of an email.
use Rattle.std.proofs.Common.{◌≡◌, ℕ, ◌≤◌, Bool, true, false, List, [], ◌∷◌, ◌++◌, length, map, nat_lt, Option, Some, None, is_some, unwrap_or, if◌then◌else◌, refl, sym, ap, subst, arith, ltb-false, codes}
use Rattle.std.specs.Ordering.{nat_cmp}
use Rattle.std.specs.Cmp.Lexicographic.{slice_cmp}
use Rattle.std.specs.declared.cmp.Ordering.{Ordering}
use Rattle.jm_json.specs.Tree.{Tree}
use Rattle.jm_json.specs.Find.{as_object}
use Rattle.jm_json.specs.Patch.{Patched, bad_patch, patched, patching_by}
use Rattle.jm_json.specs.declared.invocation.Created.{Created}
use Rattle.mail_counts.specs.Touched.{sorted_once}
use Rattle.mail_counts.specs.declared.limits.TheConstants.{MAX_KEYWORDS_PER_EMAIL}
use Rattle.mail_records.specs.Contents.{Content, mailbox_number}
use Rattle.jm_base.specs.declared.limits.TheConstants.{MAX_MAILBOXES_PER_EMAIL}
use Rattle.set_parts.specs.Names.{keywords_in, mailboxes_in}
use Rattle.set_parts.specs.declared.set_errors.SetError.{SetError}
use Rattle.set_parts.specs.declared.set_errors.SetError.TheVariants.{InvalidPatch, InvalidProperties, TooManyKeywords, TooManyMailboxes}
use Rattle.set_parts.proofs.Parts.{put_some, there, unwrapped}
use Rattle.set_parts.proofs.Sets.{AreKeywords, AreMailboxes, keywords_good, mailboxes_good}
use Rattle.email_set.specs.Patches.{bad_names, filing_tree, fixed_names, meant_changes, name_unless, refiled, refiled_by, refiled_from, refiled_in, refiled_to, refiled_unless, value_of, within_limits}
use Rattle.email_set.specs.declared.filing.Filing.{Filing}
use Rattle.email_set.specs.declared.filing.Refiled.TheVariants.{Rejected, Filed}

-- mailboxes and keywords that an email may have in a content
pub record IsRefiled (c : Content) (f : Filing) : Type 0 where
  pub mailboxes : AreMailboxes c f.mailboxes
  pub few_mailboxes : length f.mailboxes ≤ MAX_MAILBOXES_PER_EMAIL
  pub keywords : AreKeywords f.keywords
  pub few_keywords : length f.keywords ≤ MAX_KEYWORDS_PER_EMAIL

not_filed : (error : SetError) (f : Filing) → Rejected error ≡ Filed f → ⊥
not_filed error f e = cc

same_filed : (f g : Filing) → Filed f ≡ Filed g → f ≡ g
same_filed f g e = cc

-- ---- within the limits

pub record AreFew (f g : Filing) : Type 0 where
  pub same : f ≡ g
  pub keywords : length f.keywords ≤ MAX_KEYWORDS_PER_EMAIL
  pub mailboxes : length f.mailboxes ≤ MAX_MAILBOXES_PER_EMAIL

few_at : (a b : Bool) (f g : Filing) → nat_lt MAX_KEYWORDS_PER_EMAIL (length f.keywords) ≡ a → nat_lt MAX_MAILBOXES_PER_EMAIL (length f.mailboxes) ≡ b
    → (if a then Rejected TooManyKeywords else (if b then Rejected TooManyMailboxes else Filed f)) ≡ Filed g → AreFew f g
few_at true b f g i j e = absurd (not_filed TooManyKeywords g e)
few_at false true f g i j e = absurd (not_filed TooManyMailboxes g e)
few_at false false f g i j e =
    let words = ltb-false MAX_KEYWORDS_PER_EMAIL (length f.keywords) i in
    let boxes = ltb-false MAX_MAILBOXES_PER_EMAIL (length f.mailboxes) j in
    record { same = same_filed f g e; keywords = omega (arith, words); mailboxes = omega (arith, boxes) }

few : (f g : Filing) → within_limits f ≡ Filed g → AreFew f g
few f g e = few_at (nat_lt MAX_KEYWORDS_PER_EMAIL (length f.keywords)) (nat_lt MAX_MAILBOXES_PER_EMAIL (length f.mailboxes)) f g refl refl e

-- ---- no invalid property

none_of : (names : List (List ℕ)) (f g : Filing) → refiled_unless names f ≡ Filed g → (names ≡ []) × (within_limits f ≡ Filed g)
none_of [] f g e = (refl, e)
none_of (n ∷ ns) f g e = absurd (not_filed (InvalidProperties (n ∷ ns)) g e)

sorted_none : {K : Type 0} (R : K → K → Ordering) (xs : List K) → sorted_once R xs ≡ [] → xs ≡ []
sorted_none R [] e = refl
sorted_none R (x ∷ xs) e =
    let some = put_some R x (sorted_once R xs) in
    let none = ap length e in
    absurd (omega (arith, some, none))

right_none : {K : Type 0} (xs ys : List K) → xs ++ ys ≡ [] → ys ≡ []
right_none [] ys e = e
right_none (x ∷ xs) ys e = absurd (let more : (x ∷ (xs ++ ys)) ≡ [] = e in cc)

left_none : {K : Type 0} (xs ys : List K) → xs ++ ys ≡ [] → xs ≡ []
left_none [] ys e = refl
left_none (x ∷ xs) ys e = absurd (let more : (x ∷ (xs ++ ys)) ≡ [] = e in cc)

name_none : {A : Type 0} (o : Option A) (name : List ℕ) → name_unless o name ≡ [] → is_some o ≡ true
name_none None name e = absurd (let more : (name ∷ []) ≡ [] = e in cc)
name_none (Some x) name e = refl

values_there : (ms : List (List ℕ × Tree)) (ks : Option (List (List ℕ))) (bs : Option (List ℕ)) → bad_names ms ks bs ≡ [] → (is_some ks ≡ true) × (is_some bs ≡ true)
values_there ms ks bs e =
    let all = sorted_none (slice_cmp nat_cmp) ((fixed_names ms ++ name_unless ks (codes "keywords")) ++ name_unless bs (codes "mailboxIds")) e in
    let first = left_none (fixed_names ms ++ name_unless ks (codes "keywords")) (name_unless bs (codes "mailboxIds")) all in (
      name_none ks (codes "keywords") (right_none (fixed_names ms) (name_unless ks (codes "keywords")) first),
      name_none bs (codes "mailboxIds") (right_none (fixed_names ms ++ name_unless ks (codes "keywords")) (name_unless bs (codes "mailboxIds")) all),
    )

-- ---- all of it

values_good : (c : Content) (made : List Created) (ms : List (List ℕ × Tree)) (k b : Option Tree) (f : Filing)
    → refiled_to ms (keywords_in k) (mailboxes_in (map mailbox_number c.mailboxes) made b) ≡ Filed f → IsRefiled c f
values_good c made ms k b f e =
    let ks = keywords_in k in
    let bs = mailboxes_in (map mailbox_number c.mailboxes) made b in
    let g : Filing = record { mailboxes = unwrap_or bs []; keywords = unwrap_or ks [] } in
    let none = none_of (bad_names ms ks bs) g f e in
    let both = values_there ms ks bs none.0 in
    let words = there ks both.0 in
    let boxes = there bs both.1 in
    let limits = few g f none.1 in
    let words_are : unwrap_or ks [] ≡ words.0 = unwrapped ks words.0 [] words.1 in
    let boxes_are : unwrap_or bs [] ≡ boxes.0 = unwrapped bs boxes.0 [] boxes.1 in
    subst (IsRefiled c) limits.same
    (record {
      mailboxes = subst (AreMailboxes c) (sym boxes_are) (mailboxes_good c made b boxes.0 boxes.1);
      few_mailboxes = limits.mailboxes;
      keywords = subst AreKeywords (sym words_are) (keywords_good k words.0 words.1);
      few_keywords = limits.keywords;
    })

patched_good : (c : Content) (made : List Created) (ms : List (List ℕ × Tree)) (p : Patched) (f : Filing) → refiled_in (map mailbox_number c.mailboxes) made ms p ≡ Filed f → IsRefiled c f
patched_good c made ms (bad_patch path) f e = absurd (not_filed InvalidPatch f e)
patched_good c made ms (patched t) f e = values_good c made ms (value_of (codes "keywords") t) (value_of (codes "mailboxIds") t) f e

changes_good : (c : Content) (made : List Created) (own : Filing) (ms : List (List ℕ × Tree)) (o : Option (List (List ℕ × Tree))) (f : Filing)
    → refiled_by (map mailbox_number c.mailboxes) made own ms o ≡ Filed f → IsRefiled c f
changes_good c made own ms None f e = absurd (not_filed InvalidPatch f e)
changes_good c made own ms (Some changes) f e = patched_good c made ms (patching_by changes (filing_tree own)) f e

object_good : (c : Content) (made : List Created) (own : Filing) (o : Option (List (List ℕ × Tree))) (f : Filing) → refiled_from (map mailbox_number c.mailboxes) made own o ≡ Filed f → IsRefiled c f
object_good c made own None f e = absurd (not_filed InvalidPatch f e)
object_good c made own (Some ms) f e = changes_good c made own ms (meant_changes made ms) f e

-- what an update makes of an email is what an email may have
pub refiled_good : (c : Content) (made : List Created) (own : Filing) (patch : Tree) (f : Filing) → refiled (map mailbox_number c.mailboxes) made own patch ≡ Filed f → IsRefiled c f
refiled_good c made own patch f e = object_good c made own (as_object patch) f e
