-- What filters say of mailboxes, and sorts of the time received.
use Rattle.std.proofs.Common.{◌≡◌, ℕ, ◌+◌, ◌<◌, ◌≤◌, arith, length, drop, get_or, IfSome, Bool, true, false, ◌&&◌, if◌then◌else◌, cond, eqb, List, [], ◌∷◌, map, Option, Some, None, option_map, refl, sym, ap, ◌∙◌, subst, ◌⊎◌, inl, inr, ⊎_elim, bytes_eq, codes}
use Rattle.std.specs.Prelude.{option_and_then}
use Rattle.std.proofs.lemmas.List.{drop_more}
use Rattle.std.specs.List.{list_all}
use Rattle.std.proofs.lemmas.Bool.{and_parts, cases_Bool, true≢false}
use Rattle.std.proofs.lemmas.Slice.Eq.{bytes_eq-Decides}
use Rattle.jm_base.specs.declared.identifiers.Kind.TheVariants.{Email as OfEmails}
use Rattle.jm_json.specs.Find.{as_list, as_object, as_text, find, list_of, pairs_of}
use Rattle.jm_json.specs.Tree.{Tree, null, boolean, number, text, list, object, Trees, no_trees, tree, Fields, no_fields, field}
use Rattle.mail_counts.specs.Counts.{is_in}
use Rattle.method_args.specs.Arguments.{passes, text_in}
use Rattle.filter_terms.specs.EmailTerms.{is_in_mailbox, is_mailbox_id}
use Rattle.filter_terms.specs.Filters.{by_operator, conditions_match, holds, items_match, joined, if_joined, list_matches, member_holds, members_hold}
use Rattle.filter_terms.specs.Names.{operator_named, operator_of}
use Rattle.filter_terms.specs.Targets.{AnEmail, EmailInThread, Target}
use Rattle.filter_terms.specs.Texts.{MessageTexts}
use Rattle.filter_terms.specs.declared.terms.Operator.TheVariants.{And}
use Rattle.filter_terms.proofs.Lists.{any_same}
use Rattle.sort_terms.specs.Forms.{comparator_in, comparator_with, comparators_from, comparators_of, if_any, is_ascending, keyword_in}
use Rattle.sort_terms.specs.Properties.{property_named}
use Rattle.sort_terms.specs.declared.properties.Property.TheVariants.{ReceivedAt}
use Rattle.query_engine.specs.Walks.{IsAmong, IsInMailbox, IsSortedByReceived, JoinsMailbox, NamesMailbox, is_conjunction, received_by}

some_same : {X : Type 0} (x y : X) → ◌≡◌ {A = Option X} (Some x) (Some y) → x ≡ y
some_same x y e = cc

never_some : {X : Type 0} (x : X) → ◌≡◌ {A = Option X} None (Some x) → ⊥
never_some x e = cc

and_then_some : {X Y : Type 0} (f : X → Option Y) (o : Option X) (y : Y) → option_and_then f o ≡ Some y → (x : X) × (o ≡ Some x) × (f x ≡ Some y)
and_then_some f None y e = absurd (never_some y e)
and_then_some f (Some x) y e = (x, refl, e)

-- ---- members

member_says : (x : Target) (fs : Fields) (name : List ℕ) (t : Tree) → members_hold OfEmails x fs ≡ true → find name (pairs_of fs) ≡ Some t → member_holds OfEmails x name t ≡ true
member_says x no_fields name t h e = absurd (never_some t e)
member_says x (field k s fs) name t h e =
    let both = and_parts (member_holds OfEmails x k s) (members_hold OfEmails x fs) h in
    ⊎_elim
    (λ (b : bytes_eq k name ≡ true).
    let same : k ≡ name = (bytes_eq-Decides k name).0 b in
    let value : s ≡ t = some_same s t (sym (ap (λ c. cond c (Some s) (find name (pairs_of fs))) b) ∙ e) in
    subst (λ v. member_holds OfEmails x name v ≡ true) value (subst (λ n. member_holds OfEmails x n s ≡ true) same both.0))
    (λ (b : bytes_eq k name ≡ false). member_says x fs name t both.1 (sym (ap (λ c. cond c (Some s) (find name (pairs_of fs))) b) ∙ e))
    (cases_Bool (bytes_eq k name))

conditions_found : (x : Target) (fs : Fields) (t : Tree) → find (codes "conditions") (pairs_of fs) ≡ Some t → conditions_match OfEmails x fs ≡ list_matches OfEmails x t
conditions_found x no_fields t e = absurd (never_some t e)
conditions_found x (field k s fs) t e =
    ⊎_elim
    (λ (b : bytes_eq k (codes "conditions") ≡ true).
    let value : s ≡ t = some_same s t (sym (ap (λ c. cond c (Some s) (find (codes "conditions") (pairs_of fs))) b) ∙ e) in
    ap (λ c. cond c (list_matches OfEmails x s) (conditions_match OfEmails x fs)) b ∙ ap (list_matches OfEmails x) value)
    (λ (b : bytes_eq k (codes "conditions") ≡ false).
    ap (λ c. cond c (list_matches OfEmails x s) (conditions_match OfEmails x fs)) b
    ∙ conditions_found x fs t (sym (ap (λ c. cond c (Some s) (find (codes "conditions") (pairs_of fs))) b) ∙ e))
    (cases_Bool (bytes_eq k (codes "conditions")))

object_of : (t : Tree) (ms : List (List ℕ × Tree)) → as_object t ≡ Some ms → (fs : Fields) × (t ≡ object fs) × (pairs_of fs ≡ ms)
object_of null ms e = absurd (never_some ms e)
object_of (boolean b) ms e = absurd (never_some ms e)
object_of (number z) ms e = absurd (never_some ms e)
object_of (text s) ms e = absurd (never_some ms e)
object_of (list ts) ms e = absurd (never_some ms e)
object_of (object fs) ms e = (fs, refl, some_same (pairs_of fs) ms e)

list_in : (t : Tree) (ts : List Tree) → as_list t ≡ Some ts → (us : Trees) × (t ≡ list us) × (list_of us ≡ ts)
list_in null ts e = absurd (never_some ts e)
list_in (boolean b) ts e = absurd (never_some ts e)
list_in (number z) ts e = absurd (never_some ts e)
list_in (text s) ts e = absurd (never_some ts e)
list_in (list us) ts e = (us, refl, some_same (list_of us) ts e)
list_in (object fs) ts e = absurd (never_some ts e)

-- ---- filters

named_in : (fs : Fields) (mailbox : ℕ) → NamesMailbox (pairs_of fs) mailbox → IsInMailbox (object fs) mailbox
named_in fs mailbox names texts s h =
    let x : Target = AnEmail texts s in
    let all : members_hold OfEmails x fs ≡ true =
    sym (ap (λ o. by_operator o (conditions_match OfEmails x fs) (members_hold OfEmails x fs)) names.condition) ∙ h in
    let value = and_then_some as_text (find (codes "inMailbox") (pairs_of fs)) names.id names.named in
    let says : passes (λ id. is_in_mailbox id s.email) (as_text value.0) ≡ true = member_says x fs (codes "inMailbox") value.0 all value.1 in
    let inside : is_in_mailbox names.id s.email ≡ true = sym (ap (passes (λ id. is_in_mailbox id s.email)) value.2) ∙ says in
    sym (any_same (λ m. is_mailbox_id names.id m) (λ m. eqb m mailbox) (s.email).mailboxes names.number) ∙ inside

pub within_condition : (t : Tree) (ms : List (List ℕ × Tree)) (mailbox : ℕ) → as_object t ≡ Some ms → NamesMailbox ms mailbox → IsInMailbox t mailbox
within_condition t ms mailbox e names =
    let w = object_of t ms e in
    subst (λ u. IsInMailbox u mailbox) (sym w.1) (named_in w.0 mailbox (subst (λ ps. NamesMailbox ps mailbox) (sym w.2) names))

one_says : (texts : ℕ → MessageTexts) (s : EmailInThread) (us : Trees) (mailbox : ℕ) → IsAmong mailbox (list_of us) → list_all (λ b. b) (items_match OfEmails (AnEmail texts s) us) ≡ true → is_in mailbox s.email ≡ true
one_says texts s no_trees mailbox i h = absurd i
one_says texts s (tree t us) mailbox (inl f) h = f texts s (and_parts (holds OfEmails (AnEmail texts s) t) (list_all (λ b. b) (items_match OfEmails (AnEmail texts s) us)) h).0
one_says texts s (tree t us) mailbox (inr i) h = one_says texts s us mailbox i (and_parts (holds OfEmails (AnEmail texts s) t) (list_all (λ b. b) (items_match OfEmails (AnEmail texts s) us)) h).1

passes_some : (p : List ℕ → Bool) (o : Option (List ℕ)) → passes p o ≡ true → (x : List ℕ) × (o ≡ Some x) × (p x ≡ true)
passes_some p None e = absurd (true≢false (sym e))
passes_some p (Some x) e = (x, refl, e)

named_and : (t : Tree) → as_text t ≡ Some (codes "AND") → operator_of t ≡ Some And
named_and t e = ap (option_and_then operator_named) e

joined_in : (fs : Fields) (mailbox : ℕ) → is_conjunction (pairs_of fs) ≡ true → JoinsMailbox (pairs_of fs) mailbox → IsInMailbox (object fs) mailbox
joined_in fs mailbox and joins texts s h =
    let x : Target = AnEmail texts s in
    let word = passes_some (λ name. bytes_eq name (codes "AND")) (text_in (codes "operator") (pairs_of fs)) and in
    let op = and_then_some as_text (find (codes "operator") (pairs_of fs)) word.0 word.1 in
    let name : as_text op.0 ≡ Some (codes "AND") = op.2 ∙ ap Some ((bytes_eq-Decides word.0 (codes "AND")).0 word.2) in
    let is : operator_of op.0 ≡ Some And = named_and op.0 name in
    let lists = list_in joins.conditions joins.filters joins.listed in
    let says : conditions_match OfEmails x fs ≡ items_match OfEmails x lists.0 = conditions_found x fs joins.conditions joins.found ∙ ap (list_matches OfEmails x) lists.1 in
    let all : list_all (λ b. b) (items_match OfEmails x lists.0) ≡ true =
    sym
    (ap (λ o. by_operator o (conditions_match OfEmails x fs) (members_hold OfEmails x fs)) op.1
    ∙ (ap (λ o. if_joined o (conditions_match OfEmails x fs)) is ∙ ap (joined And) says))
    ∙ h in
    one_says texts s lists.0 mailbox (subst (IsAmong mailbox) (sym lists.2) joins.among) all

pub within_conjunction : (t : Tree) (ms : List (List ℕ × Tree)) (mailbox : ℕ) → as_object t ≡ Some ms → is_conjunction ms ≡ true → JoinsMailbox ms mailbox → IsInMailbox t mailbox
within_conjunction t ms mailbox e and joins =
    let w = object_of t ms e in
    subst (λ u. IsInMailbox u mailbox) (sym w.1)
    (joined_in w.0 mailbox (ap is_conjunction w.2 ∙ and) (subst (λ ps. JoinsMailbox ps mailbox) (sym w.2) joins))

-- ---- sorts

received_word : (name : List ℕ) (up asc : Bool) → (if bytes_eq name (codes "receivedAt") then Some up else None) ≡ Some asc → (name ≡ codes "receivedAt") × (up ≡ asc)
received_word name up asc e =
    ⊎_elim
    (λ (b : bytes_eq name (codes "receivedAt") ≡ true).
    ((bytes_eq-Decides name (codes "receivedAt")).0 b, some_same up asc (sym (ap (λ c. cond c (Some up) None) b) ∙ e)))
    (λ (b : bytes_eq name (codes "receivedAt") ≡ false). absurd (never_some asc (sym (ap (λ c. cond c (Some up) None) b) ∙ e)))
    (cases_Bool (bytes_eq name (codes "receivedAt")))

pub sorted_by_received : (t only : Tree) (asc : Bool) → as_list t ≡ Some (only ∷ []) → option_and_then received_by (as_object only) ≡ Some asc → IsSortedByReceived t asc
sorted_by_received t only asc e r =
    let lists = list_in t (only ∷ []) e in
    let ms = and_then_some received_by (as_object only) asc r in
    let word = and_then_some (λ name. if bytes_eq name (codes "receivedAt") then Some (is_ascending ms.0) else None) (text_in (codes "property") ms.0) asc ms.2 in
    let both = received_word word.0 (is_ascending ms.0) asc word.2 in
    record {
      keyword = keyword_in ms.0;
      order =
          ap (comparators_of OfEmails) lists.1
          ∙ (ap (comparators_from OfEmails) lists.2
          ∙ (ap (λ o. if_any (option_and_then (comparator_in OfEmails) o) []) ms.1
          ∙ (ap (λ o. if_any (option_map (comparator_with ms.0) (option_and_then (property_named OfEmails) o)) []) (word.1 ∙ ap Some both.0)
          ∙ ap (λ up. record { property = ReceivedAt; ascending = up; keyword = keyword_in ms.0 } ∷ []) both.1)));
    }

pub sorted_if : (t only : Tree) (o : Option Bool) → as_list t ≡ Some (only ∷ []) → o ≡ option_and_then received_by (as_object only) → IfSome o (λ asc. IsSortedByReceived t asc)
sorted_if t only None e r = tt
sorted_if t only (Some asc) e r = sorted_by_received t only asc e (sym r)

pub among_at : {X : Type 0} (f : X → Tree) (m : ℕ) (xs : List X) (i : ℕ) (x : X) → i < length xs → x ≡ get_or xs i x → IsInMailbox (f x) m → IsAmong m (map f (drop i xs))
among_at f m xs i x lt is within = subst (λ ys. IsAmong m (map f ys)) (sym (drop_more xs i x lt ∙ ap (λ z. z ∷ drop (i + 1) xs) (sym is))) (inl within)

pub among_next : {X : Type 0} (f : X → Tree) (m : ℕ) (xs : List X) (i : ℕ) (x : X) → i < length xs → IsAmong m (map f (drop (i + 1) xs)) → IsAmong m (map f (drop i xs))
among_next f m xs i x lt among = subst (λ ys. IsAmong m (map f ys)) (sym (drop_more xs i x lt)) (inr among)

single : {X : Type 0} (xs : List X) (x : X) → 1 ≤ length xs → length xs < 2 → x ≡ get_or xs 0 x → xs ≡ x ∷ []
single [] x a b e = absurd (omega (arith, a))
single (y ∷ []) x a b e = ap (λ z. z ∷ []) (sym e)
single (y ∷ z ∷ zs) x a b e = absurd (omega (arith, b))

pub received_by_one : {B J : Type 0} (f : B → List Tree) (h : J → Tree) (o : Option B) (b : B) (t : Tree) (xs : List J) (x : J) (r : Option Bool)
    → option_map f o ≡ as_list t → o ≡ Some b → map h xs ≡ f b → 1 ≤ length xs → length xs < 2 → x ≡ get_or xs 0 x
    → r ≡ option_and_then received_by (as_object (h x)) → IfSome r (λ asc. IsSortedByReceived t asc)
received_by_one f h o b t xs x r listed is items least most one e =
    sorted_if t (h x) r (sym listed ∙ (ap (option_map f) is ∙ ap Some (sym items ∙ ap (map h) (single xs x least most one)))) e
