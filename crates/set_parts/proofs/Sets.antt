-- What holds of the mailboxes and keywords that an object names, if they are valid.
use Rattle.std.proofs.Common.{◌≡◌, ℕ, ◌≤◌, Bool, true, false, cond, eqb, List, [], ◌∷◌, ◌++◌, length, map, Option, Some, None, is_some, option_map, option_and_then, refl, sym, ap, ◌∙◌, subst, eq-eqb, append_assoc}
use Rattle.std.specs.List.{AllByRecursion}
use Rattle.std.specs.List.Sorted.{IsStrictlySortedBy}
use Rattle.std.specs.Ordering.{nat_cmp}
use Rattle.std.specs.Cmp.Lexicographic.{slice_cmp, nat_list_cmp_total}
use Rattle.std.specs.Str.{str_to_ascii_lowercase}
use Rattle.std.proofs.lemmas.Option.{none-some, same_Some}
use Rattle.jm_base.specs.declared.identifiers.Kind.TheVariants.{Mailbox as OfMailbox}
use Rattle.jm_json.specs.Tree.{Tree}
use Rattle.jm_json.specs.Find.{as_object}
use Rattle.jm_json.specs.declared.invocation.Created.{Created}
use Rattle.mail_records.specs.Commits.{NumbersRise, TextsRise}
use Rattle.mail_records.specs.Contents.{Content, mailbox_number}
use Rattle.mail_records.specs.Tables.{lookup}
use Rattle.mail_records.specs.declared.records.Mailbox.{Mailbox}
use Rattle.mail_counts.specs.Forms.{is_keyword}
use Rattle.mail_counts.specs.Tidy.{IsThere}
use Rattle.mail_counts.specs.Touched.{rising, sorted_once}
use Rattle.mail_counts.specs.Views.{is_id_of, mailbox_named}
use Rattle.mail_counts.proofs.Sorted.{rise-rising, rise-sorted_once, all_sorted}
use Rattle.set_parts.specs.CreationIds.{identifier, number_meant, number_named}
use Rattle.set_parts.specs.Names.{is_true, keyword_meant, keywords_in, mailboxes_in, meanings, set_in, unless_empty}
use Rattle.set_parts.proofs.Naming.{named_is}
use Rattle.set_parts.proofs.Parts.{bound, mapped, put_some}

-- ---- meanings

module _ {A : Type 0} (f : List ℕ → Option A) (P : A → Type 0) (good : (s : List ℕ) (x : A) → f s ≡ Some x → P x) where
  more_meant : (s : List ℕ) (o : Option (List A)) (xs : List A) → ((ys : List A) → o ≡ Some ys → AllByRecursion P ys)
      → option_and_then (λ x. option_map (λ ys. x ∷ ys) o) (f s) ≡ Some xs → AllByRecursion P xs
  more_meant s o xs all e =
      let x = bound (λ x. option_map (λ ys. x ∷ ys) o) (f s) xs e in
      let ys = mapped (λ ys. x.0 ∷ ys) o xs x.2 in
      subst (AllByRecursion P) ys.2 (good s x.0 x.1, all ys.0 ys.1)

  at_value : (b : Bool) (o : Option (List A)) (xs : List A) → (o ≡ Some xs → AllByRecursion P xs) → cond b o None ≡ Some xs → AllByRecursion P xs
  at_value true o xs h e = h e
  at_value false o xs h e = absurd (none-some xs e)

  all_meant : (ms : List (List ℕ × Tree)) (xs : List A) → meanings f ms ≡ Some xs → AllByRecursion P xs
  all_meant [] xs e = subst (AllByRecursion P) (same_Some [] xs e) tt
  all_meant (m ∷ ms) xs e =
      at_value (is_true m.1) (option_and_then (λ x. option_map (λ ys. x ∷ ys) (meanings f ms)) (f m.0)) xs
      (more_meant m.0 (meanings f ms) xs (all_meant ms)) e

  pub all_in_set : (t : Tree) (xs : List A) → set_in f t ≡ Some xs → AllByRecursion P xs
  all_in_set t xs e = let ms = bound (meanings f) (as_object t) xs e in all_meant ms.0 xs ms.2

mapped_twice : {A : Type 0} (ns : List A) (x : A) (o : Option (List A)) → option_map (λ xs. (ns ++ x ∷ []) ++ xs) o ≡ option_map (λ xs. ns ++ xs) (option_map (λ xs. x ∷ xs) o)
mapped_twice ns x None = refl
mapped_twice ns x (Some xs) = ap (λ ys. Some ys) (append_assoc ns (x ∷ []) xs)

-- one member further
pub meaning_step : {A : Type 0} (f : List ℕ → Option A) (ns : List A) (name : List ℕ) (t : Tree) (ms : List (List ℕ × Tree)) (x : A) → is_true t ≡ true → f name ≡ Some x
    → option_map (λ xs. (ns ++ x ∷ []) ++ xs) (meanings f ms) ≡ option_map (λ xs. ns ++ xs) (meanings f ((name, t) ∷ ms))
meaning_step {A} f ns name t ms x truth is =
    let opened : meanings f ((name, t) ∷ ms) ≡ option_map (λ xs. x ∷ xs) (meanings f ms) =
    ap (λ b. cond b (option_and_then (λ y. option_map (λ xs. y ∷ xs) (meanings f ms)) (f name)) None) truth ∙ ap (λ (o : Option A). option_and_then (λ y. option_map (λ xs. y ∷ xs) (meanings f ms)) o) is in
    mapped_twice ns x (meanings f ms) ∙ ap (λ (o : Option (List A)). option_map (λ xs. ns ++ xs) o) (sym opened)

-- ---- mailboxes

abbrev named_in : List Mailbox → List ℕ → Option ℕ
named_in rows s = option_map mailbox_number (mailbox_named rows s)

there_at : (m : Mailbox) (n : ℕ) (rows : List Mailbox) (b : Bool) → eqb m.number n ≡ b → is_some (lookup mailbox_number n rows) ≡ true → is_some (cond b (Some m) (lookup mailbox_number n rows)) ≡ true
there_at m n rows true e h = refl
there_at m n rows false e h = h

named_there_at : (s : List ℕ) (m : Mailbox) (n : ℕ) (rows : List Mailbox) (b : Bool) → (named_in rows s ≡ Some n → is_some (lookup mailbox_number n rows) ≡ true)
    → option_map mailbox_number (cond b (Some m) (mailbox_named rows s)) ≡ Some n → is_some (lookup mailbox_number n (m ∷ rows)) ≡ true
named_there_at s m n rows true rest e =
    let same : eqb m.number n ≡ true = eq-eqb m.number n (same_Some m.number n e) in rw same refl
named_there_at s m n rows false rest e = there_at m n rows (eqb m.number n) refl (rest e)

named_there : (s : List ℕ) (rows : List Mailbox) (n : ℕ) → named_in rows s ≡ Some n → is_some (lookup mailbox_number n rows) ≡ true
named_there s [] n e = absurd (none-some n e)
named_there s (m ∷ rows) n e = named_there_at s m n rows (is_id_of s m) (named_there s rows n) e

-- the mailboxes of a content by their numbers, as a client names them
abbrev pub meant : Content → List Created → List ℕ → Option ℕ
meant c made s = number_meant OfMailbox (map mailbox_number c.mailboxes) made s

meant_there : (c : Content) (made : List Created) (s : List ℕ) (n : ℕ) → meant c made s ≡ Some n → IsThere c n
meant_there c made s n e =
    let id = bound (number_named OfMailbox (map mailbox_number c.mailboxes)) (identifier made s) n e in
    named_there id.0 c.mailboxes n (sym (named_is c.mailboxes id.0) ∙ id.2)

some_left : (xs ys : List ℕ) → unless_empty xs ≡ Some ys → (xs ≡ ys) × (1 ≤ length (rising ys))
some_left [] ys e = absurd (none-some ys e)
some_left (x ∷ xs) ys e =
    let same : x ∷ xs ≡ ys = same_Some (x ∷ xs) ys e in
    (same, subst (λ (zs : List ℕ). 1 ≤ length (rising zs)) same (put_some nat_cmp x (rising xs)))

pub record AreMailboxes (c : Content) (ns : List ℕ) : Type 0 where
  pub there : AllByRecursion (IsThere c) ns
  pub some : 1 ≤ length ns
  pub rise : NumbersRise ns

pub mailboxes_good : (c : Content) (made : List Created) (t : Option Tree) (ns : List ℕ) → mailboxes_in (map mailbox_number c.mailboxes) made t ≡ Some ns → AreMailboxes c ns
mailboxes_good c made t ns e =
    let ys = mapped rising (option_and_then unless_empty (option_and_then (set_in (meant c made)) t)) ns e in
    let xs = bound unless_empty (option_and_then (set_in (meant c made)) t) ys.0 ys.1 in
    let tree = bound (set_in (meant c made)) t xs.0 xs.1 in
    let some = some_left xs.0 ys.0 xs.2 in
    let all : AllByRecursion (IsThere c) xs.0 = all_in_set (meant c made) (IsThere c) (meant_there c made) tree.0 xs.0 tree.2 in
    subst (AreMailboxes c) ys.2
    (record {
      there = all_sorted nat_cmp (IsThere c) ys.0 (subst (AllByRecursion (IsThere c)) some.0 all);
      some = some.1;
      rise = rise-rising ys.0;
    })

-- ---- keywords

abbrev IsKeyword : List ℕ → Type 0
IsKeyword k = is_keyword k ≡ true

only_good : (b : Bool) (s x : List ℕ) → is_keyword s ≡ b → cond b (Some s) None ≡ Some x → IsKeyword x
only_good true s x is e = subst IsKeyword (same_Some s x e) is
only_good false s x is e = absurd (none-some x e)

meant_keyword : (s : List ℕ) (k : List ℕ) → keyword_meant s ≡ Some k → IsKeyword k
meant_keyword s k e = only_good (is_keyword (str_to_ascii_lowercase s)) (str_to_ascii_lowercase s) k refl e

pub record AreKeywords (ks : List (List ℕ)) : Type 0 where
  pub formed : AllByRecursion IsKeyword ks
  pub rise : TextsRise ks

no_keywords : AreKeywords []
unfolding IsStrictlySortedBy
no_keywords = record { formed = tt; rise = tt }

pub keywords_good : (t : Option Tree) (ks : List (List ℕ)) → keywords_in t ≡ Some ks → AreKeywords ks
keywords_good None ks e = subst AreKeywords (same_Some [] ks e) no_keywords
keywords_good (Some t) ks e =
    let xs = mapped (sorted_once (slice_cmp nat_cmp)) (set_in keyword_meant t) ks e in
    subst AreKeywords xs.2
    (record {
      formed = all_sorted (slice_cmp nat_cmp) IsKeyword xs.0 (all_in_set keyword_meant IsKeyword meant_keyword t xs.0 xs.1);
      rise = rise-sorted_once nat_list_cmp_total xs.0;
    })
