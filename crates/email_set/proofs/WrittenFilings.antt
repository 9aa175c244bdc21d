-- Mailboxes and keywords that were written are read as what they were.
use Rattle.std.proofs.Common.{◌≡◌, ◌≢◌, ◌∙◌, ℕ, Bool, true, false, cond, eqb, ◌||◌, List, [], ◌∷◌, ◌++◌, map, Option, Some, None, option_map, option_and_then, refl, sym, ap, ap₂, subst, codes}
use Rattle.std.specs.Ordering.{nat_cmp, is_eq, match_ordering}
use Rattle.std.specs.declared.cmp.Ordering.{Ordering}
use Rattle.std.specs.declared.cmp.Ordering.TheVariants.{Less, Equal, Greater}
use Rattle.std.specs.Cmp.Lexicographic.{slice_cmp}
use Rattle.std.specs.List.Sorted.{IsStrictlySortedBy}
use Rattle.std.specs.Map.{keys_of}
use Rattle.std.proofs.lemmas.Option.{none-some, same_Some}
use Rattle.jm_base.specs.Ids.{IsId, id_text}
use Rattle.jm_base.specs.declared.identifiers.Kind.TheVariants.{Mailbox as OfMailbox}
use Rattle.jm_json.specs.Find.{as_object, find}
use Rattle.jm_json.specs.Order.{KeysRise, put, put_all}
use Rattle.jm_json.specs.Tree.{Tree, boolean, object, fields_of}
use Rattle.jm_json.proofs.Lists.{pairs_of-fields_of}
use Rattle.jm_json.proofs.Merging.{first_upper}
use Rattle.mail_counts.proofs.Sorted.{rising-is}
use Rattle.mail_counts.specs.Touched.{is_one_of, rising}
use Rattle.mail_counts.specs.Views.{mailbox_id}
use Rattle.mail_records.specs.Commits.{NumbersRise, TextsRise}
use Rattle.method_args.proofs.IdTexts.{id_back, id_reads}
use Rattle.method_args.specs.Ids.{id_number}
use Rattle.method_args.specs.WrittenIds.{AreIds}
use Rattle.set_parts.proofs.Parts.{bound, mapped}
use Rattle.set_parts.proofs.Texts.{text_equal}
use Rattle.set_parts.specs.Names.{is_true, meanings, set_in, set_tree}
use Rattle.set_parts.specs.Views.{IsNumber, Means}
use Rattle.email_set.specs.Filings.{FilingsAreWritten, FilingsReadBack, HasFiling, IsFiling, as_written, filing_with, written_mailboxes, written_names}
use Rattle.email_set.specs.Patches.{filing_tree, value_of}
use Rattle.email_set.specs.declared.filing.Filing.{Filing}

abbrev Pairs : Type 0
Pairs = List (List ℕ × Tree)

-- ---- the mailbox whose id a string is

none_unless : {A : Type 0} (o : Option A) → ((x : A) → o ≡ Some x → ⊥) → o ≡ None
none_unless None never = refl
none_unless (Some x) never = absurd (never x refl)

pub number_read : (s : List ℕ) (o : Option ℕ) → Means s o → o ≡ id_number OfMailbox s
number_read s None means =
    sym (none_unless (id_number OfMailbox s) (λ n e. let k = id_back OfMailbox s n e in means n (record { from_one = k.0.from_one; below = k.0.below }) k.1))
number_read s (Some n) means = sym (id_reads OfMailbox s (record { kind = OfMailbox; number = n }) (record { from_one = means.0.from_one; below = means.0.below }) means.1 refl)

-- ---- an object of names

abbrev true_at : List ℕ → List ℕ × Tree
true_at k = (k, boolean true)

put_rising : (us : Pairs) → KeysRise us → put_all us [] ≡ us
unfolding IsStrictlySortedBy
put_rising [] rise = refl
put_rising (u ∷ us) rise = first_upper u [] us rise refl ∙ ap (λ (ms : Pairs). u ∷ ms) (put_rising us rise.1)

keys_true : (ks : List (List ℕ)) → keys_of (map true_at ks) ≡ ks
keys_true [] = refl
keys_true (k ∷ ks) = ap (λ xs. k ∷ xs) (keys_true ks)

names_meant : (ks : List (List ℕ)) → meanings as_written (map true_at ks) ≡ Some ks
names_meant [] = refl
names_meant (k ∷ ks) = ap (option_map (λ xs. k ∷ xs)) (names_meant ks)

set_names : (ks : List (List ℕ)) → TextsRise ks → set_in as_written (set_tree ks) ≡ Some ks
set_names ks rise =
    ap (meanings as_written) (pairs_of-fields_of (put_all (map true_at ks) []) ∙ put_rising (map true_at ks) (subst (IsStrictlySortedBy (slice_cmp nat_cmp)) (sym (keys_true ks)) rise))
    ∙ names_meant ks

-- ---- an object of ids

-- the numbers that the members mean, of which these are all
pub record AreMeant (f : List ℕ → Option ℕ) (ms : Pairs) (test : ℕ → Bool) : Type 0 where
  pub numbers : List ℕ
  pub meant : meanings f ms ≡ Some numbers
  pub same : (m : ℕ) → is_one_of numbers m ≡ test m

pub record Opens (f : List ℕ → Option ℕ) (m : List ℕ × Tree) (ms : Pairs) (zs : List ℕ) : Type 0 where
  pub first : ℕ
  pub rest : List ℕ
  pub truth : is_true m.1 ≡ true
  pub is : f m.0 ≡ Some first
  pub meant : meanings f ms ≡ Some rest
  pub all : first ∷ rest ≡ zs

opens_at : (f : List ℕ → Option ℕ) (m : List ℕ × Tree) (ms : Pairs) (zs : List ℕ) (b : Bool) → is_true m.1 ≡ b
    → cond b (option_and_then (λ x. option_map (λ xs. x ∷ xs) (meanings f ms)) (f m.0)) None ≡ Some zs → Opens f m ms zs
opens_at f m ms zs false truth e = absurd (none-some zs e)
opens_at f m ms zs true truth e =
    let x = bound (λ x. option_map (λ xs. x ∷ xs) (meanings f ms)) (f m.0) zs e in
    let ys = mapped (λ xs. x.0 ∷ xs) (meanings f ms) zs x.2 in
    record { first = x.0; rest = ys.0; truth = truth; is = x.1; meant = ys.1; all = ys.2 }

opens : (f : List ℕ → Option ℕ) (m : List ℕ × Tree) (ms : Pairs) (zs : List ℕ) → meanings f (m ∷ ms) ≡ Some zs → Opens f m ms zs
opens f m ms zs e = opens_at f m ms zs (is_true m.1) refl e

-- the other way round
joined : (f : List ℕ → Option ℕ) (m : List ℕ × Tree) (ms : Pairs) (x : ℕ) (xs : List ℕ) → is_true m.1 ≡ true → f m.0 ≡ Some x → meanings f ms ≡ Some xs → meanings f (m ∷ ms) ≡ Some (x ∷ xs)
joined f m ms x xs truth is meant =
    ap (λ b. cond b (option_and_then (λ y. option_map (λ ys. y ∷ ys) (meanings f ms)) (f m.0)) None) truth
    ∙ ap₂ (λ (o : Option ℕ) (p : Option (List ℕ)). option_and_then (λ y. option_map (λ ys. y ∷ ys) p) o) is meant

swapped : (a b c : Bool) → (a || (b || c)) ≡ (b || (a || c))
swapped true true c = refl
swapped true false c = refl
swapped false true c = refl
swapped false false c = refl

twice : (a c : Bool) → (a || c) ≡ (a || (a || c))
twice true c = refl
twice false c = refl

module _ (f : List ℕ → Option ℕ) (k : List ℕ) (n : ℕ) (is : f k ≡ Some n) where
  put_at : (m : List ℕ × Tree) (ms : Pairs) (zs : List ℕ) (o : Opens f m ms zs) (r : Ordering) → slice_cmp nat_cmp k m.0 ≡ r
      → AreMeant f (put k (boolean true) ms) (λ i. is_one_of (n ∷ o.rest) i)
      → AreMeant f (match_ordering r ((k, boolean true) ∷ m ∷ ms) ((k, boolean true) ∷ ms) (m ∷ put k (boolean true) ms)) (λ i. is_one_of (n ∷ zs) i)
  put_at m ms zs o Less e more =
      record {
        numbers = n ∷ zs;
        meant = joined f (k, boolean true) (m ∷ ms) n zs refl is (joined f m ms o.first o.rest o.truth o.is o.meant ∙ ap Some o.all);
        same = λ i. refl;
      }
  put_at m ms zs o Equal e more =
      let key : k ≡ m.0 = text_equal k m.0 (ap is_eq e) in
      let first : n ≡ o.first = same_Some n o.first (sym is ∙ (ap f key ∙ o.is)) in
      record {
        numbers = n ∷ o.rest;
        meant = joined f (k, boolean true) ms n o.rest refl is o.meant;
        same = λ i. twice (eqb n i) (is_one_of o.rest i) ∙ ap (λ (xs : List ℕ). is_one_of (n ∷ xs) i) (ap (λ x. x ∷ o.rest) first ∙ o.all);
      }
  put_at m ms zs o Greater e more =
      record {
        numbers = o.first ∷ more.numbers;
        meant = joined f m (put k (boolean true) ms) o.first more.numbers o.truth o.is more.meant;
        same = λ i. ap (λ b. eqb o.first i || b) (more.same i) ∙ (swapped (eqb o.first i) (eqb n i) (is_one_of o.rest i) ∙ ap (λ (xs : List ℕ). is_one_of (n ∷ xs) i) o.all);
      }

  put_meant : (ms : Pairs) (zs : List ℕ) → meanings f ms ≡ Some zs → AreMeant f (put k (boolean true) ms) (λ i. is_one_of (n ∷ zs) i)
  put_meant [] zs e =
      record {
        numbers = n ∷ zs;
        meant = joined f (k, boolean true) [] n zs refl is e;
        same = λ i. refl;
      }
  put_meant (m ∷ ms) zs e =
      let o = opens f m ms zs e in
      put_at m ms zs o (slice_cmp nat_cmp k m.0) refl (put_meant ms o.rest o.meant)

id_meant : (n : ℕ) → IsId (record { kind = OfMailbox; number = n }) → id_number OfMailbox (mailbox_id n) ≡ Some n
id_meant n good = id_reads OfMailbox (mailbox_id n) (record { kind = OfMailbox; number = n }) good refl refl

ids_meant : (ns : List ℕ) → AreIds OfMailbox ns → (ms : Pairs) (zs : List ℕ) → meanings (id_number OfMailbox) ms ≡ Some zs
    → AreMeant (id_number OfMailbox) (put_all (map true_at (map mailbox_id ns)) ms) (λ i. is_one_of ns i || is_one_of zs i)
ids_meant [] are ms zs e = record { numbers = zs; meant = e; same = λ i. refl }
ids_meant (n ∷ ns) are ms zs e =
    let one = put_meant (id_number OfMailbox) (mailbox_id n) n (id_meant n are.0) ms zs e in
    let all = ids_meant ns are.1 (put (mailbox_id n) (boolean true) ms) one.numbers one.meant in
    record {
      numbers = all.numbers;
      meant = all.meant;
      same = λ i. all.same i ∙ (ap (λ b. is_one_of ns i || b) (one.same i) ∙ (swapped (is_one_of ns i) (eqb n i) (is_one_of zs i) ∙ sym (or_assoc (eqb n i) (is_one_of ns i) (is_one_of zs i))));
    }
  where
    or_assoc : (a b c : Bool) → ((a || b) || c) ≡ (a || (b || c))
    or_assoc true b c = refl
    or_assoc false b c = refl

or_false : (b : Bool) → (b || false) ≡ b
or_false true = refl
or_false false = refl

set_ids : (ns : List ℕ) → AreIds OfMailbox ns → NumbersRise ns → option_map rising (set_in (id_number OfMailbox) (set_tree (map mailbox_id ns))) ≡ Some ns
set_ids ns are rise =
    let members = put_all (map true_at (map mailbox_id ns)) [] in
    let all = ids_meant ns are [] [] refl in
    ap (option_map rising) (ap (meanings (id_number OfMailbox)) (pairs_of-fields_of members) ∙ all.meant)
    ∙ ap Some (sym (rising-is all.numbers ns rise (λ i. sym (all.same i ∙ or_false (is_one_of ns i)))))

-- ---- both

pub read_back : FilingsReadBack
read_back t f good has =
    ap₂ filing_with
    (ap written_names has.keywords ∙ set_names f.keywords good.keywords)
    (ap written_mailboxes has.mailboxes ∙ set_ids f.mailboxes good.ids good.mailboxes)

pub written : FilingsAreWritten
written f = record { keywords = refl; mailboxes = refl }
