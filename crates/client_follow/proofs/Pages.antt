-- The answer to a client's call for changes is read as the page that it is.
use Rattle.std.proofs.Common.{◌≡◌, ◌≢◌, ℕ, ◌+◌, ◌-◌, ◌≤◌, ◌<◌, zero, suc, List, [], ◌∷◌, filter, take, drop, Bool, true, false, not, cond, eqb, eq-eqb, Some, nat_lt, refl, sym, ap, ◌∙◌, arith, ⊎_elim, true≢false}
use Rattle.std.specs.List.{AllByRecursion}
use Rattle.std.proofs.lemmas.Bool.{cases_Bool}
use Rattle.jm_base.specs.Ids.{IsId, state_text}
use Rattle.jm_base.specs.declared.identifiers.Id.{Id}
use Rattle.jm_base.specs.declared.identifiers.Kind.{Kind}
use Rattle.jm_base.specs.declared.identifiers.Kind.TheVariants.{Mailbox as OfMailbox, Email as OfEmail, Thread as OfThread}
use Rattle.jm_base.specs.declared.identifiers.TheConstants.{NUMBER_LIMIT}
use Rattle.mail_records.specs.Contents.{Content, NextAtMost, next_of}
use Rattle.mail_records.specs.Histories.{History, IsFounded, IsNamedBelow, IsSound, content_of, end_of, ids_of}
use Rattle.mail_records.specs.States.{Reaches, ids_between, is_kind, is_kind_of, state_at}
use Rattle.mail_records.specs.Tables.{put}
use Rattle.mail_records.proofs.Growth.{NextAtMost-founded}
use Rattle.mail_records.proofs.NumbersNamed.{named_below_next}
use Rattle.mail_records.proofs.Reached.{state_at-most}
use Rattle.method_args.specs.WrittenIds.{AreIds}
use Rattle.change_calls.specs.Changes.{answer_since, numbers_with, page_end, page_of, touched}
use Rattle.change_calls.specs.Responses.{outcome_by, page_tree}
use Rattle.change_calls.proofs.Exact.{IsPage-page_end, past_floor, reached_state-read}
use Rattle.change_calls.proofs.Moving.{page_moves}
use Rattle.reply_readers.specs.ReadBack.{CanBePage}
use Rattle.reply_readers.proofs.ReadBacks.{pages_read_back}
use Rattle.client_cache.specs.declared.limits.TheConstants.{MAX_CHANGES}
use Rattle.client_follow.specs.Laws.{PagesAreRead}

-- ---- the numbers of a page are those of ids

module _ {A : Type 0} (P : A → Type 0) where
  pub all_taken : (n : ℕ) (xs : List A) → AllByRecursion P xs → AllByRecursion P (take n xs)
  all_taken zero xs all = tt
  all_taken (suc n) [] all = tt
  all_taken (suc n) (x ∷ xs) all = (all.0, all_taken n xs all.1)

  pub all_after : (n : ℕ) (xs : List A) → AllByRecursion P xs → AllByRecursion P (drop n xs)
  all_after zero xs all = all
  all_after (suc n) [] all = tt
  all_after (suc n) (x ∷ xs) all = all_after n xs all.1

  pub all_kept : (p : A → Bool) (xs : List A) → AllByRecursion P xs → AllByRecursion P (filter p xs)
  all_kept p [] all = tt
  all_kept p (x ∷ xs) all =
      ⊎_elim
      (λ (t : p x ≡ true). rw t (all.0, all_kept p xs all.1))
      (λ (f : p x ≡ false). rw f (all_kept p xs all.1))
      (cases_Bool (p x))

all_put : (P : ℕ → Type 0) (n : ℕ) (ns : List ℕ) → P n → AllByRecursion P ns → AllByRecursion P (put (λ k. k) n ns)
all_put P n [] is all = (is, tt)
all_put P n (m ∷ ms) is all = by (nat_lt n m) (eqb n m) (all_put P n ms is all.1)
  where
    by : (a b : Bool) → AllByRecursion P (put (λ k. k) n ms) → AllByRecursion P (cond a (n ∷ m ∷ ms) (cond b (n ∷ ms) (m ∷ put (λ k. k) n ms)))
    by true b rest = (is, all)
    by false true rest = (is, all.1)
    by false false rest = (all.0, rest)

same_kind : (a b : Kind) → is_kind a b ≡ true → b ≡ a
same_kind OfMailbox OfMailbox e = refl
same_kind OfMailbox OfEmail e = absurd (true≢false (sym e))
same_kind OfMailbox OfThread e = absurd (true≢false (sym e))
same_kind OfEmail OfMailbox e = absurd (true≢false (sym e))
same_kind OfEmail OfEmail e = refl
same_kind OfEmail OfThread e = absurd (true≢false (sym e))
same_kind OfThread OfMailbox e = absurd (true≢false (sym e))
same_kind OfThread OfEmail e = absurd (true≢false (sym e))
same_kind OfThread OfThread e = refl

next_below : (c : Content) (n : ℕ) (kind : Kind) → NextAtMost n c → next_of c kind ≤ n
next_below c n OfMailbox next = next.mailbox
next_below c n OfEmail next = next.email
next_below c n OfThread next = next.thread

pub id_below : (c : Content) (n : ℕ) (kind : Kind) (i : Id) → NextAtMost (n + 1) c → n < NUMBER_LIMIT → IsNamedBelow c i → is_kind_of kind i ≡ true → IsId (record { kind = kind; number = i.number })
id_below c n kind i next few below is =
    let most = next_below c (n + 1) i.kind next in
    record { from_one = below.0; below = omega (arith, below.1, most, few) }

numbers_are_ids : (kind : Kind) (is : List Id) (ns : List ℕ) → AllByRecursion (λ i. is_kind_of kind i ≡ true → IsId (record { kind = kind; number = i.number })) is → AreIds kind ns → AreIds kind (numbers_with kind ns is)
numbers_are_ids kind [] ns all are = are
numbers_are_ids kind (i ∷ is) ns all are =
    ⊎_elim
    (λ (t : is_kind_of kind i ≡ true). rw t (numbers_are_ids kind is (put (λ n. n) i.number ns) all.1 (all_put (λ n. IsId (record { kind = kind; number = n })) i.number ns (all.0 t) are)))
    (λ (f : is_kind_of kind i ≡ false). rw f (numbers_are_ids kind is ns all.1 are))
    (cases_Bool (is_kind_of kind i))

pub each_id : (c : Content) (n : ℕ) (kind : Kind) → NextAtMost (n + 1) c → n < NUMBER_LIMIT → (is : List Id) → AllByRecursion (IsNamedBelow c) is
    → AllByRecursion (λ i. is_kind_of kind i ≡ true → IsId (record { kind = kind; number = i.number })) is
each_id c n kind next few [] all = tt
each_id c n kind next few (i ∷ is) all = (id_below c n kind i next few all.0, each_id c n kind next few is all.1)

touched_are_ids : (h : History) (kind : Kind) (from upto : ℕ) → IsFounded h → IsSound h → end_of h < NUMBER_LIMIT → AreIds kind (touched h kind from upto)
touched_are_ids h kind from upto founded sound few =
    let named = named_below_next h founded sound.fits in
    let between = all_after (IsNamedBelow (content_of h)) (from - h.floor) (take (upto - h.floor) (ids_of h)) (all_taken (IsNamedBelow (content_of h)) (upto - h.floor) (ids_of h) named) in
    numbers_are_ids kind (ids_between h.floor from upto (ids_of h)) []
    (each_id (content_of h) (end_of h) kind (NextAtMost-founded h founded sound.fits) few (ids_between h.floor from upto (ids_of h)) between) tt

-- ---- the page

not_last : (m n : ℕ) → not (eqb m n) ≡ true → m ≢ n
not_last m n e same = true≢false (sym e ∙ ap not (eq-eqb m n same))

can_be_page : (h : History) (kind : Kind) (since : ℕ) → IsFounded h → IsSound h → end_of h < NUMBER_LIMIT → Reaches h kind since
    → CanBePage kind since (page_of h kind since (page_end h kind (Some MAX_CHANGES) since))
can_be_page h kind since founded sound few reached =
    let upto = page_end h kind (Some MAX_CHANGES) since in
    let ids = touched_are_ids h kind since upto founded sound few in
    let within : upto ≤ end_of h = (IsPage-page_end h kind (Some MAX_CHANGES) since reached.1).within in
    let low = past_floor h kind (Some MAX_CHANGES) since reached.1 in
    let most : state_at h kind upto ≤ upto = state_at-most h kind upto founded.floors low in
    record {
      created = all_kept (λ n. IsId (record { kind = kind; number = n })) _ (touched h kind since upto) ids;
      destroyed = all_kept (λ n. IsId (record { kind = kind; number = n })) _ (touched h kind since upto) ids;
      updated = all_kept (λ n. IsId (record { kind = kind; number = n })) _ (touched h kind since upto) ids;
      old_state = omega (arith, reached.1, few);
      new_state = omega (arith, most, within, few);
      rises = λ more. page_moves h kind (Some MAX_CHANGES) since founded.floors reached.1 refl (not_last upto (end_of h) more);
    }

pub pages_are_read : PagesAreRead
pages_are_read kind h account pointer since founded sound few reached =
    let upto = page_end h kind (Some MAX_CHANGES) since in
    let back = pages_read_back kind account pointer since (page_of h kind since upto) (can_be_page h kind since founded sound few reached) in
    let below : since < NUMBER_LIMIT = omega (arith, reached.1, few) in
    record {
      tree = page_tree kind account (state_text since) (page_of h kind since upto);
      answer = ap (λ o. outcome_by kind account (state_text since) (answer_since h kind (Some MAX_CHANGES) o)) (reached_state-read h kind (state_text since) since reached below refl);
      form = back.0;
      read = back.1;
    }
