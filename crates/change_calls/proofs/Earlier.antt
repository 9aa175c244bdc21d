-- Pages of the account after some of its entries are those of the whole account.
use Rattle.std.proofs.Common.{◌≡◌, ℕ, ◌+◌, ◌-◌, ◌<◌, ◌≤◌, Bool, true, false, ◌&&◌, not, eqb, leb, le-leb, min, List, [], Option, Some, cond, ◌∷◌, take, drop, filter, length, refl, sym, ap, ap₂, ◌∙◌, arith, ⊎_elim}
use Rattle.std.specs.Prelude.{unwrap_or}
use Rattle.std.specs.List.{list_all}
use Rattle.std.proofs.lemmas.Bool.{cases_Bool, true≢false}
use Rattle.std.proofs.lemmas.List.{drop-take}
use Rattle.jm_base.specs.declared.identifiers.Kind.{Kind}
use Rattle.mail_records.specs.Contents.{Content, is_present}
use Rattle.mail_records.specs.Histories.{History, account_after, content_at, end_after, end_of, ids_of}
use Rattle.mail_records.specs.declared.edits.Edit.{Edit}
use Rattle.mail_records.proofs.Growth.{content_at-grown_by}
use Rattle.mail_records.proofs.Points.{edits_between-account_after, grown_by-account_after, ids_between-account_after, state_at-account_after}
use Rattle.mail_records.proofs.Prefixes.{end_after-most}
use Rattle.change_calls.specs.Changes.{are_only_counts, change_only_counts, created, destroyed, is_some_there, is_there, is_within, may_end, numbers_with, page_end, page_of, reached_state, touched, updated}
use Rattle.change_calls.proofs.Exact.{IsPage-page_end, reached_state-parts, reached_state-read}
use Rattle.change_calls.proofs.Greatest.{greatest_is}
use Rattle.change_calls.proofs.Named.{numbers-more, within_fails}
use Rattle.change_calls.proofs.Spread.{taken_or_past}

pub content-earlier : (h : History) (c k : ℕ) → k ≤ end_after h c → content_at (account_after h c) k ≡ content_at h k
content-earlier h c k le =
    sym (content_at-grown_by (account_after h c) (drop c h.entries) k le) ∙ ap (λ (g : History). content_at g k) (grown_by-account_after h c)

pub touched-earlier : (h : History) (kind : Kind) (c from p : ℕ) → p ≤ end_after h c → touched (account_after h c) kind from p ≡ touched h kind from p
touched-earlier h kind c from p le = ap (numbers_with kind []) (ids_between-account_after h c from p le)

there-earlier : (h : History) (kind : Kind) (c k n : ℕ) → k ≤ end_after h c → is_there (account_after h c) kind k n ≡ is_there h kind k n
there-earlier h kind c k n le = ap (λ (x : Content). is_present x kind n) (content-earlier h c k le)

filter_test : (f g : ℕ → Bool) → ((n : ℕ) → f n ≡ g n) → (xs : List ℕ) → filter f xs ≡ filter g xs
filter_test f g same [] = refl
filter_test f g same (x ∷ xs) = ap₂ (λ b ys. cond b (x ∷ ys) ys) (same x) (filter_test f g same xs)

pub filter_same : (f g : ℕ → Bool) (xs ys : List ℕ) → ((n : ℕ) → f n ≡ g n) → xs ≡ ys → filter f xs ≡ filter g ys
filter_same f g xs ys same is = ap (filter f) is ∙ filter_test f g same ys

pub page-earlier : (h : History) (kind : Kind) (c from p : ℕ) → from ≤ end_after h c → p ≤ end_after h c
    → page_of (account_after h c) kind from p ≡ record (page_of h kind from p) { more = not (eqb p (end_after h c)) }
page-earlier h kind c from p low le =
    let g = account_after h c in
    let named = touched-earlier h kind c from p le in
    let before = λ (n : ℕ). there-earlier h kind c from n low in
    let after = λ (n : ℕ). there-earlier h kind c p n le in
    let cs : created g kind from p ≡ created h kind from p = filter_same _ _ _ _ (λ n. ap₂ (λ a b. not a && b) (before n) (after n)) named in
    let us : updated g kind from p ≡ updated h kind from p = filter_same _ _ _ _ (λ n. ap₂ (λ a b. a && b) (before n) (after n)) named in
    let ds : destroyed g kind from p ≡ destroyed h kind from p = filter_same _ _ _ _ (λ n. ap₂ (λ a b. a && not b) (before n) (after n)) named in
    let state = state_at-account_after h kind c p le in
    let counts : are_only_counts g kind from p ≡ are_only_counts h kind from p =
    ap₂ (λ (ns : List ℕ) (es : List Edit). is_some_there ns && list_all (change_only_counts kind es) ns) us (edits_between-account_after h c from p le) in
    λ i. record { created = cs i; updated = us i; destroyed = ds i; new_state = state i; more = not (eqb p (end_after h c)); counts_only = counts i }

-- ---- where a page ends

touched_upto : (h : History) (kind : Kind) (from k : ℕ) → from ≤ k
    → touched h kind from k ≡ numbers_with kind [] (take (k - h.floor - (from - h.floor)) (drop (from - h.floor) (ids_of h)))
touched_upto h kind from k le =
    let a = from - h.floor in
    let m = k - h.floor - a in
    let sum : k - h.floor ≡ a + m = omega arith in
    ap (λ n. numbers_with kind [] (drop a (take n (ids_of h)))) sum ∙ ap (numbers_with kind []) (drop-take a m (ids_of h))

fewer : (h : History) (kind : Kind) (from j k : ℕ) → from ≤ j → j ≤ k → length (touched h kind from j) ≤ length (touched h kind from k)
fewer h kind from j k low le =
    let a = from - h.floor in
    let more = numbers-more (drop a (ids_of h)) kind (j - h.floor - a) (k - h.floor - a) (omega (arith, le)) in
    let one = ap length (touched_upto h kind from j low) in
    let other = ap length (touched_upto h kind from k (omega (arith, low, le))) in
    omega (arith, more, one, other)

few_earlier : (max : Option ℕ) (m n : ℕ) → m ≤ n → is_within max n ≡ true → is_within max m ≡ true
few_earlier max m n le few =
    ⊎_elim (λ (t : is_within max m ≡ true). t) (λ (t : is_within max m ≡ false). absurd (true≢false (sym few ∙ within_fails max m n le t))) (cases_Bool (is_within max m))

ends_at : (h : History) (kind : Kind) (max : Option ℕ) (c from p : ℕ) → from ≤ p → p ≤ end_after h c → is_within max (length (touched h kind from p)) ≡ true
    → ((k : ℕ) → p < k → k ≤ end_after h c → is_within max (length (touched h kind from k)) ≡ false) → page_end (account_after h c) kind max from ≡ p
ends_at h kind max c from p low within few full =
    let g = account_after h c in
    ap (λ o. unwrap_or o from)
    (greatest_is (may_end g kind max from) (end_of g) p
    (record {
      within = within;
      passes = ap₂ (λ a b. a && b) (le-leb from p low) (ap (λ ns. is_within max (length ns)) (touched-earlier h kind c from p within) ∙ few);
      greatest = λ k above below.
          let fails : is_within max (length (touched g kind from k)) ≡ false = ap (λ ns. is_within max (length ns)) (touched-earlier h kind c from k below) ∙ full k above below in
          ap (λ b. leb from k && b) fails ∙ and_false (leb from k);
    }))
  where
    and_false : (b : Bool) → (b && false) ≡ false
    and_false true = refl
    and_false false = refl

pub page_end-earlier : (h : History) (kind : Kind) (max : Option ℕ) (c from : ℕ) → from ≤ end_after h c → page_end (account_after h c) kind max from ≡ min (page_end h kind max from) (end_after h c)
page_end-earlier h kind max c from low =
    let most = end_after-most h c in
    let p = page_end h kind max from in
    let e = end_after h c in
    let page = IsPage-page_end h kind max from (omega (arith, low, most)) in
    let later = page.later in
    ⊎_elim
    (λ (lt : p < e).
    let is : p ≡ min p e = omega (arith, lt) in
    ends_at h kind max c from p page.later (omega (arith, lt)) page.few (λ k above below. page.greatest k above (omega (arith, below, most))) ∙ is)
    (λ (le : e ≤ p).
    let is : e ≡ min p e = omega (arith, le) in
    ends_at h kind max c from e low (omega arith) (few_earlier max (length (touched h kind from e)) (length (touched h kind from p)) (fewer h kind from e p low le) page.few)
    (λ k above below. absurd (omega (arith, above, below)))
    ∙ is)
    (taken_or_past p e)

-- ---- states

pub state-earlier : (h : History) (kind : Kind) (c : ℕ) (text : List ℕ) (s : ℕ) → reached_state (account_after h c) kind text ≡ Some s → reached_state h kind text ≡ Some s
state-earlier h kind c text s is =
    let parts = reached_state-parts (account_after h c) kind text s is in
    let most = end_after-most h c in
    let last = parts.0.1 in
    reached_state-read h kind text s (parts.0.0, omega (arith, last, most)) parts.1 parts.2
