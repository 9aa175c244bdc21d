-- Pages after the floor of a history moved up, from states that it still reaches.
use Rattle.std.proofs.Common.{◌≡◌, ℕ, ◌-◌, ◌<◌, ◌≤◌, Bool, true, false, ◌&&◌, ◌||◌, not, eqb, leb, cond, List, [], ◌∷◌, zero, suc, Option, Some, None, map, take, drop, length, is_some, refl, sym, ap, ap₂, ◌∙◌, arith, ⊎_elim}
use Rattle.std.specs.Prelude.{ℤ, unwrap_or}
use Rattle.std.specs.List.{list_all}
use Rattle.std.proofs.lemmas.List.{drop-map, take-map}
use Rattle.jm_base.specs.declared.identifiers.Kind.{Kind}
use Rattle.jm_base.specs.declared.identifiers.Kind.TheVariants.{Mailbox as OfMailbox, Email as OfEmail, Thread as OfThread}
use Rattle.mail_records.specs.Contents.{Content, SameRecords, email_number, is_present, mailbox_number, thread_number}
use Rattle.mail_records.specs.Edits.{id_of, kind_of}
use Rattle.mail_records.specs.FloorMoves.{moved_up}
use Rattle.mail_records.specs.Histories.{FloorsAtMost, History, content_at, edits_between, edits_of, end_after, end_of, floor_of, ids_of}
use Rattle.mail_records.specs.States.{edits_of_kind, is_id, is_kind, is_kind_of, state_at}
use Rattle.mail_records.specs.Tables.{lookup, put}
use Rattle.mail_records.specs.declared.edits.Edit.{Edit}
use Rattle.mail_records.proofs.Moved.{content_at-moved_up, end_of-moved_up, floors_are}
use Rattle.mail_records.proofs.Outlasting.{edits_between-moved_up, state_at-outlasts}
use Rattle.mail_records.proofs.Points.{SameRecords-moved_up}
use Rattle.mail_records.proofs.Reached.{last_position-bounds}
use Rattle.state_log.specs.Logs.{changes_counts}
use Rattle.change_calls.specs.Changes.{answer_of, answer_since, answer_within, answered, are_only_counts, change_only_counts, created, destroyed, greatest_upto, is_some_there, is_there, is_within, maximum_of, may_end, numbers_with, page_end, page_of, reached_state, touched, updated}
use Rattle.change_calls.proofs.Earlier.{filter_same}
use Rattle.change_calls.proofs.Exact.{IsPage-page_end, reached_state-parts, reached_state-read}
use Rattle.change_calls.proofs.Spread.{taken_or_past}

-- ---- edits of other kinds decide nothing

numbers_kept : (kind : Kind) (ns : List ℕ) (es : List Edit) → numbers_with kind ns (map id_of es) ≡ numbers_with kind ns (map id_of (edits_of_kind kind es))
numbers_kept kind ns [] = refl
numbers_kept kind ns (e ∷ es) =
    step (is_kind kind (kind_of e)) (numbers_kept kind (cond (is_kind_of kind (id_of e)) (put (λ n. n) (id_of e).number ns) ns) es)
    (λ (t : is_kind kind (kind_of e) ≡ false).
    let same : cond (is_kind_of kind (id_of e)) (put (λ n. n) (id_of e).number ns) ns ≡ ns = rw t refl in
    ap (λ ms. numbers_with kind ms (map id_of es)) same ∙ numbers_kept kind ns es)
    refl
  where
    step : (b : Bool) → numbers_with kind (cond (is_kind_of kind (id_of e)) (put (λ n. n) (id_of e).number ns) ns) (map id_of es)
        ≡ numbers_with kind (cond (is_kind_of kind (id_of e)) (put (λ n. n) (id_of e).number ns) ns) (map id_of (edits_of_kind kind es))
        → (is_kind kind (kind_of e) ≡ false
        → numbers_with kind (cond (is_kind_of kind (id_of e)) (put (λ n. n) (id_of e).number ns) ns) (map id_of es) ≡ numbers_with kind ns (map id_of (edits_of_kind kind es)))
        → is_kind kind (kind_of e) ≡ b
        → numbers_with kind (cond (is_kind_of kind (id_of e)) (put (λ n. n) (id_of e).number ns) ns) (map id_of es)
        ≡ numbers_with kind ns (map id_of (cond b (e ∷ edits_of_kind kind es) (edits_of_kind kind es)))
    step true here away t = here
    step false here away t = away t

counts_kept : (kind : Kind) (n : ℕ) (es : List Edit) → change_only_counts kind es n ≡ change_only_counts kind (edits_of_kind kind es) n
counts_kept kind n [] = refl
counts_kept kind n (e ∷ es) =
    step (is_kind kind (kind_of e)) (ap (λ b. (not (is_id kind n (id_of e)) || changes_counts e) && b) (counts_kept kind n es))
    (λ (t : is_kind kind (kind_of e) ≡ false). rw t (counts_kept kind n es)) refl
  where
    step : (b : Bool) → change_only_counts kind (e ∷ es) n ≡ change_only_counts kind (e ∷ edits_of_kind kind es) n
        → (is_kind kind (kind_of e) ≡ false → change_only_counts kind (e ∷ es) n ≡ change_only_counts kind (edits_of_kind kind es) n) → is_kind kind (kind_of e) ≡ b
        → change_only_counts kind (e ∷ es) n ≡ change_only_counts kind (cond b (e ∷ edits_of_kind kind es) (edits_of_kind kind es)) n
    step true here away t = here
    step false here away t = away t

-- ---- what edits name

named_by : (h : History) (kind : Kind) (from upto : ℕ) → touched h kind from upto ≡ numbers_with kind [] (map id_of (edits_of_kind kind (edits_between h from upto)))
named_by h kind from upto =
    ap (numbers_with kind []) (ap (drop (from - h.floor)) (take-map id_of (upto - h.floor) (edits_of h)) ∙ drop-map id_of (from - h.floor) (take (upto - h.floor) (edits_of h)))
    ∙ numbers_kept kind [] (edits_between h from upto)

pub touched-moved : (h : History) (kind : Kind) (c from upto : ℕ) → state_at h kind (end_after h c) ≤ from → touched (moved_up h c) kind from upto ≡ touched h kind from upto
touched-moved h kind c from upto low =
    named_by (moved_up h c) kind from upto
    ∙ (ap (λ es. numbers_with kind [] (map id_of es)) (edits_between-moved_up h kind c from upto low) ∙ sym (named_by h kind from upto))

present_same : (kind : Kind) (c d : Content) (n : ℕ) → SameRecords kind c d → is_present c kind n ≡ is_present d kind n
present_same OfMailbox c d n same = ap (λ ms. is_some (lookup mailbox_number n ms)) same
present_same OfEmail c d n same = ap (λ ms. is_some (lookup email_number n ms)) same
present_same OfThread c d n same = ap (λ ms. is_some (lookup thread_number n ms)) same

there_moved : (h : History) (kind : Kind) (c k n : ℕ) → FloorsAtMost h.floors h.floor → state_at h kind (end_after h c) ≤ k → is_there (moved_up h c) kind k n ≡ is_there h kind k n
there_moved h kind c k n low from =
    ⊎_elim
    (λ (lt : k < end_after h c). present_same kind (content_at (moved_up h c) k) (content_at h k) n (SameRecords-moved_up h kind c k low from (omega (arith, lt))))
    (λ (le : end_after h c ≤ k). ap (λ (x : Content). is_present x kind n) (content_at-moved_up h c k le))
    (taken_or_past k (end_after h c))

-- ---- pages

pub page-moved : (h : History) (kind : Kind) (c from p : ℕ) → FloorsAtMost h.floors h.floor → state_at h kind (end_after h c) ≤ from → from ≤ p → page_of (moved_up h c) kind from p ≡ page_of h kind from p
page-moved h kind c from p low reached order =
    let g = moved_up h c in
    let later : state_at h kind (end_after h c) ≤ p = omega (arith, reached, order) in
    let named = touched-moved h kind c from p reached in
    let before = λ (n : ℕ). there_moved h kind c from n low reached in
    let after = λ (n : ℕ). there_moved h kind c p n low later in
    let cs : created g kind from p ≡ created h kind from p = filter_same _ _ _ _ (λ n. ap₂ (λ a b. not a && b) (before n) (after n)) named in
    let us : updated g kind from p ≡ updated h kind from p = filter_same _ _ _ _ (λ n. ap₂ (λ a b. a && b) (before n) (after n)) named in
    let ds : destroyed g kind from p ≡ destroyed h kind from p = filter_same _ _ _ _ (λ n. ap₂ (λ a b. a && not b) (before n) (after n)) named in
    let state = state_at-outlasts h kind c p low later in
    let more : not (eqb p (end_of g)) ≡ not (eqb p (end_of h)) = ap (λ e. not (eqb p e)) (end_of-moved_up h c) in
    let each : (n : ℕ) → change_only_counts kind (edits_between g from p) n ≡ change_only_counts kind (edits_between h from p) n =
    λ n.
    counts_kept kind n (edits_between g from p)
    ∙ (ap (λ es. change_only_counts kind es n) (edits_between-moved_up h kind c from p reached) ∙ sym (counts_kept kind n (edits_between h from p))) in
    let counts : are_only_counts g kind from p ≡ are_only_counts h kind from p =
    ap₂ (λ a b. a && b) (ap is_some_there us) (ap (list_all (change_only_counts kind (edits_between g from p))) us ∙ all_same _ _ each (updated h kind from p)) in
    λ i. record { created = cs i; updated = us i; destroyed = ds i; new_state = state i; more = more i; counts_only = counts i }
  where
    all_same : (f t : ℕ → Bool) → ((n : ℕ) → f n ≡ t n) → (xs : List ℕ) → list_all f xs ≡ list_all t xs
    all_same f t same [] = refl
    all_same f t same (x ∷ xs) = ap₂ (λ a b. a && b) (same x) (all_same f t same xs)

-- ---- where a page ends, and states

greatest_same : (f t : ℕ → Bool) → ((k : ℕ) → f k ≡ t k) → (n : ℕ) → greatest_upto f n ≡ greatest_upto t n
greatest_same f t same zero = ap (λ b. cond b (Some 0) None) (same 0)
greatest_same f t same (suc n) = ap₂ (λ b o. cond b (Some (suc n)) o) (same (suc n)) (greatest_same f t same n)

pub page_end-moved : (h : History) (kind : Kind) (max : Option ℕ) (c from : ℕ) → state_at h kind (end_after h c) ≤ from → page_end (moved_up h c) kind max from ≡ page_end h kind max from
page_end-moved h kind max c from reached =
    ap (λ o. unwrap_or o from)
    (greatest_same (may_end (moved_up h c) kind max from) (may_end h kind max from) (λ k. ap (λ ns. leb from k && is_within max (length ns)) (touched-moved h kind c from k reached)) (end_of (moved_up h c))
    ∙ ap (greatest_upto (may_end h kind max from)) (end_of-moved_up h c))

floor_low : (h : History) (kind : Kind) (c : ℕ) → FloorsAtMost h.floors h.floor → floor_of h.floors kind ≤ floor_of (moved_up h c).floors kind
floor_low h kind c low =
    let b = (last_position-bounds kind h.floor h.floors (take (end_after h c - h.floor) (ids_of h)) low).0 in
    let is = floors_are h kind (end_after h c) in
    omega (arith, b, is)

-- a state that is reached still is a state of before, and not below the kind's new floor position
pub state-moved : (h : History) (kind : Kind) (c : ℕ) (text : List ℕ) (s : ℕ) → FloorsAtMost h.floors h.floor → reached_state (moved_up h c) kind text ≡ Some s
    → (reached_state h kind text ≡ Some s) × (state_at h kind (end_after h c) ≤ s)
state-moved h kind c text s low is =
    let parts = reached_state-parts (moved_up h c) kind text s is in
    let from = parts.0.0 in
    let upto = parts.0.1 in
    let first = floor_low h kind c low in
    let same = end_of-moved_up h c in
    let at = floors_are h kind (end_after h c) in (
      reached_state-read h kind text s (omega (arith, from, first), omega (arith, upto, same)) parts.1 parts.2,
      omega (arith, from, at),
    )

-- a state of before that is not below the kind's new floor position is reached still
pub state-kept : (h : History) (kind : Kind) (c : ℕ) (text : List ℕ) (s : ℕ) → reached_state h kind text ≡ Some s → state_at h kind (end_after h c) ≤ s → reached_state (moved_up h c) kind text ≡ Some s
state-kept h kind c text s is from =
    let parts = reached_state-parts h kind text s is in
    let upto = parts.0.1 in
    let same = end_of-moved_up h c in
    let at = floors_are h kind (end_after h c) in
    reached_state-read (moved_up h c) kind text s (omega (arith, from, at), omega (arith, upto, same)) parts.1 parts.2

pub answer-moved : (h : History) (kind : Kind) (c : ℕ) (text : List ℕ) (max : Option ℤ) (s : ℕ) → FloorsAtMost h.floors h.floor → reached_state (moved_up h c) kind text ≡ Some s
    → answer_of (moved_up h c) kind text max ≡ answer_of h kind text max
answer-moved h kind c text max s low is =
    let found = state-moved h kind c text s low is in
    within (maximum_of max) (found.0) found.1
  where
    within : (o : Option (Option ℕ)) → reached_state h kind text ≡ Some s → state_at h kind (end_after h c) ≤ s → answer_within (moved_up h c) kind text o ≡ answer_within h kind text o
    within None was from = refl
    within (Some m) was from =
        let ends = page_end-moved h kind m c s from in
        let upto = (reached_state-parts h kind text s was).0.1 in
        let order : s ≤ page_end h kind m s = (IsPage-page_end h kind m s upto).later in
        ap (answer_since (moved_up h c) kind m) is
        ∙ (ap answered (ap (page_of (moved_up h c) kind s) ends ∙ page-moved h kind c s (page_end h kind m s) low from order) ∙ ap (answer_since h kind m) (sym was))
