-- What stays as a history's floor moves up to the end of some of its entries.
use Rattle.std.proofs.Common.{◌≡◌, ℕ, ◌+◌, ◌-◌, ◌≤◌, not, eqb, suc, List, [], ◌∷◌, ◌++◌, take, map, length, Option, Some, None, refl, sym, ap, ◌∙◌, subst, arith, length-append}
use Rattle.std.specs.List.{AllByRecursion}
use Rattle.std.proofs.lemmas.List.{map-append, length-map}
use Rattle.jm_base.specs.declared.identifiers.Id.{Id}
use Rattle.jm_base.specs.declared.identifiers.Kind.{Kind}
use Rattle.jm_base.specs.declared.identifiers.Kind.TheVariants.{Mailbox as OfMailbox, Email as OfEmail, Thread as OfThread}
use Rattle.mail_records.specs.Contents.{Content, AreTables, AreNumbered, NextAtMost, email_number}
use Rattle.mail_records.specs.Edits.{id_of, after_edit, after_edits, AllFit}
use Rattle.mail_records.specs.Histories.{History, floor_of, edits_of, ids_of, blobs_of, end_of, end_after, content_at, content_of, account_after, NamesThread, IsSound, IsFounded, max_floor}
use Rattle.mail_records.specs.States.{is_kind_of, last_place, last_position, placed_above, state_at, state_of}
use Rattle.mail_records.specs.FloorMoves.{floors_at, moved_up}
use Rattle.mail_records.specs.declared.records.Email.{Email}
use Rattle.mail_records.specs.declared.edits.Edit.{Edit}
use Rattle.mail_records.specs.declared.edits.Edit.TheVariants.{PutMailbox, DropMailbox, PutEmail, DropEmail, PutThread, DropThread}
use Rattle.mail_records.proofs.Tables.{All-put, All-kept}
use Rattle.mail_records.proofs.Growth.{after_edits-append, AreTables-after_edits, AreNumbered-after_edits, NextAtMost-founded}
use Rattle.mail_records.proofs.Prefixes.{edits_of-account_after, blobs_of-account_after, content_at-end_after, all_front, IsSound-account_after, IsFounded-account_after}
use Rattle.mail_records.proofs.Reached.{state_at-end_after, state_at-most}
use Rattle.mail_records.proofs.Settled.{last_place-append, later}

-- ---- edits, content, blobs and end

-- its edits are those of the other entries
pub edits_of-moved_up : (h : History) (c : ℕ) → edits_of h ≡ edits_of (account_after h c) ++ edits_of (moved_up h c)
edits_of-moved_up h c = edits_of-account_after h c

pub content_of-moved_up : (h : History) (c : ℕ) → content_of (moved_up h c) ≡ content_of h
content_of-moved_up h c =
    ap (λ (b : Content). after_edits b (edits_of (moved_up h c))) (content_at-end_after h c)
    ∙ (sym (after_edits-append (edits_of (account_after h c)) (edits_of (moved_up h c)) h.base)
    ∙ ap (after_edits h.base) (sym (edits_of-moved_up h c)))

pub blobs_of-moved_up : (h : History) (c : ℕ) → blobs_of (moved_up h c) ≡ blobs_of h
blobs_of-moved_up h c = sym (blobs_of-account_after h c)

pub end_of-moved_up : (h : History) (c : ℕ) → end_of (moved_up h c) ≡ end_of h
end_of-moved_up h c =
    let parts = ap length (edits_of-moved_up h c) ∙ length-append (edits_of (account_after h c)) (edits_of (moved_up h c)) in omega (arith, parts)

-- the first items of two lists in a row, past the first list
take_past : {A : Type 0} (xs ys : List A) (n m : ℕ) → n ≡ length xs + m → take n (xs ++ ys) ≡ xs ++ take m ys
take_past [] ys n m e = ap (λ k. take k ys) (let is : n ≡ m = omega (arith, e) in is)
take_past (x ∷ xs) ys n m e =
    let more : length (x ∷ xs) ≡ length xs + 1 = omega arith in
    let is : n ≡ suc (n - 1) = omega (arith, e, more) in
    let rest : n - 1 ≡ length xs + m = omega (arith, e, more) in
    ap (λ k. take k ((x ∷ xs) ++ ys)) is ∙ ap (λ zs. x ∷ zs) (take_past xs ys (n - 1) m rest)

-- the edits up to a position from the new floor on
edits_upto : (h : History) (c k : ℕ) → end_after h c ≤ k → take (k - h.floor) (edits_of h) ≡ edits_of (account_after h c) ++ take (k - end_after h c) (edits_of (moved_up h c))
edits_upto h c k le =
    ap (take (k - h.floor)) (edits_of-moved_up h c)
    ∙ take_past (edits_of (account_after h c)) (edits_of (moved_up h c)) (k - h.floor) (k - end_after h c) (omega (arith, le))

-- the content at each position from the new floor on
pub content_at-moved_up : (h : History) (c k : ℕ) → end_after h c ≤ k → content_at (moved_up h c) k ≡ content_at h k
content_at-moved_up h c k le =
    ap (λ (b : Content). after_edits b (take (k - end_after h c) (edits_of (moved_up h c)))) (content_at-end_after h c)
    ∙ (sym (after_edits-append (edits_of (account_after h c)) (take (k - end_after h c) (edits_of (moved_up h c))) h.base)
    ∙ ap (after_edits h.base) (sym (edits_upto h c k le)))

-- ---- states

pub floors_are : (h : History) (kind : Kind) (k : ℕ) → floor_of (floors_at h k) kind ≡ state_at h kind k
floors_are h OfMailbox k = refl
floors_are h OfEmail k = refl
floors_are h OfThread k = refl

-- the position of the last place after so many items, from the one among those before
above : (floor n otherwise : ℕ) (o p : Option ℕ) → placed_above (floor + n) (placed_above floor otherwise p) o ≡ placed_above floor otherwise (later n o p)
above floor n otherwise (Some m) p = let e : floor + n + m ≡ floor + (n + m) = omega arith in e
above floor n otherwise None p = refl

-- ids after those of the first entries have one last position from either floor
position_above : (h : History) (kind : Kind) (c : ℕ) (ids : List Id)
    → last_position kind (end_after h c) (floors_at h (end_after h c)) ids ≡ last_position kind h.floor h.floors (ids_of (account_after h c) ++ ids)
position_above h kind c ids =
    let first = ids_of (account_after h c) in
    let count : length first ≡ length (edits_of (account_after h c)) = length-map (edits_of (account_after h c)) id_of in
    let here : end_after h c ≡ h.floor + length first = omega (arith, count) in
    ap (λ g. placed_above (end_after h c) g (last_place (is_kind_of kind) ids)) (floors_are h kind (end_after h c) ∙ state_at-end_after h kind c)
    ∙ (ap (λ f. placed_above f (last_position kind h.floor h.floors first) (last_place (is_kind_of kind) ids)) here
    ∙ (above h.floor (length first) (floor_of h.floors kind) (last_place (is_kind_of kind) ids) (last_place (is_kind_of kind) first)
    ∙ ap (placed_above h.floor (floor_of h.floors kind)) (sym (last_place-append (is_kind_of kind) first ids))))

ids_of-moved_up : (h : History) (c : ℕ) → ids_of h ≡ ids_of (account_after h c) ++ ids_of (moved_up h c)
ids_of-moved_up h c = ap (map id_of) (edits_of-moved_up h c) ∙ map-append id_of (edits_of (account_after h c)) (edits_of (moved_up h c))

-- the state of a kind at each position from the new floor on, and at the end
pub state_at-moved_up : (h : History) (kind : Kind) (c k : ℕ) → end_after h c ≤ k → state_at (moved_up h c) kind k ≡ state_at h kind k
state_at-moved_up h kind c k le =
    let first = ids_of (account_after h c) in
    let rest = ids_of (moved_up h c) in
    let count : length first ≡ length (edits_of (account_after h c)) = length-map (edits_of (account_after h c)) id_of in
    let past : take (k - h.floor) (first ++ rest) ≡ first ++ take (k - end_after h c) rest = take_past first rest (k - h.floor) (k - end_after h c) (omega (arith, le, count)) in
    position_above h kind c (take (k - end_after h c) rest)
    ∙ ap (last_position kind h.floor h.floors) (sym (ap (take (k - h.floor)) (ids_of-moved_up h c) ∙ past))

pub state_of-moved_up : (h : History) (kind : Kind) (c : ℕ) → state_of (moved_up h c) kind ≡ state_of h kind
state_of-moved_up h kind c = position_above h kind c (ids_of (moved_up h c)) ∙ ap (last_position kind h.floor h.floors) (sym (ids_of-moved_up h c))

-- ---- what a founded and sound history keeps

pub IsFounded-moved_up : (h : History) (c : ℕ) → end_after h c ≤ max_floor → IsFounded h → IsSound h → IsFounded (moved_up h c)
IsFounded-moved_up h c low founded sound =
    let k = end_after h c in
    let le : h.floor ≤ k = omega arith in
    let is : content_of (account_after h c) ≡ content_at h k = sym (content_at-end_after h c) in
    let fits = (IsSound-account_after h c sound).fits in record {
      low = low;
      floors = record {
        mailbox = state_at-most h OfMailbox k founded.floors le;
        email = state_at-most h OfEmail k founded.floors le;
        thread = state_at-most h OfThread k founded.floors le;
      };
      tables = subst AreTables is (AreTables-after_edits (edits_of (account_after h c)) h.base founded.tables);
      numbered = subst AreNumbered is (AreNumbered-after_edits (edits_of (account_after h c)) h.base fits founded.numbered);
      next = subst (NextAtMost (k + 1)) is (NextAtMost-founded (account_after h c) (IsFounded-account_after h c founded) fits);
    }

AllFit-rest : (es more : List Edit) (c : Content) → AllFit c (es ++ more) → AllFit (after_edits c es) more
AllFit-rest [] more c fit = fit
AllFit-rest (e ∷ es) more c fit = AllFit-rest es more (after_edit c e) fit.1

pub all_rest : {R : Type 0} (P : R → Type 0) (xs ys : List R) → AllByRecursion P (xs ++ ys) → AllByRecursion P ys
all_rest P [] ys all = all
all_rest P (x ∷ xs) ys all = all_rest P xs ys all.1

abbrev IsOf : (ℕ → ℕ) → Email → Type 0
IsOf f x = f x.number ≡ x.thread

-- the emails of a content are of the threads that its base and the edits name
emails_of : (es : List Edit) (c : Content) (f : ℕ → ℕ) → AllByRecursion (IsOf f) c.emails → AllByRecursion (NamesThread f) es → AllByRecursion (IsOf f) (after_edits c es).emails
emails_of [] c f of named = of
emails_of (PutMailbox item was counts ∷ es) c f of named = emails_of es (after_edit c (PutMailbox item was counts)) f of named.1
emails_of (DropMailbox number ∷ es) c f of named = emails_of es (after_edit c (DropMailbox number)) f of named.1
emails_of (PutEmail item was ∷ es) c f of named = emails_of es (after_edit c (PutEmail item was)) f (All-put (IsOf f) email_number item named.0 c.emails of) named.1
emails_of (DropEmail number thread ∷ es) c f of named =
    emails_of es (after_edit c (DropEmail number thread)) f (All-kept (IsOf f) (λ (x : Email). not (eqb x.number number)) c.emails of) named.1
emails_of (PutThread item was ∷ es) c f of named = emails_of es (after_edit c (PutThread item was)) f of named.1
emails_of (DropThread number ∷ es) c f of named = emails_of es (after_edit c (DropThread number)) f of named.1

pub IsSound-moved_up : (h : History) (c : ℕ) → IsSound h → IsSound (moved_up h c)
IsSound-moved_up h c sound =
    let one = sound.one_thread in
    let first = edits_of (account_after h c) in
    let rest = edits_of (moved_up h c) in
    let is : content_of (account_after h c) ≡ content_at h (end_after h c) = sym (content_at-end_after h c) in
    let named = subst (AllByRecursion (NamesThread one.0)) (edits_of-moved_up h c) one.1.in_edits in
    record {
      fits = subst (λ (b : Content). AllFit b rest) is (AllFit-rest first rest h.base (subst (AllFit h.base) (edits_of-moved_up h c) sound.fits));
      one_thread = (
        one.0,
        record {
          in_base =
              subst (λ (b : Content). AllByRecursion (IsOf one.0) b.emails) is
              (emails_of first h.base one.0 one.1.in_base (all_front (NamesThread one.0) first rest named));
          in_edits = all_rest (NamesThread one.0) first rest named;
        },
      );
    }
