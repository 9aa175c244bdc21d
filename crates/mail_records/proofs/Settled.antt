-- Where the state of a kind is the same at two positions, so are its records.
use Rattle.std.proofs.Common.{◌≡◌, ℕ, ◌+◌, ◌-◌, ◌≤◌, Bool, true, false, ◌||◌, List, [], ◌∷◌, ◌++◌, take, drop, map, length, Option, Some, None, refl, sym, ap, ◌∙◌, subst, arith, take-append-drop}
use Rattle.std.specs.List.{list_any}
use Rattle.std.proofs.lemmas.Bool.{true≢false}
use Rattle.std.proofs.lemmas.List.{take-map, drop-map, take-take}
use Rattle.jm_base.specs.declared.identifiers.Id.{Id}
use Rattle.jm_base.specs.declared.identifiers.Kind.{Kind}
use Rattle.jm_base.specs.declared.identifiers.Kind.TheVariants.{Mailbox as OfMailbox, Email as OfEmail, Thread as OfThread}
use Rattle.mail_records.specs.Contents.{Content, SameRecords}
use Rattle.mail_records.specs.Edits.{id_of, kind_of, after_edit, after_edits}
use Rattle.mail_records.specs.Histories.{History, Floors, FloorsAtMost, floor_of, edits_of, ids_of, content_at}
use Rattle.mail_records.specs.States.{is_kind, is_kind_of, last_place, place_with, placed_above, last_position, state_at}
use Rattle.mail_records.specs.declared.edits.Edit.{Edit}
use Rattle.mail_records.specs.declared.edits.Edit.TheVariants.{PutMailbox, DropMailbox, PutEmail, DropEmail, PutThread, DropThread}
use Rattle.mail_records.proofs.Growth.{after_edits-append}

-- an edit of another kind leaves the records
other_kind : (kind : Kind) (c : Content) (e : Edit) → is_kind kind (kind_of e) ≡ false → SameRecords kind (after_edit c e) c
other_kind OfMailbox c (PutMailbox item was counts) h = absurd (true≢false h)
other_kind OfMailbox c (DropMailbox number) h = absurd (true≢false h)
other_kind OfMailbox c (PutEmail item was) h = refl
other_kind OfMailbox c (DropEmail number thread) h = refl
other_kind OfMailbox c (PutThread item was) h = refl
other_kind OfMailbox c (DropThread number) h = refl
other_kind OfEmail c (PutMailbox item was counts) h = refl
other_kind OfEmail c (DropMailbox number) h = refl
other_kind OfEmail c (PutEmail item was) h = absurd (true≢false h)
other_kind OfEmail c (DropEmail number thread) h = absurd (true≢false h)
other_kind OfEmail c (PutThread item was) h = refl
other_kind OfEmail c (DropThread number) h = refl
other_kind OfThread c (PutMailbox item was counts) h = refl
other_kind OfThread c (DropMailbox number) h = refl
other_kind OfThread c (PutEmail item was) h = refl
other_kind OfThread c (DropEmail number thread) h = refl
other_kind OfThread c (PutThread item was) h = absurd (true≢false h)
other_kind OfThread c (DropThread number) h = absurd (true≢false h)

same_refl : (kind : Kind) (c : Content) → SameRecords kind c c
same_refl OfMailbox c = refl
same_refl OfEmail c = refl
same_refl OfThread c = refl

same_trans : (kind : Kind) (b c d : Content) → SameRecords kind b c → SameRecords kind c d → SameRecords kind b d
same_trans OfMailbox b c d p q = p ∙ q
same_trans OfEmail b c d p q = p ∙ q
same_trans OfThread b c d p q = p ∙ q

or_first : (a b : Bool) → (a || b) ≡ false → a ≡ false
or_first true b h = absurd (true≢false h)
or_first false b h = refl

or_second : (a b : Bool) → (a || b) ≡ false → b ≡ false
or_second true b h = absurd (true≢false h)
or_second false b h = h

-- edits of which none is of the kind leave the records
pub SameRecords-after_edits : (es : List Edit) (kind : Kind) (c : Content) → list_any (is_kind_of kind) (map id_of es) ≡ false → SameRecords kind (after_edits c es) c
SameRecords-after_edits [] kind c h = same_refl kind c
SameRecords-after_edits (e ∷ es) kind c h =
    let first = is_kind kind (kind_of e) in
    let rest = list_any (is_kind_of kind) (map id_of es) in
    same_trans kind (after_edits (after_edit c e) es) (after_edit c e) c
    (SameRecords-after_edits es kind (after_edit c e) (or_second first rest h))
    (other_kind kind c e (or_first first rest h))

with_none : (b : Bool) (o : Option ℕ) → place_with b o ≡ None → (b ≡ false) × (o ≡ None)
with_none true None h = absurd (cc)
with_none false None h = (refl, refl)
with_none b (Some n) h = absurd (cc)

-- where there is no last place nothing passes
none_passes : {A : Type 0} (test : A → Bool) (xs : List A) → last_place test xs ≡ None → list_any test xs ≡ false
none_passes test [] h = refl
none_passes test (x ∷ xs) h =
    let parts = with_none (test x) (last_place test xs) h in rw parts.0 (none_passes test xs parts.1)

with_some : (b : Bool) (o : Option ℕ) (n most : ℕ) → ((m : ℕ) → o ≡ Some m → m ≤ most) → place_with b o ≡ Some n → (1 ≤ n) × (n ≤ most + 1)
with_some true None n most h e = let one : 1 ≡ n = cc in (omega arith, omega arith)
with_some false None n most h e = absurd (cc)
with_some b (Some m) n most h e = let more : m + 1 ≡ n = cc in let le = h m refl in (omega arith, omega arith)

-- a last place is from 1 to the length
pub place_bounds : {A : Type 0} (test : A → Bool) (xs : List A) (n : ℕ) → last_place test xs ≡ Some n → (1 ≤ n) × (n ≤ length xs)
place_bounds test [] n e = absurd (cc)
place_bounds test (x ∷ xs) n e =
    let b = with_some (test x) (last_place test xs) n (length xs) (λ m k. (place_bounds test xs m k).1) e in
    let low = b.0 in
    let high = b.1 in
    (low, omega arith)

-- the later of two places, of which the first follows so many items
abbrev pub later : ℕ → Option ℕ → Option ℕ → Option ℕ
later n (Some m) o = Some (n + m)
later n None o = o

later_none : (o : Option ℕ) → o ≡ later 0 o None
later_none (Some m) = ap Some (let e : m ≡ 0 + m = omega arith in e)
later_none None = refl

later_with : (b : Bool) (n : ℕ) (o p : Option ℕ) → place_with b (later n o p) ≡ later (n + 1) o (place_with b p)
later_with b n (Some m) p = ap Some (let e : n + m + 1 ≡ n + 1 + m = omega arith in e)
later_with b n None p = refl

pub last_place-append : {A : Type 0} (test : A → Bool) (xs ys : List A) → last_place test (xs ++ ys) ≡ later (length xs) (last_place test ys) (last_place test xs)
last_place-append test [] ys = later_none (last_place test ys)
last_place-append test (x ∷ xs) ys =
    ap (place_with (test x)) (last_place-append test xs ys)
    ∙ (later_with (test x) (length xs) (last_place test ys) (last_place test xs)
    ∙ ap (λ n. later n (last_place test ys) (place_with (test x) (last_place test xs))) (let e : length xs + 1 ≡ length (x ∷ xs) = omega arith in e))

pub placed_low : {A : Type 0} (test : A → Bool) (xs : List A) (floor otherwise : ℕ) → otherwise ≤ floor → (o : Option ℕ) → last_place test xs ≡ o → placed_above floor otherwise o ≤ floor + length xs
placed_low test xs floor otherwise le (Some n) e = let high = (place_bounds test xs n e).1 in omega arith
placed_low test xs floor otherwise le None e = omega arith

-- where a list that continues has the same last position, nothing that follows passes
nothing_follows : {A : Type 0} (test : A → Bool) (xs ys : List A) (floor otherwise : ℕ) → otherwise ≤ floor
    → placed_above floor otherwise (last_place test xs) ≡ placed_above floor otherwise (last_place test (xs ++ ys)) → list_any test ys ≡ false
nothing_follows {A} test xs ys floor otherwise le same = by_place (last_place test ys) refl
  where
    by_place : (o : Option ℕ) → last_place test ys ≡ o → list_any test ys ≡ false
    by_place None e = none_passes test ys e
    by_place (Some m) e =
        let some = (place_bounds test ys m e).0 in
        let low = placed_low test xs floor otherwise le (last_place test xs) refl in
        let high : placed_above floor otherwise (last_place test (xs ++ ys)) ≡ floor + (length xs + m) =
        ap (placed_above floor otherwise) (last_place-append test xs ys ∙ ap (λ o. later (length xs) o (last_place test xs)) e) in
        absurd (omega arith)

-- a kind's floor position is at most the floor
pub floor_low : (kind : Kind) (floors : Floors) (floor : ℕ) → FloorsAtMost floors floor → floor_of floors kind ≤ floor
floor_low OfMailbox floors floor h = h.mailbox
floor_low OfEmail floors floor h = h.email
floor_low OfThread floors floor h = h.thread

front_of : {A : Type 0} (xs : List A) (a b : ℕ) → a ≤ b → take b xs ≡ take a xs ++ drop a (take b xs)
front_of xs a b le = sym (ap (λ zs. zs ++ drop a (take b xs)) (sym (take-take a b xs le)) ∙ take-append-drop a (take b xs))

-- equal states of a kind mean equal records of that kind
pub SameRecords-same_state : (h : History) (kind : Kind) (j k : ℕ) → FloorsAtMost h.floors h.floor → j ≤ k → state_at h kind j ≡ state_at h kind k → SameRecords kind (content_at h k) (content_at h j)
SameRecords-same_state h kind j k floors le same =
    let a = j - h.floor in
    let b = k - h.floor in
    let ordered : a ≤ b = omega arith in
    let es = edits_of h in
    let rest : List Edit = drop a (take b es) in
    let ids : take b (ids_of h) ≡ take a (ids_of h) ++ drop a (take b (ids_of h)) = front_of (ids_of h) a b ordered in
    let quiet : list_any (is_kind_of kind) (drop a (take b (ids_of h))) ≡ false =
    nothing_follows (is_kind_of kind) (take a (ids_of h)) (drop a (take b (ids_of h))) h.floor (floor_of h.floors kind) (floor_low kind h.floors h.floor floors)
    (same ∙ ap (last_position kind h.floor h.floors) ids) in
    let named : drop a (take b (ids_of h)) ≡ map id_of rest = ap (drop a) (take-map id_of b es) ∙ drop-map id_of a (take b es) in
    let still : list_any (is_kind_of kind) (map id_of rest) ≡ false = subst (λ (zs : List Id). list_any (is_kind_of kind) zs ≡ false) named quiet in
    let goes_on : content_at h k ≡ after_edits (content_at h j) rest = ap (after_edits h.base) (front_of es a b ordered) ∙ after_edits-append (take a es) rest h.base in
    subst (λ (c : Content). SameRecords kind c (content_at h j)) (sym goes_on) (SameRecords-after_edits rest kind (content_at h j) still)
