-- What a log keeps by kind is that of its notes: as notes are added, and as the floor moves.
use Rattle.std.proofs.Common.{◌≡◌, ℕ, zero, suc, ◌+◌, ◌-◌, ◌<◌, ◌≤◌, ◌^◌, Bool, true, false, cond, List, [], ◌∷◌, ◌++◌, Option, Some, None, is_some, map, take, drop, length, get_or, refl, sym, ap, ap₂, ◌∙◌, subst, arith, length-append, length-drop, take-append-drop, take-take, filter, eqb, ⊎_elim}
use Rattle.std.specs.List.{All, AllByRecursion}
use Rattle.std.specs.List.Sorted.{IsNonDecreasingBy}
use Rattle.std.proofs.lemmas.Bool.{cases_Bool}
use Rattle.std.proofs.lemmas.List.{drop-map, get_or-drop, get_or-map, get_or-take, length-map, take-map, length-take-le}
use Rattle.jm_base.specs.declared.identifiers.Id.{Id}
use Rattle.jm_base.specs.declared.identifiers.Kind.{Kind}
use Rattle.jm_base.specs.declared.identifiers.Kind.TheVariants.{Mailbox as OfMailbox, Email as OfEmail, Thread as OfThread}
use Rattle.mail_records.specs.FloorMoves.{moved_up}
use Rattle.mail_records.specs.Histories.{Floors, FloorsAtMost, History, edits_in, edits_of, end_after, floor_of, account_after}
use Rattle.mail_records.specs.States.{ids_between, is_id, is_kind, is_kind_of, last_position, state_at}
use Rattle.mail_records.specs.declared.edits.Edit.{Edit}
use Rattle.mail_records.specs.declared.edits.Edit.TheVariants.{PutMailbox, PutEmail, PutThread, DropMailbox, DropEmail, DropThread}
use Rattle.mail_records.proofs.Prefixes.{edits_of-account_after}
use Rattle.mail_records.proofs.Reached.{last_position-bounds, length_take}
use Rattle.state_log.specs.Logs.{HasThread, IsLogOf, edit_before, Keeps, Notes, ids_in, log_end, note_id, note_of, numbers_named, threads_named, with_thread}
use Rattle.state_log.specs.Positions.{AreInOrder, Places, count_upto, last_or, number_at, places_of, positions_of, positions_where}
use Rattle.state_log.specs.declared.notes.Note.{Note}
use Rattle.state_log.proofs.Agreement.{state_at-log}
use Rattle.state_log.proofs.Spanned.{after_seam, between_seams, count-positions, front_seam, last-positions, positions-bounds, positions-rise, positions-split}

-- ---- one note more

pub positions-push : (kind : Kind) (at : ℕ) (notes : List Note) (note : Note) (position : ℕ) → position ≡ at + length notes + 1
    → positions_of kind at (ids_in (notes ++ note ∷ [])) ≡ cond (is_kind kind note.kind) (positions_of kind at (ids_in notes) ++ position ∷ []) (positions_of kind at (ids_in notes))
positions-push kind at [] note position is = let e : at + 1 ≡ position = omega arith in ap (λ (n : ℕ). cond (is_kind kind note.kind) (n ∷ []) []) e
positions-push kind at (m ∷ ms) note position is =
    let rest = positions-push kind (at + 1) ms note position (omega arith) in
    ⊎_elim
    (λ (t : is_kind kind m.kind ≡ true). rw t (ap (λ ps. (at + 1) ∷ ps) rest ∙ inside (is_kind kind note.kind) (at + 1) (positions_of kind (at + 1) (ids_in ms))))
    (λ (t : is_kind kind m.kind ≡ false). rw t rest)
    (cases_Bool (is_kind kind m.kind))
  where
    inside : (b : Bool) (p : ℕ) (ps : List ℕ) → p ∷ cond b (ps ++ position ∷ []) ps ≡ cond b (p ∷ ps ++ position ∷ []) (p ∷ ps)
    inside true p ps = refl
    inside false p ps = refl

with_append : (o : Option ℕ) (xs ys : List ℕ) → with_thread o (xs ++ ys) ≡ with_thread o xs ++ ys
with_append None xs ys = refl
with_append (Some t) xs ys = refl

pub threads-append : (xs ys : List Note) → threads_named (xs ++ ys) ≡ threads_named xs ++ threads_named ys
threads-append [] ys = refl
threads-append (x ∷ xs) ys = ap (with_thread x.thread) (threads-append xs ys) ∙ with_append x.thread (threads_named xs) (threads_named ys)

pub all-append : {A : Type 0} (P : A → Type 0) (xs ys : List A) → AllByRecursion P xs → AllByRecursion P ys → AllByRecursion P (xs ++ ys)
all-append P [] ys a b = b
all-append P (x ∷ xs) ys a b = (a.0, all-append P xs ys a.1 b)

pub all-drop : {A : Type 0} (P : A → Type 0) (n : ℕ) (xs : List A) → AllByRecursion P xs → AllByRecursion P (drop n xs)
all-drop P zero [] a = a
all-drop P zero (x ∷ xs) a = a
all-drop P (suc n) [] a = a
all-drop P (suc n) (x ∷ xs) a = all-drop P n xs a.1

pub all-take : {A : Type 0} (P : A → Type 0) (n : ℕ) (xs : List A) → AllByRecursion P xs → AllByRecursion P (take n xs)
all-take P zero [] a = tt
all-take P zero (x ∷ xs) a = tt
all-take P (suc n) [] a = tt
all-take P (suc n) (x ∷ xs) a = (a.0, all-take P n xs a.1)

-- a note of an edit names a thread if and only if it is of an email
pub note_of-named : (e : Edit) → HasThread (note_of e)
note_of-named (PutMailbox item was counts) = refl
note_of-named (PutEmail item was) = refl
note_of-named (PutThread item was) = refl
note_of-named (DropMailbox number) = refl
note_of-named (DropEmail number thread) = refl
note_of-named (DropThread number) = refl

pub Keeps-push : (floor : ℕ) (floors : Floors) (notes : List Note) (note : Note) (old new : Places) (position : ℕ) → Keeps floor floors notes old → floor + length notes + 1 < 2 ^ 64
    → position ≡ floor + length notes + 1 → HasThread note
    → new.mailbox ≡ cond (is_kind OfMailbox note.kind) (old.mailbox ++ position ∷ []) old.mailbox
    → new.email ≡ cond (is_kind OfEmail note.kind) (old.email ++ position ∷ []) old.email
    → new.thread ≡ cond (is_kind OfThread note.kind) (old.thread ++ position ∷ []) old.thread
    → new.email_threads ≡ old.email_threads ++ with_thread note.thread []
    → Keeps floor floors (notes ++ note ∷ []) new
Keeps-push floor floors notes note old new position keeps short at named mailbox email thread threads = record {
  short = let e : length (notes ++ note ∷ []) ≡ length notes + 1 = length-append notes (note ∷ []) in omega arith;
  low = keeps.low;
  mailbox = moved OfMailbox old.mailbox new.mailbox keeps.mailbox mailbox;
  email = moved OfEmail old.email new.email keeps.email email;
  thread = moved OfThread old.thread new.thread keeps.thread thread;
  email_threads = threads ∙ (ap (λ ts. ts ++ with_thread note.thread []) keeps.email_threads ∙ sym (threads-append notes (note ∷ [])));
  named = all-append HasThread notes (note ∷ []) keeps.named (named, tt);
}
  where
    moved : (kind : Kind) (was now : List ℕ) → was ≡ positions_of kind floor (ids_in notes) → now ≡ cond (is_kind kind note.kind) (was ++ position ∷ []) was → now ≡ positions_of kind floor (ids_in (notes ++ note ∷ []))
    moved kind was now kept is = is ∙ (ap (λ ps. cond (is_kind kind note.kind) (ps ++ position ∷ []) ps) kept ∙ sym (positions-push kind floor notes note position at))

-- ---- what is kept

threads_counted : (o : Option ℕ) (ts : List ℕ) → length (with_thread o ts) ≡ cond (is_some o) (suc (length ts)) (length ts)
threads_counted None ts = refl
threads_counted (Some t) ts = refl

-- there are as many threads as positions of emails
pub length-threads : (at : ℕ) (notes : List Note) → AllByRecursion HasThread notes → length (threads_named notes) ≡ length (positions_of OfEmail at (ids_in notes))
length-threads at [] named = refl
length-threads at (n ∷ ns) named =
    threads_counted n.thread (threads_named ns)
    ∙ (ap (λ b. cond b (suc (length (threads_named ns))) (length (threads_named ns))) named.0
    ∙ (ap (λ k. cond (is_kind OfEmail n.kind) (suc k) k) (length-threads (at + 1) ns named.1)
    ∙ inside (is_kind OfEmail n.kind)))
  where
    inside : (b : Bool) → cond b (suc (length (positions_of OfEmail (at + 1) (ids_in ns)))) (length (positions_of OfEmail (at + 1) (ids_in ns)))
        ≡ length (cond b ((at + 1) ∷ positions_of OfEmail (at + 1) (ids_in ns)) (positions_of OfEmail (at + 1) (ids_in ns)))
    inside true = refl
    inside false = refl

pub places-are : (kind : Kind) (floor : ℕ) (floors : Floors) (notes : List Note) (places : Places) → Keeps floor floors notes places → places_of places kind ≡ positions_of kind floor (ids_in notes)
places-are OfMailbox floor floors notes places keeps = keeps.mailbox
places-are OfEmail floor floors notes places keeps = keeps.email
places-are OfThread floor floors notes places keeps = keeps.thread

rises : (kind : Kind) (floor : ℕ) (floors : Floors) (notes : List Note) (places : Places) → Keeps floor floors notes places → IsNonDecreasingBy (λ n. n) (places_of places kind)
rises kind floor floors notes places keeps =
    subst (λ (ps : List ℕ). IsNonDecreasingBy (λ n. n) ps) (sym (places-are kind floor floors notes places keeps)) (positions-rise (is_kind_of kind) floor (ids_in notes))

pub Keeps-in_order : (floor : ℕ) (floors : Floors) (notes : List Note) (places : Places) → Keeps floor floors notes places → AreInOrder places
Keeps-in_order floor floors notes places keeps = record {
  mailbox = rises OfMailbox floor floors notes places keeps;
  email = rises OfEmail floor floors notes places keeps;
  thread = rises OfThread floor floors notes places keeps;
  threads = ap length keeps.email_threads ∙ (length-threads floor notes keeps.named ∙ ap length (sym keeps.email));
}

-- ---- what is lent

-- the positions after one position, up to another
pub positions-between : (kind : Kind) (floor : ℕ) (ids : List Id) (ps : List ℕ) (from upto : ℕ) → ps ≡ positions_of kind floor ids → from ≤ upto
    → drop (count_upto ps from) (take (count_upto ps upto) ps) ≡ positions_of kind (floor + (from - floor)) (ids_between floor from upto ids)
positions-between kind floor ids ps from upto is order =
    let test = is_kind_of kind in
    let a = from - floor in
    let b = upto - floor in
    let le : a ≤ b = omega arith in
    let front : List ℕ = positions_where test floor (take a ids) in
    let part : List ℕ = positions_where test (floor + a) (drop a (take b ids)) in
    let first : positions_where test floor (take b ids) ≡ front ++ part =
    positions-split test floor a (take b ids) ∙ ap (λ (zs : List Id). positions_where test floor zs ++ part) (take-take a b ids le) in
    let whole : ps ≡ (front ++ part) ++ positions_where test (floor + b) (drop b ids) =
    is ∙ (positions-split test floor b ids ∙ ap (λ zs. zs ++ positions_where test (floor + b) (drop b ids)) first) in
    between_seams ps front part (positions_where test (floor + b) (drop b ids)) (count_upto ps from) (count_upto ps upto) whole
    (ap (λ zs. count_upto zs from) is ∙ count-positions test floor from ids)
    (ap (λ zs. count_upto zs upto) is ∙ (count-positions test floor upto ids ∙ ap length first))

count_threads : (floor : ℕ) (notes : List Note) (ps : List ℕ) (k : ℕ) → ps ≡ positions_of OfEmail floor (ids_in notes) → AllByRecursion HasThread notes → count_upto ps k ≡ length (threads_named (take (k - floor) notes))
count_threads floor notes ps k is named =
    ap (λ zs. count_upto zs k) is
    ∙ (count-positions (is_kind_of OfEmail) floor k (ids_in notes)
    ∙ (ap (λ (zs : List Id). length (positions_of OfEmail floor zs)) (take-map note_id (k - floor) notes)
    ∙ sym (length-threads floor (take (k - floor) notes) (all-take HasThread (k - floor) notes named))))

pub threads-between : (floor : ℕ) (notes : List Note) (ps threads : List ℕ) (from upto : ℕ) → ps ≡ positions_of OfEmail floor (ids_in notes) → threads ≡ threads_named notes → AllByRecursion HasThread notes → from ≤ upto
    → drop (count_upto ps from) (take (count_upto ps upto) threads) ≡ threads_named (drop (from - floor) (take (upto - floor) notes))
threads-between floor notes ps threads from upto is are named order =
    let a = from - floor in
    let b = upto - floor in
    let le : a ≤ b = omega arith in
    let front : List ℕ = threads_named (take a notes) in
    let part : List ℕ = threads_named (drop a (take b notes)) in
    let first : threads_named (take b notes) ≡ front ++ part =
    ap threads_named (sym (take-append-drop a (take b notes)))
    ∙ (threads-append (take a (take b notes)) (drop a (take b notes)) ∙ ap (λ (zs : List Note). threads_named zs ++ part) (take-take a b notes le)) in
    let whole : threads ≡ (front ++ part) ++ threads_named (drop b notes) =
    are
    ∙ (ap threads_named (sym (take-append-drop b notes)) ∙ (threads-append (take b notes) (drop b notes) ∙ ap (λ zs. zs ++ threads_named (drop b notes)) first)) in
    between_seams threads front part (threads_named (drop b notes)) (count_upto ps from) (count_upto ps upto) whole
    (count_threads floor notes ps from is named) (count_threads floor notes ps upto is named ∙ ap length first)

-- the state of a kind by its last position up to a position
pub last-upto : (kind : Kind) (floor : ℕ) (floors : Floors) (ids : List Id) (ps : List ℕ) (position : ℕ) → ps ≡ positions_of kind floor ids
    → last_or (take (count_upto ps position) ps) (floor_of floors kind) ≡ last_position kind floor floors (take (position - floor) ids)
last-upto kind floor floors ids ps position is =
    let test = is_kind_of kind in
    let n = position - floor in
    let front : List ℕ = positions_where test floor (take n ids) in
    ap (λ zs. last_or zs (floor_of floors kind))
    (front_seam ps front (positions_where test (floor + n) (drop n ids)) (count_upto ps position) (is ∙ positions-split test floor n ids)
    (ap (λ zs. count_upto zs position) is ∙ count-positions test floor position ids))
    ∙ last-positions test floor (floor_of floors kind) (take n ids)

-- each position in a span is that of a note
pub between-bounds : (kind : Kind) (floor : ℕ) (ids : List Id) (from upto : ℕ) → from ≤ upto → upto ≤ floor + length ids
    → All (λ p. (floor < p) × (p ≤ floor + length ids)) (positions_of kind (floor + (from - floor)) (ids_between floor from upto ids))
between-bounds kind floor ids from upto order within k d lt =
    let a = from - floor in
    let part = ids_between floor from upto ids in
    let b = positions-bounds (is_kind_of kind) (floor + a) part k d lt in
    let low = b.0 in
    let high = b.1 in
    let size : length part ≡ length (take (upto - floor) ids) - a = length-drop a (take (upto - floor) ids) in
    let all : length (take (upto - floor) ids) ≡ upto - floor = length-take-le (upto - floor) ids (omega arith) in
    let some : a + length part ≤ length ids = omega (arith, size, all, within, order) in
    (omega (arith, low), omega (arith, high, some))

-- ---- numbers

-- the number of the id that has a position is that of the note there
pub number_is : (floor : ℕ) (notes : List Note) (p : ℕ) (d : Note) → floor < p → p ≤ floor + length notes → (get_or notes (p - floor - 1) d).number ≡ number_at floor (ids_in notes) p
number_is floor notes p d low high =
    let k = p - floor - 1 in
    let lt : k < length notes = omega (arith, low, high) in
    sym (ap (λ ns. get_or ns k 0) (numbers_same notes) ∙ get_or-map (λ (n : Note). n.number) notes k d 0 lt)
  where
    numbers_same : (ns : List Note) → map (λ (i : Id). i.number) (ids_in ns) ≡ map (λ (n : Note). n.number) ns
    numbers_same [] = refl
    numbers_same (n ∷ ns) = ap (λ ms. n.number ∷ ms) (numbers_same ns)

-- a look-up by positions that gives each item's number gives the numbers of the kind
numbers_looked : (kind : Kind) (look : ℕ → ℕ) (at : ℕ) (ids : List Id) → ((k : ℕ) (d : Id) → k < length ids → look (at + k + 1) ≡ (get_or ids k d).number) → map look (positions_of kind at ids) ≡ numbers_named kind ids
numbers_looked kind look at [] looks = refl
numbers_looked kind look at (i ∷ is) looks =
    let here : look (at + 1) ≡ i.number = let e : at + 1 ≡ at + 0 + 1 = omega arith in ap look e ∙ looks 0 i (omega arith) in
    let rest : map look (positions_of kind (at + 1) is) ≡ numbers_named kind is =
    numbers_looked kind look (at + 1) is (λ k d lt. let e : at + 1 + k + 1 ≡ at + suc k + 1 = omega arith in ap look e ∙ looks (suc k) d (omega arith)) in
    ⊎_elim
    (λ (t : is_kind kind i.kind ≡ true). rw t (ap₂ (λ m ms. m ∷ ms) here rest))
    (λ (t : is_kind kind i.kind ≡ false). rw t rest)
    (cases_Bool (is_kind kind i.kind))

-- the numbers that are named in a span are those at its positions
pub numbers-between : (kind : Kind) (floor : ℕ) (ids : List Id) (from upto : ℕ)
    → map (number_at floor ids) (positions_of kind (floor + (from - floor)) (ids_between floor from upto ids)) ≡ numbers_named kind (ids_between floor from upto ids)
numbers-between kind floor ids from upto =
    let a = from - floor in
    let b = upto - floor in
    let part = ids_between floor from upto ids in
    numbers_looked kind (number_at floor ids) (floor + a) part
    (λ k d lt.
    let size : length part ≡ length (take b ids) - a = length-drop a (take b ids) in
    let few = length_take b ids in
    let low = few.0 in
    let high = few.1 in
    let inside : a + k < b = omega (arith, size, lt, low) in
    let there : a + k < length ids = omega (arith, size, lt, high) in
    let at : floor + a + k + 1 - floor - 1 ≡ a + k = omega arith in
    ap (λ n. get_or (map (λ (i : Id). i.number) ids) n 0) at
    ∙ (get_or-map (λ (i : Id). i.number) ids (a + k) d 0 there
    ∙ ap (λ (i : Id). i.number) (sym (get_or-drop a (take b ids) k d ∙ get_or-take b ids (a + k) d inside))))

-- the positions of the ids that are this one are those of its kind at which the look-up gives its number
ids_looked : (kind : Kind) (n : ℕ) (look : ℕ → ℕ) (at : ℕ) (ids : List Id) → ((k : ℕ) (d : Id) → k < length ids → look (at + k + 1) ≡ (get_or ids k d).number)
    → filter (λ p. eqb (look p) n) (positions_of kind at ids) ≡ positions_where (is_id kind n) at ids
ids_looked kind n look at [] looks = refl
ids_looked kind n look at (i ∷ is) looks =
    let here : look (at + 1) ≡ i.number = let e : at + 1 ≡ at + 0 + 1 = omega arith in ap look e ∙ looks 0 i (omega arith) in
    let rest : filter (λ p. eqb (look p) n) (positions_of kind (at + 1) is) ≡ positions_where (is_id kind n) (at + 1) is =
    ids_looked kind n look (at + 1) is (λ k d lt. let e : at + 1 + k + 1 ≡ at + suc k + 1 = omega arith in ap look e ∙ looks (suc k) d (omega arith)) in
    ⊎_elim
    (λ (t : is_kind kind i.kind ≡ true). rw t (ap₂ (λ m ps. cond (eqb m n) ((at + 1) ∷ ps) ps) here rest))
    (λ (t : is_kind kind i.kind ≡ false). rw t rest)
    (cases_Bool (is_kind kind i.kind))

-- the edit before the one at a position is the last before it at which a note of the kind has the number
pub before-is : (l : Notes) (n : Note) (position : ℕ) → l.floor < position → position ≤ log_end l
    → last_or (filter (λ p. eqb (number_at l.floor (ids_in l.notes) p) n.number) (positions_of n.kind (l.floor + (l.floor - l.floor)) (ids_between l.floor l.floor (position - 1) (ids_in l.notes)))) 0
    ≡ edit_before l n position
before-is l n position above within =
    let floor = l.floor in
    let ids = ids_in l.notes in
    let m = position - floor - 1 in
    let look : ℕ → ℕ = number_at floor ids in
    let front = take m ids in
    let none : floor - floor ≡ 0 = omega arith in
    let few : position - 1 - floor ≡ m = omega arith in
    let at : floor + (floor - floor) ≡ floor = omega arith in
    let part : ids_between floor floor (position - 1) ids ≡ front = ap₂ (λ a b. drop a (take b ids)) none few in
    let same : length ids ≡ length l.notes = length-map l.notes note_id in
    ap₂ (λ (a : ℕ) (is : List Id). last_or (filter (λ p. eqb (look p) n.number) (positions_of n.kind a is)) 0) at part
    ∙ (ap (λ ps. last_or ps 0)
    (ids_looked n.kind n.number look floor front
    (λ k d lt.
    let few = length_take m ids in
    let low = few.0 in
    let high = few.1 in
    let inside : k < m = omega (arith, lt, low) in
    let there : k < length ids = omega (arith, lt, high) in
    let is : floor + k + 1 - floor - 1 ≡ k = omega arith in
    ap (λ j. get_or (map (λ (i : Id). i.number) ids) j 0) is
    ∙ (get_or-map (λ (i : Id). i.number) ids k d 0 there ∙ ap (λ (i : Id). i.number) (sym (get_or-take m ids k d inside)))))
    ∙ last-positions (is_id n.kind n.number) floor 0 front)

-- ---- for the functions of a log

pub state-kept : (kind : Kind) (floor : ℕ) (floors : Floors) (notes : List Note) (places : Places) → Keeps floor floors notes places
    → last_or (places_of places kind) (floor_of floors kind) ≡ last_position kind floor floors (ids_in notes)
state-kept kind floor floors notes places keeps =
    ap (λ ps. last_or ps (floor_of floors kind)) (places-are kind floor floors notes places keeps) ∙ last-positions (is_kind_of kind) floor (floor_of floors kind) (ids_in notes)

pub state_at-kept : (kind : Kind) (floor : ℕ) (floors : Floors) (notes : List Note) (places : Places) (position : ℕ) → Keeps floor floors notes places
    → last_or (take (count_upto (places_of places kind) position) (places_of places kind)) (floor_of floors kind) ≡ last_position kind floor floors (take (position - floor) (ids_in notes))
state_at-kept kind floor floors notes places position keeps = last-upto kind floor floors (ids_in notes) (places_of places kind) position (places-are kind floor floors notes places keeps)

-- each position in a span of a log is that of one of its notes
pub span-bounds : (kind : Kind) (l : Notes) (from upto : ℕ) → from ≤ upto → upto ≤ log_end l
    → All (λ p. (l.floor < p) × (p ≤ l.floor + length l.notes)) (positions_of kind (l.floor + (from - l.floor)) (ids_between l.floor from upto (ids_in l.notes)))
span-bounds kind l from upto order within k d lt =
    let same : length (ids_in l.notes) ≡ length l.notes = length-map l.notes note_id in
    let b = between-bounds kind l.floor (ids_in l.notes) from upto order (omega (arith, same, within)) k d lt in
    let low = b.0 in
    let high = b.1 in
    (low, omega (arith, high, same))

-- ---- the floor moves

-- the positions after a floor, of the ids after it
after_floor : (kind : Kind) (floor new : ℕ) (notes : List Note) (ps : List ℕ) → floor ≤ new → ps ≡ positions_of kind floor (ids_in notes)
    → drop (count_upto ps new) ps ≡ positions_of kind new (ids_in (drop (new - floor) notes))
after_floor kind floor new notes ps later is =
    let test = is_kind_of kind in
    let n = new - floor in
    let ids = ids_in notes in
    let at : floor + n ≡ new = omega arith in
    after_seam ps (positions_where test floor (take n ids)) (positions_where test (floor + n) (drop n ids)) (count_upto ps new) (is ∙ positions-split test floor n ids)
    (ap (λ zs. count_upto zs new) is ∙ count-positions test floor new ids)
    ∙ (ap (λ m. positions_where test m (drop n ids)) at ∙ ap (positions_where test new) (drop-map note_id n notes))

pub Keeps-moved : (floor new : ℕ) (floors moved : Floors) (notes : List Note) (old places : Places) → Keeps floor floors notes old → floor ≤ new → new ≤ floor + length notes → FloorsAtMost moved new
    → places.mailbox ≡ drop (count_upto old.mailbox new) old.mailbox
    → places.email ≡ drop (count_upto old.email new) old.email
    → places.thread ≡ drop (count_upto old.thread new) old.thread
    → places.email_threads ≡ drop (count_upto old.email new) old.email_threads
    → Keeps new moved (drop (new - floor) notes) places
Keeps-moved floor new floors moved notes old places keeps later within low mailbox email thread threads = record {
  short = let short = keeps.short in let e : length (drop (new - floor) notes) ≡ length notes - (new - floor) = length-drop (new - floor) notes in omega (arith, e, short, later, within);
  low = low;
  mailbox = mailbox ∙ after_floor OfMailbox floor new notes old.mailbox later keeps.mailbox;
  email = email ∙ after_floor OfEmail floor new notes old.email later keeps.email;
  thread = thread ∙ after_floor OfThread floor new notes old.thread later keeps.thread;
  email_threads =
      threads
      ∙ after_seam old.email_threads (threads_named (take (new - floor) notes)) (threads_named (drop (new - floor) notes)) (count_upto old.email new)
      (keeps.email_threads ∙ (ap threads_named (sym (take-append-drop (new - floor) notes)) ∙ threads-append (take (new - floor) notes) (drop (new - floor) notes)))
      (count_threads floor notes old.email new keeps.email keeps.named);
  named = all-drop HasThread (new - floor) notes keeps.named;
}

-- the state of a kind at a position is at most that position
low_at : (kind : Kind) (floor new : ℕ) (floors : Floors) (ids : List Id) → FloorsAtMost floors floor → floor ≤ new → last_position kind floor floors (take (new - floor) ids) ≤ new
low_at kind floor new floors ids low later =
    let b = last_position-bounds kind floor floors (take (new - floor) ids) low in
    let high = b.1 in
    let few = (length_take (new - floor) ids).0 in
    omega (arith, high, few, later)

pub floors-low : (floor new : ℕ) (floors : Floors) (ids : List Id) → FloorsAtMost floors floor → floor ≤ new
    → FloorsAtMost (record { mailbox = last_position OfMailbox floor floors (take (new - floor) ids); email = last_position OfEmail floor floors (take (new - floor) ids); thread = last_position OfThread floor floors (take (new - floor) ids) }) new
floors-low floor new floors ids low later = record {
  mailbox = low_at OfMailbox floor new floors ids low later;
  email = low_at OfEmail floor new floors ids low later;
  thread = low_at OfThread floor new floors ids low later;
}

-- the log whose floor moved is that of the history whose floor moved
pub IsLogOf-moved : (h : History) (c new : ℕ) (l m : Notes) → IsLogOf h l → new ≡ end_after h c
    → m ≡ record { floor = new; floors = record { mailbox = last_position OfMailbox l.floor l.floors (take (new - l.floor) (ids_in l.notes)); email = last_position OfEmail l.floor l.floors (take (new - l.floor) (ids_in l.notes)); thread = last_position OfThread l.floor l.floors (take (new - l.floor) (ids_in l.notes)) }; notes = drop (new - l.floor) l.notes; spare = m.spare }
    → IsLogOf (moved_up h c) m
IsLogOf-moved h c new l m is at moved = record {
  floor = ap (λ (n : Notes). n.floor) moved ∙ at;
  floors =
      ap (λ (n : Notes). n.floors) moved
      ∙ λ i. record { mailbox = state OfMailbox i; email = state OfEmail i; thread = state OfThread i };
  notes =
      ap (λ (n : Notes). n.notes) moved
      ∙ (ap₂ (λ (k : ℕ) (ns : List Note). drop (k - l.floor) ns) at is.notes
      ∙ (ap (λ (f : ℕ). drop (end_after h c - f) (map note_of (edits_of h))) is.floor
      ∙ (drop-map note_of (end_after h c - h.floor) (edits_of h)
      ∙ ap (map note_of)
      (after_seam (edits_of h) (edits_of (account_after h c)) (edits_in (drop c h.entries)) (end_after h c - h.floor) (edits_of-account_after h c)
      (let e : end_after h c - h.floor ≡ length (edits_of (account_after h c)) = omega arith in e)))));
}
  where
    state : (kind : Kind) → last_position kind l.floor l.floors (take (new - l.floor) (ids_in l.notes)) ≡ state_at h kind (end_after h c)
    state kind = state_at-log h l kind new is ∙ ap (state_at h kind) at
