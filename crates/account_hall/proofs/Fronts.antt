-- Roots of which some were changed, one after the other, and passes at an index.
use Rattle.std.proofs.Common.{◌≡◌, ℕ, zero, suc, ◌+◌, ◌-◌, ◌<◌, ◌≤◌, List, [], ◌∷◌, ◌++◌, map, take, drop, length, get_or, Some, slice_get, refl, sym, ap, ap₂, ◌∙◌, subst, arith, length-append}
use Rattle.std.specs.List.{AllByRecursion}
use Rattle.std.proofs.Math.ListN.{set}
use Rattle.std.proofs.lemmas.Option.{slice_get_read, slice_get_within}
use Rattle.account_book.proofs.Rows.{rest_dropped, rest_there}
use Rattle.account_lock.specs.Entries.{StartsWith}
use Rattle.account_lock.specs.Passes.{split_off, taken_in}
use Rattle.account_lock.specs.Views.{Ended, PassFacts}
use Rattle.account_hall.specs.Halls.{AreOf, HaveHeard, IsFrontPass, RoomFacts, RoomView, all_taken_in, lock_of_pass, lock_of_room, one_given, room_view}
use Rattle.account_hall.specs.Sessions.{IsFree}

-- ---- at an index

pub all_at : {A : Type 0} (P : A → Type 0) (xs : List A) (i : ℕ) (x : A) → AllByRecursion P xs → slice_get xs i ≡ Some x → P x
all_at P [] i x all there = absurd (cc there)
all_at P (y ∷ ys) zero x all there = let same : y ≡ x = cc there in subst P same all.0
all_at P (y ∷ ys) (suc i) x all there = all_at P ys i x all.1 there

pub all_set : {A : Type 0} (P : A → Type 0) (xs : List A) (i : ℕ) (x : A) → AllByRecursion P xs → P x → AllByRecursion P (set xs i x)
all_set P [] i x all one = all
all_set P (y ∷ ys) zero x all one = (one, all.1)
all_set P (y ∷ ys) (suc i) x all one = (all.0, all_set P ys i x all.1 one)

-- what is at an index after a change there, or elsewhere
pub at_set : {A : Type 0} (xs : List A) (i j : ℕ) (x y : A) → slice_get (set xs i x) j ≡ Some y → (i ≡ j → y ≡ x) × ((i ≡ j → ⊥) → slice_get xs j ≡ Some y)
at_set [] i j x y there = absurd (cc there)
at_set (z ∷ zs) zero zero x y there = (λ _. cc there, λ apart. absurd (apart refl))
at_set (z ∷ zs) zero (suc j) x y there = (λ same. absurd (omega (arith, same)), λ _. there)
at_set (z ∷ zs) (suc i) zero x y there = (λ same. absurd (omega (arith, same)), λ _. there)
at_set (z ∷ zs) (suc i) (suc j) x y there =
    let h = at_set zs i j x y there in
    (λ same. h.0 (omega (arith, same)), λ apart. h.1 (λ same. apart (ap suc same)))

-- a change to what is there already
pub set_same : {A : Type 0} (xs : List A) (i : ℕ) (x : A) → slice_get xs i ≡ Some x → set xs i x ≡ xs
set_same [] i x there = refl
set_same (z ∷ zs) zero x there = let same : z ≡ x = cc there in ap (λ y. y ∷ zs) (sym same)
set_same (z ∷ zs) (suc i) x there = ap (λ ys. z ∷ ys) (set_same zs i x there)

-- the lock of a pass at an index is that of the room there
pub lock_at : {B : Type 0} (rooms : List (RoomFacts B)) (ks : List PassFacts) (i : ℕ) (r : RoomFacts B) (k : PassFacts) → AreOf (map room_view rooms) ks → slice_get rooms i ≡ Some r → slice_get ks i ≡ Some k → k.lock ≡ r.lock.id
lock_at [] [] i r k of room pass = absurd (cc room)
lock_at [] (x ∷ xs) i r k of room pass = absurd (cc room)
lock_at (z ∷ zs) [] i r k of room pass = absurd (cc pass)
lock_at (z ∷ zs) (x ∷ xs) zero r k of room pass =
    let a : z ≡ r = cc room in let b : x ≡ k = cc pass in
    let e : x.lock ≡ z.lock.id = cc of in
    ap lock_of_pass (sym b) ∙ (e ∙ ap (λ y. y.lock.id) a)
lock_at (z ∷ zs) (x ∷ xs) (suc i) r k of room pass =
    let e : AreOf (map room_view zs) xs = cc of in
    lock_at zs xs i r k e room pass

map_set : (ks : List PassFacts) (i : ℕ) (k k' : PassFacts) → slice_get ks i ≡ Some k → k'.lock ≡ k.lock → map lock_of_pass (set ks i k') ≡ map lock_of_pass ks
map_set [] i k k' there same = refl
map_set (x ∷ xs) zero k k' there same = let e : x ≡ k = cc there in ap (λ z. z ∷ map lock_of_pass xs) (same ∙ ap lock_of_pass (sym e))
map_set (x ∷ xs) (suc i) k k' there same = ap (λ zs. x.lock ∷ zs) (map_set xs i k k' there same)

-- a pass that is of the same lock may take another's place
pub of_set : (rooms : List RoomView) (ks : List PassFacts) (i : ℕ) (k k' : PassFacts) → AreOf rooms ks → slice_get ks i ≡ Some k → k'.lock ≡ k.lock → AreOf rooms (set ks i k')
of_set rooms ks i k k' of there same = map_set ks i k k' there same ∙ of

length_map : {A C : Type 0} (f : A → C) (xs : List A) → length (map f xs) ≡ length xs
length_map f [] = refl
length_map f (x ∷ xs) = ap suc (length_map f xs)

pub of_count : {B : Type 0} (rooms : List (RoomFacts B)) (ks : List PassFacts) → AreOf (map room_view rooms) ks → length ks ≡ length rooms
of_count rooms ks of =
    let a = length_map lock_of_pass ks in let b = length_map lock_of_room (map room_view rooms) in let c = length_map room_view rooms in let d = ap length of in
    omega (arith, a, b, c, d)

pub there_is : {A : Type 0} (xs : List A) (i : ℕ) → i < length xs → (x : A) × (slice_get xs i ≡ Some x)
there_is [] i low = absurd (omega (arith, low))
there_is (x ∷ xs) zero low = (x, refl)
there_is (x ∷ xs) (suc i) low = there_is xs i (omega (arith, low))

-- ---- a pass is split off each root

abbrev pub split_at : ℕ → List PassFacts → List PassFacts
split_at i ks = map one_given (take i ks) ++ drop i ks

pub split_here : (i : ℕ) (ks : List PassFacts) (k d : PassFacts) → slice_get ks i ≡ Some k → get_or (split_at i ks) i d ≡ k
split_here zero [] k d there = absurd (cc there)
split_here (suc i) [] k d there = absurd (cc there)
split_here zero (x ∷ xs) k d there = cc there
split_here (suc i) (x ∷ xs) k d there = split_here i xs k d there

split_set : (i : ℕ) (ks : List PassFacts) (k : PassFacts) → slice_get ks i ≡ Some k → set (split_at i ks) i (one_given k) ≡ split_at (suc i) ks
split_set zero [] k there = absurd (cc there)
split_set (suc i) [] k there = absurd (cc there)
split_set zero (x ∷ xs) k there = let e : x ≡ k = cc there in ap (λ y. one_given y ∷ xs) (sym e)
split_set (suc i) (x ∷ xs) k there = ap (λ ys. one_given x ∷ ys) (split_set i xs k there)

take_next : {C : Type 0} (f : PassFacts → C) (i : ℕ) (ks : List PassFacts) (k : PassFacts) → slice_get ks i ≡ Some k → map f (take (suc i) ks) ≡ map f (take i ks) ++ f k ∷ []
take_next f zero [] k there = absurd (cc there)
take_next f (suc i) [] k there = absurd (cc there)
take_next f zero (x ∷ xs) k there = let e : x ≡ k = cc there in ap (λ y. f y ∷ []) e
take_next f (suc i) (x ∷ xs) k there = ap (λ ys. f x ∷ ys) (take_next f i xs k there)

plus_one : (i : ℕ) → i + 1 ≡ suc i
plus_one i = omega arith

pub split_next : (i : ℕ) (ks : List PassFacts) (k k' : PassFacts) → slice_get ks i ≡ Some k → k' ≡ one_given k → set (split_at i ks) i k' ≡ split_at (i + 1) ks
split_next i ks k k' there is = ap (set (split_at i ks) i) is ∙ (split_set i ks k there ∙ ap (λ n. split_at n ks) (sym (plus_one i)))

pub split_more : (i : ℕ) (ks : List PassFacts) (k k' : PassFacts) → slice_get ks i ≡ Some k → k' ≡ split_off k → map split_off (take i ks) ++ k' ∷ [] ≡ map split_off (take (i + 1) ks)
split_more i ks k k' there is = ap (λ y. map split_off (take i ks) ++ y ∷ []) is ∙ (sym (take_next split_off i ks k there) ∙ ap (λ n. map split_off (take n ks)) (sym (plus_one i)))

drop_past : {A : Type 0} (i : ℕ) (xs : List A) → length xs ≤ i → drop i xs ≡ []
drop_past zero [] all = refl
drop_past (suc i) [] all = refl
drop_past zero (x ∷ xs) all = absurd (omega (arith, all))
drop_past (suc i) (x ∷ xs) all = drop_past i xs (omega (arith, all))

take_past : {A : Type 0} (i : ℕ) (xs : List A) → length xs ≤ i → take i xs ≡ xs
take_past zero [] all = refl
take_past (suc i) [] all = refl
take_past zero (x ∷ xs) all = absurd (omega (arith, all))
take_past (suc i) (x ∷ xs) all = ap (λ ys. x ∷ ys) (take_past i xs (omega (arith, all)))

append_none : {A : Type 0} (xs ys : List A) → ys ≡ [] → xs ++ ys ≡ xs
append_none [] ys none = none
append_none (x ∷ xs) ys none = ap (λ zs. x ∷ zs) (append_none xs ys none)

pub split_all_now : (i : ℕ) (ks : List PassFacts) → length ks ≤ i → split_at i ks ≡ map one_given ks
split_all_now i ks all = append_none (map one_given (take i ks)) (drop i ks) (drop_past i ks all) ∙ ap (map one_given) (take_past i ks all)

pub split_off_now : {C : Type 0} (f : PassFacts → C) (i : ℕ) (ks : List PassFacts) → length ks ≤ i → map f (take i ks) ≡ map f ks
split_off_now f i ks all = ap (map f) (take_past i ks all)

-- the locks stay
pub of_given : (rooms : List RoomView) (ks : List PassFacts) → AreOf rooms ks → AreOf rooms (map one_given ks)
of_given rooms ks of = same ks ∙ of
  where
    same : (ks : List PassFacts) → map lock_of_pass (map one_given ks) ≡ map lock_of_pass ks
    same [] = refl
    same (x ∷ xs) = ap (λ zs. x.lock ∷ zs) (same xs)

pub of_split : (rooms : List RoomView) (ks : List PassFacts) → AreOf rooms ks → AreOf rooms (map split_off ks)
of_split rooms ks of = same ks ∙ of
  where
    same : (ks : List PassFacts) → map lock_of_pass (map split_off ks) ≡ map lock_of_pass ks
    same [] = refl
    same (x ∷ xs) = ap (λ zs. x.lock ∷ zs) (same xs)

-- one session more is in
pub front_given : (n m : ℕ) (ks : List PassFacts) → AllByRecursion (IsFrontPass n m) ks → AllByRecursion (IsFrontPass (n + 1) (m + 1)) (map one_given ks)
front_given n m [] all = tt
front_given n m (k ∷ ks) all = (record { root = all.0.root; given = ap (λ c. c + 1) all.0.given; count = let c = all.0.count in omega (arith, c) }, front_given n m ks all.1)

-- the passes that were split off are free
pub split_free : (ks : List PassFacts) → AllByRecursion IsFree (map split_off ks)
split_free [] = tt
split_free (k ∷ ks) = (record { root = refl; holds = refl; ended = refl }, split_free ks)

-- ---- each pass is joined with its root

-- what is known of the roots once those below an index were joined
pub record Joined (inside admitted i : ℕ) (now rs ks : List PassFacts) : Type 0 where
  pub done : List PassFacts
  pub is : now ≡ done ++ drop i rs
  pub count : length done ≡ i
  pub taken : done ≡ all_taken_in (take i rs) (take i ks)
  pub heard : HaveHeard done (take i rs) (take i ks)
  pub front : AllByRecursion (IsFrontPass (inside - 1) admitted) done

set_seam : (d : List PassFacts) (x y : PassFacts) (ys : List PassFacts) → set (d ++ x ∷ ys) (length d) y ≡ (d ++ y ∷ []) ++ ys
set_seam [] x y ys = refl
set_seam (z ∷ d) x y ys = ap (λ zs. z ∷ zs) (set_seam d x y ys)

drop_here : (i : ℕ) (rs : List PassFacts) (r : PassFacts) → slice_get rs i ≡ Some r → drop i rs ≡ r ∷ drop (suc i) rs
drop_here zero [] r there = absurd (cc there)
drop_here (suc i) [] r there = absurd (cc there)
drop_here zero (x ∷ xs) r there = let e : x ≡ r = cc there in ap (λ y. y ∷ xs) e
drop_here (suc i) (x ∷ xs) r there = drop_here i xs r there

taken_push : (i : ℕ) (rs ks : List PassFacts) (r k : PassFacts) → slice_get rs i ≡ Some r → slice_get ks i ≡ Some k → all_taken_in (take (suc i) rs) (take (suc i) ks) ≡ all_taken_in (take i rs) (take i ks) ++ taken_in r k ∷ []
taken_push zero [] ks r k root pass = absurd (cc root)
taken_push (suc i) [] ks r k root pass = absurd (cc root)
taken_push zero (x ∷ xs) [] r k root pass = absurd (cc pass)
taken_push (suc i) (x ∷ xs) [] r k root pass = absurd (cc pass)
taken_push zero (x ∷ xs) (y ∷ ys) r k root pass = let a : x ≡ r = cc root in let b : y ≡ k = cc pass in ap₂ (λ u v. taken_in u v ∷ []) a b
taken_push (suc i) (x ∷ xs) (y ∷ ys) r k root pass = ap (λ zs. taken_in x y ∷ zs) (taken_push i xs ys r k root pass)

heard_push : (i : ℕ) (d rs ks : List PassFacts) (n r k : PassFacts) → length d ≡ i → slice_get rs i ≡ Some r → slice_get ks i ≡ Some k → HaveHeard d (take i rs) (take i ks) → StartsWith n.seen r.seen → StartsWith n.seen k.seen → HaveHeard (d ++ n ∷ []) (take (suc i) rs) (take (suc i) ks)
heard_push zero [] [] ks n r k count root pass all a b = absurd (cc root)
heard_push zero [] (x ∷ xs) [] n r k count root pass all a b = absurd (cc pass)
heard_push zero [] (x ∷ xs) (y ∷ ys) n r k count root pass all a b =
    let e : x ≡ r = cc root in let f : y ≡ k = cc pass in (subst (λ u. StartsWith n.seen u.seen) (sym e) a, subst (λ u. StartsWith n.seen u.seen) (sym f) b, tt)
heard_push zero (z ∷ d) rs ks n r k count root pass all a b = absurd (omega (arith, count))
heard_push (suc i) [] rs ks n r k count root pass all a b = absurd (omega (arith, count))
heard_push (suc i) (z ∷ d) [] ks n r k count root pass all a b = absurd (cc root)
heard_push (suc i) (z ∷ d) (x ∷ xs) [] n r k count root pass all a b = absurd (cc pass)
heard_push (suc i) (z ∷ d) (x ∷ xs) (y ∷ ys) n r k count root pass all a b = (all.0, all.1, heard_push i d xs ys n r k (omega (arith, count)) root pass all.2 a b)

all_push : {A : Type 0} (P : A → Type 0) (xs : List A) (x : A) → AllByRecursion P xs → P x → AllByRecursion P (xs ++ x ∷ [])
all_push P [] x all one = (one, tt)
all_push P (y ∷ ys) x all one = (all.0, all_push P ys x all.1 one)

-- a root that a free pass of a session was joined with
front_joined : (inside admitted : ℕ) (r k : PassFacts) → IsFrontPass inside admitted r → IsFree k → length (taken_in r k).ended ≤ (taken_in r k).given → IsFrontPass (inside - 1) admitted (taken_in r k)
front_joined inside admitted r k front free most =
    let one : length (taken_in r k).ended ≡ length r.ended + 1 = ap (λ (es : List Ended). length (r.ended ++ record { name = k.name; entries = k.own } ∷ es)) free.ended ∙ length-append r.ended (record { name = k.name; entries = k.own } ∷ []) in
    record { root = front.root; given = front.given; count = let c = front.count in omega (arith, one, c, most) }

pub joined_first : (inside admitted : ℕ) (rs ks : List PassFacts) → Joined inside admitted 0 rs rs ks
joined_first inside admitted rs ks = record { done = []; is = refl; count = refl; taken = refl; heard = tt; front = tt }

pub joined_here : (inside admitted i : ℕ) (now rs ks : List PassFacts) (r d : PassFacts) → Joined inside admitted i now rs ks → slice_get rs i ≡ Some r → get_or now i d ≡ r
joined_here inside admitted i now rs ks r d j root =
    let is : now ≡ j.done ++ r ∷ drop (suc i) rs = j.is ∙ ap (λ zs. j.done ++ zs) (drop_here i rs r root) in
    ap (λ zs. get_or zs i d) is ∙ (ap (λ n. get_or (j.done ++ r ∷ drop (suc i) rs) n d) (sym j.count) ∙ seam j.done (drop (suc i) rs))
  where
    seam : (ds ys : List PassFacts) → get_or (ds ++ r ∷ ys) (length ds) d ≡ r
    seam [] ys = refl
    seam (z ∷ ds) ys = seam ds ys

pub joined_next : (inside admitted i : ℕ) (now rs ks : List PassFacts) (r k n : PassFacts) → Joined inside admitted i now rs ks → AllByRecursion (IsFrontPass inside admitted) rs → AllByRecursion IsFree ks → slice_get rs i ≡ Some r → slice_get ks i ≡ Some k
    → n ≡ taken_in r k → StartsWith n.seen r.seen → StartsWith n.seen k.seen → length n.ended ≤ n.given → Joined inside admitted (i + 1) (set now i n) rs ks
joined_next inside admitted i now rs ks r k n j fronts free root pass is a b most =
    subst (λ m. Joined inside admitted m (set now i n) rs ks) (sym (plus_one i))
    (record {
      done = j.done ++ n ∷ [];
      is = ap (λ zs. set zs i n) (j.is ∙ ap (λ zs. j.done ++ zs) (drop_here i rs r root)) ∙ (ap (λ m. set (j.done ++ r ∷ drop (suc i) rs) m n) (sym j.count) ∙ set_seam j.done r n (drop (suc i) rs));
      count = let l = length-append j.done (n ∷ []) in let c = j.count in omega (arith, l, c);
      taken = ap₂ (λ (xs ys : List PassFacts). xs ++ ys) j.taken (ap (λ y. y ∷ []) is) ∙ sym (taken_push i rs ks r k root pass);
      heard = heard_push i j.done rs ks n r k j.count root pass j.heard a b;
      front = all_push (IsFrontPass (inside - 1) admitted) j.done n j.front (subst (IsFrontPass (inside - 1) admitted) (sym is) (front_joined inside admitted r k (all_at (IsFrontPass inside admitted) rs i r fronts root) (all_at IsFree ks i k free pass) (subst (λ x. length x.ended ≤ x.given) is most)));
    })

-- all were joined
pub record AllJoined (inside admitted : ℕ) (now rs ks : List PassFacts) : Type 0 where
  pub roots : now ≡ all_taken_in rs ks
  pub heard : HaveHeard now rs ks
  pub front : AllByRecursion (IsFrontPass (inside - 1) admitted) now

pub joined_all : (inside admitted i : ℕ) (now rs ks : List PassFacts) → Joined inside admitted i now rs ks → length rs ≤ i → length ks ≤ i → AllJoined inside admitted now rs ks
joined_all inside admitted i now rs ks j most most' =
    let is : now ≡ j.done = j.is ∙ append_none j.done (drop i rs) (drop_past i rs most) in
    record {
      roots = is ∙ (j.taken ∙ ap₂ all_taken_in (take_past i rs most) (take_past i ks most'));
      heard = subst (λ d. HaveHeard d rs ks) (sym is) (subst (λ xs. HaveHeard j.done xs ks) (take_past i rs most) (subst (λ xs. HaveHeard j.done (take i rs) xs) (take_past i ks most') j.heard));
      front = subst (AllByRecursion (IsFrontPass (inside - 1) admitted)) (sym is) j.front;
    }

pub of_joined : (rooms : List RoomView) (rs ks : List PassFacts) → AreOf rooms rs → AreOf rooms (all_taken_in rs ks)
of_joined rooms rs ks of = same rs ks ∙ of
  where
    same : (rs ks : List PassFacts) → map lock_of_pass (all_taken_in rs ks) ≡ map lock_of_pass rs
    same [] ks = refl
    same (r ∷ rs) [] = refl
    same (r ∷ rs) (k ∷ ks) = ap (λ zs. r.lock ∷ zs) (same rs ks)

-- ---- a room, a root and a pass at an index

pub pass_there : {B : Type 0} (rooms : List (RoomFacts B)) (view : List RoomView) (ks : List PassFacts) (i : ℕ) (k : PassFacts) → map room_view rooms ≡ view → AreOf view ks → i < length view → k ≡ get_or ks i k → slice_get ks i ≡ Some k
pass_there rooms view ks i k shown of low is =
    let a = length_map lock_of_pass ks in let b = length_map lock_of_room view in let d = ap length of in
    slice_get_read ks (length ks) i k refl (omega (arith, a, b, d, low)) is

pub room_lock : {B : Type 0} (rooms : List (RoomFacts B)) (view : List RoomView) (ks : List PassFacts) (i : ℕ) (r : RoomFacts B) (k : PassFacts) → map room_view rooms ≡ view → AreOf view ks → i < length view → r ≡ get_or rooms i r → k ≡ get_or ks i k → k.lock ≡ r.lock.id
room_lock rooms view ks i r k shown of low room pass =
    let a = length_map room_view rooms in let b = ap length shown in
    lock_at rooms ks i r k (subst (λ v. AreOf v ks) (sym shown) of) (slice_get_read rooms (length rooms) i r refl (omega (arith, a, b, low)) room) (pass_there rooms view ks i k shown of low pass)

pub some_pass : (view : List RoomView) (ks : List PassFacts) (i : ℕ) → AreOf view ks → i < length view → (k : PassFacts) × (slice_get ks i ≡ Some k)
some_pass view ks i of low =
    let a = length_map lock_of_pass ks in let b = length_map lock_of_room view in let d = ap length of in
    there_is ks i (omega (arith, a, b, d, low))

pub record At {B : Type 0} (rs ks : List PassFacts) (i : ℕ) (room : RoomFacts B) (x k : PassFacts) : Type 0 where
  pub root : slice_get rs i ≡ Some x
  pub pass : slice_get ks i ≡ Some k
  pub lock : x.lock ≡ room.lock.id
  pub lock' : k.lock ≡ room.lock.id

pub joined_at : {B : Type 0} (inside admitted i : ℕ) (now rs ks rest rest' : List PassFacts) (rooms : List (RoomFacts B)) (room : RoomFacts B) (x k : PassFacts) → Joined inside admitted i now rs ks → AreOf (map room_view rooms) rs → AreOf (map room_view rooms) ks
    → rest ≡ drop i ks → rest ≡ k ∷ rest' → room ≡ get_or rooms i room → x ≡ get_or now i x → At rs ks i room x k
joined_at inside admitted i now rs ks rest rest' rooms room x k j of of' are is at_room at_root =
    let pass : slice_get ks i ≡ Some k = rest_there i ks k rest' (sym are ∙ is) in
    let a = of_count rooms rs of in let b = of_count rooms ks of' in
    let low : i < length ks = slice_get_within ks i k pass in
    let r = there_is rs i (omega (arith, a, b, low)) in
    let same : x ≡ r.0 = at_root ∙ joined_here inside admitted i now rs ks r.0 x j r.1 in
    let there : slice_get rooms i ≡ Some room = slice_get_read rooms (length rooms) i room refl (omega (arith, b, low)) at_room in
    record {
      root = r.1 ∙ ap Some (sym same);
      pass = pass;
      lock = ap lock_of_pass same ∙ lock_at rooms rs i room r.0 of there r.1;
      lock' = lock_at rooms ks i room k of' there pass;
    }

pub rest_next : (i : ℕ) (ks rest rest' : List PassFacts) (k : PassFacts) → rest ≡ drop i ks → rest ≡ k ∷ rest' → rest' ≡ drop (i + 1) ks
rest_next i ks rest rest' k are is = sym (ap (λ n. drop n ks) (plus_one i) ∙ rest_dropped i ks k rest' (sym are ∙ is))

drop_short : (i : ℕ) (ks : List PassFacts) → drop i ks ≡ [] → length ks ≤ i
drop_short zero [] none = omega arith
drop_short zero (k ∷ ks) none = absurd (cc none)
drop_short (suc i) [] none = omega arith
drop_short (suc i) (k ∷ ks) none = let h = drop_short i ks none in omega (arith, h)

pub joined_end : {B : Type 0} (inside admitted i : ℕ) (now rs ks rest : List PassFacts) (rooms : List (RoomFacts B)) → Joined inside admitted i now rs ks → AreOf (map room_view rooms) rs → AreOf (map room_view rooms) ks → rest ≡ drop i ks → rest ≡ [] → AllJoined inside admitted now rs ks
joined_end inside admitted i now rs ks rest rooms j of of' are none =
    let a = of_count rooms rs of in let b = of_count rooms ks of' in
    let short = drop_short i ks (sym are ∙ none) in
    joined_all inside admitted i now rs ks j (omega (arith, a, b, short)) short
