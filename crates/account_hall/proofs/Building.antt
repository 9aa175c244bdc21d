-- Accounts that are put into rooms from the last one on, and taken out again.
use Rattle.std.proofs.Common.{◌≡◌, ◌+◌, List, [], ◌∷◌, ◌++◌, map, reverse, refl, sym, ap, ap₂, ◌∙◌, subst, append_assoc}
use Rattle.std.proofs.lemmas.List.{map-append, reverse-append}
use Rattle.std.specs.List.{AllByRecursion}
use Rattle.account_book.specs.Books.{BookView}
use Rattle.account_lock.specs.Views.{PassFacts}
use Rattle.account_hall.specs.Building.{AreBuilt, first_root, named_of}
use Rattle.account_hall.specs.Halls.{AreOf, IsFrontPass, RoomFacts, lock_of_pass, lock_of_room, room_view}
use Rattle.account_hall.specs.declared.named_account.Named.{Named}

pub twice : {A : Type 0} (xs : List A) → reverse (reverse xs) ≡ xs
twice [] = refl
twice (x ∷ xs) = ap reverse (reverse-append (x ∷ []) xs) ∙ (reverse-append (reverse xs) (reverse (x ∷ [])) ∙ ap (λ zs. x ∷ zs) (twice xs))

all_append : {A : Type 0} (P : A → Type 0) (xs ys : List A) → AllByRecursion P xs → AllByRecursion P ys → AllByRecursion P (xs ++ ys)
all_append P [] ys a b = b
all_append P (x ∷ xs) ys a b = (a.0, all_append P xs ys a.1 b)

pub all_reverse : {A : Type 0} (P : A → Type 0) (xs : List A) → AllByRecursion P xs → AllByRecursion P (reverse xs)
all_reverse P [] a = tt
all_reverse P (x ∷ xs) a = subst (AllByRecursion P) (sym (reverse-append (x ∷ []) xs)) (all_append P (reverse xs) (x ∷ []) (all_reverse P xs a.1) (a.0, tt))

pub all_front : {A : Type 0} (P : A → Type 0) (xs : List A) (x : A) (all : List A) → all ≡ xs ++ x ∷ [] → AllByRecursion P all → AllByRecursion P xs
all_front P xs x all is a = front xs (subst (AllByRecursion P) is a)
  where
    front : (xs : List _) → AllByRecursion P (xs ++ x ∷ []) → AllByRecursion P xs
    front [] a = tt
    front (y ∷ ys) a = (a.0, front ys a.1)

pub all_last : {A : Type 0} (P : A → Type 0) (xs : List A) (x : A) (all : List A) → all ≡ xs ++ x ∷ [] → AllByRecursion P all → P x
all_last P xs x all is a = last xs (subst (AllByRecursion P) is a)
  where
    last : (xs : List _) → AllByRecursion P (xs ++ x ∷ []) → P x
    last [] a = a.0
    last (y ∷ ys) a = last ys a.1

not_empty : {A : Type 0} (zs : List A) (y : A) → zs ++ y ∷ [] ≡ [] → ⊥
not_empty [] y e = absurd (cc e)
not_empty (u ∷ us) y e = absurd (cc e)

-- lists with one item more at the end are the same if both parts are
pub same_end : {A : Type 0} (xs ys : List A) (x y : A) → xs ++ x ∷ [] ≡ ys ++ y ∷ [] → (xs ≡ ys) × (x ≡ y)
same_end [] [] x y e = (refl, cc e)
same_end [] (z ∷ zs) x y e = let rest : [] ≡ zs ++ y ∷ [] = cc e in absurd (not_empty zs y (sym rest))
same_end (z ∷ zs) [] x y e = let rest : zs ++ x ∷ [] ≡ [] = cc e in absurd (not_empty zs x rest)
same_end (z ∷ zs) (u ∷ us) x y e =
    let same : z ≡ u = cc e in
    let rest : zs ++ x ∷ [] ≡ us ++ y ∷ [] = cc e in
    let h = same_end zs us x y rest in
    (ap₂ (λ a b. a ∷ b) same h.0, h.1)

-- the last root is of the lock of the last room, and the others are those of the other rooms
pub last_lock : {B : Type 0} (rooms rooms' : List (RoomFacts B)) (room : RoomFacts B) (ks ks' : List PassFacts) (k : PassFacts) → rooms ≡ rooms' ++ room ∷ [] → ks ≡ ks' ++ k ∷ [] → AreOf (map room_view rooms) ks
    → AreOf (map room_view rooms') ks' × (k.lock ≡ room.lock.id)
last_lock rooms rooms' room ks ks' k last end of =
    let left : map lock_of_pass ks ≡ map lock_of_pass ks' ++ k.lock ∷ [] = ap (map lock_of_pass) end ∙ map-append lock_of_pass ks' (k ∷ []) in
    let shown : map room_view rooms ≡ map room_view rooms' ++ room_view room ∷ [] = ap (map room_view) last ∙ map-append room_view rooms' (room ∷ []) in
    let right : map lock_of_room (map room_view rooms) ≡ map lock_of_room (map room_view rooms') ++ room.lock.id ∷ [] = ap (map lock_of_room) shown ∙ map-append lock_of_room (map room_view rooms') (room_view room ∷ []) in
    same_end (map lock_of_pass ks') (map lock_of_room (map room_view rooms')) k.lock room.lock.id (sym left ∙ (of ∙ right))

module _ {K R : Type 0} where
  abbrev pub named_all : List (RoomFacts (BookView K R)) → List (Named K R)
  named_all rooms = reverse (map named_of rooms)

  turned_last : (rooms rooms' : List (RoomFacts (BookView K R))) (room : RoomFacts (BookView K R)) → rooms' ≡ rooms ++ room ∷ [] → named_all rooms' ≡ named_of room ∷ named_all rooms
  turned_last rooms rooms' room more = ap named_all more ∙ (ap reverse (map-append named_of rooms (room ∷ [])) ∙ reverse-append (map named_of rooms) (named_of room ∷ []))

  -- one room more, of the last account that was left
  pub shared_next : (all left left' : List (Named K R)) (account : Named K R) (rooms rooms' : List (RoomFacts (BookView K R))) (room : RoomFacts (BookView K R)) → all ≡ left ++ named_all rooms → left ≡ left' ++ account ∷ [] → named_of room ≡ account → rooms' ≡ rooms ++ room ∷ []
      → all ≡ left' ++ named_all rooms'
  shared_next all left left' account rooms rooms' room is last same more =
      let turned : named_all rooms' ≡ account ∷ named_all rooms = turned_last rooms rooms' room more ∙ ap (λ a. a ∷ named_all rooms) same in
      is ∙ (ap (λ xs. xs ++ named_all rooms) last ∙ (append_assoc left' (account ∷ []) (named_all rooms) ∙ ap (λ xs. left' ++ xs) (sym turned)))

  pub roots_next : (roots roots' : List PassFacts) (root : PassFacts) (rooms rooms' : List (RoomFacts (BookView K R))) (room : RoomFacts (BookView K R)) → roots ≡ map (λ r. first_root r.lock) rooms → roots' ≡ roots ++ root ∷ [] → root ≡ first_root room.lock → rooms' ≡ rooms ++ room ∷ []
      → roots' ≡ map (λ r. first_root r.lock) rooms'
  roots_next roots roots' root rooms rooms' room are more is next =
      more ∙ (ap₂ (λ xs x. xs ++ x ∷ []) are is ∙ (sym (map-append (λ (r : RoomFacts (BookView K R)). first_root r.lock) rooms (room ∷ [])) ∙ ap (map (λ r. first_root r.lock)) (sym next)))

  -- the last room is taken away
  pub unshared_next : (all left left' : List (Named K R)) (account : Named K R) (rooms rooms' : List (RoomFacts (BookView K R))) (room : RoomFacts (BookView K R)) → left ++ named_all rooms ≡ all → rooms ≡ rooms' ++ room ∷ [] → account ≡ named_of room → left' ≡ left ++ account ∷ []
      → left' ++ named_all rooms' ≡ all
  unshared_next all left left' account rooms rooms' room is last same more =
      let turned : named_all rooms ≡ account ∷ named_all rooms' = turned_last rooms' rooms room last ∙ ap (λ a. a ∷ named_all rooms') (sym same) in
      ap (λ xs. xs ++ named_all rooms') more ∙ (append_assoc left (account ∷ []) (named_all rooms') ∙ (ap (λ xs. left ++ xs) (sym turned) ∙ is))

  last_of : (roots roots' : List PassFacts) (root : PassFacts) (rooms' : List (RoomFacts (BookView K R))) (room : RoomFacts (BookView K R)) → roots ≡ roots' ++ root ∷ [] → roots ≡ map (λ r. first_root r.lock) rooms' ++ first_root room.lock ∷ [] → (roots' ≡ map (λ r. first_root r.lock) rooms') × (root ≡ first_root room.lock)
  last_of roots roots' root rooms' room a b = same_end roots' (map (λ r. first_root r.lock) rooms') root (first_root room.lock) (sym a ∙ b)

  -- the root of the last room, and those of the others
  pub roots_last : (roots roots' : List PassFacts) (root : PassFacts) (rooms rooms' : List (RoomFacts (BookView K R))) (room : RoomFacts (BookView K R)) → roots ≡ map (λ r. first_root r.lock) rooms → rooms ≡ rooms' ++ room ∷ [] → roots ≡ roots' ++ root ∷ []
      → (roots' ≡ map (λ r. first_root r.lock) rooms') × (root ≡ first_root room.lock)
  roots_last roots roots' root rooms rooms' room are last end =
      last_of roots roots' root rooms' room end (are ∙ (ap (map (λ r. first_root r.lock)) last ∙ map-append (λ (r : RoomFacts (BookView K R)). first_root r.lock) rooms' (room ∷ [])))

  -- all accounts are in rooms
  built_of : (rooms : List (RoomFacts (BookView K R))) → AreBuilt (map named_of rooms) (map room_view rooms) (map (λ r. first_root r.lock) rooms)
  built_of [] = tt
  built_of (r ∷ rs) = (refl, refl, built_of rs)

  pub all_built : (accounts left : List (Named K R)) (rooms : List (RoomFacts (BookView K R))) (roots : List PassFacts) → reverse accounts ≡ left ++ named_all rooms → left ≡ [] → roots ≡ map (λ r. first_root r.lock) rooms → AreBuilt accounts (map room_view rooms) roots
  all_built accounts left rooms roots is none are =
      let same : map named_of rooms ≡ accounts = sym (twice (map named_of rooms)) ∙ (ap reverse (sym (is ∙ ap (λ xs. xs ++ named_all rooms) none)) ∙ twice accounts) in
      subst (λ xs. AreBuilt accounts (map room_view rooms) xs) (sym are) (subst (λ xs. AreBuilt xs (map room_view rooms) (map (λ r. first_root r.lock) rooms)) same (built_of rooms))

  pub all_of : (rooms : List (RoomFacts (BookView K R))) (roots : List PassFacts) → roots ≡ map (λ r. first_root r.lock) rooms → AreOf (map room_view rooms) roots
  all_of rooms roots are = ap (map lock_of_pass) are ∙ same rooms
    where
      same : (rooms : List (RoomFacts (BookView K R))) → map lock_of_pass (map (λ r. first_root r.lock) rooms) ≡ map lock_of_room (map room_view rooms)
      same [] = refl
      same (r ∷ rs) = ap (λ zs. r.lock.id ∷ zs) (same rs)

  -- no session is in, and none was
  pub first_front : (rooms : List (RoomFacts (BookView K R))) (roots : List PassFacts) → roots ≡ map (λ r. first_root r.lock) rooms → AllByRecursion (IsFrontPass 0 0) roots
  first_front rooms roots are = subst (AllByRecursion (IsFrontPass 0 0)) (sym are) (each rooms)
    where
      each : (rooms : List (RoomFacts (BookView K R))) → AllByRecursion (IsFrontPass 0 0) (map (λ r. first_root r.lock) rooms)
      each [] = tt
      each (r ∷ rs) = (record { root = refl; given = refl; count = refl }, each rs)
