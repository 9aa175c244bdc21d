-- Blobs that are copied, each id at its first place.
use Rattle.std.proofs.Common.{◌≡◌, ℕ, zero, suc, ◌<◌, Bool, true, false, cond, ◌||◌, Bor, List, [], ◌∷◌, ◌++◌, drop, length, map, take, get_or, Option, Some, None, option_map, refl, sym, ap, ◌∙◌, subst, append-nil, append_assoc, true≢false}
use Rattle.std.specs.List.{slice_get}
use Rattle.std.specs.Str.{bytes_eq}
use Rattle.std.proofs.lemmas.List.{take-map}
use Rattle.std.proofs.lemmas.Bool.Decides.{same_from_decides, Decides-like}
use Rattle.std.proofs.lemmas.Option.{none-some, same_Some, slice_get-get_or, slice_get-map}
use Rattle.std.proofs.lemmas.Slice.Eq.{bytes_eq-Decides}
use Rattle.account_book.specs.declared.asks.Carried.{Carried}
use Rattle.blob_store.specs.Blobs.{AreBlobsFew, has_room}
use Rattle.get_args.specs.Selection.{is_among}
use Rattle.jm_json.specs.Tree.{Tree}
use Rattle.mail_view.specs.Records.{first_mentions}
use Rattle.copy_calls.specs.BlobCopies.{BlobCopying, after_blob, after_blobs, after_bytes, blob_ids_in, blob_plan_by, delivered_for, no_blobs}
use Rattle.mail_copies.specs.Carried.{Delivery, deliveries}
use Rattle.mail_copies.specs.Copies.{first_delivery}
use Rattle.email_creates.proofs.Room.{few_with}

-- ---- one id more

pub after_push : (blobs : List (List ℕ)) (f : List ℕ → Option Delivery) (xs : List (List ℕ)) (s : BlobCopying) (x : List ℕ) → after_blobs blobs f s (xs ++ x ∷ []) ≡ after_blob blobs (after_blobs blobs f s xs) x (f x)
after_push blobs f [] s x = refl
after_push blobs f (y ∷ xs) s x = after_push blobs f xs (after_blob blobs s y (f y)) x

-- ---- the first place of an id

same_turned : (s q : List ℕ) → bytes_eq s q ≡ bytes_eq q s
same_turned s q = same_from_decides _ _ (bytes_eq-Decides s q) (Decides-like _ sym sym (bytes_eq-Decides q s))

or_left : (a b : Bool) → (a || b) ≡ false → a ≡ false
or_left true b e = absurd (true≢false e)
or_left false b e = refl

or_right : (a b : Bool) → (a || b) ≡ false → b ≡ false
or_right true b e = absurd (true≢false e)
or_right false b e = e

drop_next : {A : Type 0} (i : ℕ) (ds : List A) → drop i (drop 1 ds) ≡ drop (suc i) ds
drop_next zero [] = refl
drop_next (suc i) [] = refl
drop_next i (d ∷ ds) = refl

pub first_place : (xs : List (List ℕ)) (ds : List (Option Delivery)) (i : ℕ) (s : List ℕ) → slice_get xs i ≡ Some s → is_among (take i xs) s ≡ false → delivered_for xs ds s ≡ first_delivery (drop i ds)
first_place [] ds i s there none = absurd (none-some s there)
first_place (x ∷ xs) ds zero s there none =
    let same : bytes_eq x s ≡ true = (bytes_eq-Decides x s).1 (same_Some x s there) in
    ap (λ b. cond b (first_delivery ds) (delivered_for xs (drop 1 ds) s)) same
first_place (x ∷ xs) ds (suc i) s there none =
    let other : bytes_eq x s ≡ false = same_turned x s ∙ or_left (bytes_eq s x) (is_among (take i xs) s) none in
    ap (λ b. cond b (first_delivery ds) (delivered_for xs (drop 1 ds) s)) other
    ∙ (first_place xs (drop 1 ds) i s there (or_right (bytes_eq s x) (is_among (take i xs) s) none)
    ∙ ap first_delivery (drop_next i ds))

-- what is delivered for an id that is not among those before it
pub delivered_here : (ids : List (Bor (List ℕ))) (ds : List (Option Delivery)) (i : ℕ) (d : Bor (List ℕ)) → i < length ids → is_among (map (λ t. t.now) (take i ids)) (get_or ids i d).now ≡ false
    → delivered_for (map (λ t. t.now) ids) ds (get_or ids i d).now ≡ first_delivery (drop i ds)
delivered_here ids ds i d lt none =
    first_place (map (λ t. t.now) ids) ds i (get_or ids i d).now
    (slice_get-map (λ (t : Bor (List ℕ)). t.now) ids i ∙ ap (option_map (λ (t : Bor (List ℕ)). t.now)) (slice_get-get_or ids i d lt))
    (ap (λ ts. is_among ts (get_or ids i d).now) (take-map (λ (t : Bor (List ℕ)). t.now) i ids) ∙ none)

-- ---- room

few_bytes : (blobs : List (List ℕ)) (s : BlobCopying) (id bytes : List ℕ) (b : Bool) → has_room (length bytes) (blobs ++ s.brought) ≡ b → AreBlobsFew (blobs ++ s.brought) → AreBlobsFew (blobs ++ (after_bytes blobs s id bytes b).brought)
few_bytes blobs s id bytes true room few = subst AreBlobsFew (append_assoc blobs s.brought (bytes ∷ [])) (few_with (blobs ++ s.brought) bytes room)
few_bytes blobs s id bytes false room few = few

few_blob : (blobs : List (List ℕ)) (s : BlobCopying) (id : List ℕ) (d : Option Delivery) → AreBlobsFew (blobs ++ s.brought) → AreBlobsFew (blobs ++ (after_blob blobs s id d).brought)
few_blob blobs s id None few = few
few_blob blobs s id (Some d) few = few_bytes blobs s id d.bytes (has_room (length d.bytes) (blobs ++ s.brought)) refl few

few_blobs : (blobs : List (List ℕ)) (f : List ℕ → Option Delivery) (ids : List (List ℕ)) (s : BlobCopying) → AreBlobsFew (blobs ++ s.brought) → AreBlobsFew (blobs ++ (after_blobs blobs f s ids).brought)
few_blobs blobs f [] s few = few
few_blobs blobs f (id ∷ ids) s few = few_blobs blobs f ids (after_blob blobs s id (f id)) (few_blob blobs s id (f id) few)

pub few_plan : (blobs : List (List ℕ)) (carried : Carried) (o : Option (List (List ℕ × Tree))) → AreBlobsFew blobs → AreBlobsFew (blobs ++ (blob_plan_by blobs carried o).blobs)
few_plan blobs carried None few = subst AreBlobsFew (sym (append-nil blobs)) few
few_plan blobs carried (Some ms) few =
    let ids = blob_ids_in ms in
    few_blobs blobs (delivered_for ids (deliveries carried.emails carried.blobs)) (first_mentions ids) no_blobs (subst AreBlobsFew (sym (append-nil blobs)) few)
