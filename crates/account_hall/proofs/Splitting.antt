-- A root from which a pass is split off, and a session that was just admitted.
use Rattle.std.proofs.Common.{◌≡◌, ℕ, ◌+◌, ◌<◌, List, [], ◌∷◌, ◌++◌, map, take, length, get_or, Some, slice_get, refl, sym, ap, ◌∙◌, arith}
use Rattle.std.specs.List.{AllByRecursion}
use Rattle.std.proofs.Math.ListN.{set}
use Rattle.std.proofs.lemmas.Option.{slice_get_read}
use Rattle.account_lock.specs.Passes.{split_off}
use Rattle.account_lock.specs.Views.{PassFacts}
use Rattle.account_hall.specs.Halls.{AreOf, RoomFacts, lock_of_pass, one_given, room_view}
use Rattle.account_hall.specs.Sessions.{IsSession, entry_serial}
use Rattle.account_hall.proofs.Fronts.{all_at, lock_at, of_count, split_at, split_free, split_here, split_more, split_next, there_is}

pub split_root : {B : Type 0} (i : ℕ) (now rs : List PassFacts) (rooms : List (RoomFacts B)) (room : RoomFacts B) (x : PassFacts) → now ≡ split_at i rs → AreOf (map room_view rooms) rs → i < length rooms → room ≡ get_or rooms i room → x ≡ get_or now i x
    → (slice_get rs i ≡ Some x) × (x.lock ≡ room.lock.id)
split_root i now rs rooms room x is of low at_room at_root =
    let a = of_count rooms rs of in
    let r = there_is rs i (omega (arith, a, low)) in
    let same : x ≡ r.0 = at_root ∙ (ap (λ zs. get_or zs i x) is ∙ split_here i rs r.0 x r.1) in
    let there : slice_get rooms i ≡ Some room = slice_get_read rooms (length rooms) i room refl low at_room in
    (r.1 ∙ ap Some (sym same), ap lock_of_pass same ∙ lock_at rooms rs i room r.0 of there r.1)

-- the roots after one more was split, and the passes with its pass
pub split_roots : (i : ℕ) (now ks : List PassFacts) (k k' : PassFacts) → now ≡ split_at i ks → slice_get ks i ≡ Some k → k' ≡ one_given k → set now i k' ≡ split_at (i + 1) ks
split_roots i now ks k k' are there is = ap (λ zs. set zs i k') are ∙ split_next i ks k k' there is

pub split_list : (i : ℕ) (old new ks : List PassFacts) (k k' : PassFacts) → old ≡ map split_off (take i ks) → new ≡ old ++ k' ∷ [] → slice_get ks i ≡ Some k → k' ≡ split_off k → new ≡ map split_off (take (i + 1) ks)
split_list i old new ks k k' are more there is = more ∙ (ap (λ zs. zs ++ k' ∷ []) are ∙ split_more i ks k k' there is)

none_own : (ks : List PassFacts) → AllByRecursion (λ k. k.own ≡ []) (map split_off ks)
none_own [] = tt
none_own (k ∷ ks) = (refl, none_own ks)

-- a session that was just admitted is in order
pub admitted : (ks : List PassFacts) → IsSession (record { passes = map split_off ks; trail = [] })
admitted ks = record {
  free = split_free ks;
  trail = tt;
  each = λ account k there. let none : k.own ≡ [] = all_at (λ x. x.own ≡ []) (map split_off ks) account k (none_own ks) there in
      record { within = tt; own = none; serials = ap (map entry_serial) none };
}
