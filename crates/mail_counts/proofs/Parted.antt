-- A group is a part of the members in order.
use Rattle.std.proofs.Common.{◌≡◌, ℕ, ◌<◌, ◌≤◌, Bool, true, false, not, List, [], ◌∷◌, map, filter, take, drop, length, zero, suc, refl, sym, ap, ◌∙◌, subst, arith, ⊎_elim, ◌⊎◌}
use Rattle.std.specs.List.Sorted.{IsPartitionPoint, IsPartitionedBy, IsStrictlySortedBy}
use Rattle.std.specs.declared.cmp.Ordering.{Ordering}
use Rattle.std.specs.declared.cmp.Ordering.TheVariants.{Less, Equal, Greater}
use Rattle.std.specs.Ordering.{MatchOrdering, is_eq, is_lt, is_gt, ordering_then, nat_cmp, int_cmp}
use Rattle.std.specs.Cmp.{nat_cmp_is, unsigned_tied}
use Rattle.std.proofs.lemmas.Cmp.{ranked}
use Rattle.std.proofs.lemmas.Bool.{true≢false}
use Rattle.std.proofs.lemmas.List.{map-id}
use Rattle.mail_records.proofs.Rising.{parted, part_is}
use Rattle.mail_counts.specs.Members.{is_of_group, member_cmp, of_group}
use Rattle.mail_counts.specs.declared.members.Member.{Member}
use Rattle.mail_counts.proofs.Groups.{filter_alike, member_total}

-- how the group of a member is to one
abbrev pub to_group : ℕ → Member → Ordering
to_group g m = nat_cmp m.group g

then_not_greater : (r s : Ordering) → ordering_then r s ≡ Less → is_gt r ≡ false
then_not_greater Less s e = refl
then_not_greater Equal s e = refl
then_not_greater Greater s e = absurd (true≢false (sym (ap is_lt e)))

not_above : (a b : ℕ) → is_gt (nat_cmp a b) ≡ false → a ≤ b
not_above a b e = by (nat_cmp a b) (ranked a b (nat_cmp a b) refl) e
  where
    by : (r : Ordering) → MatchOrdering r (a < b) (a ≡ b) (b < a) → is_gt r ≡ false → a ≤ b
    by Less m h = omega (arith, m)
    by Equal m h = omega (arith, m)
    by Greater m h = absurd (true≢false h)

is_below : (a b : ℕ) → is_lt (nat_cmp a b) ≡ true → a < b
is_below a b e = by (nat_cmp a b) (ranked a b (nat_cmp a b) refl) e
  where
    by : (r : Ordering) → MatchOrdering r (a < b) (a ≡ b) (b < a) → is_lt r ≡ true → a < b
    by Less m h = m
    by Equal m h = absurd (true≢false (sym h))
    by Greater m h = absurd (true≢false (sym h))

below_both : (a b g : ℕ) → a ≤ b → is_lt (nat_cmp b g) ≡ true → is_lt (nat_cmp a g) ≡ true
below_both a b g le e =
    let lt = is_below b g e in
    let less : a < g = omega (arith, le, lt) in ap is_lt (sym (nat_cmp_is a g Less less))

upto_both : (a b g : ℕ) → a ≤ b → not (is_gt (nat_cmp b g)) ≡ true → not (is_gt (nat_cmp a g)) ≡ true
upto_both a b g le e =
    let most = not_above b g (not_true (is_gt (nat_cmp b g)) e) in
    let low : a ≤ g = omega (arith, le, most) in by low (nat_cmp a g) (ranked a g (nat_cmp a g) refl)
  where
    not_true : (x : Bool) → not x ≡ true → x ≡ false
    not_true true h = absurd (true≢false (sym h))
    not_true false h = refl

    by : a ≤ g → (r : Ordering) → MatchOrdering r (a < g) (a ≡ g) (g < a) → not (is_gt r) ≡ true
    by low Less m = refl
    by low Equal m = refl
    by low Greater m = absurd (omega (arith, low, m))

groups_le : (x y : Member) → member_cmp x y ≡ Less → x.group ≤ y.group
groups_le x y e =
    not_above x.group y.group
    (then_not_greater (nat_cmp x.group y.group) (ordering_then (int_cmp x.received y.received) (nat_cmp x.number y.number)) e)

plain : (ms : List Member) → IsStrictlySortedBy member_cmp ms → IsStrictlySortedBy member_cmp (map (λ (m : Member). m) ms)
plain ms rise = subst (IsStrictlySortedBy member_cmp) (sym (map-id ms)) rise

pub below_parted : (g : ℕ) (ms : List Member) → IsStrictlySortedBy member_cmp ms → IsPartitionedBy (λ (m : Member). is_lt (to_group g m)) ms
below_parted g ms rise =
    parted member_total (λ (m : Member). m) (λ m. is_lt (to_group g m)) (λ x y l e. below_both x.group y.group g (groups_le x y l) e) ms (plain ms rise)

pub upto_parted : (g : ℕ) (ms : List Member) → IsStrictlySortedBy member_cmp ms → IsPartitionedBy (λ (m : Member). not (is_gt (to_group g m))) ms
upto_parted g ms rise =
    parted member_total (λ (m : Member). m) (λ m. not (is_gt (to_group g m))) (λ x y l e. upto_both x.group y.group g (groups_le x y l) e) ms (plain ms rise)

rise_drop : (i : ℕ) (ms : List Member) → IsStrictlySortedBy member_cmp ms → IsStrictlySortedBy member_cmp (drop i ms)
unfolding IsStrictlySortedBy
rise_drop zero ms rise = rise
rise_drop (suc i) [] rise = tt
rise_drop (suc i) (m ∷ ms) rise = rise_drop i ms rise.1

pub rest_parted : (g i : ℕ) (ms : List Member) → IsStrictlySortedBy member_cmp ms → IsPartitionedBy (λ (m : Member). not (is_gt (to_group g m))) (drop i ms)
rest_parted g i ms rise = upto_parted g (drop i ms) (rise_drop i ms rise)

pub part_of_group : (g : ℕ) (ms : List Member) (m n : ℕ) → m ≤ length ms → n ≤ length (drop m ms)
    → IsPartitionPoint (λ (x : Member). is_lt (to_group g x) ≡ true) (λ (x : Member). is_lt (to_group g x) ≡ false) ms m
    → IsPartitionPoint (λ (x : Member). not (is_gt (to_group g x)) ≡ true) (λ (x : Member). not (is_gt (to_group g x)) ≡ false) (drop m ms) n
    → take n (drop m ms) ≡ of_group g ms
part_of_group g ms m n le short low high =
    sym (map-id (take n (drop m ms)))
    ∙ (part_is member_total (λ (x : Member). x) (to_group g) ms m n le short low high
    ∙ (ap (filter (λ (x : Member). is_eq (to_group g x))) (map-id ms)
    ∙ filter_alike (λ (x : Member). is_eq (to_group g x)) (is_of_group g) (λ x. unsigned_tied x.group g) ms))
