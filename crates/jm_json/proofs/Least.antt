-- The least of some places.
use Rattle.std.proofs.Common.{◌≡◌, ℕ, List, [], ◌∷◌, ◌++◌, Bool, true, false, ◌||◌, Option, Some, None, Less, Equal, Greater, Ordering, bytes_eq, refl, sym, ap, ◌∙◌, subst}
use Rattle.std.specs.List.{list_any, AllByRecursion}
use Rattle.std.specs.Ordering.{nat_cmp, match_ordering, ordering_reverse, is_gt}
use Rattle.std.specs.Cmp.Lexicographic.{slice_cmp, nat_list_eq_equiv}
use Rattle.std.proofs.lemmas.Cmp.{nat_list_cmp_total, upto, tied_itself}
use Rattle.std.proofs.lemmas.List.Sums.{fold-append}
use Rattle.jm_json.specs.LeastPlaces.{lesser, least_from, IsLeast}

-- the places of two lists, one after the other
pub least_on : (least : Option (List ℕ)) (xs ys : List (List ℕ)) → least_from least (xs ++ ys) ≡ least_from (least_from least xs) ys
least_on least xs ys = fold-append lesser least xs ys

-- the places of three lists
pub least_three : (l a b c : Option (List ℕ)) (xs ys zs : List (List ℕ)) → a ≡ least_from l xs → b ≡ least_from a ys → c ≡ least_from b zs
    → c ≡ least_from l (xs ++ (ys ++ zs))
least_three l a b c xs ys zs e f g =
    g ∙ ap (λ o. least_from o zs) (f ∙ ap (λ o. least_from o ys) e)
    ∙ (sym (least_on (least_from l xs) ys zs) ∙ sym (least_on l xs (ys ++ zs)))

-- ---- the least of a place and of others

record Least (first : List ℕ) (places : List (List ℕ)) (place : List ℕ) : Type 0 where
  pub among : (bytes_eq place first || list_any (bytes_eq place) places) ≡ true
  pub below : is_gt (slice_cmp nat_cmp place first) ≡ false
  pub least : AllByRecursion (λ other. is_gt (slice_cmp nat_cmp place other) ≡ false) places

-- the place at one of three
skip_first : (a b c : Bool) → (b || c) ≡ true → (a || (b || c)) ≡ true
skip_first true b c e = refl
skip_first false b c e = e

skip_second : (a b c : Bool) → (a || c) ≡ true → (a || (b || c)) ≡ true
skip_second true b c e = refl
skip_second false true c e = refl
skip_second false false c e = e

not_greater : (o p : Ordering) → p ≡ ordering_reverse o → is_gt o ≡ false → is_gt p ≡ false → is_gt p ≡ false
not_greater o p e f g = g

turned_less : (o p : Ordering) → o ≡ Less → p ≡ ordering_reverse o → p ≡ Greater
turned_less o p e f = f ∙ ap ordering_reverse e

less_is : (o : Ordering) → o ≡ Less → is_gt o ≡ false
less_is o e = ap is_gt e

-- what is not less is at least
back_equal : (p : Ordering) → p ≡ ordering_reverse Equal → is_gt p ≡ false
back_equal p e = ap is_gt e

back_greater : (p : Ordering) → p ≡ ordering_reverse Greater → is_gt p ≡ false
back_greater p e = ap is_gt e

least_step : (o : Ordering) (q p : List ℕ) (ps : List (List ℕ)) (place : List ℕ) → slice_cmp nat_cmp p q ≡ o
    → ((first : List ℕ) → least_from (Some first) ps ≡ Some place → Least first ps place)
    → least_from (match_ordering o (Some p) (Some q) (Some q)) ps ≡ Some place → Least q (p ∷ ps) place
least_step Less q p ps place e go h =
    let l : Least p ps place = go p h in
    record {
      among = skip_first (bytes_eq place q) (bytes_eq place p) (list_any (bytes_eq place) ps) l.among;
      below = upto nat_list_cmp_total place p q l.below (less_is (slice_cmp nat_cmp p q) e);
      least = (l.below, l.least);
    }
least_step Equal q p ps place e go h =
    let l : Least q ps place = go q h in
    let back : is_gt (slice_cmp nat_cmp q p) ≡ false = back_equal (slice_cmp nat_cmp q p) (nat_list_cmp_total.antisymm q p ∙ ap ordering_reverse e) in
    record {
      among = skip_second (bytes_eq place q) (bytes_eq place p) (list_any (bytes_eq place) ps) l.among;
      below = l.below;
      least = (upto nat_list_cmp_total place q p l.below back, l.least);
    }
least_step Greater q p ps place e go h =
    let l : Least q ps place = go q h in
    let back : is_gt (slice_cmp nat_cmp q p) ≡ false = back_greater (slice_cmp nat_cmp q p) (nat_list_cmp_total.antisymm q p ∙ ap ordering_reverse e) in
    record {
      among = skip_second (bytes_eq place q) (bytes_eq place p) (list_any (bytes_eq place) ps) l.among;
      below = l.below;
      least = (upto nat_list_cmp_total place q p l.below back, l.least);
    }

same_text : (s t : List ℕ) → Some s ≡ Some t → s ≡ t
same_text s t e = cc

itself : (q place : List ℕ) → q ≡ place → Least q [] place
itself q place e =
    subst (λ p. Least q [] p) e
    (record {
      among = ap (λ b. b || false) (nat_list_eq_equiv.refl q);
      below = ap is_gt (tied_itself nat_list_cmp_total q);
      least = tt;
    })

least_after : (q : List ℕ) (ps : List (List ℕ)) (place : List ℕ) → least_from (Some q) ps ≡ Some place → Least q ps place
least_after q [] place e = itself q place (same_text q place e)
least_after q (p ∷ ps) place e =
    least_step (slice_cmp nat_cmp p q) q p ps place refl (λ first. least_after first ps place) e

no_text : (s : List ℕ) → None ≡ Some s → ⊥
no_text s e = absurd (cc)

least_of_after : (p : List ℕ) (ps : List (List ℕ)) (place : List ℕ) → Least p ps place → IsLeast (p ∷ ps) place
least_of_after p ps place l = record { among = l.among; least = (l.below, l.least) }

-- the least place is one of the places, and none of them is less
pub least_is : (places : List (List ℕ)) (place : List ℕ) → least_from None places ≡ Some place → IsLeast places place
least_is [] place e = absurd (no_text place e)
least_is (p ∷ ps) place e = least_of_after p ps place (least_after p ps place e)

-- ---- no place

stays_step : (o : Ordering) (q p : List ℕ) (ps : List (List ℕ)) → ((first : List ℕ) → least_from (Some first) ps ≡ None → ⊥)
    → least_from (match_ordering o (Some p) (Some q) (Some q)) ps ≡ None → ⊥
stays_step Less q p ps go h = go p h
stays_step Equal q p ps go h = go q h
stays_step Greater q p ps go h = go q h

stays : (q : List ℕ) (ps : List (List ℕ)) → least_from (Some q) ps ≡ None → ⊥
stays q [] e = no_text q (sym e)
stays q (p ∷ ps) e = stays_step (slice_cmp nat_cmp p q) q p ps (λ first. stays first ps) e

-- without a least place there is none
pub none_left : (places : List (List ℕ)) → least_from None places ≡ None → places ≡ []
none_left [] e = refl
none_left (p ∷ ps) e = absurd (stays p ps e)

-- ---- a place alone

-- the least of one place is that place
pub is_least_alone : (place : List ℕ) → IsLeast (place ∷ []) place
is_least_alone place = least_is (place ∷ []) place refl
