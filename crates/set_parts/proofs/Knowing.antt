-- What is known after one more was made.
use Rattle.std.proofs.Common.{Bor, ◌≡◌, ℕ, Bool, true, false, cond, List, [], ◌∷◌, ◌++◌, Option, Some, None, option_map, refl, sym, ap, ◌∙◌, bytes_eq}
use Rattle.std.specs.Option.{option_or}
use Rattle.jm_json.specs.declared.invocation.Created.{Created}
use Rattle.set_parts.specs.CreationIds.{last_made}
use Rattle.set_parts.specs.Views.{Means, IsIdFor}

or_after : (b : Bool) (id : List ℕ) (old other : Option (List ℕ)) → option_or (cond b (Some id) old) other ≡ cond b (Some id) (option_or old other)
or_after true id old other = refl
or_after false id old other = refl

pub last_made-append : (k : List ℕ) (made : List Created) (x : Created) → last_made k (made ++ x ∷ []) ≡ cond (bytes_eq x.creation k) (Some x.id) (last_made k made)
last_made-append k [] x = refl
last_made-append k (y ∷ made) x =
    ap (λ o. option_or o (cond (bytes_eq y.creation k) (Some y.id) None)) (last_made-append k made x)
    ∙ or_after (bytes_eq x.creation k) x.id (last_made k made) (cond (bytes_eq y.creation k) (Some y.id) None)

noted : (b : Bool) (id : List ℕ) (number : Option ℕ) (old : Option (List ℕ)) (was : Option (Option ℕ)) → Means id number → IsIdFor old was → IsIdFor (cond b (Some id) old) (cond b (Some number) was)
noted true id number old was means known = means
noted false id number old was means known = known

pub noted_at : (made : List Created) (x : Created) (k creation : List ℕ) (number : Option ℕ) (was now : Option (Option ℕ)) → x.creation ≡ creation → now ≡ cond (bytes_eq creation k) (Some number) was → Means x.id number
    → IsIdFor (last_made k made) was → IsIdFor (last_made k (made ++ x ∷ [])) now
noted_at made x k creation number was now same is means known =
    rw (last_made-append k made x, is, same) (noted (bytes_eq creation k) x.id number (last_made k made) was means known)

-- ---- ids as strings

at_now : {A : Type 0} (b : Bool) (v : Bor A) (was : Option (Bor A)) → option_map (λ t. t.now) (cond b (Some v) was) ≡ cond b (Some v.now) (option_map (λ t. t.now) was)
at_now true v was = refl
at_now false v was = refl

-- what a table has at a creation id after one more was noted
pub noted_text : (made : List Created) (x : Created) (k creation id : List ℕ) (v : Bor (List ℕ)) (was now : Option (Bor (List ℕ))) → x.creation ≡ creation → x.id ≡ id → v.now ≡ id
    → now ≡ cond (bytes_eq creation k) (Some v) was → option_map (λ t. t.now) was ≡ last_made k made → option_map (λ t. t.now) now ≡ last_made k (made ++ x ∷ [])
noted_text made x k creation id v was now same named value is known =
    ap (option_map (λ t. t.now)) is ∙ (at_now (bytes_eq creation k) v was
    ∙ (ap (λ o. cond (bytes_eq creation k) (Some v.now) o) known
    ∙ (ap (λ (s : List ℕ). cond (bytes_eq creation k) (Some s) (last_made k made)) (value ∙ sym named)
    ∙ (ap (λ (s : List ℕ). cond (bytes_eq s k) (Some x.id) (last_made k made)) (sym same) ∙ sym (last_made-append k made x)))))
