-- Chains of parents that are climbed.
use Rattle.std.proofs.Common.{◌≡◌, ℕ, zero, suc, ◌+◌, true, false, nat_le, cond, List, [], ◌∷◌, ◌++◌, length, Option, Some, None, is_none, refl, sym, ap, ◌∙◌, subst, arith, ⊎_elim}
use Rattle.std.specs.BTreeMap.{BTreeMap, get}
use Rattle.std.specs.Ordering.{is_eq, nat_cmp}
use Rattle.std.proofs.Math.Dec.{leb-suc-suc, leb-suc-zero, leb-zero}
use Rattle.std.proofs.lemmas.Bool.{cases_Bool, true≢false}
use Rattle.mail_records.specs.Contents.{Content}
use Rattle.mail_records.proofs.KeyTables.{nat_equal}
use Rattle.mail_counts.specs.Tidy.{ancestor, parent_of}
use Rattle.tidy_check.specs.Chains.{AreDepths, HasDepth, IsClimbed, IsPath}
use Rattle.tidy_check.specs.Checks.{has_root}

ended : (k : ℕ) (c : Content) → ancestor k c None ≡ None
ended zero c = refl
ended (suc k) c = refl

-- a chain of a known depth ends within so many steps if and only if the depth is at most that
depth_within : (d k : ℕ) (c : Content) (start : Option ℕ) → HasDepth c d start → is_none (ancestor k c start) ≡ nat_le d k
depth_within zero k c start e = subst (λ s. is_none (ancestor k c s) ≡ nat_le zero k) (sym e) (ap is_none (ended k c) ∙ sym (leb-zero k))
depth_within (suc d) k c None e = absurd e
depth_within (suc d) zero c (Some n) e = sym (leb-suc-zero d)
depth_within (suc d) (suc k) c (Some n) e = depth_within d k c (parent_of c n) e ∙ sym (leb-suc-suc d k)

pub root_by_depth : (c : Content) (d : ℕ) (start : Option ℕ) → HasDepth c d start → nat_le d (length c.mailboxes) ≡ has_root c start
root_by_depth c d start e = sym (depth_within d (length c.mailboxes) c start e)

-- where a path comes to
reached : (c : Content) (start : Option ℕ) (path : List ℕ) (end : Option ℕ) → IsPath c start path end → ancestor (length path) c start ≡ end
reached c start [] end p = p
reached c start (n ∷ ns) end p = subst (λ s. ancestor (suc (length ns)) c s ≡ end) (sym p.0) (reached c (parent_of c n) ns end p.1)

-- a path as long as there are mailboxes that continues
pub no_root : (c : Content) (start : Option ℕ) (path : List ℕ) (n : ℕ) → IsPath c start path (Some n) → length path ≡ length c.mailboxes → has_root c start ≡ false
no_root c start path n p count = ap is_none (subst (λ k. ancestor k c start ≡ Some n) count (reached c start path (Some n) p))

pub path_pushed : (c : Content) (start : Option ℕ) (path : List ℕ) (n : ℕ) → IsPath c start path (Some n) → IsPath c start (path ++ n ∷ []) (parent_of c n)
path_pushed c start [] n p = (p, refl)
path_pushed c start (x ∷ xs) n p = (p.0, path_pushed c (parent_of c x) xs n p.1)

path_popped : (c : Content) (start : Option ℕ) (path : List ℕ) (n : ℕ) (end : Option ℕ) → IsPath c start (path ++ n ∷ []) end → IsPath c start path (Some n) × (parent_of c n ≡ end)
path_popped c start [] n end p = p
path_popped c start (x ∷ xs) n end p = let rest = path_popped c (parent_of c x) xs n end p.1 in ((p.0, rest.0), rest.1)

-- one mailbox back on the path
pub climbed_back : (c : Content) (start : Option ℕ) (old new : List ℕ) (n d e : ℕ) → IsClimbed c start old d → old ≡ new ++ n ∷ [] → e ≡ d + 1 → IsClimbed c start new e × HasDepth c e (Some n)
climbed_back c start old new n d e climbed is next =
    let back = path_popped c start new n climbed.0 (subst (λ xs. IsPath c start xs climbed.0) is climbed.1) in
    let deep : HasDepth c d (parent_of c n) = subst (HasDepth c d) (sym back.1) climbed.2 in
    let one : HasDepth c (suc d) (Some n) = deep in
    let count : e ≡ suc d = omega (arith, next) in
    let more : HasDepth c e (Some n) = subst (λ k. HasDepth c k (Some n)) (sym count) one in
    ((Some n, back.0, more), more)

pub climbed_all : (c : Content) (start : Option ℕ) (path : List ℕ) (d : ℕ) → IsClimbed c start path d → path ≡ [] → HasDepth c d start
climbed_all c start path d climbed is = subst (HasDepth c d) (sym (subst (λ xs. IsPath c start xs climbed.0) is climbed.1)) climbed.2

-- a depth more in the map
pub depths_with : (c : Content) (old new : BTreeMap ℕ ℕ) (n d : ℕ) → AreDepths c old → HasDepth c d (Some n)
    → ((q : ℕ) → get nat_cmp new q ≡ cond (is_eq (nat_cmp n q)) (Some d) (get nat_cmp old q)) → AreDepths c new
depths_with c old new n d all deep updates q w e =
    ⊎_elim
    (λ (t : is_eq (nat_cmp n q) ≡ true).
    let at : Some d ≡ Some w = sym (subst (λ b. get nat_cmp new q ≡ cond b (Some d) (get nat_cmp old q)) t (updates q)) ∙ e in
    let is : d ≡ w = cc in
    subst (λ k. HasDepth c k (Some q)) is (subst (λ k. HasDepth c d (Some k)) (nat_equal n q t) deep))
    (λ (t : is_eq (nat_cmp n q) ≡ false). all q w (sym (subst (λ b. get nat_cmp new q ≡ cond b (Some d) (get nat_cmp old q)) t (updates q)) ∙ e))
    (cases_Bool (is_eq (nat_cmp n q)))
