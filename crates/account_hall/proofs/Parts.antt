-- The parts of a copy between two held accounts.
use Rattle.std.proofs.Common.{◌≡◌, ◌⊎◌, inl, inr, ⊎_elim, ℕ, ◌+◌, Bool, true, false, List, [], ◌∷◌, ◌++◌, map, take, Option, Some, option_map, slice_get, Result, Ok, Err, IfOk, OnErr, codes, refl, sym, ap, ◌∙◌, subst, append_assoc}
use Rattle.std.proofs.lemmas.List.{append-nil, map-append}
use Rattle.jm_json.specs.Call.{Call as Invocation, error_of}
use Rattle.jm_json.specs.Invocations.{call_of}
use Rattle.jm_json.specs.declared.invocation.Created.{Created}
use Rattle.jm_json.specs.declared.invocation.Invocation.{Invocation as TheInvocation}
use Rattle.jm_json.specs.declared.invocation.Replied.{Replied}
use Rattle.mail_records.specs.Histories.{Entry, History}
use Rattle.account_book.specs.declared.asks.Call.{Call}
use Rattle.account_book.specs.declared.asks.Carried.{Carried}
use Rattle.account_book.specs.declared.plans.Out.{Out}
use Rattle.account_book.specs.declared.plans.Out.TheVariants as out
use Rattle.account_book.specs.declared.plans.Plan.{Plan}
use Rattle.account_book.specs.declared.plans.Point.{Point}
use Rattle.account_lock.specs.Entries.{AreUnder, ExtendsUnder}
use Rattle.account_hall.specs.Copies.{CopySteps, HasBegun, IsCopied, IsFetchedSo, IsFollowed, IsPlaced, IsPlacedSo, SetOf, carried_in, fetch_call, first_of, first_response, joined, place_call, replied_in}
use Rattle.account_hall.specs.HeldAccounts.{HasAskedSet, HasGained, HeldState, MayHaveFollowed, MayHavePlaced, Side, entries_in, held_steps}
use Rattle.account_hall.specs.declared.held_accounts.Held.{Held}

-- what a reply, and what another answer, has as first response
pub first_replied : (answer : Out) (r : Replied) → replied_in answer ≡ Ok r → first_response answer ≡ take 1 r.responses
first_replied (out.Replies r) x is = let same : r ≡ x = cc is in ap (λ (y : Replied). take 1 y.responses) same
first_replied (out.Carried c) x is = absurd (cc is)
first_replied (out.Uploaded n) x is = absurd (cc is)
first_replied out.Full x is = absurd (cc is)
first_replied out.Failed x is = absurd (cc is)
first_replied (out.Blob o) x is = absurd (cc is)
first_replied (out.States a b c) x is = absurd (cc is)

pub first_other : (answer other : Out) → replied_in answer ≡ Err other → first_response answer ≡ []
first_other (out.Replies r) x is = absurd (cc is)
first_other (out.Carried c) x is = refl
first_other (out.Uploaded n) x is = refl
first_other out.Full x is = refl
first_other out.Failed x is = refl
first_other (out.Blob o) x is = refl
first_other (out.States a b c) x is = refl

-- the first response of a reply is added to others
pub first_added : (before items : List TheInvocation) (first : TheInvocation) (rest : List TheInvocation) (rs : List Invocation) → items ≡ first ∷ rest → map call_of items ≡ rs
    → map call_of (before ++ first ∷ []) ≡ map call_of before ++ take 1 rs
first_added before items first rest rs split is =
    map-append call_of before (first ∷ []) ∙ ap (λ (cs : List Invocation). map call_of before ++ take 1 cs) (ap (map call_of) (sym split) ∙ is)

pub none_added : (before items : List TheInvocation) (rs : List Invocation) → items ≡ [] → map call_of items ≡ rs → map call_of before ≡ map call_of before ++ take 1 rs
none_added before items rs none is =
    sym (append-nil (map call_of before)) ∙ ap (λ (cs : List Invocation). map call_of before ++ take 1 cs) (ap (map call_of) (sym none) ∙ is)

-- the first of these responses
pub first_read : (items : List TheInvocation) (first : TheInvocation) (rs : List Invocation) → Some first ≡ slice_get items 0 → map call_of items ≡ rs → first_of rs ≡ Some (call_of first)
first_read [] first rs there is = absurd (cc there)
first_read (x ∷ xs) first rs there is = let same : x ≡ first = cc there in ap first_of (sym is) ∙ ap (λ (y : TheInvocation). Some (call_of y)) same

-- the call of a copy, taken out of what was asked
pub taken_out : {A : Type 0} (o : Option A) (x y : A) → o ≡ Some x → o ≡ Some y → x ≡ y
taken_out o x y a b = let same : Some x ≡ Some y = sym a ∙ b in cc same

-- ---- a held account after calls

both_under : (n : ℕ) (xs ys : List Entry) → AreUnder n xs → AreUnder n ys → AreUnder n (xs ++ ys)
both_under n [] ys a b = b
both_under n (x ∷ xs) ys a b = (a.0, both_under n xs ys a.1 b)

module _ {K R : Type 0} where
  pub gained_none : (h : Held K R) → HasGained h h
  gained_none h = record { side = refl; extends = ([], sym (append-nil (entries_in h)), tt) }

  pub gained_then : (h m h' : Held K R) → HasGained h m → HasGained m h' → HasGained h h'
  gained_then h m h' one two =
      let more = subst (λ n. ExtendsUnder n (entries_in m) (entries_in h')) (ap (λ (s : Side). s.number) one.side) two.extends in
      record {
        side = two.side ∙ one.side;
        extends = (one.extends.0 ++ more.0, more.1 ∙ (ap (λ (es : List Entry). es ++ more.0) one.extends.1 ∙ append_assoc (entries_in h) one.extends.0 more.0), both_under h.number one.extends.0 more.0 one.extends.2 more.2);
      }

pub side_kept : (account number : ℕ) (o o' : History) (b b' : ℕ) → o' ≡ o → b' ≡ b
    → (let s : Side = record { account = account; number = number; opened = o'; before = b' } in s) ≡ (let s : Side = record { account = account; number = number; opened = o; before = b } in s)
side_kept account number o o' b b' e f =
    ap (λ (x : History). let s : Side = record { account = account; number = number; opened = x; before = b' } in s) e
    ∙ ap (λ (x : ℕ). let s : Side = record { account = account; number = number; opened = o; before = x } in s) f

-- ---- what follows a reply

module _ {R : Type 0} (plan_of : R → History → Call → ℕ → Plan) (set_of : SetOf) (from to : Side) (copy : TheInvocation) (made : List Created) (moment : ℕ) (placed : Replied) where
  told : (b : Bool) (o : Option TheInvocation) (set : TheInvocation) (s : HeldState) (answer : Out) → b ≡ true → o ≡ Some set → answer ≡ joined placed (error_of (codes "accountReadOnly") copy.id ∷ [])
      → IsFollowed (held_steps plan_of set_of from to b copy made moment) placed (option_map call_of o) s s answer
  told b o set s answer flag is shown =
      subst (λ x. IsFollowed (held_steps plan_of set_of from to x copy made moment) placed (option_map call_of o) s s answer) (sym flag)
      (subst (λ x. IsFollowed (held_steps plan_of set_of from to true copy made moment) placed (option_map call_of x) s s answer) (sym is) (refl, shown))

  -- the user may only read the account of the originals
  pub told_if : {E : Type 0} (b : Bool) (o : Option TheInvocation) (set : TheInvocation) (s : HeldState) (r : Result Out E) → b ≡ true → o ≡ Some set → IfOk r (λ answer. answer ≡ joined placed (error_of (codes "accountReadOnly") copy.id ∷ []))
      → IfOk r (λ answer. IsFollowed (held_steps plan_of set_of from to b copy made moment) placed (option_map call_of o) s s answer)
  told_if b o set s (Ok answer) flag is shown = told b o set s answer flag is shown
  told_if b o set s (Err e) flag is shown = tt

  set_asked : (b : Bool) (o : Option TheInvocation) (set : TheInvocation) (es es' others : List Entry) (t t' : List Point) (answer : Out) → b ≡ false → o ≡ Some set → HasAskedSet plan_of from moment set made placed es es' t t' answer
      → IsFollowed (held_steps plan_of set_of from to b copy made moment) placed (option_map call_of o) (record { from = es; to = others; trail = t }) (record { from = es'; to = others; trail = t' }) answer
  set_asked b o set es es' others t t' answer flag is w =
      subst (λ x. IsFollowed (held_steps plan_of set_of from to x copy made moment) placed (option_map call_of o) (record { from = es; to = others; trail = t }) (record { from = es'; to = others; trail = t' }) answer) (sym flag)
      (subst (λ x. IsFollowed (held_steps plan_of set_of from to false copy made moment) placed (option_map call_of x) (record { from = es; to = others; trail = t }) (record { from = es'; to = others; trail = t' }) answer) (sym is)
      (record { call = set; call_is = refl; reply = w.reply; asked = (w.asked, refl); answer_is = w.answer_is }))

  -- the set was asked
  pub asked_if : {E : Type 0} (b : Bool) (o : Option TheInvocation) (set : TheInvocation) (es es' others : List Entry) (t t' : List Point) (r : Result Out E) → b ≡ false → o ≡ Some set
      → IfOk r (λ answer. HasAskedSet plan_of from moment set made placed es es' t t' answer)
      → IfOk r (λ answer. IsFollowed (held_steps plan_of set_of from to b copy made moment) placed (option_map call_of o) (record { from = es; to = others; trail = t }) (record { from = es'; to = others; trail = t' }) answer)
  asked_if b o set es es' others t t' (Ok answer) flag is w = set_asked b o set es es' others t t' answer flag is w
  asked_if b o set es es' others t t' (Err e) flag is w = tt

-- ---- one call after the other

module _ {E : Type 0} (c : CopySteps HeldState) (s m s' : HeldState) where
  -- what was placed, and what followed
  pub placed_if : (carried : Carried) (placed : Out) (r : Result Out E) → c.to (place_call c.call carried c.made) s m placed → IfOk r (λ answer. IsPlacedSo c (replied_in placed) m s' answer) → IfOk r (λ answer. IsPlaced c carried s s' answer)
  placed_if carried placed (Ok answer) place rest = record { placed = placed; next = m; place = place; rest = rest }
  placed_if carried placed (Err e) place rest = tt

  pub placed_begun : (carried : Carried) (placed : Out) (r : Result Out E) → c.to (place_call c.call carried c.made) s m placed → OnErr r (s' ≡ m) → OnErr r (MayHavePlaced c carried s s')
  placed_begun carried placed (Ok answer) place same = tt
  placed_begun carried placed (Err e) place same = inr (placed, subst (λ x. c.to (place_call c.call carried c.made) s x placed) (sym same) place)

  pub followed_if : (carried : Carried) (o : Result Carried Out) (r : Result Out E) → Ok carried ≡ o → IfOk r (λ answer. IsPlaced c carried s s' answer) → IfOk r (λ answer. IsFetchedSo c o s s' answer)
  followed_if carried o r is w = subst (λ x. IfOk r (λ answer. IsFetchedSo c x s s' answer)) is w

  pub followed_begun : (fetched : Out) (carried : Carried) (r : Result Out E) → Ok carried ≡ carried_in fetched → OnErr r (MayHavePlaced c carried s s') → OnErr r (MayHaveFollowed c fetched s s')
  followed_begun fetched carried (Ok answer) is w = tt
  followed_begun fetched carried (Err e) is w = record { carried = carried; carried_is = sym is; placed = w }

  pub copied_if : (fetched : Out) (r : Result Out E) → c.from (fetch_call c.call c.made) s m fetched → IfOk r (λ answer. IsFetchedSo c (carried_in fetched) m s' answer) → IfOk r (λ answer. IsCopied c s s' answer)
  copied_if fetched (Ok answer) fetch rest = record { fetched = fetched; next = m; fetch = fetch; rest = rest }
  copied_if fetched (Err e) fetch rest = tt

-- ---- out of memory

-- what began after the first call is what a copy begins with
pub begun_after : (c : CopySteps HeldState) (fetched : Out) (s m s' : HeldState) → c.from (fetch_call c.call c.made) s m fetched → MayHaveFollowed c fetched m s' → HasBegun c s s'
begun_after c fetched s m s' fetch w =
    ⊎_elim
    (λ (is : s' ≡ m). inr (inl (record { fetched = fetched; carried = w.carried; carried_is = w.carried_is; fetch = subst (λ x. c.from (fetch_call c.call c.made) s x fetched) (sym is) fetch })))
    (λ (p : (placed : Out) × c.to (place_call c.call w.carried c.made) m s' placed).
    inr (inr (record { next = m; first = record { fetched = fetched; carried = w.carried; carried_is = w.carried_is; fetch = fetch }; placed = p.0; place = p.1 })))
    w.placed

pub state_same : (a b : List Entry) (t : List Point) (a' b' : List Entry) (t' : List Point) → a' ≡ a → b' ≡ b → t' ≡ t
    → (let s : HeldState = record { from = a'; to = b'; trail = t' } in s) ≡ (let s : HeldState = record { from = a; to = b; trail = t } in s)
state_same a b t a' b' t' e f g =
    ap (λ (x : List Entry). let s : HeldState = record { from = x; to = b'; trail = t' } in s) e
    ∙ (ap (λ (x : List Entry). let s : HeldState = record { from = a; to = x; trail = t' } in s) f
    ∙ ap (λ (x : List Point). let s : HeldState = record { from = a; to = b; trail = x } in s) g)

pub begun_if : {E : Type 0} (c : CopySteps HeldState) (fetched : Out) (s m s' : HeldState) (r : Result Out E) → c.from (fetch_call c.call c.made) s m fetched → OnErr r (MayHaveFollowed c fetched m s') → OnErr r (HasBegun c s s')
begun_if c fetched s m s' (Ok answer) fetch w = tt
begun_if c fetched s m s' (Err e) fetch w = begun_after c fetched s m s' fetch w

pub same_if : {E : Type 0} (r : Result Out E) (a b a' : List Entry) (t t' : List Point) → OnErr r ((a' ≡ a) × (t' ≡ t))
    → OnErr r ((let s : HeldState = record { from = a'; to = b; trail = t' } in s) ≡ (let s : HeldState = record { from = a; to = b; trail = t } in s))
same_if (Ok answer) a b a' t t' same = tt
same_if (Err e) a b a' t t' same = state_same a b t a' b t' same.0 refl same.1
