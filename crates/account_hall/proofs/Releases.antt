-- Two held accounts are given back.
use Rattle.std.proofs.Common.{◌≡◌, ◌≢◌, ⊎_elim, ℕ, ◌<◌, Bool, false, List, Option, Some, None, slice_get, refl, sym, ap, ◌∙◌, subst, arith}
use Rattle.std.proofs.Math.ListN.{set}
use Rattle.mail_records.specs.Histories.{Entry}
use Rattle.account_lock.specs.Entries.{ExtendsUnder, under}
use Rattle.account_lock.specs.Views.{PassFacts, Turn}
use Rattle.account_hall.specs.Halls.{AreOf, RoomView}
use Rattle.account_hall.specs.HeldAccounts.{AreReleased, AreTaken, HasGained, HasTurnAt, IsHeldBy, IsWithin, MayRelease, Side, entries_in, holding, next_turn, released, released_at, released_to, turn_at}
use Rattle.account_hall.specs.declared.held_accounts.Held.{Held}
use Rattle.account_hall.proofs.Fronts.{of_set}
use Rattle.account_hall.proofs.Grips.{one_there, turn_is}
use Rattle.account_hall.proofs.Nested.{lower_or, shown, turned}
use Rattle.account_hall.proofs.Places.{flipped, set_elsewhere, set_there, set_twice, set_under}

pub released_is : {K R : Type 0} (ks : List PassFacts) (other : Option Turn) (h : Held K R) (account : ℕ) (k : PassFacts) → h.account ≡ account → slice_get ks account ≡ Some k
    → released_to ks other h ≡ set ks account (released k other (entries_in h))
released_is ks other h account k same there =
    ap (λ n. released_at ks n other (entries_in h) (slice_get ks n)) same ∙ ap (released_at ks account other (entries_in h)) there

given_is : (k : PassFacts) (a c : Option Turn) (es new : List Entry) → k.holds ≡ false → released (holding k a es) c new ≡ shown k (turned a c k) new
given_is k a c es new free = ap (λ (b : Bool). let x : PassFacts = record k { holds = b; last = turned a c k; seen = new; own = under k.name new } in x) (sym free)

-- ---- one after the other

module _ {K R : Type 0} (ks : List PassFacts) (other : Option Turn) (x : Held K R) (may : MayRelease ks x) where
  pub has_turn : HasTurnAt x.account ks
  has_turn k there = ap (λ (y : PassFacts). y.holds) (one_there ks x.account k may.pass there may.there) ∙ may.holds

  released_here : released_to ks other x ≡ set ks x.account (released may.pass other (entries_in x))
  released_here = released_is ks other x x.account may.pass refl may.there

  pub of_released : (rooms : List RoomView) → AreOf rooms ks → AreOf rooms (released_to ks other x)
  of_released rooms of = subst (AreOf rooms) (sym released_here) (of_set rooms ks x.account may.pass (released may.pass other (entries_in x)) of may.there refl)

  -- another one may still be given back
  pub still_may : (y : Held K R) → MayRelease ks y → x.account ≢ y.account → MayRelease (released_to ks other x) y
  still_may y w apart = record {
    pass = w.pass;
    there = ap (λ ps. slice_get ps y.account) released_here ∙ (set_elsewhere ks x.account y.account (released may.pass other (entries_in x)) apart ∙ w.there);
    holds = w.holds;
    entries = w.entries;
    before = w.before;
    opened = w.opened;
  }

-- ---- both, after they were taken

module _ {K R : Type 0} (from to : ℕ) (ks ks2 : List PassFacts) (h g h' g' : Held K R) (apart : from ≢ to) (t : AreTaken from to ks ks2 h g) (gained : HasGained h h') (other_gained : HasGained g g')
    (free : t.pass.holds ≡ false) (other_free : t.other.holds ≡ false) where
  abbrev had : PassFacts
  had = holding t.pass t.began (entries_in h)

  abbrev other_had : PassFacts
  other_had = holding t.other t.other_began (entries_in g)

  pub from_is : h'.account ≡ from
  from_is = ap (λ (s : Side). s.account) gained.side ∙ t.held.account_is

  pub to_is : g'.account ≡ to
  to_is = ap (λ (s : Side). s.account) other_gained.side ∙ t.other_held.account_is

  -- the passes while both are held
  to_held : slice_get ks2 to ≡ Some other_had
  to_held = ap (λ ps. slice_get ps to) t.list ∙ set_there (set ks from had) to t.other other_had (set_elsewhere ks from to had apart ∙ t.other_there)

  from_held : slice_get ks2 from ≡ Some had
  from_held = ap (λ ps. slice_get ps from) t.list ∙ (set_elsewhere (set ks from had) to from other_had (flipped from to apart) ∙ set_there ks from t.pass had t.there)

  abbrev pub last_list : Option Turn → Option Turn → List PassFacts
  last_list c d = set (set ks from (shown t.pass (turned t.began c t.pass) (entries_in h'))) to (shown t.other (turned t.other_began d t.other) (entries_in g'))

  -- the account of the copies is given back first
  to_first : (c d : Option Turn) → released_to (released_to ks2 d g') c h' ≡ last_list c d
  to_first c d =
      let lt : PassFacts = shown t.other (turned t.other_began d t.other) (entries_in g') in
      let then : released_to ks2 d g' ≡ set (set ks from had) to lt =
      released_is ks2 d g' to other_had to_is to_held
      ∙ (ap (λ ps. set ps to (released other_had d (entries_in g'))) t.list
      ∙ (set_twice (set ks from had) to other_had (released other_had d (entries_in g'))
      ∙ ap (set (set ks from had) to) (given_is t.other t.other_began d (entries_in g) (entries_in g') other_free))) in
      let there : slice_get (released_to ks2 d g') from ≡ Some had =
      ap (λ ps. slice_get ps from) then ∙ (set_elsewhere (set ks from had) to from lt (flipped from to apart) ∙ set_there ks from t.pass had t.there) in
      released_is (released_to ks2 d g') c h' from had from_is there
      ∙ (ap (λ ps. set ps from (released had c (entries_in h'))) then
      ∙ (set_under ks from to had lt (released had c (entries_in h')) apart
      ∙ ap (λ k. set (set ks from k) to lt) (given_is t.pass t.began c (entries_in h) (entries_in h') free)))

  -- the account of the originals is given back first
  from_first : (c d : Option Turn) → released_to (released_to ks2 c h') d g' ≡ last_list c d
  from_first c d =
      let lf : PassFacts = shown t.pass (turned t.began c t.pass) (entries_in h') in
      let then : released_to ks2 c h' ≡ set (set ks from lf) to other_had =
      released_is ks2 c h' from had from_is from_held
      ∙ (ap (λ ps. set ps from (released had c (entries_in h'))) t.list
      ∙ (set_under ks from to had other_had (released had c (entries_in h')) apart
      ∙ ap (λ k. set (set ks from k) to other_had) (given_is t.pass t.began c (entries_in h) (entries_in h') free))) in
      let there : slice_get (released_to ks2 c h') to ≡ Some other_had =
      ap (λ ps. slice_get ps to) then ∙ set_there (set ks from lf) to t.other other_had (set_elsewhere ks from to lf apart ∙ t.other_there) in
      released_is (released_to ks2 c h') d g' to other_had to_is there
      ∙ (ap (λ ps. set ps to (released other_had d (entries_in g'))) then
      ∙ (set_twice (set ks from lf) to other_had (released other_had d (entries_in g'))
      ∙ ap (set (set ks from lf) to) (given_is t.other t.other_began d (entries_in g) (entries_in g') other_free)))

  release : (account : ℕ) (k : PassFacts) (began : Option Turn) (x x' : Held K R) → IsHeldBy account k x → HasGained x x' → slice_get ks2 account ≡ Some (holding k began (entries_in x)) → MayRelease ks2 x'
  release account k began x x' w more there = record {
    pass = holding k began (entries_in x);
    there = subst (λ n. slice_get ks2 n ≡ Some (holding k began (entries_in x))) (sym (ap (λ (s : Side). s.account) more.side ∙ w.account_is)) there;
    holds = refl;
    entries = subst (λ n. ExtendsUnder n (entries_in x) (entries_in x')) w.number_is more.extends;
    before = ap (λ (s : Side). s.before) more.side ∙ w.before;
    opened = ap (λ (s : Side). s.opened) more.side ∙ w.opened;
  }

  pub may_release_from : MayRelease ks2 h'
  may_release_from = release from t.pass t.began h h' t.held gained from_held

  pub may_release_to : MayRelease ks2 g'
  may_release_to = release to t.other t.other_began g g' t.other_held other_gained to_held

  pub of_taken : (rooms : List RoomView) → AreOf rooms ks → AreOf rooms ks2
  of_taken rooms of =
      subst (AreOf rooms) (sym t.list)
      (of_set rooms (set ks from had) to t.other other_had (of_set rooms ks from t.pass had of t.there refl) (set_elsewhere ks from to had apart ∙ t.other_there) refl)

  -- what the passes are then, and within which turns each was given back
  pub record GivenBack (ks4 : List PassFacts) : Type 0 where
    pub ended : Option Turn
    pub other_ended : Option Turn
    pub within : IsWithin from to t.pass t.other ended other_ended
    pub list : ks4 ≡ last_list ended other_ended

  from_turn : turn_at ks2 h'.account ≡ Some (next_turn t.pass)
  from_turn = ap (turn_at ks2) from_is ∙ turn_is ks2 from had from_held

  to_turn : turn_at ks2 g'.account ≡ Some (next_turn t.other)
  to_turn = ap (turn_at ks2) to_is ∙ turn_is ks2 to other_had to_held

  pub given_back : (ks4 : List PassFacts) → AreReleased ks2 ks4 h' g' → GivenBack ks4
  given_back ks4 r = ⊎_elim
      (λ (less : from < to). record {
        ended = None;
        other_ended = turn_at ks2 h'.account;
        within = (λ _. from_turn, λ more. absurd (omega (arith, less, more)));
        list = r.0 (let a = from_is in let b = to_is in omega (arith, less, a, b)) ∙ to_first None (turn_at ks2 h'.account);
      })
      (λ (more : to < from). record {
        ended = turn_at ks2 g'.account;
        other_ended = None;
        within = (λ less. absurd (omega (arith, less, more)), λ _. to_turn);
        list = r.1 (let a = from_is in let b = to_is in omega (arith, more, a, b)) ∙ from_first (turn_at ks2 g'.account) None;
      })
      (lower_or from to apart)

  pub of_last : (rooms : List RoomView) (ks4 : List PassFacts) → GivenBack ks4 → AreOf rooms ks → AreOf rooms ks4
  of_last rooms ks4 e of =
      let lf : PassFacts = shown t.pass (turned t.began e.ended t.pass) (entries_in h') in
      let lt : PassFacts = shown t.other (turned t.other_began e.other_ended t.other) (entries_in g') in
      subst (AreOf rooms) (sym e.list)
      (of_set rooms (set ks from lf) to t.other lt (of_set rooms ks from t.pass lf of t.there refl) (set_elsewhere ks from to lf apart ∙ t.other_there) refl)
