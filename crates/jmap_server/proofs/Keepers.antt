-- Accounts that are opened and closed, one after the other.
use Rattle.std.proofs.Common.{◌≡◌, inl, inr, ℕ, ◌+◌, ◌<◌, List, [], ◌∷◌, ◌++◌, map, take, reverse, length, get_or, Option, Result, Ok, Err, refl, sym, ap, ap₂, ◌∙◌, subst, append_assoc, append-nil, add-one, arith, length-append}
use Rattle.std.specs.Result.{IfErr, IfOk, OnOk}
use Rattle.std.specs.List.{AllByRecursion}
use Rattle.std.proofs.lemmas.List.{reverse-append, reverse-reverse, map-append}
use Rattle.std.proofs.Math.Seq.{take-suc}
use Rattle.mail_records.specs.Histories.{History}
use Rattle.keep_port.specs.declared.kept.Kept.{Kept}
use Rattle.account_hall.specs.declared.named_account.Named.{Named}
use Rattle.jmap_server.specs.declared.fault.ServeFault.{ServeFault}
use Rattle.jmap_server.specs.declared.fault.ServeFault.TheVariants.{BadConfig, KeeperFault, Damaged, DeskFault, NoMemory}
use Rattle.jmap_server.specs.Deeds.{Deed, GaveKeeper, GotKeeper, IsTold, Lent, account_of, gave, lent_for}
use Rattle.jmap_server.specs.Openings.{AreAsBefore, AreOpenings, Closing, IsOpening, Opening, keepers_back, keepers_of, lent_back, opening_of}
use Rattle.jmap_server.specs.Serving.{HasOpened, HasOpenedAll, IsGivenBack, IsLastRefused, IsOutside, IsRefusedBy, IsStartRefused, OpensOne, names_in}
use Rattle.jmap_server.proofs.Told.{told_on}
use Rattle.jmap_server.proofs.Openings.{both_as_before, opened_as_before, refused_as_before}

pub all_push : {A : Type 0} (P : A → Type 0) (xs : List A) (x : A) → AllByRecursion P xs → P x → AllByRecursion P (xs ++ x ∷ [])
all_push P [] x a p = (p, tt)
all_push P (y ∷ ys) x a p = (a.0, all_push P ys x a.1 p)

-- the identifiers of which one more was opened
one_more : (ids : List (List ℕ)) (i : ℕ) (id : List ℕ) → i < length ids → id ≡ get_or ids i id → take (i + 1) ids ≡ take i ids ++ id ∷ []
one_more ids i id low is = ap (λ (n : ℕ). take n ids) (add-one i) ∙ take-suc ids i id low ∙ ap (λ (x : List ℕ). take i ids ++ x ∷ []) (sym is)

pub names_next : {K R : Type 0} (ids : List (List ℕ)) (i : ℕ) (id : List ℕ) (accounts more : List (Named K R)) (a : Named K R) → i < length ids → id ≡ get_or ids i id → names_in accounts ≡ take i ids → a.name ≡ id → more ≡ accounts ++ a ∷ [] → names_in more ≡ take (i + 1) ids
names_next {K} {R} ids i id accounts more a low is h n e =
    ap (λ (xs : List (Named K R)). names_in xs) e ∙ map-append (λ (x : Named K R). x.name) accounts (a ∷ []) ∙ ap₂ (λ (ns : List (List ℕ)) (x : List ℕ). ns ++ x ∷ []) h n ∙ sym (one_more ids i id low is)

module _ {K : Type 0} where
  pub back_next : (all before after : List (Lent K)) (back : List (Lent K)) (k : Lent K) → all ≡ before ++ reverse back → before ≡ after ++ k ∷ [] → all ≡ after ++ reverse (back ++ k ∷ [])
  back_next all before after back k h e =
      h ∙ ap (λ (ks : List (Lent K)). ks ++ reverse back) e ∙ append_assoc after (k ∷ []) (reverse back) ∙ ap (λ (ks : List (Lent K)). after ++ ks) (sym (reverse-append back (k ∷ [])))

  pub accounts_next : (ids : List (List ℕ)) (i : ℕ) (id : List ℕ) (given : List (Lent K)) (k : K) → i < length ids → id ≡ get_or ids i id → map account_of given ≡ take i ids → map account_of (given ++ lent_for id k ∷ []) ≡ take (i + 1) ids
  accounts_next ids i id given k low is h = map-append account_of given (lent_for id k ∷ []) ∙ ap (λ (ns : List (List ℕ)). ns ++ id ∷ []) h ∙ sym (one_more ids i id low is)

  module _ (kept : K → Option Kept) (whole : History → Type 0) where
    outside : (given back : List (Lent K)) (fault : ServeFault) → IsOutside fault → IsRefusedBy kept whole given back fault
    outside given back (BadConfig place) h = absurd h
    outside given back KeeperFault h = absurd h
    outside given back (Damaged row why) h = absurd h
    outside given back DeskFault h = tt
    outside given back NoMemory h = tt

    last_refused : (given : List (Lent K)) (id : List ℕ) (k k' : K) (fault : ServeFault) → IsStartRefused kept whole k k' fault → IsLastRefused kept whole (given ++ lent_for id k ∷ []) (lent_for id k' ∷ []) fault
    last_refused given id k k' fault h = record {
      before = given;
      rest = [];
      account = id;
      keeper = k;
      keeper' = k';
      last = refl;
      first = refl;
      refused = h;
    }

    started : (given : List (Lent K)) (id : List ℕ) (k k' : K) (fault : ServeFault) → IsStartRefused kept whole k k' fault → IsRefusedBy kept whole (given ++ lent_for id k ∷ []) (lent_for id k' ∷ []) fault
    started given id k k' (BadConfig place) h = absurd h
    started given id k k' KeeperFault h = last_refused given id k k' KeeperFault h
    started given id k k' (Damaged row why) h = last_refused given id k k' (Damaged row why) h
    started given id k k' DeskFault h = absurd h
    started given id k k' NoMemory h = tt

    refused_still : (given back rest : List (Lent K)) (fault : ServeFault) → IsLastRefused kept whole given back fault → IsLastRefused kept whole given (back ++ rest) fault
    refused_still given back rest fault h = record {
      before = h.before;
      rest = h.rest ++ rest;
      account = h.account;
      keeper = h.keeper;
      keeper' = h.keeper';
      last = h.last;
      first = ap (λ (xs : List (Lent K)). xs ++ rest) h.first;
      refused = h.refused;
    }

    more_back : (given back rest : List (Lent K)) (fault : ServeFault) → IsRefusedBy kept whole given back fault → IsRefusedBy kept whole given (back ++ rest) fault
    more_back given back rest (BadConfig place) h = absurd h
    more_back given back rest KeeperFault h = refused_still given back rest KeeperFault h
    more_back given back rest (Damaged row why) h = refused_still given back rest (Damaged row why) h
    more_back given back rest DeskFault h = tt
    more_back given back rest NoMemory h = tt

module _ {K L C : Type 0} where
  -- ---- keepers that come back

  pub got_next : (a b c : Option (List (Deed K L C))) (back : List (Lent K)) (x : Lent K) → IsTold a b (map GotKeeper back) → IsTold b c (GotKeeper x ∷ []) → IsTold a c (map GotKeeper (back ++ x ∷ []))
  got_next a b c back x h k = subst (λ (ds : List (Deed K L C)). IsTold a c ds) (sym (map-append GotKeeper back (x ∷ []))) (told_on a b c (map GotKeeper back) (GotKeeper x ∷ []) h k)

  -- the one before those that came back
  pub got_first : (a b c : Option (List (Deed K L C))) (x : Closing K) (closings : List (Closing K)) → IsTold a b (map GotKeeper (keepers_back closings)) → IsTold b c (GotKeeper (lent_back x) ∷ []) → IsTold a c (map GotKeeper (keepers_back (x ∷ closings)))
  got_first a b c x closings h k =
      subst (λ (ks : List (Lent K)). IsTold a c (map GotKeeper ks)) (sym (reverse-append (lent_back x ∷ []) (map lent_back closings))) (got_next a b c (keepers_back closings) (lent_back x) h k)

  pub all_closed : (a b : Option (List (Deed K L C))) (all left back : List (Lent K)) → all ≡ left ++ reverse back → left ≡ [] → IsTold a b (map GotKeeper back) → IsTold a b (map GotKeeper (reverse all))
  all_closed a b all left back h e told =
      let turned : reverse all ≡ back = ap reverse (h ∙ ap (λ (ks : List (Lent K)). ks ++ reverse back) e) ∙ reverse-reverse back in
      subst (λ (ks : List (Lent K)). IsTold a b (map GotKeeper ks)) (sym turned) told

  -- ---- keepers that are given

  pub gave_next : (folder : List ℕ) (a b c : Option (List (Deed K L C))) (given : List (Lent K)) (x : Lent K) → IsTold a b (map (gave folder) given) → IsTold b c (GaveKeeper folder x ∷ []) → IsTold a c (map (gave folder) (given ++ x ∷ []))
  gave_next folder a b c given x h k = subst (λ (ds : List (Deed K L C)). IsTold a c ds) (sym (map-append (gave folder) given (x ∷ []))) (told_on a b c (map (gave folder) given) (GaveKeeper folder x ∷ []) h k)

  module _ (kept : K → Option Kept) (whole : History → Type 0) (folder : List ℕ) where
    -- what became of an account whose keeper was given
    pub opened_or_not : {R : Type 0} (r : Result (Named K R) ServeFault) (a b c : Option (List (Deed K L C))) (name id : List ℕ) (k : K) → name ≡ id → IsTold a b (GaveKeeper folder (lent_for id k) ∷ []) → OnOk r (c ≡ b)
        → IfOk r (λ account. IsOpening kept whole (lent_for name k) (opening_of account)) → IfErr r (λ fault. IsGivenBack kept whole b c name k fault) → (did : List (Deed K L C)) × IsTold a c did × OpensOne kept whole folder id did r
    opened_or_not (Ok account) a b c name id k e h same opened back = (
      GaveKeeper folder (lent_for id k) ∷ [],
      subst (λ (z : Option (List (Deed K L C))). IsTold a z (GaveKeeper folder (lent_for id k) ∷ [])) (sym same) h,
      (k, refl, subst (λ (n : List ℕ). IsOpening kept whole (lent_for n k) (opening_of account)) e opened),
    )
    opened_or_not (Err fault) a b c name id k e h same opened (k', told, why) =
        let got = subst (λ (n : List ℕ). IsTold b c (GotKeeper (lent_for n k') ∷ [])) e told in
        (GaveKeeper folder (lent_for id k) ∷ GotKeeper (lent_for id k') ∷ [], told_on a b c (GaveKeeper folder (lent_for id k) ∷ []) (GotKeeper (lent_for id k') ∷ []) h got, inr (k, k', refl, why))

    pub refused_at : (R : Type 0) {T : Type 0} (ids : List (List ℕ)) (openings : List (Opening K)) (i : ℕ) (id : List ℕ) (given : List (Lent K)) (did : List (Deed K L C)) (fault : ServeFault) → i < length ids → id ≡ get_or ids i id → length given ≡ i → map account_of given ≡ take i ids
        → AreOpenings kept whole given openings → OpensOne {R = R} kept whole folder id did (Err fault) → HasOpened {T = T} kept whole folder ids openings (map (gave folder) given ++ did) (Err fault)
    refused_at R ids openings i id given did fault low is sized h all (inl none) =
        let same : given ++ [] ≡ given = append-nil given in
        record {
          opened = given;
          refused = [];
          back = [];
          did_is = ap₂ (λ (ks : List (Lent K)) (ds : List (Deed K L C)). map (gave folder) ks ++ ds) (sym same) none.0;
          openings_are = all;
          as_before = tt;
          outcome = (
            ap (map account_of) same ∙ h ∙ ap (λ (m : ℕ). take m ids) (sym sized ∙ ap length (sym same)),
            outside kept whole (given ++ []) [] fault none.1,
          );
        }
    refused_at R ids openings i id given did fault low is sized h all (inr (k, k', e, why)) =
        let more = given ++ lent_for id k ∷ [] in
        let named : map account_of more ≡ take (i + 1) ids = accounts_next ids i id given k low is h in
        let longer : i + 1 ≡ length more = omega (arith, length-append given (lent_for id k ∷ []), sized) in
        record {
          opened = given;
          refused = lent_for id k ∷ [];
          back = lent_for id k' ∷ [];
          did_is = ap (λ (ds : List (Deed K L C)). map (gave folder) given ++ ds) e ∙ sym (append_assoc (map (gave folder) given) (GaveKeeper folder (lent_for id k) ∷ []) (GotKeeper (lent_for id k') ∷ []))
              ∙ ap (λ (ds : List (Deed K L C)). ds ++ GotKeeper (lent_for id k') ∷ []) (sym (map-append (gave folder) given (lent_for id k ∷ [])));
          openings_are = all;
          as_before = (refl, refused_as_before kept whole k k' fault why, tt);
          outcome = (named ∙ ap (λ (m : ℕ). take m ids) longer, started kept whole given id k k' fault why);
        }

    pub opened_all : {T : Type 0} (x : T) (ids : List (List ℕ)) (openings : List (Opening K)) (given : List (Lent K)) → map account_of given ≡ ids → AreOpenings kept whole given openings → HasOpened {L = L} {C = C} kept whole folder ids openings (map (gave folder) given) (Ok x)
    opened_all x ids openings given named all = record {
      opened = given;
      refused = [];
      back = [];
      did_is = ap (map (gave folder)) (sym (append-nil given)) ∙ sym (append-nil (map (gave folder) (given ++ [])));
      openings_are = all;
      as_before = tt;
      outcome = (named, refl, refl);
    }

    pub all_open : {V T : Type 0} (x : T) (v : V) (ids : List (List ℕ)) (openings : V → List (Opening K)) (did : List (Deed K L C)) → HasOpened {T = T} kept whole folder ids (openings v) did (Ok x) → HasOpenedAll {T = V} kept whole folder ids openings did (Ok v)
    all_open x v ids openings did h =
        let given : h.opened ++ h.refused ≡ h.opened = ap (λ (ks : List (Lent K)). h.opened ++ ks) h.outcome.1 ∙ append-nil h.opened in (
          h.opened,
          h.did_is ∙ ap₂ (λ (gs bs : List (Lent K)). map (gave folder) gs ++ map GotKeeper bs) given h.outcome.2 ∙ append-nil (map (gave folder) h.opened),
          h.outcome.0,
          h.openings_are,
        )

    pub none_open : {V T : Type 0} (ids : List (List ℕ)) (openings : List (Opening K)) (f : V → List (Opening K)) (did : List (Deed K L C)) (fault : ServeFault) → HasOpened {T = T} kept whole folder ids openings did (Err fault)
        → HasOpenedAll {T = V} kept whole folder ids f (did ++ map GotKeeper (reverse (keepers_of openings))) (Err fault)
    none_open ids openings f did fault h =
        let closing = reverse (keepers_of openings) in
        let given = h.opened ++ h.refused in
        let turned : reverse (h.back ++ closing) ≡ keepers_of openings ++ reverse h.back = reverse-append h.back closing ∙ ap (λ (ks : List (Lent K)). ks ++ reverse h.back) (reverse-reverse (keepers_of openings)) in
        record {
          given = given;
          back = h.back ++ closing;
          did_is = ap (λ (ds : List (Deed K L C)). ds ++ map GotKeeper closing) h.did_is ∙ append_assoc (map (gave folder) given) (map GotKeeper h.back) (map GotKeeper closing)
              ∙ ap (λ (ds : List (Deed K L C)). map (gave folder) given ++ ds) (sym (map-append GotKeeper h.back closing));
          first = h.outcome.0;
          as_before = subst (λ (ks : List (Lent K)). AreAsBefore kept given ks) (sym turned)
              (both_as_before kept h.opened (keepers_of openings) h.refused (reverse h.back) (opened_as_before kept whole h.opened openings h.openings_are) h.as_before);
          why = more_back kept whole given h.back closing fault h.outcome.1;
        }

    -- memory ran out before anything was opened
    pub nothing_open : {V : Type 0} (ids : List (List ℕ)) (f : V → List (Opening K)) → HasOpenedAll {L = L} {C = C} {T = V} kept whole folder ids f [] (Err NoMemory)
    nothing_open ids f = record { given = []; back = []; did_is = refl; first = refl; as_before = tt; why = tt }
