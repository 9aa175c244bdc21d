-- Why a head was not read, from what the last read of the link did.
use Rattle.std.proofs.Common.{◌≡◌, ◌<◌, ◌≤◌, ◌⊎◌, ℕ, Bool, true, false, eqb, cond, List, [], ◌∷◌, ◌++◌, length, Option, refl, sym, ap, ◌∙◌, subst, inl, inr, arith, append-nil, eqb-true}
use Rattle.std.proofs.lemmas.Bool.{eqb-false}
use Rattle.std.specs.Io.KnownBytes.{Consumes, IsAtEnd}
use Rattle.jm_edge.specs.Causes.{Rose}
use Rattle.jm_edge.proofs.Known.{consumes_on}
use Rattle.http_parts.specs.Heads.{beginning_of, Unfinished, begun_bytes}
use Rattle.http_parts.specs.Pieces.{Gained, StopsInHead}
use Rattle.http_parts.specs.declared.fault.WireFault.{WireFault}
use Rattle.http_parts.specs.declared.fault.WireFault.TheVariants.{End, CutOff, ReadFault, NoMemory}

-- what was consumed before, and nothing after it
nothing_more : (old bytes : List ℕ) (a b d : Option (List ℕ)) (g : Gained old bytes a b) → Consumes b d [] → Consumes a d g.taken
nothing_more old bytes a b d g con =
    subst (λ (z : List ℕ). Consumes a d z) (append-nil g.taken) (consumes_on a b d g.taken [] g.consumed con)

cut_by : (seen : List ℕ) (left : Option (List ℕ)) (r s n : ℕ) (t : Bool) → eqb n 0 ≡ t → beginning_of seen ≡ Unfinished → IsAtEnd left → begun_bytes seen ≡ n → StopsInHead (cond t End (CutOff n)) seen left r s
cut_by seen left r s n true h unf at same = (unf, at, same ∙ eqb-true n 0 h)
cut_by seen left r s n false h unf at same = (unf, at, same, positive n h)
  where
    positive : (n : ℕ) → eqb n 0 ≡ false → 0 < n
    positive n h = let ne : n ≡ 0 → ⊥ = eqb-false n 0 h in omega (arith, ne)

pub stops_at_end : (old bytes new : List ℕ) (a b d : Option (List ℕ)) (r s : ℕ) (e : WireFault) (piece : List ℕ) → Gained old bytes a b
    → Consumes b d piece → length piece ≡ 0 → new ≡ bytes ++ piece → beginning_of bytes ≡ Unfinished → IsAtEnd d
    → e ≡ cond (eqb (begun_bytes new) 0) End (CutOff (begun_bytes new)) → (x : List ℕ) × Consumes a d x × StopsInHead e (old ++ x) d r s
stops_at_end old bytes new a b d r s e [] g con len is unf at said =
    let seen : new ≡ old ++ g.taken = is ∙ append-nil bytes ∙ g.is in
    let begun : beginning_of (old ++ g.taken) ≡ Unfinished = ap beginning_of (sym g.is) ∙ unf in
    let cut = cut_by (old ++ g.taken) d r s (begun_bytes new) (eqb (begun_bytes new) 0) refl begun at (ap begun_bytes (sym seen)) in
    (g.taken, nothing_more old bytes a b d g con, subst (λ (z : WireFault). StopsInHead z (old ++ g.taken) d r s) (sym said) cut)
stops_at_end old bytes new a b d r s e (p ∷ piece) g con len is unf at said = absurd (omega arith)

-- a count that rose since later rose since before
pub rose_before : (r q s : ℕ) → r ≤ q → Rose q s → Rose r s
rose_before r q s low h = grind arith

pub stops_at_fault : (old bytes : List ℕ) (a b d : Option (List ℕ)) (r q s : ℕ) (e : WireFault) (piece : List ℕ) → Gained old bytes a b
    → Consumes b d piece → (e ≡ ReadFault → piece ≡ []) → beginning_of bytes ≡ Unfinished
    → r ≤ q → ((e ≡ ReadFault) × Rose q s) ⊎ (e ≡ NoMemory) → (x : List ℕ) × Consumes a d x × StopsInHead e (old ++ x) d r s
stops_at_fault old bytes a b d r q s e piece g con none unf low (inl h) =
    let con' : Consumes b d [] = subst (λ (z : List ℕ). Consumes b d z) (none h.0) con in
    let begun : beginning_of (old ++ g.taken) ≡ Unfinished = ap beginning_of (sym g.is) ∙ unf in
    (g.taken, nothing_more old bytes a b d g con', subst (λ (z : WireFault). StopsInHead z (old ++ g.taken) d r s) (sym h.0) (begun, rose_before r q s low h.1))
stops_at_fault old bytes a b d r q s e piece g con none unf low (inr h) =
    (g.taken ++ piece, consumes_on a b d g.taken piece g.consumed con, subst (λ (z : WireFault). StopsInHead z (old ++ (g.taken ++ piece)) d r s) (sym h) tt)
