-- A buffer that is filled with what is read of a link.
use Rattle.std.proofs.Common.{◌≡◌, ◌<◌, ◌≤◌, ◌+◌, ◌-◌, ◌⊎◌, inl, inr, ℕ, List, [], ◌++◌, length, take, drop, Option, sym, ap, ◌∙◌, subst, arith, append_assoc, append-nil, length-append, length-take}
use Rattle.std.proofs.lemmas.List.{take_all}
use Rattle.std.proofs.Math.Seq.{take-append-add, take-append_seam}
use Rattle.std.specs.Io.KnownBytes.{Consumes, IsAtEnd}
use Rattle.jm_edge.specs.Causes.{Rose}
use Rattle.jm_edge.proofs.Known.{consumes_on}
use Rattle.http_parts.specs.Parts.{Took, Halts, Fills}
use Rattle.http_parts.specs.declared.body_fault.BodyFault.{BodyFault}
use Rattle.http_parts.specs.declared.body_fault.BodyFault.TheVariants.{Ended, ReadFault, NoMemory}
use Rattle.http_parts.proofs.Stopped.{rose_before}

-- what was read into the part after the prefix
pub filled : (front room old : List ℕ) (at n : ℕ) (a b : Option (List ℕ)) → front ≡ take at old → length front ≡ at → n ≤ length room
    → Consumes a b (take n room) → (n ≡ 0 → 0 < length room → IsAtEnd b) → 0 < length room → Fills old (front ++ room) at a b n
filled front room old at n a b is len fits con end some =
    let front_is : take (at + n) (front ++ room) ≡ take at old ++ take n room =
    ap (λ (k : ℕ). take (k + n) (front ++ room)) (sym len) ∙ take-append-add front room n ∙ ap (λ (z : List ℕ). z ++ take n room) is in
    (omega (arith, len, length-append front room), (take n room, con, (front_is, omega (arith, length-take {A = ℕ}, fits), λ none. end none some)))

-- what a buffer has gained since it was this one
abbrev pub Gains : List ℕ → List ℕ → ℕ → Option (List ℕ) → Option (List ℕ) → Type 0
Gains first buffer at a b = Took a b (λ taken. (take at buffer ≡ first ++ taken) × (length first + length taken ≡ at))

pub gains_none : (first : List ℕ) (a b : Option (List ℕ)) → Consumes a b [] → Gains first first (length first) a b
gains_none first a b con = ([], con, (take_all (length first) first (omega arith) ∙ sym (append-nil first), omega arith))

pub gains_grown : (first old new : List ℕ) (at : ℕ) (a b : Option (List ℕ)) → take at new ≡ take at old → Gains first old at a b → Gains first new at a b
gains_grown first old new at a b same g =
    (g.0, g.1, (same ∙ g.2.0, g.2.1))

pub gains_on : (first old new : List ℕ) (at n : ℕ) (a b c : Option (List ℕ)) → Gains first old at a b → Fills old new at b c n → Gains first new (at + n) a c
gains_on first old new at n a b c g f =
    let t = f.1.0 in (
      g.0 ++ t,
      consumes_on a b c g.0 t g.1 f.1.1,
      (f.1.2.0 ∙ ap (λ (z : List ℕ). z ++ t) g.2.0 ∙ append_assoc first g.0 t, omega (arith, g.2.1, f.1.2.1, length-append g.0 t)),
    )

-- the room that is made keeps what was there
pub fills_grown : (old mid new : List ℕ) (at n : ℕ) (a b : Option (List ℕ)) → take at mid ≡ take at old → Fills mid new at a b n → Fills old new at a b n
fills_grown old mid new at n a b same f =
    (f.0, (f.1.0, f.1.1, (f.1.2.0 ∙ ap (λ (z : List ℕ). z ++ f.1.0) same, f.1.2.1, f.1.2.2)))

-- a vector whose bytes were written through a slice
pub as_written : (xs ys : List ℕ) (n : ℕ) → n ≡ length ys → length xs ≡ length ys → take n (xs ++ drop (length xs) ys) ≡ xs
as_written xs ys n len same =
    ap (λ (k : ℕ). take k (xs ++ drop (length xs) ys)) (len ∙ sym same) ∙ take-append_seam xs (drop (length xs) ys)

-- the link ended or failed, or an allocation failed, before the buffer was full
pub gains_ended : (first old new : List ℕ) (start at n count : ℕ) (a b c : Option (List ℕ)) (r s : ℕ) → Gains first old at a b → Fills old new at b c n → n ≡ 0
    → start ≡ length first → at < start + count → Took a c (λ t. Halts (Ended (at - start)) ⊥ ⊥ (length t < count) (length t) c r s)
gains_ended first old new start at n count a b c r s g f none begun more =
    let h = gains_on first old new at n a b c g f in
    (h.0, h.1, (omega (arith, h.2.1, none, begun, more), f.1.2.2 none, omega (arith, h.2.1, none, begun)))

pub gains_failed : (first old : List ℕ) (at count : ℕ) (a b c : Option (List ℕ)) (r q s : ℕ) (e : BodyFault) → Gains first old at a b → Consumes b c [] → at < length first + count
    → r ≤ q → ((e ≡ ReadFault) × Rose q s) ⊎ (e ≡ NoMemory) → Took a c (λ t. Halts e ⊥ ⊥ (length t < count) (length t) c r s)
gains_failed first old at count a b c r q s e g con more low (inl h) =
    (g.0, subst (λ (z : List ℕ). Consumes a c z) (append-nil g.0) (consumes_on a b c g.0 [] g.1 con), subst (λ (z : BodyFault). Halts z ⊥ ⊥ (length g.0 < count) (length g.0) c r s) (sym h.0) (omega (arith, g.2.1, more), rose_before r q s low h.1))
gains_failed first old at count a b c r q s e g con more low (inr h) =
    (g.0, subst (λ (z : List ℕ). Consumes a c z) (append-nil g.0) (consumes_on a b c g.0 [] g.1 con), subst (λ (z : BodyFault). Halts z ⊥ ⊥ (length g.0 < count) (length g.0) c r s) (sym h) tt)
