-- What the reading of a part of a body comes to, from what each read of the link did.
use Rattle.std.proofs.Common.{◌≡◌, ◌<◌, ◌≤◌, ◌+◌, ◌⊎◌, inl, inr, ℕ, List, [], ◌∷◌, ◌++◌, length, Option, refl, sym, ap, ◌∙◌, subst, arith, append_assoc, append-nil, length-append}
use Rattle.std.specs.Io.KnownBytes.{Consumes, IsAtEnd}
use Rattle.jm_edge.specs.Causes.{Rose}
use Rattle.jm_edge.proofs.Known.{consumes_on, consumes_none}
use Rattle.http_parts.specs.Parts.{Took, Halts, Grows, Breaks, IsCountBelow, counted_after, body_fault_of}
use Rattle.http_parts.specs.declared.body_fault.BodyFault.{BodyFault}
use Rattle.http_parts.specs.declared.body_fault.BodyFault.TheVariants.{Invalid, TooLong, Ended, ReadFault, NoMemory}
use Rattle.http_parts.specs.declared.fault.WireFault.{WireFault}
use Rattle.http_parts.specs.declared.fault.WireFault.TheVariants.{ReadFault as LinkFault, NoMemory as OutOfMemory}
use Rattle.http_parts.proofs.Stopped.{rose_before}

-- what was taken before, and what was taken next
pub took_on : (P Q : List ℕ → Type 0) (a b c : Option (List ℕ)) (t : List ℕ) → Consumes a b t → Took b c P → ((u : List ℕ) → P u → Q (t ++ u)) → Took a c Q
took_on P Q a b c t con k f = (t ++ k.0, consumes_on a b c t k.0 con k.1, f k.0 k.2)

pub took_as : (P Q : List ℕ → Type 0) (a b : Option (List ℕ)) → Took a b P → ((t : List ℕ) → P t → Q t) → Took a b Q
took_as P Q a b k f = (k.0, k.1, f k.0 k.2)

-- the unread bytes are those at first and then what the link gave
abbrev pub Holds : List ℕ → List ℕ → Option (List ℕ) → Option (List ℕ) → Type 0
Holds old bytes a b = Took a b (λ t. bytes ≡ old ++ t)

pub holds_first : (old : List ℕ) (a : Option (List ℕ)) → Holds old old a a
holds_first old a = ([], consumes_none a, sym (append-nil old))

pub holds_on : (old bytes new : List ℕ) (a b c : Option (List ℕ)) → Holds old bytes a b → Grows bytes new b c → Holds old new a c
holds_on old bytes new a b c h g =
    (h.0 ++ g.0, consumes_on a b c h.0 g.0 h.1 g.1, g.2.0 ∙ ap (λ (z : List ℕ). z ++ g.0) h.2 ∙ append_assoc old h.0 g.0)

pub holds_with : (U : List ℕ → Type 0) (old bytes : List ℕ) (a b : Option (List ℕ)) → Holds old bytes a b → U bytes → Took a b (λ t. U (old ++ t))
holds_with U old bytes a b h u = (h.0, h.1, subst U h.2 u)

-- one read of the link
pub grows_by : (old new piece : List ℕ) (a b : Option (List ℕ)) (n : ℕ) → Consumes a b piece → new ≡ old ++ piece → length piece ≡ n → (n ≡ 0 → ⊥) → Grows old new a b
grows_by old new piece a b n con is len some = (piece, con, (is, omega (arith, len, some)))

pub breaks_by : (old piece : List ℕ) (a b : Option (List ℕ)) (r s : ℕ) (e : WireFault) → Consumes a b piece → (e ≡ LinkFault → piece ≡ [])
    → ((e ≡ LinkFault) × Rose r s) ⊎ (e ≡ OutOfMemory) → Breaks (body_fault_of e) old a b r s
breaks_by old piece a b r s e con none (inl h) =
    (piece, con, subst (λ (z : WireFault). Halts (body_fault_of z) ⊥ ⊥ (piece ≡ []) (length (old ++ piece)) b r s) (sym h.0) (none h.0, h.1))
breaks_by old piece a b r s e con none (inr h) =
    (piece, con, subst (λ (z : WireFault). Halts (body_fault_of z) ⊥ ⊥ (piece ≡ []) (length (old ++ piece)) b r s) (sym h) tt)

pub breaks_ended : (old piece : List ℕ) (a b : Option (List ℕ)) (r s n : ℕ) → Consumes a b piece → length piece ≡ 0 → IsAtEnd b → n ≡ length old → Breaks (Ended n) old a b r s
breaks_ended old [] a b r s n con none end is =
    ([], con, (refl, end, is ∙ ap length (sym (append-nil old))))
breaks_ended old (p ∷ piece) a b r s n con none end is = absurd (omega (arith, none))

-- nothing more came after bytes of which this holds
pub halted : (I O U : List ℕ → Type 0) (old bytes : List ℕ) (a b c : Option (List ℕ)) (r q s : ℕ) (e : BodyFault) → Holds old bytes a b → Breaks e bytes b c q s → U bytes → r ≤ q
    → Took a c (λ t. Halts e (I (old ++ t)) (O (old ++ t)) (U (old ++ t)) (length (old ++ t)) c r s)
halted I O U old bytes a b c r q s Invalid h k u low = absurd k.2
halted I O U old bytes a b c r q s TooLong h k u low = absurd k.2
halted I O U old bytes a b c r q s (Ended count) h k u low =
    let seen : bytes ++ k.0 ≡ old ++ (h.0 ++ k.0) = ap (λ (z : List ℕ). z ++ k.0) h.2 ∙ append_assoc old h.0 k.0 in
    let same : bytes ≡ old ++ (h.0 ++ k.0) = sym (append-nil bytes) ∙ ap (λ (z : List ℕ). bytes ++ z) (sym k.2.0) ∙ seen in
    (h.0 ++ k.0, consumes_on a b c h.0 k.0 h.1 k.1, (subst U same u, k.2.1, k.2.2 ∙ ap length seen))
halted I O U old bytes a b c r q s ReadFault h k u low =
    let seen : bytes ++ k.0 ≡ old ++ (h.0 ++ k.0) = ap (λ (z : List ℕ). z ++ k.0) h.2 ∙ append_assoc old h.0 k.0 in
    let same : bytes ≡ old ++ (h.0 ++ k.0) = sym (append-nil bytes) ∙ ap (λ (z : List ℕ). bytes ++ z) (sym k.2.0) ∙ seen in
    (h.0 ++ k.0, consumes_on a b c h.0 k.0 h.1 k.1, (subst U same u, rose_before r q s low k.2.1))
halted I O U old bytes a b c r q s NoMemory h k u low = (h.0 ++ k.0, consumes_on a b c h.0 k.0 h.1 k.1, tt)

-- the same fault, said of a longer part
pub halts_as : (e : BodyFault) (I O U J P V : Type 0) (n m : ℕ) (c : Option (List ℕ)) (r q s : ℕ) → (I → J) → (O → P) → (U → V) → n ≡ m → r ≤ q
    → Halts e I O U n c q s → Halts e J P V m c r s
halts_as Invalid I O U J P V n m c r q s f g h same low k = f k
halts_as TooLong I O U J P V n m c r q s f g h same low k = g k
halts_as (Ended count) I O U J P V n m c r q s f g h same low k = (h k.0, k.1, k.2 ∙ same)
halts_as ReadFault I O U J P V n m c r q s f g h same low k = (h k.0, rose_before r q s low k.1)
halts_as NoMemory I O U J P V n m c r q s f g h same low k = tt

pub halts_after : (e : BodyFault) (I O U J P V : Type 0) (before n m : ℕ) (c : Option (List ℕ)) (r q s : ℕ) → (I → J) → (O → P) → (U → V) → before + n ≡ m → r ≤ q
    → Halts e I O U n c q s → Halts (counted_after before e) J P V m c r s
halts_after Invalid I O U J P V before n m c r q s f g h same low k = f k
halts_after TooLong I O U J P V before n m c r q s f g h same low k = g k
halts_after (Ended count) I O U J P V before n m c r q s f g h same low k =
    (h k.0, k.1, ap (λ (z : ℕ). before + z) k.2 ∙ same)
halts_after ReadFault I O U J P V before n m c r q s f g h same low k = (h k.0, rose_before r q s low k.1)
halts_after NoMemory I O U J P V before n m c r q s f g h same low k = tt

-- counts stay small
pub below_break : (most : ℕ) (e : BodyFault) (bytes : List ℕ) (a b : Option (List ℕ)) (r s : ℕ) → Breaks e bytes a b r s → length bytes < most → IsCountBelow most e
below_break most Invalid bytes a b r s k few = tt
below_break most TooLong bytes a b r s k few = tt
below_break most (Ended count) bytes a b r s k few =
    omega (arith, k.2.2, length-append bytes k.0, ap length k.2.0, few)
below_break most ReadFault bytes a b r s k few = tt
below_break most NoMemory bytes a b r s k few = tt

pub below_more : (n m : ℕ) (e : BodyFault) → n ≤ m → IsCountBelow n e → IsCountBelow m e
below_more n m Invalid low k = tt
below_more n m TooLong low k = tt
below_more n m (Ended count) low k = omega (arith, k, low)
below_more n m ReadFault low k = tt
below_more n m NoMemory low k = tt

pub below_after : (n m before : ℕ) (e : BodyFault) → before + n ≤ m → IsCountBelow n e → IsCountBelow m (counted_after before e)
below_after n m before Invalid low k = tt
below_after n m before TooLong low k = tt
below_after n m before (Ended count) low k = omega (arith, k, low)
below_after n m before ReadFault low k = tt
below_after n m before NoMemory low k = tt
