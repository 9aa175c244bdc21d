-- A body that goes to the end of a link.
use Rattle.std.proofs.Common.{◌≡◌, ◌<◌, ◌≤◌, ◌-◌, ℕ, Bool, true, false, List, [], ◌++◌, length, take, drop, Option, refl, sym, ap, ap₂, ◌∙◌, subst, arith, append_assoc, append-nil, length-append, length-take}
use Rattle.std.proofs.lemmas.Bool.{le-ltb, lt-ltb}
use Rattle.std.proofs.lemmas.List.{drop_all}
use Rattle.std.specs.Io.KnownBytes.{Consumes, IsAtEnd}
use Rattle.jm_edge.specs.Causes.{Rose}
use Rattle.jm_edge.proofs.Known.{consumes_on, consumes_none}
use Rattle.http_parts.specs.Bodies.{BodyTooLong, BodyUnfinished, Whole}
use Rattle.http_parts.specs.Parts.{Took}
use Rattle.http_parts.specs.declared.body_fault.BodyFault.TheVariants.{TooLong, ReadFault, NoMemory}
use Rattle.http_parts.proofs.Stopped.{rose_before}
use Rattle.http_wire.specs.FramedResponses.{FailsAt}
use Rattle.http_wire.specs.ReadResponses.{body_to_end}

is_over : (limit : ℕ) (ended : Bool) (bytes : List ℕ) → limit < length bytes → body_to_end limit ended bytes ≡ BodyTooLong
is_over limit ended bytes over = rw (lt-ltb limit (length bytes) over) refl

goes_on : (limit : ℕ) (bytes : List ℕ) → length bytes ≤ limit → body_to_end limit false bytes ≡ BodyUnfinished
goes_on limit bytes low = rw (le-ltb limit (length bytes) low) refl

has_ended : (limit : ℕ) (bytes : List ℕ) → length bytes ≤ limit → body_to_end limit true bytes ≡ Whole bytes []
has_ended limit bytes low = rw (le-ltb limit (length bytes) low) refl

-- the body has grown by what was read since it was this one
abbrev pub Grown : List ℕ → List ℕ → Option (List ℕ) → Option (List ℕ) → Type 0
Grown first body a b = Took a b (λ t. body ≡ first ++ t)

pub grown_none : (first : List ℕ) (a : Option (List ℕ)) → Grown first first a a
grown_none first a = ([], consumes_none a, sym (append-nil first))

-- a piece was read, and appended
pub more_came : (first body new room : List ℕ) (n : ℕ) (a b c : Option (List ℕ)) → Grown first body a b → Consumes b c (take n room) → new ≡ body ++ take n room → Grown first new a c
more_came first body new room n a b c g con is =
    (g.0 ++ take n room, consumes_on a b c g.0 (take n room) g.1 con, is ∙ ap (λ (z : List ℕ). z ++ take n room) g.2 ∙ append_assoc first g.0 (take n room))

-- nothing more was read
still : (a b c : Option (List ℕ)) (t piece : List ℕ) → Consumes a b t → Consumes b c piece → piece ≡ [] → Consumes a c t
still a b c t piece con more none =
    subst (λ (z : List ℕ). Consumes a c z) (ap (λ (z : List ℕ). t ++ z) none ∙ append-nil t) (consumes_on a b c t piece con more)

-- the link ended
pub came_to_end : (first body room : List ℕ) (n limit : ℕ) (a b c : Option (List ℕ)) → Grown first body a b → Consumes b c (take n room) → (n ≡ 0 → 0 < length room → IsAtEnd c) → n ≡ 0
    → 0 < length room → length body ≤ limit → Took a c (λ t. (body ≡ first ++ t) × (length body ≤ limit) × IsAtEnd c)
came_to_end first body room n limit a b c g con end none some low =
    (g.0, still a b c g.0 (take n room) g.1 con (ap (λ (k : ℕ). take k room) none), (g.2, low, end none some))

-- the link went on past the limit
pub came_over : (first body room : List ℕ) (n limit : ℕ) (a b c : Option (List ℕ)) (r s : ℕ) → Grown first body a b → Consumes b c (take n room) → n ≤ length room → limit - length body < n → length body ≤ limit
    → Took a c (λ t. FailsAt TooLong (λ ended. body_to_end limit ended (first ++ t)) (length (first ++ t)) c r s)
came_over first body room n limit a b c r s g con fits over low =
    let piece = take n room in
    let same : body ++ piece ≡ first ++ (g.0 ++ piece) = ap (λ (z : List ℕ). z ++ piece) g.2 ∙ append_assoc first g.0 piece in
    (g.0 ++ piece, consumes_on a b c g.0 piece g.1 con, is_over limit false (first ++ (g.0 ++ piece)) (omega (arith, sym (ap length same), length-append body piece, length-take {A = ℕ}, fits, over, low)))

-- the link failed
pub came_to_fault : (first body : List ℕ) (limit : ℕ) (a b c : Option (List ℕ)) (r q s : ℕ) → Grown first body a b → Consumes b c [] → length body ≤ limit → r ≤ q → Rose q s
    → Took a c (λ t. FailsAt ReadFault (λ ended. body_to_end limit ended (first ++ t)) (length (first ++ t)) c r s)
came_to_fault first body limit a b c r q s g con low later rose =
    (g.0, still a b c g.0 [] g.1 con refl, (goes_on limit (first ++ g.0) (omega (arith, sym (ap length g.2), low)), rose_before r q s later rose))

-- an allocation failed
pub out_of_room : (first body room : List ℕ) (n limit : ℕ) (a b c : Option (List ℕ)) (r s : ℕ) → Grown first body a b → Consumes b c (take n room)
    → Took a c (λ t. FailsAt NoMemory (λ ended. body_to_end limit ended (first ++ t)) (length (first ++ t)) c r s)
out_of_room first body room n limit a b c r s g con =
    (g.0 ++ take n room, consumes_on a b c g.0 (take n room) g.1 con, tt)

-- ---- with the bytes that were read before

pub whole_to_end : (bytes new first done : List ℕ) (limit count : ℕ) (a b : Option (List ℕ)) → first ≡ bytes → count ≡ length bytes → new ≡ drop count bytes
    → Took a b (λ t. (done ≡ first ++ t) × (length done ≤ limit) × IsAtEnd b)
    → Took a b (λ t. (body_to_end limit true (bytes ++ t) ≡ Whole done new) × IsAtEnd b)
whole_to_end bytes new first done limit count a b is len rest k =
    let same : done ≡ bytes ++ k.0 = k.2.0 ∙ ap (λ (z : List ℕ). z ++ k.0) is in
    let none : new ≡ [] = rest ∙ drop_all count bytes (omega (arith, len)) in
    (k.0, k.1, (has_ended limit (bytes ++ k.0) (omega (arith, ap length same, k.2.1)) ∙ ap₂ (λ (x y : List ℕ). Whole x y) (sym same) (sym none), k.2.2))

pub over_before : (bytes : List ℕ) (limit : ℕ) (a : Option (List ℕ)) (r : ℕ) → limit < length bytes
    → Took a a (λ t. FailsAt TooLong (λ ended. body_to_end limit ended (bytes ++ t)) (length (bytes ++ t)) a r r)
over_before bytes limit a r over =
    ([], consumes_none a, is_over limit false (bytes ++ []) (omega (arith, over, length-append bytes [])))

pub no_room : (bytes : List ℕ) (limit : ℕ) (a : Option (List ℕ)) (r : ℕ)
    → Took a a (λ t. FailsAt NoMemory (λ ended. body_to_end limit ended (bytes ++ t)) (length (bytes ++ t)) a r r)
no_room bytes limit a r = ([], consumes_none a, tt)
