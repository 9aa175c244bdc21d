-- Bytes that are read of a link and dropped.
use Rattle.std.proofs.Common.{◌≡◌, ◌<◌, ◌≤◌, ◌+◌, ◌-◌, ℕ, List, [], ◌++◌, length, take, Option, None, Some, Result, Ok, Err, OnOk, refl, sym, subst, arith, append-nil, length-append, length-take}
use Rattle.std.specs.Io.KnownBytes.{Consumes, IsAtEnd}
use Rattle.jm_edge.specs.Causes.{Rose}
use Rattle.jm_edge.proofs.Known.{consumes_on, consumes_none}
use Rattle.http_parts.specs.Bodies.{BodyInvalid, BodyTooLong, BodyUnfinished, Whole, sized_body}
use Rattle.http_parts.specs.Chunks.{LineInvalid, LineUnfinished, chunk_line, EndInvalid, EndUnfinished, Ends, chunk_end, chunked_body, trailer}
use Rattle.http_parts.specs.Parts.{Took, Halts, Moves, Passes, HasLine, HasStep, counted_after}
use Rattle.http_parts.specs.Plans.{planned, IsWithinLimit}
use Rattle.http_parts.specs.declared.bodies.BodyPlan.{BodyPlan}
use Rattle.http_parts.specs.declared.bodies.BodyPlan.TheVariants.{Sized as OfSize}
use Rattle.http_parts.specs.declared.body_fault.BodyFault.{BodyFault}
use Rattle.http_parts.specs.declared.body_fault.BodyFault.TheVariants.{Ended, ReadFault}
use Rattle.http_parts.specs.declared.chunk_lines.ChunkHead.{ChunkHead}
use Rattle.http_parts.specs.declared.limits.TheConstants.{MAX_CHUNK_LINE_BYTES}
use Rattle.http_parts.proofs.ChunkStages.{StepFault, has_chunk, has_last, fault_in_line, fault_in_trailer, fault_in_bytes, fault_in_end}
use Rattle.http_parts.proofs.Chunked.{Follows, as_last, as_more, follows_on, follows_end, follows_fault}
use Rattle.http_parts.proofs.SizedBody.{sized_done}
use Rattle.http_parts.proofs.Stopped.{rose_before}

-- one read
pub took_most : (room : List ℕ) (n most : ℕ) (a b : Option (List ℕ)) → n ≤ length room → length room ≤ most → 0 < length room → Consumes a b (take n room) → (n ≡ 0 → 0 < length room → IsAtEnd b)
    → Took a b (λ t. (length t ≡ n) × (n ≤ most) × (n ≡ 0 → IsAtEnd b))
took_most room n most a b fits few some con end =
    (take n room, con, (omega (arith, length-take {A = ℕ}, fits), omega (arith, fits, few), λ none. end none some))

-- so many bytes were taken
abbrev pub Gone : ℕ → Option (List ℕ) → Option (List ℕ) → Type 0
Gone at a b = Took a b (λ t. length t ≡ at)

pub gone_none : (a : Option (List ℕ)) → Gone 0 a a
gone_none a = ([], consumes_none a, refl)

pub gone_on : (at n most : ℕ) (a b c : Option (List ℕ)) → Gone at a b → Took b c (λ t. (length t ≡ n) × (n ≤ most) × (n ≡ 0 → IsAtEnd c)) → Gone (at + n) a c
gone_on at n most a b c g k =
    (g.0 ++ k.0, consumes_on a b c g.0 k.0 g.1 k.1, omega (arith, g.2, k.2.0, length-append g.0 k.0))

pub gone_ended : (at n most count : ℕ) (a b c : Option (List ℕ)) (r s : ℕ) → Gone at a b → Took b c (λ t. (length t ≡ n) × (n ≤ most) × (n ≡ 0 → IsAtEnd c)) → n ≡ 0 → at < count
    → Took a c (λ t. Halts (Ended at) ⊥ ⊥ (length t < count) (length t) c r s)
gone_ended at n most count a b c r s g k none more =
    let h = gone_on at n most a b c g k in
    (h.0, h.1, (omega (arith, h.2, none, more), k.2.2 none, omega (arith, h.2, none)))

pub gone_failed : (at count : ℕ) (a b c : Option (List ℕ)) (r q s : ℕ) (e : BodyFault) → Gone at a b → (e ≡ ReadFault) × Rose q s × Consumes b c [] → at < count → r ≤ q
    → Took a c (λ t. Halts e ⊥ ⊥ (length t < count) (length t) c r s)
gone_failed at count a b c r q s e g k more low = (
  g.0,
  subst (λ (z : List ℕ). Consumes a c z) (append-nil g.0) (consumes_on a b c g.0 [] g.1 k.2),
  subst (λ (z : BodyFault). Halts z ⊥ ⊥ (length g.0 < count) (length g.0) c r s) (sym k.0) (omega (arith, g.2, more), rose_before r q s low k.1),
)

-- the bytes that were passed, as if they were moved to the end of a body
pub passed_moves : (size : ℕ) (body old new : List ℕ) (a b : Option (List ℕ)) → (k : Took a b (Passes size old new)) → Took a b (Moves size body (body ++ take size (old ++ k.0)) old new)
passed_moves size body old new a b k = (k.0, k.1, (k.2.0, refl, k.2.1))

pub moved_length : (size : ℕ) (body old t : List ℕ) → size ≤ length (old ++ t) → length (body ++ take size (old ++ t)) ≡ length body + size
moved_length size body old t enough = omega (arith, length-append body (take size (old ++ t)), length-take {A = ℕ}, enough)

-- ---- a chunk

-- what a step of a body does, for each body that may still have so many bytes
abbrev pub Drops : ℕ → ℕ → List ℕ → List ℕ → Option (List ℕ) → Option (List ℕ) → Option ℕ → Type 0
Drops left left' old new a b o =
    (limit : ℕ) (body : List ℕ) → length body + left ≡ limit
    → (next : List ℕ) × (length next + left' ≡ limit) × Took a b (HasStep limit body next old new o)

pub drops_chunk : (left left' : ℕ) (old mid low new : List ℕ) (head : ChunkHead) (a b c d : Option (List ℕ)) → Took a b (HasLine old mid head) → (head.size ≡ 0 → ⊥) → head.size ≤ left → left' ≡ left - head.size
    → Took b c (Passes head.size mid low) → Took c d (λ v. (chunk_end (low ++ v) ≡ Ends new) × (2 + length new ≡ length (low ++ v)))
    → Drops left left' old new a d (Some (head.bytes + head.size + 2))
drops_chunk left left' old mid low new head a b c d l some fits less m e limit body is =
    let next : List ℕ = body ++ take head.size (mid ++ m.0) in
    let size : length next ≡ length body + head.size = moved_length head.size body mid m.0 m.2.0 in (
      next,
      omega (arith, size, less, fits, is),
      has_chunk limit body next old mid low new head a b c d l some (omega (arith, fits, is)) (passed_moves head.size body mid low b c m) e,
    )

pub drops_last : (left : ℕ) (old mid new : List ℕ) (head : ChunkHead) (a b c : Option (List ℕ)) → Took a b (HasLine old mid head) → head.size ≡ 0
    → Took b c (λ u. (body : List ℕ) → trailer body (mid ++ u) ≡ Whole body new) → Drops left left old new a c None
drops_last left old mid new head a b c l none e limit body is = (body, is, has_last limit body old mid new head a b c l none e)

-- why a step of a body is none, for each body that may still have so many bytes
abbrev pub DropFault : ℕ → List ℕ → BodyFault → Option (List ℕ) → Option (List ℕ) → ℕ → ℕ → Type 0
DropFault left old e a b r s = (limit : ℕ) (body : List ℕ) → length body + left ≡ limit → StepFault limit body old e a b r s

pub drop_fault_in_line : (left : ℕ) (old : List ℕ) (e : BodyFault) (a b : Option (List ℕ)) (r s : ℕ)
    → Took a b (λ t. Halts e (chunk_line (old ++ t) ≡ LineInvalid) ⊥ (chunk_line (old ++ t) ≡ LineUnfinished) (length (old ++ t)) b r s) → DropFault left old e a b r s
drop_fault_in_line left old e a b r s k limit body is = fault_in_line limit body old e a b r s k

pub drop_fault_in_trailer : (left : ℕ) (old mid : List ℕ) (head : ChunkHead) (e : BodyFault) (a b c : Option (List ℕ)) (r q s : ℕ) → Took a b (HasLine old mid head) → head.size ≡ 0 → r ≤ q
    → ((body : List ℕ) → Took b c (λ u. Halts e (trailer body (mid ++ u) ≡ BodyInvalid) ⊥ (trailer body (mid ++ u) ≡ BodyUnfinished) (length (mid ++ u)) c q s))
    → DropFault left old (counted_after head.bytes e) a c r s
drop_fault_in_trailer left old mid head e a b c r q s l none low k limit body is = fault_in_trailer limit body old mid head e a b c r q s l none low (k body)

pub drop_fault_in_bytes : (left : ℕ) (old mid : List ℕ) (head : ChunkHead) (e : BodyFault) (a b c : Option (List ℕ)) (r q s : ℕ) → Took a b (HasLine old mid head) → (head.size ≡ 0 → ⊥)
    → head.size ≤ left → r ≤ q → Took b c (λ u. Halts e ⊥ ⊥ (length (mid ++ u) < head.size) (length (mid ++ u)) c q s)
    → DropFault left old (counted_after head.bytes e) a c r s
drop_fault_in_bytes left old mid head e a b c r q s l some fits low k limit body is =
    fault_in_bytes limit body old mid head e a b c r q s l some (omega (arith, fits, is)) low k

pub drop_fault_in_end : (left : ℕ) (old mid below : List ℕ) (head : ChunkHead) (e : BodyFault) (a b c d : Option (List ℕ)) (r q s : ℕ) → Took a b (HasLine old mid head) → (head.size ≡ 0 → ⊥)
    → head.size ≤ left → Took b c (Passes head.size mid below) → r ≤ q
    → Took c d (λ v. Halts e (chunk_end (below ++ v) ≡ EndInvalid) ⊥ (chunk_end (below ++ v) ≡ EndUnfinished) (length (below ++ v)) d q s)
    → DropFault left old (counted_after (head.bytes + head.size) e) a d r s
drop_fault_in_end left old mid below head e a b c d r q s l some fits m low k limit body is =
    fault_in_end limit body (body ++ take head.size (mid ++ m.0)) old mid below head e a b c d r q s l some (omega (arith, fits, is)) (passed_moves head.size body mid below b c m) low k

-- ---- the loop over chunks

-- The body continues from here with some bytes of it, of which none is kept.
abbrev pub FollowsDropped : ℕ → ℕ → (old bytes : List ℕ) → ℕ → Option (List ℕ) → Option (List ℕ) → Type 0
FollowsDropped limit left old bytes passed a b =
    (body : List ℕ) × (length body + left ≡ limit) × Follows limit old body bytes passed a b

pub dropped_on : (limit left left' : ℕ) (old bytes new : List ℕ) (passed count : ℕ) (o : Option ℕ) (a b c : Option (List ℕ)) → FollowsDropped limit left old bytes passed a b
    → o ≡ Some count → Drops left left' bytes new b c o → FollowsDropped limit left' old new (passed + count) a c
dropped_on limit left left' old bytes new passed count o a b c f is drops =
    let d = drops limit f.0 f.1 in
    let k = as_more limit f.0 d.0 bytes new o count b c is d.2 in
    (d.0, d.1, follows_on limit old f.0 d.0 bytes new passed count a b c f.2 k)

-- a chunk that is not the last leaves fewer bytes, and its lines are short
pub dropped_less : (limit left left' : ℕ) (old bytes new : List ℕ) (passed count : ℕ) (o : Option ℕ) (a b c : Option (List ℕ)) → FollowsDropped limit left old bytes passed a b
    → o ≡ Some count → Drops left left' bytes new b c o → (left' < left) × (count + left' ≤ (MAX_CHUNK_LINE_BYTES + 2) + left)
dropped_less limit left left' old bytes new passed count o a b c f is drops =
    let d = drops limit f.0 f.1 in
    let k = as_more limit f.0 d.0 bytes new o count b c is d.2 in
    (omega (arith, d.1, f.1, k.2.2), omega (arith, d.1, f.1, k.2.4))

pub dropped_end : (limit left left' : ℕ) (old bytes new : List ℕ) (passed : ℕ) (o : Option ℕ) (a b c : Option (List ℕ)) → FollowsDropped limit left old bytes passed a b
    → o ≡ None → Drops left left' bytes new b c o → Took a c (λ t. (body : List ℕ) × (chunked_body limit (old ++ t) ≡ Whole body new))
dropped_end limit left left' old bytes new passed o a b c f is drops =
    let d = drops limit f.0 f.1 in
    let k = follows_end limit old f.0 d.0 bytes new passed a b c f.2 (as_last limit f.0 d.0 bytes new o b c is d.2) in
    (k.0, k.1, (d.0, k.2))

pub dropped_halts : (limit left : ℕ) (old bytes : List ℕ) (passed : ℕ) (a b c : Option (List ℕ)) (r q s : ℕ) (e : BodyFault) → FollowsDropped limit left old bytes passed a b → r ≤ q
    → DropFault left bytes e b c q s
    → Took a c (λ t. Halts (counted_after passed e) (chunked_body limit (old ++ t) ≡ BodyInvalid) (chunked_body limit (old ++ t) ≡ BodyTooLong) (chunked_body limit (old ++ t) ≡ BodyUnfinished) (length (old ++ t)) c r s)
dropped_halts limit left old bytes passed a b c r q s e f low k =
    follows_fault limit old f.0 bytes passed a b c r q s e f.2 low (k limit f.0 f.1)

-- ---- a body of a size

pub sized_dropped : (limit size : ℕ) (old new : List ℕ) (a b : Option (List ℕ)) → size ≤ limit → Took a b (Passes size old new)
    → Took a b (λ t. (body : List ℕ) × (sized_body limit size (old ++ t) ≡ Whole body new))
sized_dropped limit size old new a b low k =
    let done = sized_done limit size ([] ++ take size (old ++ k.0)) old new a b low (passed_moves size [] old new a b k) in
    (done.0, done.1, (take size (old ++ k.0), done.2))

pub planned_dropped : (limit size : ℕ) (plan : BodyPlan) (old new : List ℕ) (a b : Option (List ℕ)) → plan ≡ OfSize size → IsWithinLimit limit plan → Took a b (Passes size old new)
    → Took a b (λ t. (body : List ℕ) × (planned limit plan (old ++ t) ≡ Whole body new))
planned_dropped limit size plan old new a b is low k =
    subst (λ (p : BodyPlan). Took a b (λ t. (body : List ℕ) × (planned limit p (old ++ t) ≡ Whole body new))) (sym is)
    (sized_dropped limit size old new a b (subst (λ (p : BodyPlan). IsWithinLimit limit p) is low) k)

pub on_ok_as : {E : Type 0} (x : Result (Unit {0}) E) (P Q : Type 0) → (P → Q) → OnOk x P → OnOk x Q
on_ok_as (Ok u) P Q f h = f h
on_ok_as (Err e) P Q f h = tt
