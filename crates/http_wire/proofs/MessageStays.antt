-- A complete message stays, whatever bytes follow.
use Rattle.std.proofs.Common.{◌≡◌, ◌+◌, ℕ, Bool, true, false, cond, IsTrue, List, [], ◌++◌, length, Option, None, Some, refl, sym, ap, ap₂, ◌∙◌, subst, arith, length-append}
use Rattle.httparse.specs.Grammar.{RequestHead}
use Rattle.http_parts.specs.Heads.{Beginning, HeadTooLong, Unfinished, Head, beginning_of}
use Rattle.http_wire.specs.Framings.{Framing, InvalidLength, Chunked, NotSaid, Sized, framing_of}
use Rattle.http_parts.specs.Bodies.{Body, BodyInvalid, BodyTooLong, BodyUnfinished, Whole}
use Rattle.http_wire.specs.Requests.{Invalid, Complete, with_body, message_by, IsMessage, IsHead, requests, body_limit, request_body, names_and_values, is_due_by, IsDue}
use Rattle.http_parts.proofs.BodyStays.{sized_stays, chunks_stay}
use Rattle.http_parts.proofs.HeadStays.{head_stays}

-- ---- a body

body_stays : (limit : ℕ) (f : Framing) (xs ys b rest : List ℕ) → request_body limit f xs ≡ Whole b rest → request_body limit f (xs ++ ys) ≡ Whole b (rest ++ ys)
body_stays limit InvalidLength xs ys b rest h = absurd (cc h)
body_stays limit NotSaid xs ys b rest h = sized_stays limit 0 xs ys b rest h
body_stays limit (Sized size) xs ys b rest h = sized_stays limit size xs ys b rest h
body_stays limit Chunked xs ys b rest h =
    chunks_stay (length xs + 1) (length (xs ++ ys) + 1) limit [] xs ys b rest (omega (arith, length-append xs ys)) h

-- ---- a message

with_stays : (h k : RequestHead) (xs ys b rest : List ℕ) (made : Body) → request_body (body_limit k.target) (framing_of (names_and_values k.fields)) xs ≡ made
    → Complete h b rest ≡ with_body requests k made
    → Complete h b (rest ++ ys) ≡ with_body requests k (request_body (body_limit k.target) (framing_of (names_and_values k.fields)) (xs ++ ys))
with_stays h k xs ys b rest BodyInvalid e c = absurd (cc c)
with_stays h k xs ys b rest BodyTooLong e c = absurd (cc c)
with_stays h k xs ys b rest BodyUnfinished e c = absurd (cc c)
with_stays h k xs ys b rest (Whole body more) e c =
    let p : h ≡ k = cc c in
    let q : b ≡ body = cc c in
    let r : rest ≡ more = cc c in
    ap₂ (λ (x : RequestHead) (y : List ℕ). Complete x y (rest ++ ys)) p q ∙ ap (λ z. Complete k body (z ++ ys)) r
    ∙ ap (with_body requests k) (sym (body_stays (body_limit k.target) (framing_of (names_and_values k.fields)) xs ys body more e))

refused_stays : (h k : RequestHead) (xs ys b rest : List ℕ) (v : Bool)
    → Complete h b rest ≡ cond v Invalid (with_body requests k (request_body (body_limit k.target) (framing_of (names_and_values k.fields)) xs))
    → Complete h b (rest ++ ys) ≡ cond v Invalid (with_body requests k (request_body (body_limit k.target) (framing_of (names_and_values k.fields)) (xs ++ ys)))
refused_stays h k xs ys b rest true c = absurd (cc c)
refused_stays h k xs ys b rest false c =
    with_stays h k xs ys b rest (request_body (body_limit k.target) (framing_of (names_and_values k.fields)) xs) refl c

message_by_stays : (xs ys : List ℕ) (h : RequestHead) (b rest : List ℕ) (o : Option RequestHead) (begun : Beginning) → beginning_of xs ≡ begun → IsHead requests begun o
    → Complete h b rest ≡ message_by requests o begun → IsMessage requests (xs ++ ys) (Complete h b (rest ++ ys))
message_by_stays xs ys h b rest o HeadTooLong e i c = absurd (cc c)
message_by_stays xs ys h b rest o Unfinished e i c = absurd (cc c)
message_by_stays xs ys h b rest None (Head head more) e i c = absurd (cc c)
message_by_stays xs ys h b rest (Some k) (Head head more) e i c =
    let stays : beginning_of (xs ++ ys) ≡ Head head (more ++ ys) = head_stays xs ys head more e in (
      Some k,
      subst (λ z. IsHead requests z (Some k)) (sym stays) i,
      refused_stays h k more ys b rest (requests.is_refused k) c ∙ ap (message_by requests (Some k)) (sym stays),
    )

-- more bytes change no complete message: they follow it
pub message_stays : (xs ys : List ℕ) (h : RequestHead) (b rest : List ℕ) → IsMessage requests xs (Complete h b rest) → IsMessage requests (xs ++ ys) (Complete h b (rest ++ ys))
message_stays xs ys h b rest m = message_by_stays xs ys h b rest m.0 (beginning_of xs) refl m.1 m.2

-- ---- the interim response is due for the same bytes

head_by : (h : RequestHead) (b rest : List ℕ) (o : Option RequestHead) (begun : Beginning) → Complete h b rest ≡ message_by requests o begun
    → (head : List ℕ) × (more : List ℕ) × (begun ≡ Head head more)
head_by h b rest o HeadTooLong c = absurd (cc c)
head_by h b rest o Unfinished c = absurd (cc c)
head_by h b rest o (Head head more) c = (head, more, refl)

due_same : (o : Option RequestHead) (head a b : List ℕ) → is_due_by o (Head head a) ≡ is_due_by o (Head head b)
due_same None head a b = refl
due_same (Some h) head a b = refl

due_at : (x y : Beginning) (head a b : List ℕ) → x ≡ Head head a → y ≡ Head head b
    → (o : Option RequestHead) × IsHead requests x o × IsTrue (is_due_by o x) → (o : Option RequestHead) × IsHead requests y o × IsTrue (is_due_by o y)
due_at x y head a b e f d =
    let here : IsHead requests (Head head a) d.0 = subst (λ z. IsHead requests z d.0) e d.1 in (
      d.0,
      subst (λ z. IsHead requests z d.0) (sym f) here,
      subst IsTrue (ap (is_due_by d.0) e ∙ due_same d.0 head a b ∙ ap (is_due_by d.0) (sym f)) d.2,
    )

pub due_stays : (xs ys : List ℕ) (h : RequestHead) (b rest : List ℕ) → IsMessage requests xs (Complete h b rest) → IsDue xs → IsDue (xs ++ ys)
due_stays xs ys h b rest m d =
    let at = head_by h b rest m.0 (beginning_of xs) m.2 in
    due_at (beginning_of xs) (beginning_of (xs ++ ys)) at.0 at.1 (at.1 ++ ys) at.2 (head_stays xs ys at.0 at.1 at.2) d

pub due_back : (xs ys : List ℕ) (h : RequestHead) (b rest : List ℕ) → IsMessage requests xs (Complete h b rest) → IsDue (xs ++ ys) → IsDue xs
due_back xs ys h b rest m d =
    let at = head_by h b rest m.0 (beginning_of xs) m.2 in
    due_at (beginning_of (xs ++ ys)) (beginning_of xs) at.0 (at.1 ++ ys) at.1 (head_stays xs ys at.0 at.1 at.2) at.2 d
