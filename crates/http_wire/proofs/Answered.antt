-- The request that was read of a link, or why none was.
use Rattle.std.proofs.Common.{◌≡◌, ◌<◌, ◌≤◌, ◌+◌, ◌-◌, ◌⊎◌, inl, inr, ℕ, Bool, true, false, List, [], ◌++◌, length, take, drop, Option, None, Some, Result, Ok, Err, refl, sym, ap, ap₂, ◌∙◌, subst, arith, append_assoc, length-take, length-drop}
use Rattle.std.proofs.lemmas.Bool.{both_ways}
use Rattle.std.specs.Io.KnownBytes.{Consumes, Appends}
use Rattle.jm_edge.specs.Causes.{Rose}
use Rattle.jm_edge.proofs.Known.{consumes_on, consumes_none, appends_none}
use Rattle.httparse.specs.Grammar.{RequestHead}
use Rattle.httparse.proofs.GrammarLemmas.{request_unique}
use Rattle.http_parts.specs.Heads.{Beginning, HeadTooLong, Unfinished, Head, beginning_of, begun_bytes}
use Rattle.http_wire.specs.Fields.{pairs, is_last}
use Rattle.http_parts.specs.Bodies.{Body, BodyInvalid, BodyTooLong, BodyUnfinished, Whole}
use Rattle.http_wire.specs.Requests.{Message, TooLong, Invalid, Begun, OverLimit, Complete, with_body, message_by, IsHead, IsMessage, requests, is_due_by, IsDue, IsRequestOf, names_and_values, MayFailWith, HasContinued, ReadsRequestFrom}
use Rattle.http_wire.specs.Responses.{continue_bytes, IsPrefixWritten}
use Rattle.http_parts.specs.Pieces.{Gained, Stops}
use Rattle.http_parts.specs.Parts.{Took, Halts}
use Rattle.http_parts.specs.Plans.{kept_bytes, planned}
use Rattle.http_wire.specs.FramedHeads.{IsFramed, IsRejected, wire_fault_of, IsMade, continued_bytes}
use Rattle.http_wire.specs.declared.framed_head.FramedHead.{FramedHead}
use Rattle.http_wire.specs.declared.request.HttpRequest.{HttpRequest}
use Rattle.http_parts.specs.declared.bodies.BodyPlan.{BodyPlan}
use Rattle.http_parts.specs.declared.body_fault.BodyFault.{BodyFault}
use Rattle.http_parts.specs.declared.body_fault.BodyFault.TheVariants.{Invalid as BodyBad, TooLong as BodyOver, Ended, ReadFault as BodyReadFault, NoMemory as BodyNoMemory}
use Rattle.http_parts.specs.declared.fault.WireFault.{WireFault}
use Rattle.http_parts.specs.declared.fault.WireFault.TheVariants.{End, ReadFault, WriteFault, BadHead, HeadTooLong as IsTooLong, BodyTooLong as IsOver, CutOff, NoMemory}
use Rattle.http_parts.proofs.HeadStays.{head_stays}
use Rattle.http_parts.proofs.HeadSizes.{begun_is}
use Rattle.http_parts.proofs.Stopped.{rose_before}

-- ---- one head at most

heads_agree : (b : Beginning) (o p : Option RequestHead) → IsHead requests b o → IsHead requests b p → o ≡ p
heads_agree HeadTooLong o p x y = x ∙ sym y
heads_agree Unfinished o p x y = x ∙ sym y
heads_agree (Head head rest) None None x y = refl
heads_agree (Head head rest) None (Some k) x y = absurd (x k y)
heads_agree (Head head rest) (Some h) None x y = absurd (y h x)
heads_agree (Head head rest) (Some h) (Some k) x y = ap Some (request_unique head h k [] [] x.0 y.0).0

not_due : (seen : List ℕ) (b : Beginning) (o : Option RequestHead) → beginning_of seen ≡ b → IsHead requests b o → is_due_by o b ≡ false → ¬ (IsDue seen)
not_due seen b o is head none d =
    let head' : IsHead requests (beginning_of seen) o = subst (λ (z : Beginning). IsHead requests z o) (sym is) head in
    let same : d.0 ≡ o = heads_agree (beginning_of seen) d.0 o d.1 head' in
    let due : is_due_by o (beginning_of seen) ≡ true = ap (λ (z : Option RequestHead). is_due_by z (beginning_of seen)) (sym same) ∙ d.2 in
    both_ways (is_due_by o (beginning_of seen)) (ap (is_due_by o) is ∙ none) due

a_due : (seen : List ℕ) (b : Beginning) (o : Option RequestHead) → beginning_of seen ≡ b → IsHead requests b o → is_due_by o b ≡ true → IsDue seen
a_due seen b o is head due =
    (o, subst (λ (z : Beginning). IsHead requests z o) (sym is) head, ap (is_due_by o) is ∙ due)

met : (seen : List ℕ) (b : Beginning) (o : Option RequestHead) (m : Message RequestHead) → beginning_of seen ≡ b → IsHead requests b o → message_by requests o b ≡ m → IsMessage requests seen m
met seen b o m is head by =
    (o, subst (λ (z : Beginning). IsHead requests z o) (sym is) head, sym (ap (message_by requests o) is ∙ by))

-- nothing was written
unwritten : (a b : Option (List ℕ)) → b ≡ a → Appends a b []
unwritten a b same = subst (λ (z : Option (List ℕ)). Appends a z []) (sym same) (appends_none a)

pub nothing_put : (a : Option (List ℕ)) → Appends a a []
nothing_put a = appends_none a

-- ---- no head was read

pub stops_request : (keeps : List (List ℕ × List ℕ) → Bool) (e : WireFault) (old new : List ℕ) (a b h k : Option (List ℕ)) (r s p q : ℕ) → Stops e old a b r s → k ≡ h → ReadsRequestFrom keeps old new a b h k r s p q (Err e)
stops_request keeps IsTooLong old new a b h k r s p q st held = record {
  taken = st.0;
  consumed = st.1;
  outcome = met (old ++ st.0) HeadTooLong None TooLong st.2 refl refl;
  continued = inr (not_due (old ++ st.0) HeadTooLong None st.2 refl refl, unwritten h k held);
}
stops_request keeps End old new a b h k r s p q st held = record {
  taken = st.0;
  consumed = st.1;
  outcome = (met (old ++ st.0) Unfinished None Begun st.2.0 refl refl, st.2.1, st.2.2);
  continued = inr (not_due (old ++ st.0) Unfinished None st.2.0 refl refl, unwritten h k held);
}
stops_request keeps (CutOff count) old new a b h k r s p q st held = record {
  taken = st.0;
  consumed = st.1;
  outcome = (met (old ++ st.0) Unfinished None Begun st.2.0 refl refl, st.2.1, st.2.2, st.2.3);
  continued = inr (not_due (old ++ st.0) Unfinished None st.2.0 refl refl, unwritten h k held);
}
stops_request keeps ReadFault old new a b h k r s p q st held = record {
  taken = st.0;
  consumed = st.1;
  outcome = (met (old ++ st.0) Unfinished None Begun st.2.0 refl refl, st.2.1);
  continued = inr (not_due (old ++ st.0) Unfinished None st.2.0 refl refl, unwritten h k held);
}
stops_request keeps NoMemory old new a b h k r s p q st held = record {
  taken = st.0;
  consumed = st.1;
  outcome = tt;
  continued = inr (unwritten h k held);
}
stops_request keeps WriteFault old new a b h k r s p q st held = absurd st.2
stops_request keeps BadHead old new a b h k r s p q st held = absurd st.2
stops_request keeps (IsOver limit) old new a b h k r s p q st held = absurd st.2

-- ---- the head is refused

stays_here : (bytes head rest : List ℕ) → beginning_of bytes ≡ Head head rest → beginning_of (bytes ++ []) ≡ Head head (rest ++ [])
stays_here bytes head rest is = head_stays bytes [] head rest is

pub rejected_request : (keeps : List (List ℕ × List ℕ) → Bool) (e : WireFault) (bytes new head rest : List ℕ) (a h : Option (List ℕ)) (r p : ℕ) → beginning_of bytes ≡ Head head rest → IsRejected head e
    → ReadsRequestFrom keeps bytes new a a h h r r p p (Err e)
rejected_request keeps BadHead bytes new head rest a h r p is k = record {
  taken = [];
  consumed = consumes_none a;
  outcome = met (bytes ++ []) (Head head (rest ++ [])) k.0 Invalid (stays_here bytes head rest is) k.1 (k.2 (rest ++ []));
  continued = inr (not_due (bytes ++ []) (Head head (rest ++ [])) k.0 (stays_here bytes head rest is) k.1 (k.3 (rest ++ [])), unwritten h h refl);
}
rejected_request keeps (IsOver limit) bytes new head rest a h r p is k = record {
  taken = [];
  consumed = consumes_none a;
  outcome = met (bytes ++ []) (Head head (rest ++ [])) k.0 (OverLimit limit) (stays_here bytes head rest is) k.1 (k.2 (rest ++ []));
  continued = inr (not_due (bytes ++ []) (Head head (rest ++ [])) k.0 (stays_here bytes head rest is) k.1 (k.3 (rest ++ [])), unwritten h h refl);
}
rejected_request keeps NoMemory bytes new head rest a h r p is k = record {
  taken = [];
  consumed = consumes_none a;
  outcome = tt;
  continued = inr (unwritten h h refl);
}
rejected_request keeps End bytes new head rest a h r p is k = absurd k
rejected_request keeps ReadFault bytes new head rest a h r p is k = absurd k
rejected_request keeps WriteFault bytes new head rest a h r p is k = absurd k
rejected_request keeps IsTooLong bytes new head rest a h r p is k = absurd k
rejected_request keeps (CutOff count) bytes new head rest a h r p is k = absurd k

-- ---- the interim response

due_is : (head rest : List ℕ) (o : FramedHead) (k : IsFramed head o) → is_due_by (Some k.h) (Head head rest) ≡ o.due
due_is head rest o k = rw (k.host, k.body [], k.goes_on) (sym k.due)

pub unwritten_request : (keeps : List (List ℕ × List ℕ) → Bool) (e : WireFault) (bytes new head rest : List ℕ) (o : FramedHead) (a b h k : Option (List ℕ)) (r s p q : ℕ) → beginning_of bytes ≡ Head head rest → IsFramed head o → o.due ≡ true
    → b ≡ a → IsPrefixWritten e h k continue_bytes → Rose p q → ReadsRequestFrom keeps bytes new a b h k r s p q (Err e)
unwritten_request keeps e bytes new head rest o a b h k r s p q is opened due left w rose =
    subst (λ (z : WireFault). ReadsRequestFrom keeps bytes new a b h k r s p q (Err z)) (sym w.0) (record {
      taken = [];
      consumed = subst (λ (z : Option (List ℕ)). Consumes a z []) (sym left) (consumes_none a);
      outcome = (a_due (bytes ++ []) (Head head (rest ++ [])) (Some opened.h) (stays_here bytes head rest is) opened.reads (due_is head (rest ++ []) o opened ∙ due), rose);
      continued = (w.1, w.2);
    })

-- it was written if and only if it was due
continued_by : (v : Bool) (seen head rest : List ℕ) (o : FramedHead) (h k : Option (List ℕ)) → o.due ≡ v → beginning_of seen ≡ Head head rest → IsFramed head o → Appends h k (continued_bytes v)
    → (IsDue seen × Appends h k continue_bytes) ⊎ (¬ (IsDue seen) × Appends h k [])
continued_by true seen head rest o h k due is opened put =
    inl (a_due seen (Head head rest) (Some opened.h) is opened.reads (due_is head rest o opened ∙ due), put)
continued_by false seen head rest o h k due is opened put =
    inr (not_due seen (Head head rest) (Some opened.h) is opened.reads (due_is head rest o opened ∙ due), put)

-- ---- the body

met_body : (bytes head rest t : List ℕ) (o : FramedHead) (body : Body) → beginning_of bytes ≡ Head head rest → (k : IsFramed head o) → planned o.limit o.plan (rest ++ t) ≡ body
    → IsMessage requests (bytes ++ t) (with_body requests k.h body)
met_body bytes head rest t o body is k by =
    met (bytes ++ t) (Head head (rest ++ t)) (Some k.h) (with_body requests k.h body) (head_stays bytes t head rest is) k.reads
    (rw k.host (ap (with_body requests k.h) (k.body (rest ++ t) ∙ by)))

request_of : (keeps : List (List ℕ × List ℕ) → Bool) (keep : Bool) (head made body : List ℕ) (o : FramedHead) (x : HttpRequest) (k : IsFramed head o) → keep ≡ keeps (pairs o.head.fields) → made ≡ kept_bytes keep body
    → IsMade o made x → IsRequestOf k.h (kept_bytes (keeps (names_and_values k.h.fields)) body) x
request_of keeps keep head made body o x k known is m = record {
  method = m.method ∙ k.parsed.method;
  target = m.target ∙ k.parsed.target;
  fields = m.fields ∙ k.parsed.fields;
  body_is = m.body_is ∙ is ∙ ap (λ (b : Bool). kept_bytes b body) (known ∙ ap keeps k.parsed.fields);
  minor = m.minor ∙ k.parsed.minor;
  last = m.last ∙ ap₂ (λ (n : ℕ) (fs : List (List ℕ × List ℕ)). is_last n fs) k.parsed.minor k.parsed.fields;
}

-- the body was read by its plan, and these bytes of it are kept
abbrev pub TookBody : Bool → FramedHead → (rest new made : List ℕ) → Option (List ℕ) → Option (List ℕ) → Type 0
TookBody keep o rest new made a b =
    Took a b (λ t. (body : List ℕ) × (planned o.limit o.plan (rest ++ t) ≡ Whole body new) × (made ≡ kept_bytes keep body))

pub took_kept : (keep : Bool) (limit : ℕ) (plan : BodyPlan) (rest new made : List ℕ) (a b : Option (List ℕ)) → keep ≡ true → Took a b (λ t. planned limit plan (rest ++ t) ≡ Whole made new)
    → Took a b (λ t. (body : List ℕ) × (planned limit plan (rest ++ t) ≡ Whole body new) × (made ≡ kept_bytes keep body))
took_kept keep limit plan rest new made a b kept k = (k.0, k.1, (made, k.2, ap (λ (v : Bool). kept_bytes v made) (sym kept)))

pub took_dropped : (keep : Bool) (limit : ℕ) (plan : BodyPlan) (rest new made : List ℕ) (a b : Option (List ℕ)) → keep ≡ false → made ≡ [] → Took a b (λ t. (body : List ℕ) × (planned limit plan (rest ++ t) ≡ Whole body new))
    → Took a b (λ t. (body : List ℕ) × (planned limit plan (rest ++ t) ≡ Whole body new) × (made ≡ kept_bytes keep body))
took_dropped keep limit plan rest new made a b dropped none k = (k.0, k.1, (k.2.0, k.2.1, none ∙ ap (λ (v : Bool). kept_bytes v k.2.0) (sym dropped)))

pub whole_request : (keeps : List (List ℕ × List ℕ) → Bool) (keep : Bool) (bytes new head rest made : List ℕ) (o : FramedHead) (x : HttpRequest) (a b h k : Option (List ℕ)) (r s p q : ℕ)
    → beginning_of bytes ≡ Head head rest → IsFramed head o → Appends h k (continued_bytes o.due) → keep ≡ keeps (pairs o.head.fields) → TookBody keep o rest new made a b → IsMade o made x
    → ReadsRequestFrom keeps bytes new a b h k r s p q (Ok x)
whole_request keeps keep bytes new head rest made o x a b h k r s p q is opened put known took m = record {
  taken = took.0;
  consumed = took.1;
  outcome = (opened.h, took.2.0, request_of keeps keep head made took.2.0 o x opened known took.2.2 m, met_body bytes head rest took.0 o (Whole took.2.0 new) is opened took.2.1);
  continued = continued_by o.due (bytes ++ took.0) head (rest ++ took.0) o h k refl (head_stays bytes took.0 head rest is) opened put;
}

pub begun_here : (bytes head rest t : List ℕ) (n count : ℕ) → beginning_of bytes ≡ Head head rest → n ≡ length head → count ≡ length (rest ++ t)
    → (begun_bytes (bytes ++ t) ≡ n + count) × (0 < n + count)
begun_here bytes head rest t n count is n_is count_is =
    let k = begun_is (bytes ++ t) head (rest ++ t) (head_stays bytes t head rest is) in
    (omega (arith, k.0, n_is, count_is), omega (arith, k.1, n_is))

pub cut_request : (keeps : List (List ℕ × List ℕ) → Bool) (e : BodyFault) (bytes new head rest : List ℕ) (o : FramedHead) (n : ℕ) (a b h k : Option (List ℕ)) (r s p q : ℕ) → beginning_of bytes ≡ Head head rest → IsFramed head o → n ≡ length head
    → Appends h k (continued_bytes o.due)
    → Took a b (λ t. Halts e (planned o.limit o.plan (rest ++ t) ≡ BodyInvalid) (planned o.limit o.plan (rest ++ t) ≡ BodyTooLong) (planned o.limit o.plan (rest ++ t) ≡ BodyUnfinished) (length (rest ++ t)) b r s)
    → ReadsRequestFrom keeps bytes new a b h k r s p q (Err (wire_fault_of n o.limit e))
cut_request keeps BodyBad bytes new head rest o n a b h k r s p q is opened n_is put took = record {
  taken = took.0;
  consumed = took.1;
  outcome = met_body bytes head rest took.0 o BodyInvalid is opened took.2;
  continued = continued_by o.due (bytes ++ took.0) head (rest ++ took.0) o h k refl (head_stays bytes took.0 head rest is) opened put;
}
cut_request keeps BodyOver bytes new head rest o n a b h k r s p q is opened n_is put took = record {
  taken = took.0;
  consumed = took.1;
  outcome = subst (λ (z : ℕ). IsMessage requests (bytes ++ took.0) (OverLimit z)) (sym opened.limit) (met_body bytes head rest took.0 o BodyTooLong is opened took.2);
  continued = continued_by o.due (bytes ++ took.0) head (rest ++ took.0) o h k refl (head_stays bytes took.0 head rest is) opened put;
}
cut_request keeps (Ended count) bytes new head rest o n a b h k r s p q is opened n_is put took =
    let c = begun_here bytes head rest took.0 n count is n_is took.2.2 in record {
      taken = took.0;
      consumed = took.1;
      outcome = (met_body bytes head rest took.0 o BodyUnfinished is opened took.2.0, took.2.1, c.0, c.1);
      continued = continued_by o.due (bytes ++ took.0) head (rest ++ took.0) o h k refl (head_stays bytes took.0 head rest is) opened put;
    }
cut_request keeps BodyReadFault bytes new head rest o n a b h k r s p q is opened n_is put took = record {
  taken = took.0;
  consumed = took.1;
  outcome = (met_body bytes head rest took.0 o BodyUnfinished is opened took.2.0, took.2.1);
  continued = continued_by o.due (bytes ++ took.0) head (rest ++ took.0) o h k refl (head_stays bytes took.0 head rest is) opened put;
}
cut_request keeps BodyNoMemory bytes new head rest o n a b h k r s p q is opened n_is put took = record {
  taken = took.0;
  consumed = took.1;
  outcome = tt;
  continued = or_nothing (continued_by o.due (bytes ++ took.0) head (rest ++ took.0) o h k refl (head_stays bytes took.0 head rest is) opened put);
}
  where
    or_nothing : (IsDue (bytes ++ took.0) × Appends h k continue_bytes) ⊎ (¬ (IsDue (bytes ++ took.0)) × Appends h k []) → (IsDue (bytes ++ took.0) × Appends h k continue_bytes) ⊎ Appends h k []
    or_nothing (inl due) = inl due
    or_nothing (inr none) = inr none.1

-- ---- the head was read before

may_fail_before : (e : WireFault) (seen : List ℕ) (b : Option (List ℕ)) (r q s p t : ℕ) → r ≤ q → MayFailWith e seen b q s p t → MayFailWith e seen b r s p t
may_fail_before End seen b r q s p t low x = x
may_fail_before (CutOff count) seen b r q s p t low x = x
may_fail_before ReadFault seen b r q s p t low x = (x.0, rose_before r q s low x.1)
may_fail_before WriteFault seen b r q s p t low x = x
may_fail_before BadHead seen b r q s p t low x = x
may_fail_before IsTooLong seen b r q s p t low x = x
may_fail_before (IsOver limit) seen b r q s p t low x = x
may_fail_before NoMemory seen b r q s p t low x = tt

pub later_request : (keeps : List (List ℕ × List ℕ) → Bool) (old mid new : List ℕ) (a b c h k : Option (List ℕ)) (r q s p t : ℕ) (x : Result HttpRequest WireFault) → Gained old mid a b → r ≤ q
    → ReadsRequestFrom keeps mid new b c h k q s p t x → ReadsRequestFrom keeps old new a c h k r s p t x
later_request keeps old mid new a b c h k r q s p t (Ok x) g low m =
    let seen : mid ++ m.taken ≡ old ++ (g.taken ++ m.taken) = ap (λ (z : List ℕ). z ++ m.taken) g.is ∙ append_assoc old g.taken m.taken in record {
      taken = g.taken ++ m.taken;
      consumed = consumes_on a b c g.taken m.taken g.consumed m.consumed;
      outcome = (m.outcome.0, m.outcome.1, m.outcome.2, subst (λ (z : List ℕ). IsMessage requests z (Complete m.outcome.0 m.outcome.1 new)) seen m.outcome.3);
      continued = subst (λ (z : List ℕ). HasContinued (Ok x) z h k) seen m.continued;
    }
later_request keeps old mid new a b c h k r q s p t (Err e) g low m =
    let seen : mid ++ m.taken ≡ old ++ (g.taken ++ m.taken) = ap (λ (z : List ℕ). z ++ m.taken) g.is ∙ append_assoc old g.taken m.taken in record {
      taken = g.taken ++ m.taken;
      consumed = consumes_on a b c g.taken m.taken g.consumed m.consumed;
      outcome = subst (λ (z : List ℕ). MayFailWith e z c r s p t) seen (may_fail_before e (mid ++ m.taken) c r q s p t low m.outcome);
      continued = subst (λ (z : List ℕ). HasContinued (Err e) z h k) seen m.continued;
    }

-- ---- the head was read before, by the links in between

pub head_len : (xs head : List ℕ) (start end : ℕ) → head ≡ take (end - start) (drop start xs) → start ≤ end → end ≤ length xs → end - start ≡ length head
head_len xs head start end is low high = omega (arith, ap length is, low, high, length-take {A = ℕ}, length-drop {A = ℕ})

pub whole_after : (keeps : List (List ℕ × List ℕ) → Bool) (keep : Bool) (bytes new head rest made : List ℕ) (o : FramedHead) (x : HttpRequest) (a m b h l k : Option (List ℕ)) (r s p q : ℕ)
    → beginning_of bytes ≡ Head head rest → IsFramed head o → m ≡ a → k ≡ l → Appends h l (continued_bytes o.due) → keep ≡ keeps (pairs o.head.fields) → TookBody keep o rest new made m b → IsMade o made x
    → ReadsRequestFrom keeps bytes new a b h k r s p q (Ok x)
whole_after keeps keep bytes new head rest made o x a m b h l k r s p q is opened left held put known took by =
    whole_request keeps keep bytes new head rest made o x a b h k r s p q is opened (subst (λ (z : Option (List ℕ)). Appends h z (continued_bytes o.due)) (sym held) put) known
    (subst (λ (z : Option (List ℕ)). TookBody keep o rest new made z b) left took) by

pub cut_after : (keeps : List (List ℕ × List ℕ) → Bool) (e : BodyFault) (bytes new head rest : List ℕ) (o : FramedHead) (n : ℕ) (a m b h l k : Option (List ℕ)) (r u s p q : ℕ) → beginning_of bytes ≡ Head head rest → IsFramed head o → n ≡ length head
    → m ≡ a → k ≡ l → u ≡ r → Appends h l (continued_bytes o.due)
    → Took m b (λ t. Halts e (planned o.limit o.plan (rest ++ t) ≡ BodyInvalid) (planned o.limit o.plan (rest ++ t) ≡ BodyTooLong) (planned o.limit o.plan (rest ++ t) ≡ BodyUnfinished) (length (rest ++ t)) b u s)
    → ReadsRequestFrom keeps bytes new a b h k r s p q (Err (wire_fault_of n o.limit e))
cut_after keeps e bytes new head rest o n a m b h l k r u s p q is opened n_is left held reads put took =
    cut_request keeps e bytes new head rest o n a b h k r s p q is opened n_is (subst (λ (z : Option (List ℕ)). Appends h z (continued_bytes o.due)) (sym held) put)
    (subst (λ (z : ℕ). Took a b (λ t. Halts e (planned o.limit o.plan (rest ++ t) ≡ BodyInvalid) (planned o.limit o.plan (rest ++ t) ≡ BodyTooLong) (planned o.limit o.plan (rest ++ t) ≡ BodyUnfinished) (length (rest ++ t)) b z s)) reads
    (subst (λ (z : Option (List ℕ)). Took z b (λ t. Halts e (planned o.limit o.plan (rest ++ t) ≡ BodyInvalid) (planned o.limit o.plan (rest ++ t) ≡ BodyTooLong) (planned o.limit o.plan (rest ++ t) ≡ BodyUnfinished) (length (rest ++ t)) b u s)) left took))

pub later_after : (keeps : List (List ℕ × List ℕ) → Bool) (old mid new : List ℕ) (a b c h l k : Option (List ℕ)) (r q s p v t : ℕ) (x : Result HttpRequest WireFault) → Gained old mid a b → r ≤ q → l ≡ h → v ≡ p
    → ReadsRequestFrom keeps mid new b c l k q s v t x → ReadsRequestFrom keeps old new a c h k r s p t x
later_after keeps old mid new a b c h l k r q s p v t x g low held puts m =
    subst (λ (z : Option (List ℕ)). ReadsRequestFrom keeps old new a c z k r s p t x) held
    (subst (λ (z : ℕ). ReadsRequestFrom keeps old new a c l k r s z t x) puts (later_request keeps old mid new a b c l k r q s v t x g low m))
