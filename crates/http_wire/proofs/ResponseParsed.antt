-- The bytes that are a head of a response, and the head that they are.
use Rattle.std.proofs.Common.{◌≡◌, ◌≤◌, ℕ, List, [], length, take, drop, map, sym, ap, ◌∙◌, subst, arith, append-nil, length-drop, length-take}
use Rattle.std.proofs.lemmas.List.{drop_all, length-map}
use Rattle.httparse.specs.Grammar.{ResponseHead, ReadsResponse, HasNoResponse}
use Rattle.httparse.specs.Spans.{IsResponseAt, ResponseOverflows, header_bytes, name_and_value}
use Rattle.httparse.proofs.GrammarLemmas.{response_unique}
use Rattle.httparse.specs.declared.spans.HeaderSpan.{HeaderSpan}
use Rattle.httparse.specs.declared.spans.ResponseSpans.{ResponseSpans}
use Rattle.http_wire.specs.Fields.{pairs}
use Rattle.http_wire.specs.FramedResponses.{IsParsedResponse}
use Rattle.http_wire.specs.ReadResponses.{IsResponse}
use Rattle.http_wire.specs.declared.request.HttpField.{HttpField}

pub reads_whole : (buf : List ℕ) (spans : List HeaderSpan) (at : ResponseSpans) (h : ResponseHead) → IsResponseAt buf spans at h → length spans ≡ 64 → at.len ≡ length buf → IsResponse buf h
reads_whole buf spans at h r room len =
    let none : drop at.len buf ≡ [] = drop_all at.len buf (omega (arith, len)) in (
      subst (λ (z : List ℕ). ReadsResponse buf h z) none r.reads,
      omega (arith, ap length r.fields, length-map (take at.headers spans) (header_bytes buf), length-map h.fields name_and_value, length-take {A = HeaderSpan}, room),
    )

pub never_whole : (buf : List ℕ) (spans : List HeaderSpan) (at : ResponseSpans) (h : ResponseHead) → IsResponseAt buf spans at h → at.len ≤ length buf → (at.len ≡ length buf → ⊥)
    → (k : ResponseHead) → ¬ (IsResponse buf k)
never_whole buf spans at h r within apart k other =
    let same : drop at.len buf ≡ [] = (response_unique buf h k (drop at.len buf) [] r.reads other.0).1 in
    apart (omega (arith, ap length same, length-drop {A = ℕ}, within))

pub never_partial : (buf : List ℕ) → HasNoResponse buf → (k : ResponseHead) → ¬ (IsResponse buf k)
never_partial buf none k other = none k [] other.0

pub never_over : (buf : List ℕ) → ResponseOverflows 64 buf → (k : ResponseHead) → ¬ (IsResponse buf k)
never_over buf over k other =
    let many = over [] k [] (subst (λ (z : List ℕ). ReadsResponse z k []) (sym (append-nil buf)) other.0) in
    omega (arith, many, other.1)

pub parsed_by : (buf : List ℕ) (spans : List HeaderSpan) (at : ResponseSpans) (h : ResponseHead) (fields : List HttpField) → IsResponseAt buf spans at h
    → pairs fields ≡ map (header_bytes buf) (take at.headers spans) → IsParsedResponse h (record { status = at.code; fields = fields; minor = at.version })
parsed_by buf spans at h fields r is = record { status = r.code; fields = is ∙ r.fields; minor = r.version }
