-- The bytes that are a head, and the head that they are.
use Rattle.std.proofs.Common.{◌≡◌, ◌≤◌, ℕ, List, [], ◌∷◌, ◌++◌, length, take, drop, map, sym, ap, ap₂, append_assoc, ◌∙◌, subst, arith, append-nil, length-drop, length-take}
use Rattle.std.proofs.lemmas.List.{drop_all, length-map, map-append}
use Rattle.std.specs.List.{All}
use Rattle.std.proofs.lemmas.List.Elements.{All-tail}
use Rattle.httparse.specs.Grammar.{RequestHead, ReadsRequest, HasNoRequest}
use Rattle.httparse.specs.Spans.{IsRequestAt, span_bytes, RequestOverflows, header_bytes, name_and_value}
use Rattle.httparse.proofs.GrammarLemmas.{request_unique}
use Rattle.httparse.specs.declared.spans.HeaderSpan.{HeaderSpan}
use Rattle.httparse.specs.declared.spans.RequestSpans.{RequestSpans}
use Rattle.http_wire.specs.Fields.{pairs}
use Rattle.http_wire.specs.declared.request.HttpField.{HttpField}
use Rattle.http_wire.specs.Requests.{requests}
use Rattle.http_wire.specs.ParsedHeads.{IsParsed, IsCopied}
use Rattle.http_wire.specs.declared.head_parser.ParsedHead.{ParsedHead}

pub reads_whole : (buf : List ℕ) (spans : List HeaderSpan) (at : RequestSpans) (h : RequestHead) → IsRequestAt buf spans at h → length spans ≡ 64 → at.len ≡ length buf → requests.reads buf h
reads_whole buf spans at h r room len =
    let none : drop at.len buf ≡ [] = drop_all at.len buf (omega (arith, len)) in (
      subst (λ (z : List ℕ). ReadsRequest buf h z) none r.reads,
      omega (arith, ap length r.fields, length-map (take at.headers spans) (header_bytes buf), length-map h.fields name_and_value, length-take {A = HeaderSpan}, room),
    )

pub never_whole : (buf : List ℕ) (spans : List HeaderSpan) (at : RequestSpans) (h : RequestHead) → IsRequestAt buf spans at h → at.len ≤ length buf → (at.len ≡ length buf → ⊥)
    → (k : RequestHead) → ¬ (requests.reads buf k)
never_whole buf spans at h r within apart k other =
    let same : drop at.len buf ≡ [] = (request_unique buf h k (drop at.len buf) [] r.reads other.0).1 in
    apart (omega (arith, ap length same, length-drop {A = ℕ}, within))

pub never_partial : (buf : List ℕ) → HasNoRequest buf → (k : RequestHead) → ¬ (requests.reads buf k)
never_partial buf none k other = none k [] other.0

pub never_over : (buf : List ℕ) → RequestOverflows 64 buf → (k : RequestHead) → ¬ (requests.reads buf k)
never_over buf over k other =
    let many = over [] k [] (subst (λ (z : List ℕ). ReadsRequest z k []) (sym (append-nil buf)) other.0) in
    omega (arith, many, other.1)

pub parsed_by : (buf : List ℕ) (spans : List HeaderSpan) (at : RequestSpans) (h : RequestHead) (p : ParsedHead) → IsRequestAt buf spans at h → IsCopied buf at (take at.headers spans) p → IsParsed h p
parsed_by buf spans at h p r k = record {
  method = k.method ∙ r.method;
  target = k.target ∙ r.path;
  fields = k.fields ∙ r.fields;
  minor = k.minor ∙ r.version;
}

pub all_rest : (P : HeaderSpan → Type 0) (rest more : List HeaderSpan) (at : HeaderSpan) → rest ≡ at ∷ more → All P rest → All P more
all_rest P rest more at is all = All-tail P at more (subst (λ (z : List HeaderSpan). All P z) is all)

-- one more field is copied
pub copied_next : (bytes : List ℕ) (spans rest more : List HeaderSpan) (at : HeaderSpan) (fields next : List HttpField) (f : HttpField) → rest ≡ at ∷ more → next ≡ fields ++ f ∷ []
    → f.name ≡ span_bytes bytes at.name → f.value ≡ span_bytes bytes at.value → pairs fields ++ map (header_bytes bytes) rest ≡ map (header_bytes bytes) spans
    → pairs next ++ map (header_bytes bytes) more ≡ map (header_bytes bytes) spans
copied_next bytes spans rest more at fields next f is more_is name value same =
    let after = map (header_bytes bytes) more in
    let grown : pairs next ≡ pairs fields ++ pairs (f ∷ []) = ap pairs more_is ∙ map-append (λ (g : HttpField). (g.name, g.value)) fields (f ∷ []) in
    ap (λ (z : List (List ℕ × List ℕ)). z ++ after) grown ∙ append_assoc (pairs fields) (pairs (f ∷ [])) after
    ∙ ap₂ (λ (x y : List ℕ). pairs fields ++ ((x, y) ∷ after)) name value
    ∙ ap (λ (z : List HeaderSpan). pairs fields ++ map (header_bytes bytes) z) (sym is) ∙ same
