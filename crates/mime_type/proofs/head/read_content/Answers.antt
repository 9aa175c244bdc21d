use Rattle.std.proofs.Common.{◌≡◌, IfOk, option_map, subst}
use Rattle.mime_type.specs.Grammar.{Kind}
use Rattle.mime_type.specs.Content.{type_of, disposition_of, charset_of, boundary_of, media_of, name_of}
use Rattle.mime_type.specs.Head.{kind_in}
use Rattle.mime_type.proofs.head.read_content.Goals as goal

pub returns-clause-media : goal.returns-clause-media
returns-clause-media c =
    subst (λ t. IfOk c.read_kinds.result (λ x. x.media ≡ media_of (type_of c.args.digest t))) c.in_ok-kind_text.ensures c.read_kinds.ensures.media

pub returns-clause-charset : goal.returns-clause-charset
returns-clause-charset c =
    subst (λ t. IfOk c.read_kinds.result (λ x. x.charset ≡ charset_of (type_of c.args.digest t))) c.in_ok-kind_text.ensures c.read_kinds.ensures.charset

pub returns-clause-boundary : goal.returns-clause-boundary
returns-clause-boundary c =
    subst (λ t. IfOk c.read_kinds.result (λ x. x.boundary ≡ boundary_of (type_of c.args.digest t))) c.in_ok-kind_text.ensures c.read_kinds.ensures.boundary

pub returns-clause-disposition : goal.returns-clause-disposition
returns-clause-disposition c =
    subst (λ t. IfOk c.read_kinds.result (λ x. x.disposition ≡ option_map (λ (k : Kind). k.kind) (disposition_of t))) c.in_ok-shown_text.ensures c.read_kinds.ensures.disposition

pub returns-clause-name : goal.returns-clause-name
returns-clause-name c =
    subst (λ t. IfOk c.read_kinds.result (λ x. x.name ≡ name_of (disposition_of t) (kind_in c.args.digest c.args.bytes.now))) c.in_ok-shown_text.ensures
    (subst (λ t. IfOk c.read_kinds.result (λ x. x.name ≡ name_of (disposition_of c.in_ok-shown_text.shown_text) (type_of c.args.digest t))) c.in_ok-kind_text.ensures c.read_kinds.ensures.name)
