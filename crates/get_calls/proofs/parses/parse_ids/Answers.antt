use Rattle.std.proofs.Common.{◌≡◌, ℕ, List, length, ◌≤◌, ◌∙◌, subst, sym, ap, map}
use Rattle.std.proofs.lemmas.List.{length-map}
use Rattle.method_args.specs.declared.TheConstants.{MAX_OBJECTS_PER_CALL}
use Rattle.mail_view.specs.Gets.{got}
use Rattle.mail_view.specs.Parses.{parse_asked}
use Rattle.get_calls.proofs.Parsed.{parsed}
use Rattle.get_calls.proofs.parses.parse_ids.Goals as goal

pub returns-clause-ok : goal.returns-clause-ok
returns-clause-ok c =
    let blobs = c.args.blobs.now.blobs in
    let args = c.args.args.now in
    let ids : List (List ℕ) = map (λ t. t.now) c.args.ids.now in
    let count = subst (λ n. n ≤ MAX_OBJECTS_PER_CALL) (sym (length-map c.args.ids.now (λ t. t.now))) c.if-ids-gt-MAX_OBJECTS_PER_CALL.false in
    let firsts = ap (map (λ t. t.now)) c.as_slice.ensures.value ∙ c.in_ok-firsts.ensures in
    ap (parse_asked blobs args ids) c.in_ok-wanted.ensures.ok
    ∙ parsed blobs c.in_ok-wanted.wanted args ids _ _ _ _ c.requires count firsts c.in_ok-parsed.ensures.views c.in_ok-parsed.ensures.unknown
    ∙ ap got (sym c.in_ok-write_parse_response.ensures)
