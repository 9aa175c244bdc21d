use Rattle.std.proofs.Common.{◌≡◌, not, map, filter, rules, sym, ap, ◌∙◌, subst}
use Rattle.std.proofs.lemmas.Fn.{filter_same}
use Rattle.jm_json.specs.Json.{member_of}
use Rattle.jm_json.specs.Order.{KeysRise}
use Rattle.mail_counts.proofs.Groups.{filter-map}
use Rattle.client_cache.specs.Records.{is_among}
use Rattle.client_cache.proofs.Kept.{rises_kept}
use Rattle.client_cache.proofs.kinds.remove_rows.Goals as goal

pub returns-clause-value : goal.returns-clause-value
returns-clause-value c =
    let kind = c.args.kind in
    let ns = c.args.numbers.now in
    let rows = c.args.rows.now.items in
    let kept : c.retain.new.self.items ≡ filter (λ m. not (is_among kind ns (member_of m))) rows =
    filter_same _ (λ m. not (is_among kind ns (member_of m))) _ (λ x b f' k. search rules) _ _ c.retain.ensures.filtered in
    ap (map member_of) kept ∙ sym (filter-map (λ m. not (is_among kind ns m)) member_of rows)

pub returns-clause-order : goal.returns-clause-order
returns-clause-order c =
    let kind = c.args.kind in
    let ns = c.args.numbers.now in
    let rows = c.args.rows.now.items in
    let kept : c.retain.new.self.items ≡ filter (λ m. not (is_among kind ns (member_of m))) rows =
    filter_same _ (λ m. not (is_among kind ns (member_of m))) _ (λ x b f' k. search rules) _ _ c.retain.ensures.filtered in
    subst KeysRise (sym (ap (map member_of) kept ∙ sym (filter-map (λ m. not (is_among kind ns m)) member_of rows)))
    (rises_kept (λ m. not (is_among kind ns m)) (map member_of rows) c.requires.order)
