use Rattle.std.proofs.Common.{◌≡◌, ◌∙◌, map, length, option_map, slice_get, Some, None, refl, sym, ap}
use Rattle.std.proofs.lemmas.Option.{slice_get-map, slice_get_past, slice_get_read}
use Rattle.client_cache.specs.Views.{list_view}
use Rattle.client_cache.proofs.requests.lend_list.Goals as goal

pub returns-in-Some : goal.returns-in-Some
returns-in-Some c =
    let ls = c.as_slice.result.now in
    let look = c.in-Some.ensures.lookup in
    let here : slice_get ls c.args.index ≡ Some c.in-Some.list.now = slice_get_read ls (length ls) c.args.index c.in-Some.list.now refl look.3.0 look.1 in
    let kept : map list_view ls ≡ c.args.cache.now.lists = ap (map list_view) c.as_slice.ensures ∙ ap (λ v. v.lists) c.cache.view_is in
    sym (ap (λ vs. slice_get vs c.args.index) (sym kept) ∙ (slice_get-map list_view ls c.args.index ∙ ap (option_map list_view) here))

pub returns-in-None : goal.returns-in-None
returns-in-None c =
    let ls = c.as_slice.result.now in
    let look = c.in-None.ensures.lookup in
    let past : slice_get ls c.args.index ≡ None = slice_get_past ls c.args.index look.3 in
    let kept : map list_view ls ≡ c.args.cache.now.lists = ap (map list_view) c.as_slice.ensures ∙ ap (λ v. v.lists) c.cache.view_is in
    sym (ap (λ vs. slice_get vs c.args.index) (sym kept) ∙ (slice_get-map list_view ls c.args.index ∙ ap (option_map list_view) past))
