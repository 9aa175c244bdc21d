use Rattle.std.proofs.Common.{◌≡◌, ◌+◌, ◌++◌, ◌∷◌, [], Some, take, refl, sym, ap, ◌∙◌}
use Rattle.std.specs.List.{flat_map}
use Rattle.std.proofs.lemmas.List.{append-nil, take_more}
use Rattle.std.proofs.lemmas.Grind.{flat_map-append}
use Rattle.mail_records.specs.Tables.{lookup}
use Rattle.mail_records.proofs.Searches.{lookup_at}
use Rattle.mail_records.proofs.fills.collect_entries.Goals as goal

pub loop-row-preserved : goal.loop-row-preserved
loop-row-preserved g c =
    let e = g.E.Entry in
    let number = g.R.Record.number in
    let rows = c.args.rows.now in
    let i = c.loop-row.row-index in
    let row = c.row-item.result in
    let there : lookup number (number row) rows ≡ Some row =
    lookup_at number (number row) rows i row c.requires c.loop-row-test.true c.row-item.is refl in
    let step : take (i + 1) rows ≡ take i rows ++ row ∷ [] = take_more rows i row c.loop-row-test.true ∙ ap (λ x. take i rows ++ x ∷ []) (sym c.row-item.is) in
    let last : flat_map e.keys (row ∷ []) ≡ e.keys row = append-nil (e.keys row) in
    c.in_ok-push_entries.ensures rows there
    ∙ (ap (λ ks. ks ++ e.keys row) c.loop-row.invariant
    ∙ (ap (λ ks. flat_map e.keys (take i rows) ++ ks) (sym last)
    ∙ (sym (flat_map-append e.keys (take i rows) (row ∷ [])) ∙ ap (flat_map e.keys) (sym step))))
