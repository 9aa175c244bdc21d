use Rattle.std.proofs.Common.{◌≡◌, ap, ◌∙◌, subst}
use Rattle.std.specs.List.{flat_map}
use Rattle.mail_records.specs.Tables.{IsTable}
use Rattle.mail_records.specs.Orders.{has_key, keys_of}
use Rattle.mail_records.proofs.SortedKeys.{has_rows}
use Rattle.mail_records.proofs.fills.fill.Goals as goal

pub returns : goal.returns
returns g c =
    let e = g.E.Entry in
    let rows = c.args.table.now.rows in
    let same : c.as_slice.result.now ≡ rows = c.as_slice.ensures.rows in
    let table : IsTable g.R.Record.number rows = subst (IsTable g.R.Record.number) same c.as_slice.ensures.table in
    let made : keys_of g.R.Record.number e.owner e.key rows c.in_ok-entries.entries.items ≡ flat_map e.keys rows =
    subst (λ rs. keys_of g.R.Record.number e.owner e.key rs c.in_ok-entries.entries.items ≡ flat_map e.keys rs) same c.in_ok-entries.ensures in
    record {
      rise = c.sort_entries.ensures.rise;
      exactly = λ k.
          c.sort_entries.ensures.same k
          ∙ (ap (has_key k) made ∙ has_rows g.R.Record.number e.keys g.met.E.Entry.keys_number k rows table);
    }
