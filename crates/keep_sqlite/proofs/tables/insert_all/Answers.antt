use Rattle.std.proofs.Common.{◌≡◌, ◌<◌, suc, length, get_or, sym, ap, subst, ◌∙◌, arith, rules}
use Rattle.sqlite.specs.Held.{state}
use Rattle.keep_sqlite.proofs.Replacing.{IsInserting, insert_more}
use Rattle.keep_sqlite.proofs.tables.insert_all.Goals as goal

pub loop-row-preserved : goal.loop-row-preserved
loop-row-preserved g c =
    let old = state g.S.Store c.args.tx.now.conn.now in
    let mid = state g.S.Store c.loop-row.tx.conn.now in
    let new = state g.S.Store c.insert.new.tx.conn.now in
    let rows = c.args.rows.now in
    let was = c.loop-row.invariant in
    let next : c.in_ok-last.last ≡ suc c.loop-row.last = c.in_ok-last.ensures in
    let item : c.as_slice.result.now ≡ get_or rows c.loop-row.row-index c.row-item.result = c.as_slice.ensures ∙ c.row-item.is in
    let low : c.loop-row.row-index < length rows = search rules in
    record {
      reference = c.insert.ensures.same_reference ∙ was.reference;
      last = omega (arith, next, was.last);
      inserting = subst (IsInserting old new rows) (sym next)
          (insert_more old mid new rows c.loop-row.last was.inserting c.insert.ensures.crash (subst (λ i. i < length rows) (sym was.last) low) c.row-item.result c.as_slice.result.now (item ∙ ap (λ i. get_or rows i c.row-item.result) (sym was.last))
          (λ clean inside k shows number. c.in_ok-insert.ensures.told clean inside k shows (next ∙ number)) c.insert.ensures.keeps c.in_ok-insert.ensures.inside);
    }
