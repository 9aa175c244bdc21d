use Rattle.std.proofs.Common.{◌≡◌, [], ◌∷◌, Ok, pos, subst, sym, ◌∙◌, w64}
use Rattle.std.proofs.lemmas.Int.{to_z-of_z}
use mir.Val.{SFits, to_z, of_z}
use Rattle.sqlite.specs.declared.types.Value.TheVariants.{Int, Blob}
use Rattle.sqlite.specs.State.{ExecutesInside}
use Rattle.sqlite.specs.Held.{state}
use Rattle.keep_sqlite.proofs.Texts.{insert_text}
use Rattle.keep_sqlite.proofs.Inserting.{inserts}
use Rattle.keep_sqlite.proofs.tables.insert.Goals as goal

pub returns-clause-told : goal.returns-clause-told
returns-clause-told g c clean inside k shows number =
    let is = c.in-Ok.ensures.1 in
    let place : to_z w64 (of_z w64 c.in-Ok.place) ≡ pos c.args.number = to_z-of_z w64 c.in-Ok.place (subst (SFits w64) (sym is) c.in-Ok.ensures.0) ∙ is in
    inserts _ _ k c.args.row.now c.args.number c.in_ok-execute.field-0 shows number
    (subst (λ z. ExecutesInside 0 insert_text (Int z ∷ Blob c.args.row.now ∷ []) (state g.S.Store c.args.tx.now.conn.now) (state g.S.Store c.execute.new.self.conn.now) (Ok c.in_ok-execute.field-0)) place (c.in_ok-execute.ensures.runs clean inside))
