use Rattle.std.proofs.Common.{refl, sym, true≢false}
use Rattle.method_args.proofs.IdTexts.{id_none, id_other, id_reads}
use Rattle.client_cache.proofs.ids.read_number.Goals as goal

pub returns-then-is_same_kind : goal.returns-then-is_same_kind
returns-then-is_same_kind c = sym (id_reads c.args.kind c.args.string.now c.in-Ok.id c.in-Ok.ensures.ok.0 c.in-Ok.ensures.ok.1 (c.if-is_same_kind.ensures.same refl))

pub returns-else-is_same_kind : goal.returns-else-is_same_kind
returns-else-is_same_kind c = sym (id_other c.args.kind c.args.string.now c.in-Ok.id c.in-Ok.ensures.ok.1 (λ same. true≢false (sym (c.if-is_same_kind.ensures.other same))))

pub returns-in-Err : goal.returns-in-Err
returns-in-Err c = sym (id_none c.args.kind c.args.string.now c.in-Err.ensures.err)
