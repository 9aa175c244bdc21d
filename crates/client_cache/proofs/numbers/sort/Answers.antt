use Rattle.std.proofs.Common.{◌≡◌, ℕ, nat_cmp, Equal, ap}
use Rattle.std.specs.Ordering.{is_eq}
use Rattle.std.proofs.lemmas.Cmp.{nat_cmp_total}
use Rattle.std.proofs.lemmas.Map.Keys.{sorted_from_strictly_increasing}
use Rattle.mail_records.proofs.KeyTables.{nat_equal}
use Rattle.query_engine.proofs.Results.{sorted_is}
use Rattle.client_cache.proofs.numbers.sort.Goals as goal

apart : (a b : ℕ) → nat_cmp a b ≡ Equal → a ≡ b
apart a b e = nat_equal a b (ap is_eq e)

pub returns : goal.returns
returns c =
    sorted_is nat_cmp_total apart c.put_in_order.new.numbers.items c.args.numbers.now.items
    (sorted_from_strictly_increasing c.put_in_order.new.numbers.items c.put_in_order.ensures.rise) c.put_in_order.ensures.same
