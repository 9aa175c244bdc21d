-- The order of keys is total, and equal keys are one.
use Rattle.std.specs.Cmp.{IsTotalOrder, then_total, on_total, nat_cmp_total, int_cmp_total}
use Rattle.std.specs.Cmp.Lexicographic.{options_total, nat_list_cmp_total}
use Rattle.mail_records.specs.Orders.{Key, key_cmp}

pub key_total : IsTotalOrder key_cmp
key_total =
    then_total (on_total (λ (k : Key). k.group) (options_total nat_cmp_total))
    (then_total (on_total (λ (k : Key). k.text) nat_list_cmp_total)
    (then_total (on_total (λ (k : Key). k.received) int_cmp_total)
    (then_total (on_total (λ (k : Key). k.number) nat_cmp_total) (on_total (λ (k : Key). k.place) nat_cmp_total))))
