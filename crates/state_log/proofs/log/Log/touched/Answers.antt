use Rattle.std.proofs.Common.{◌≡◌, ◌+◌, ◌-◌, ◌≤◌, ◌<◌, ◌∙◌, ap, sym, subst, map, length, List}
use Rattle.std.specs.List.{All}
use Rattle.mail_records.specs.States.{AreNamed, ids_between}
use Rattle.state_log.specs.Logs.{ids_in, numbers_named}
use Rattle.state_log.specs.Positions.{number_at, positions_of}
use Rattle.state_log.specs.declared.notes.Note.{Note}
use Rattle.state_log.proofs.Named.{AreNamed-sorted}
use Rattle.state_log.proofs.Placed.{numbers-between, span-bounds}
use Rattle.state_log.proofs.log.Log.touched.Goals as goal

pub collect_numbers_at-requires : goal.collect_numbers_at-requires
collect_numbers_at-requires c =
    let kind = c.args.kind in
    let from = c.args.from in
    let upto = c.args.upto in
    let now = c.args.self.now in
    subst (λ (ns : List Note). All (λ p. (c.self.inside.floor < p) × (p ≤ c.self.inside.floor + length ns)) c.positions_between-positions.result.now) (sym c.deref.ensures.value)
    (subst (λ ps. All (λ p. (c.self.inside.floor < p) × (p ≤ c.self.inside.floor + length c.self.inside.notes.items)) ps) (sym c.positions_between-positions.ensures)
    (subst
    (λ v. All (λ p. (v.floor < p) × (p ≤ v.floor + length v.notes)) (positions_of kind (now.floor + (from - now.floor)) (ids_between now.floor from upto (ids_in now.notes))))
    (sym c.self.view_is) (span-bounds kind now from upto c.requires.order c.requires.within)))

pub returns : goal.returns
returns c =
    let kind = c.args.kind in
    let from = c.args.from in
    let upto = c.args.upto in
    let now = c.args.self.now in
    let ids = ids_between now.floor from upto (ids_in now.notes) in
    let ps = positions_of kind (now.floor + (from - now.floor)) ids in
    let numbers : c.in_ok-numbers.numbers.items ≡ numbers_named kind ids =
    c.in_ok-numbers.ensures
    ∙ (ap (map (number_at c.self.inside.floor (ids_in c.deref.result.now))) c.positions_between-positions.ensures
    ∙ (ap (λ (ns : List Note). map (number_at c.self.inside.floor (ids_in ns)) ps) c.deref.ensures.value
    ∙ (ap (λ v. map (number_at v.floor (ids_in v.notes)) ps) c.self.view_is
    ∙ numbers-between kind now.floor (ids_in now.notes) from upto))) in
    subst (AreNamed kind ids) (sym c.from_vec.ensures)
    (AreNamed-sorted kind ids c.in_ok-numbers.numbers.items c.put_in_order.new.numbers.items numbers c.put_in_order.ensures.rise c.put_in_order.ensures.same)
