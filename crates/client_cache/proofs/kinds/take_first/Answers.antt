use Rattle.std.proofs.Common.{◌≡◌, Some, Less, Equal, Greater, map, sym, ap, ◌∙◌, arith}
use Rattle.jm_json.specs.Json.{member_of}
use Rattle.jm_json.specs.FirstMembers.{first_order}
use Rattle.jm_json.proofs.Merging.{lower_taken, upper_taken, both_taken, rises_without_first}
use Rattle.client_cache.proofs.kinds.take_first.Goals as goal

pub returns-in-Some-Less-clause-first : goal.returns-in-Some-Less-clause-first
returns-in-Some-Less-clause-first c =
    let order : first_order (map member_of c.args.lower.now.items) (map member_of c.args.upper.now.items) ≡ Some Less = sym c.compare_first_keys.ensures ∙ c.in-Some-Less.is ∙ ap Some c.in-Some-Less.field-0-is in
    upper_taken c.args.lower.now.items c.args.upper.now.items c.pop_front.new.self.items c.args.upper.now.len c.pop_front.result (omega (arith, c.args.upper.now.ok))
    c.pop_front.ensures.value c.pop_front.ensures.rest c.requires.upper order

pub returns-in-Some-Less-clause-upper : goal.returns-in-Some-Less-clause-upper
returns-in-Some-Less-clause-upper c = rises_without_first c.args.upper.now.items c.pop_front.new.self.items c.pop_front.ensures.rest c.requires.upper

pub returns-in-Some-Equal-clause-first : goal.returns-in-Some-Equal-clause-first
returns-in-Some-Equal-clause-first c =
    let order : first_order (map member_of c.args.lower.now.items) (map member_of c.args.upper.now.items) ≡ Some Equal = sym c.compare_first_keys.ensures ∙ c.in-Some-Equal.is ∙ ap Some c.in-Some-Equal.field-0-is in
    both_taken c.args.lower.now.items c.args.upper.now.items c.pop_front-in-Some-Equal.new.self.items c.pop_front-in-Some-Equal-2.new.self.items c.args.upper.now.len
    c.pop_front-in-Some-Equal-2.result (omega (arith, c.args.upper.now.ok)) c.pop_front-in-Some-Equal-2.ensures.value c.pop_front-in-Some-Equal.ensures.rest
    c.pop_front-in-Some-Equal-2.ensures.rest c.requires.upper order

pub returns-in-Some-Equal-clause-lower : goal.returns-in-Some-Equal-clause-lower
returns-in-Some-Equal-clause-lower c =
    rises_without_first c.args.lower.now.items c.pop_front-in-Some-Equal.new.self.items c.pop_front-in-Some-Equal.ensures.rest c.requires.lower

pub returns-in-Some-Equal-clause-upper : goal.returns-in-Some-Equal-clause-upper
returns-in-Some-Equal-clause-upper c =
    rises_without_first c.args.upper.now.items c.pop_front-in-Some-Equal-2.new.self.items c.pop_front-in-Some-Equal-2.ensures.rest c.requires.upper

pub returns-in-Some-Greater-clause-first : goal.returns-in-Some-Greater-clause-first
returns-in-Some-Greater-clause-first c =
    let order : first_order (map member_of c.args.lower.now.items) (map member_of c.args.upper.now.items) ≡ Some Greater = sym c.compare_first_keys.ensures ∙ c.in-Some-Greater.is ∙ ap Some c.in-Some-Greater.field-0-is in
    lower_taken c.args.lower.now.items c.args.upper.now.items c.pop_front-in-Some-Greater.new.self.items c.args.lower.now.len c.pop_front-in-Some-Greater.result
    (omega (arith, c.args.lower.now.ok)) c.pop_front-in-Some-Greater.ensures.value c.pop_front-in-Some-Greater.ensures.rest c.requires.upper order

pub returns-in-Some-Greater-clause-lower : goal.returns-in-Some-Greater-clause-lower
returns-in-Some-Greater-clause-lower c =
    rises_without_first c.args.lower.now.items c.pop_front-in-Some-Greater.new.self.items c.pop_front-in-Some-Greater.ensures.rest c.requires.lower
