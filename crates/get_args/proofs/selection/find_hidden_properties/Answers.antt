use Rattle.std.proofs.Common.{◌≡◌, ◌∙◌, sym, ap, map, option_map, Some, None}
use Rattle.get_args.specs.Selection.{names_in, hidden_of}
use Rattle.get_args.proofs.Unnamed.{none_hidden}
use Rattle.get_args.proofs.selection.find_hidden_properties.Goals as goal

pub returns-in_ok-collect_hidden-in-Some-clause-hidden : goal.returns-in_ok-collect_hidden-in-Some-clause-hidden
returns-in_ok-collect_hidden-in-Some-clause-hidden c =
    let properties = map (λ t. t.now) c.args.properties.now in
    let asked : Some (map (λ t. t.now) c.as_slice-in-Some.result.now) ≡ names_in c.args.args.now =
    ap (λ xs. Some (map (λ t. t.now) xs)) c.as_slice-in-Some.ensures.value
    ∙ (sym (ap (option_map (λ v. map (λ t. t.now) v.items)) c.in-Some.is) ∙ c.in_ok-names.ensures.strings) in
    c.in_ok-collect_hidden-in-Some.ensures ∙ ap (λ names. hidden_of names properties) asked

pub returns-in-None-clause-hidden : goal.returns-in-None-clause-hidden
returns-in-None-clause-hidden c =
    let properties = map (λ t. t.now) c.args.properties.now in
    let asked : None ≡ names_in c.args.args.now =
    sym (ap (option_map (λ v. map (λ t. t.now) v.items)) c.in-None.is) ∙ c.in_ok-names.ensures.strings in
    ap (map (λ t. t.now)) c.new.ensures.items ∙ sym (none_hidden properties) ∙ ap (λ names. hidden_of names properties) asked
