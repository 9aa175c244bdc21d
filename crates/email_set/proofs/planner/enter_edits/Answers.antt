use Rattle.std.proofs.Common.{◌≡◌, ◌∙◌, ◌∷◌, [], List, length, sym, ap, subst, arith}
use Rattle.std.specs.List.{AllByRecursion}
use Rattle.mail_records.specs.Contents.{Content}
use Rattle.mail_records.specs.declared.edits.Edit.{Edit}
use Rattle.set_parts.specs.Steps.{Progress, with_edits}
use Rattle.email_set.specs.Views.{Follows, IsOfEmail}
use Rattle.email_set.proofs.Entering.{no_items, one_then, with_none}
use Rattle.email_set.proofs.planner.enter_edits.Goals as goal

pub loop-edit-preserved : goal.loop-edit-preserved
loop-edit-preserved c =
    λ (base : Content) (s : Progress) (f : Follows base c.args.planner.now s) (all : AllByRecursion IsOfEmail c.args.edits).
    let was = c.loop-edit.invariant base s f all in
    let edit = c.in-Some.edit in
    let rest = c.pop_front.new.self.items in
    let own : AllByRecursion IsOfEmail (edit ∷ rest) = subst (AllByRecursion IsOfEmail) c.in-Some.ensures.items was.2 in (
      with_edits (edit ∷ []) was.0,
      c.in_ok-enter_edit.ensures base was.0 was.1 own.0,
      own.1,
      one_then was.0 edit rest ∙ (ap (λ (es : List Edit). with_edits es was.0) (sym c.in-Some.ensures.items) ∙ was.3),
    )

pub returns : goal.returns
returns c =
    λ (base : Content) (s : Progress) (f : Follows base c.args.planner.now s) (all : AllByRecursion IsOfEmail c.args.edits).
    let was = c.loop-edit.invariant base s f all in
    let none : length c.loop-edit.rest.items ≡ 0 = omega (arith, c.in_default.ensures.cases.0, c.loop-edit.rest.ok) in
    with_none base c.loop-edit.planner (with_edits c.args.edits s) was.0 was.1 (ap (λ (es : List Edit). with_edits es was.0) (sym (no_items c.loop-edit.rest.items none)) ∙ was.3)
