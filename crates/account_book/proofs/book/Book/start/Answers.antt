use Rattle.std.proofs.Common.{◌≡◌, sym, ◌∙◌, subst}
use Rattle.account_book.specs.Opening.{IsAsBefore, IsLeftBefore, IsOpened, IsReadyLoaded, IsStartFault}
use Rattle.account_book.proofs.Answering.{IfErr-both, IfErr-weaken, IfOk-both, IfOk-weaken}
use Rattle.account_book.proofs.Opened.{ready_loaded}
use Rattle.account_book.proofs.Starting.{as_before, as_unknown, fault_loaded, opened_over}
use Rattle.account_book.proofs.book.Book.start.Goals as goal

pub returns-in-Ok-clause-opened : goal.returns-in-Ok-clause-opened
returns-in-Ok-clause-opened g c =
    let kept = g.K.Keeper.kept in
    IfOk-both c.over.result _ _ (λ b. IsOpened (kept c.args.keeper) (kept b.keeper) b.history)
    (λ b same makes. opened_over kept c.load.new.self b.keeper (kept c.args.keeper) c.in-Ok.content b.history same c.in-Ok.ensures.loaded c.in-Ok.ensures.kept makes)
    c.over.ensures.keeper c.over.ensures.makes

pub returns-in-Ok-clause-opened_over : goal.returns-in-Ok-clause-opened_over
returns-in-Ok-clause-opened_over g c =
    IfOk-both c.over.result _ _ (λ b. b.opened_over ≡ b.keeper) (λ b over same. over ∙ sym same) c.over.ensures.opened_over c.over.ensures.keeper

pub returns-in-Ok-clause-ready : goal.returns-in-Ok-clause-ready
returns-in-Ok-clause-ready g c =
    let whole = g.R.Rules.is_whole c.args.rules in
    let kept = g.K.Keeper.kept in
    let image = g.K.Keeper.image in
    IfOk-weaken c.over.result _ (λ b. IsReadyLoaded whole (kept c.args.keeper) (image c.args.keeper) (kept b.keeper) (image b.keeper))
    (λ b same. subst (λ z. IsReadyLoaded whole (kept c.args.keeper) (image c.args.keeper) (kept z) (image z)) (sym same)
    (ready_loaded whole (kept c.args.keeper) (kept c.load.new.self) (image c.args.keeper) (image c.load.new.self) c.in-Ok.content c.in-Ok.ensures.kept c.load.ensures.image))
    c.over.ensures.keeper

pub returns-in-Ok-clause-left : goal.returns-in-Ok-clause-left
returns-in-Ok-clause-left g c =
    let kept = g.K.Keeper.kept in
    let image = g.K.Keeper.image in
    IfOk-weaken c.over.result _ (λ b. IsLeftBefore (image c.args.keeper) (kept b.keeper) (image b.keeper))
    (λ b same. subst (λ z. IsLeftBefore (image c.args.keeper) (kept z) (image z)) (sym same) c.load.ensures.image)
    c.over.ensures.keeper

pub returns-in-Ok-clause-no_faults : goal.returns-in-Ok-clause-no_faults
returns-in-Ok-clause-no_faults g c =
    let loads = g.K.Keeper.load_faults in
    let appends = g.K.Keeper.append_faults in
    let replaces = g.K.Keeper.replace_faults in
    let k = c.args.keeper in
    IfOk-weaken c.over.result _ (λ b. (loads b.keeper ≡ loads k) × (appends b.keeper ≡ appends k) × (replaces b.keeper ≡ replaces k))
    (λ b same. subst (λ z. (loads z ≡ loads k) × (appends z ≡ appends k) × (replaces z ≡ replaces k)) (sym same) (c.in-Ok.ensures.cause, c.load.ensures.append_count, c.load.ensures.replace_count))
    c.over.ensures.keeper

pub returns-in-Ok-clause-cause : goal.returns-in-Ok-clause-cause
returns-in-Ok-clause-cause g c =
    let whole = g.R.Rules.is_whole c.args.rules in
    let kept = g.K.Keeper.kept in
    let loads = g.K.Keeper.load_faults in
    let old = kept c.args.keeper in
    IfErr-both c.over.result _ _ (λ e. IsStartFault whole old (kept e.1) (loads c.args.keeper) (loads e.1) e.0)
    (λ e fault same. subst (λ z. IsStartFault whole old (kept z) (loads c.args.keeper) (loads z) e.0) (sym same)
    (fault_loaded whole c.in-Ok.content old (kept c.load.new.self) (loads c.args.keeper) (loads c.load.new.self) e.0 c.in-Ok.ensures.loaded c.in-Ok.ensures.kept c.in-Ok.ensures.cause fault))
    c.over.ensures.fault c.over.ensures.same

pub returns-in-Ok-clause-same : goal.returns-in-Ok-clause-same
returns-in-Ok-clause-same g c =
    let kept = g.K.Keeper.kept in
    IfErr-weaken c.over.result _ (λ e. IsAsBefore (kept c.args.keeper) (kept e.1))
    (λ e same. subst (λ z. IsAsBefore (kept c.args.keeper) (kept z)) (sym same) (as_before c.in-Ok.content (kept c.args.keeper) (kept c.load.new.self) c.in-Ok.ensures.kept))
    c.over.ensures.same

pub returns-in-Ok-clause-image : goal.returns-in-Ok-clause-image
returns-in-Ok-clause-image g c =
    let kept = g.K.Keeper.kept in
    let image = g.K.Keeper.image in
    IfErr-weaken c.over.result _ (λ e. IsLeftBefore (image c.args.keeper) (kept e.1) (image e.1))
    (λ e same. subst (λ z. IsLeftBefore (image c.args.keeper) (kept z) (image z)) (sym same) c.load.ensures.image)
    c.over.ensures.same

pub returns-in-Ok-clause-counts : goal.returns-in-Ok-clause-counts
returns-in-Ok-clause-counts g c =
    let appends = g.K.Keeper.append_faults in
    let replaces = g.K.Keeper.replace_faults in
    IfErr-weaken c.over.result _ (λ e. (appends e.1 ≡ appends c.args.keeper) × (replaces e.1 ≡ replaces c.args.keeper))
    (λ e same. (subst (λ z. appends z ≡ appends c.args.keeper) (sym same) c.load.ensures.append_count, subst (λ z. replaces z ≡ replaces c.args.keeper) (sym same) c.load.ensures.replace_count))
    c.over.ensures.same

pub returns-in-Err-Failed-clause-same : goal.returns-in-Err-Failed-clause-same
returns-in-Err-Failed-clause-same g c = as_unknown (g.K.Keeper.kept c.args.keeper) (g.K.Keeper.kept c.load.new.self) c.in-Err-Failed.ensures.kept

pub returns-clause-same : goal.returns-clause-same
returns-clause-same g c = as_unknown (g.K.Keeper.kept c.args.keeper) (g.K.Keeper.kept c.load.new.self) c.in-Err-NoMemory.ensures.kept
