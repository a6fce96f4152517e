use Rattle.std.proofs.Common.{ℕ, List, Bool, sym, ap, ◌∙◌}
use Rattle.std.specs.Prelude.{◌&&◌}
use Rattle.std.specs.List.{list_all, list_any}
use Rattle.std.proofs.lemmas.Bool.{cond-false}
use Rattle.fond_fixpoint.specs.Fates.{fate_of, is_kept, is_won}
use Rattle.fond_fixpoint.proofs.earn.wins.Goals as goal

pub returns-else-is_unfair : goal.returns-else-is_unfair
returns-else-is_unfair c =
    let may : List ℕ → Bool = λ nodes. list_all (λ node. is_kept (fate_of c.args.fates.now node)) nodes && list_any (λ node. is_won (fate_of c.args.fates.now node)) nodes in
    c.may_win.ensures ∙ ap may c.targets-targets.ensures ∙ sym (cond-false _ _ _ (sym c.is_unfair.ensures ∙ c.if-is_unfair.false))
