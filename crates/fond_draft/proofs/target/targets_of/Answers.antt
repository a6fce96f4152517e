use Rattle.std.proofs.Common.{◌≡◌, ◌∙◌, sym, ap}
use Rattle.std.proofs.lemmas.Option.{same_Some}
use Rattle.fond_task.specs.declared.task.Act.{Act}
use Rattle.fond_draft.proofs.target.targets_of.Goals as goal

pub all_targets-requires-clause-each : goal.all_targets-requires-clause-each
all_targets-requires-clause-each c = λ act entries at has.
    let same : act.unfair ≡ c.get.result.now.unfair = ap (λ (a : Act). a.unfair) (same_Some act c.get.result.now (sym at ∙ c.get.ensures)) in
    (c.requires.has act at).unfair (same ∙ c.if-get.true) entries has

pub first_target-requires-clause-some : goal.first_target-requires-clause-some
first_target-requires-clause-some c = λ act at.
    let same : act.unfair ≡ c.get.result.now.unfair = ap (λ (a : Act). a.unfair) (same_Some act c.get.result.now (sym at ∙ c.get.ensures)) in
    (c.requires.has act at).fair (same ∙ c.if-get.false)
