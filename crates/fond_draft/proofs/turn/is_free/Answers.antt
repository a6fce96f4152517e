use Rattle.std.proofs.Common.{◌∙◌, ℕ, Some, length, sym, ap, subst}
use Rattle.std.specs.Prelude.{Decides}
use Rattle.std.proofs.lemmas.List.{length-map}
use Rattle.fond_task.specs.Layers.{CubeView}
use Rattle.fond_rules.specs.Belongs.{ArePairsOver}
use Rattle.fond_rules.specs.Targets.{AllContradict}
use Rattle.fond_draft.proofs.Fitting.{fitting_over}
use Rattle.fond_draft.proofs.Turned.{turn_long}
use Rattle.fond_draft.proofs.turn.is_free.Goals as goal

pub all_contradict-requires : goal.all_contradict-requires
all_contradict-requires c =
    let draft = c.args.draft.now in
    let long = ap length c.in_ok-cube.ensures ∙ length-map c.args.turn.now.state (λ value. Some value) ∙ turn_long c.args.t.now c.args.turn.now c.requires.turn in
    subst (λ (n : ℕ). ArePairsOver n draft.pairs) (sym long) (fitting_over c.args.t.now draft.layers draft.pairs c.requires.draft.pairs)

pub returns : goal.returns
returns c = subst (λ (cube : CubeView). Decides c.all_contradict.result (AllContradict c.args.draft.now.pairs c.args.turn.now.act cube)) c.in_ok-cube.ensures c.all_contradict.ensures
