use Rattle.std.proofs.Common.{◌≡◌, Bool, Some, length, sym, ap, ◌∙◌, subst}
use Rattle.std.specs.Prelude.{Decides}
use Rattle.std.proofs.lemmas.List.{length-map}
use Rattle.std.proofs.lemmas.List.Elements.{All-contains}
use Rattle.fond_task.specs.Layers.{CubeView}
use Rattle.fond_task.specs.declared.rule.Pair.{Pair}
use Rattle.fond_rules.specs.Targets.{AllContradict}
use Rattle.fond_weak.proofs.Pairs.{barred_Decides}
use Rattle.fond_weak.proofs.setting.Setting.is_barred.Goals as goal

pub all_contradict-requires : goal.all_contradict-requires
all_contradict-requires c = λ k d small. c.args.self.now.pairs_over k d small ∙ sym c.requires

pub returns : goal.returns
returns c = λ state same.
    let setting = c.args.self.now in
    let pairs = setting.pairs.now in
    let long : length state ≡ length setting.task.now.atoms = sym (length-map state (λ (value : Bool). Some value)) ∙ sym (ap length same) ∙ c.requires in
    let Over : Pair → Type 0 = λ pair. length pair.cond ≡ length setting.task.now.atoms in
    let P : CubeView → Type 0 = λ cube. Decides c.all_contradict.result (AllContradict pairs c.args.act cube) in
    barred_Decides pairs c.args.act state c.all_contradict.result (λ pair has. All-contains Over pairs pair setting.pairs_over has ∙ sym long) (subst P same c.all_contradict.ensures)
