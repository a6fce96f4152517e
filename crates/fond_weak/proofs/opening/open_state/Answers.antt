use Rattle.std.proofs.Common.{◌≡◌, List, Bool, sym, ◌∙◌, subst}
use Rattle.std.proofs.lemmas.Option.{same_Some}
use Rattle.std.proofs.lemmas.Result.{on_ok_weaker}
use Rattle.fond_weak.specs.Settings.{IsOpenedIn}
use Rattle.fond_weak.proofs.opening.open_state.Goals as goal

pub returns-clause-opened : goal.returns-clause-opened
returns-clause-opened c =
    let node = c.in_ok-node.node in
    on_ok_weaker c.open_node.result
    (λ opened state at.
    let same : node.state ≡ state = same_Some node.state state (sym c.in_ok-node.ensures.state ∙ at) in
    subst (λ (s : List Bool). IsOpenedIn c.args.setting.now c.open_node.new.tree.states s) same opened)
    c.open_node.ensures.opened
