use Rattle.std.proofs.Common.{◌≡◌, ℕ, slice_get, get_or, sym, ap, ◌∙◌, subst, ⊎_elim, arith}
use Rattle.std.proofs.lemmas.Bool.{cases_lt}
use Rattle.std.proofs.lemmas.Option.{same_Some, slice_get-get_or}
use Rattle.fond_weak.specs.Trees.{IsTried}
use Rattle.fond_weak.proofs.Found.{more_none, more_then, tried_more}
use Rattle.fond_weak.proofs.opening.try_acts.Goals as goal

pub loop-act-preserved : goal.loop-act-preserved
loop-act-preserved c =
    let setting = c.args.setting.now in
    let state = c.args.node.now.state in
    let acts = c.args.acts.now in
    let i = c.loop-act.act-index in
    let old = c.loop-act.tree.states in
    let new = c.try_act.new.tree.states in
    let before = c.loop-act.invariant in
    let more = c.in_ok-try_act.ensures.more in
    record {
      next_long = c.try_act.ensures.next_long ∙ before.next_long;
      tree = c.in_ok-try_act.ensures.tree;
      more = more_then c.args.tree.now.states old new before.more more;
      tried = λ k a small at holds. ⊎_elim
          (λ early. tried_more setting.layers.now setting.pairs.now old new more state (get_or acts k 0) a (before.tried k a early at holds))
          (λ late.
          let same : i ≡ k = omega (arith, small, late) in
          let P : ℕ → Type 0 = λ j. IsTried setting.layers.now setting.pairs.now new state (get_or acts j 0) a in
          subst P same (c.in_ok-try_act.ensures.tried a (ap (λ j. slice_get setting.task.now.acts (get_or acts j 0)) same ∙ at) holds))
          (cases_lt k i);
    }

pub returns-clause-tried : goal.returns-clause-tried
returns-clause-tried c = λ number a at holds.
    let acts = c.args.acts.now in
    let has = c.requires.candidates.all number a at holds in
    let same : get_or acts has.0 0 ≡ number = same_Some _ _ (sym (slice_get-get_or acts has.0 0 has.1) ∙ slice_get-get_or acts has.0 number has.1) ∙ has.2 in
    let P : ℕ → Type 0 = λ n. IsTried c.args.setting.now.layers.now c.args.setting.now.pairs.now c.loop-act.tree.states c.args.node.now.state n a in
    subst P same (c.loop-act.invariant.tried has.0 a (omega (arith, has.1, c.loop-act-test.false)) (ap (slice_get c.args.setting.now.task.now.acts) same ∙ at) holds)

pub loop-act-init : goal.loop-act-init
loop-act-init c = record { next_long = c.requires.next_long; tree = c.requires.tree; more = more_none c.args.tree.now.states; tried = λ k a small. absurd (omega (arith, small)) }
