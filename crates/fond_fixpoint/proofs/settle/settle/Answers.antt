use Rattle.std.proofs.Common.{◌≡◌, ◌∙◌, ◌++◌, List, map, take, drop, length, sym, subst, arith, rules}
use Rattle.std.specs.Prelude.{IfOk}
use Rattle.std.proofs.lemmas.Grind.{common_steps}
use Rattle.std.proofs.lemmas.Iterator.{YieldsList-from_map, YieldsList-from_slice, items_from_collect}
use Rattle.fond_fixpoint.specs.declared.fate.Fate.{Fate}
use Rattle.fond_fixpoint.specs.Begun.{begun}
use Rattle.fond_fixpoint.specs.Fates.{AreSettled}
use Rattle.fond_fixpoint.specs.Rounds.{IsRound}
use Rattle.fond_fixpoint.proofs.Rounds.{begun_round}
use Rattle.fond_fixpoint.proofs.settle.settle.Goals as goal

pub settle_all-requires-clause-begun : goal.settle_all-requires-clause-begun
settle_all-requires-clause-begun c =
    let goals = c.args.goals.now in
    let all : IfOk c.collect.result (λ fates. fates.items ≡ map begun goals) = items_from_collect _ c.collect.ensures.ran (YieldsList-from_map _ _ (YieldsList-from_slice goals cc) c.map.ensures.closure (λ x r q k. search rules)) in
    let items : c.in_ok-fates.fates.items ≡ map begun goals = subst (λ r. IfOk r (λ fates. fates.items ≡ map begun goals)) c.in_ok-fates.was all in
    let P : List Fate → Type 0 = λ fates. IsRound goals c.args.moves.now 0 1 fates in
    subst P (sym (c.deref_mut.ensures.value ∙ items)) (begun_round goals c.args.moves.now)

pub returns : goal.returns
returns c =
    let new = c.settle_all.new.fates in
    let old = c.in_ok-fates.fates in
    let long : length new ≡ old.len = omega (arith, c.settle_all.auto.fates, c.deref_mut.ensures.len) in
    let same : take old.len (new ++ drop (length new) old.items) ≡ new = grind (arith, common_steps, long) in
    let P : List Fate → Type 0 = λ fates. AreSettled c.args.goals.now c.args.moves.now fates in
    subst P (sym same) c.in_ok-settle_all.ensures
