use Rattle.std.proofs.Common.{◌≡◌, ◌∷◌, ◌++◌, ◌+◌, ◌∙◌, [], length, sym, ap, subst}
use Rattle.std.specs.Prelude.{slice_get}
use Rattle.std.proofs.lemmas.List.{length_push}
use Rattle.fond_policy.specs.Items.{firsts_of, first_of}
use Rattle.fond_policy.specs.Firsts.{AreFirstConditions}
use Rattle.fond_policy.proofs.Ruled.{first_at}
use Rattle.fond_policy.proofs.Apart.{first_more}
use Rattle.fond_policy.proofs.conditions.matrix_of.Goals as goal

pub loop-number-preserved : goal.loop-number-preserved
loop-number-preserved c =
    let rules = c.args.rules.now in
    let rule = c.get.result.now in
    let cubes = c.loop-number.matrix in
    let number = c.loop-number.number in
    let inv = c.loop-number.invariant in
    let pushed : c.push.new.self ≡ cubes ++ rule.cond ∷ [] = c.in_ok-push.ensures.ok in
    let at = ap (slice_get (firsts_of rules)) inv.counted ∙ first_at rules number rule c.get.ensures in
    record {
      counted = ap length pushed ∙ length_push cubes rule.cond ∙ ap (λ n. n + 1) inv.counted;
      first = subst (λ m. AreFirstConditions m (firsts_of rules)) (sym pushed) (first_more cubes (firsts_of rules) inv.first (first_of rule) at);
    }
