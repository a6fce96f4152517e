use Rattle.std.proofs.Common.{◌≡◌, ◌∙◌, ℕ, ◌<◌, List, Bool, true, false, Some, ap, sym, refl, arith, Decides}
use Rattle.std.specs.Prelude.{slice_get, Contains}
use Rattle.std.proofs.lemmas.Bool.{false≢true}
use Rattle.fond_task.specs.declared.task.Act.{Act}
use Rattle.fond_task.specs.declared.task.Task.{Task}
use Rattle.fond_task.specs.declared.rule.Rule.{Rule}
use Rattle.fond_task.proofs.Lists.{same_numbered}
use Rattle.fond_policy.specs.declared.item.Item.{Item}
use Rattle.fond_best.specs.Certificates.{IsNearer, IsRankedRule}
use Rattle.fond_best.proofs.ranked.is_ranked_rule.Goals as goal

module _ (task : Task) (rules : List Rule) (items : List Item) (ranks : List ℕ) (rank number : ℕ) (numbers : List ℕ) (some : 0 < rank) (rule : Rule) (has_rule : slice_get rules number ≡ Some rule) (act : Act) (has_act : slice_get task.acts rule.act ≡ Some act) where
  -- the action of a ranked rule is this one
  same_flag : (ranked : IsRankedRule task rules items ranks rank number numbers) → ranked.act.unfair ≡ act.unfair
  same_flag ranked =
      let same : ranked.rule ≡ rule = same_numbered rules number ranked.rule rule ranked.has_rule has_rule in
      ap (λ (a : Act). a.unfair) (same_numbered task.acts rule.act ranked.act act (ap (λ (r : Rule). slice_get task.acts r.act) (sym same) ∙ ranked.has_act) has_act)

  -- a rule of an unfair action is ranked if each item is nearer
  by_each : (told : Bool) → act.unfair ≡ true → Decides told ((other : ℕ) → Contains numbers other → IsNearer items ranks rank other) → Decides told (IsRankedRule task rules items ranks rank number numbers)
  by_each told flag decides = (
    λ is. record { some = some; rule = rule; has_rule = has_rule; act = act; has_act = has_act; fair = λ fair. absurd (false≢true (sym fair ∙ flag)); unfair = λ unfair. decides.0 is },
    λ ranked. decides.1 (ranked.unfair (same_flag ranked ∙ flag)),
  )

  -- a rule of a fair action is ranked if some item is nearer
  by_some : (told : Bool) → act.unfair ≡ false → Decides told ((other : ℕ) × Contains numbers other × IsNearer items ranks rank other) → Decides told (IsRankedRule task rules items ranks rank number numbers)
  by_some told flag decides = (
    λ is. record { some = some; rule = rule; has_rule = has_rule; act = act; has_act = has_act; fair = λ fair. decides.0 is; unfair = λ unfair. absurd (false≢true (sym flag ∙ unfair)) },
    λ ranked. decides.1 (ranked.fair (same_flag ranked ∙ flag)),
  )

pub returns-then-act : goal.returns-then-act
returns-then-act c =
    let cert = c.args.cert.now in
    by_each c.args.t.now cert.rules cert.items cert.ranks c.args.rank c.args.rule c.args.numbers.now (omega (arith, c.if-rank-eq0.false)) c.get.result.now c.get.ensures c.get-act.result.now c.get-act.ensures c.is_each_nearer.result c.if-act.true c.is_each_nearer.ensures

pub returns : goal.returns
returns c =
    let cert = c.args.cert.now in
    by_some c.args.t.now cert.rules cert.items cert.ranks c.args.rank c.args.rule c.args.numbers.now (omega (arith, c.if-rank-eq0.false)) c.get.result.now c.get.ensures c.get-act.result.now c.get-act.ensures c.is_some_nearer.result c.if-act.false c.is_some_nearer.ensures
