use Rattle.std.proofs.Common.{inl, inr, sym, ◌∙◌}
use Rattle.std.proofs.lemmas.Bool.{false≢true}
use Rattle.std.proofs.lemmas.Result.{on_ok_weaker}
use Rattle.fond_weak.proofs.Found.{more_none}
use Rattle.fond_weak.proofs.opening.try_act.Goals as goal

pub returns-then-not-applicable-clause-more : goal.returns-then-not-applicable-clause-more
returns-then-not-applicable-clause-more c = more_none c.args.tree.now.states

pub returns-then-not-applicable-clause-tried : goal.returns-then-not-applicable-clause-tried
returns-then-not-applicable-clause-tried c = λ a at holds. absurd (false≢true (sym c.if-not-applicable.true ∙ c.applicable.ensures a at ∙ holds))

pub returns-then-is_barred-clause-more : goal.returns-then-is_barred-clause-more
returns-then-is_barred-clause-more c = more_none c.args.tree.now.states

pub returns-then-is_barred-clause-tried : goal.returns-then-is_barred-clause-tried
returns-then-is_barred-clause-tried c = λ a at holds. inl ((c.is_barred.ensures c.args.node.now.state c.args.node.now.whole).0 c.if-is_barred.true)

pub returns-then-may_lose-clause-more : goal.returns-then-may_lose-clause-more
returns-then-may_lose-clause-more c = more_none c.args.tree.now.states

pub returns-then-may_lose-clause-tried : goal.returns-then-may_lose-clause-tried
returns-then-may_lose-clause-tried c = λ a at holds. inr (inl (c.may_lose.ensures.loses c.if-may_lose.true a at))

pub returns-clause-tried : goal.returns-clause-tried
returns-clause-tried c = on_ok_weaker c.add_nexts.result (λ stays a at holds. inr (inr (stays a at))) c.add_nexts.ensures.stays
