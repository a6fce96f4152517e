use Rattle.std.proofs.Common.{◌≡◌, ◌∙◌, ◌<◌, ◌≤◌, ◌+◌, List, [], ◌∷◌, ◌++◌, length, take, sym, ap, subst, arith}
use Rattle.std.proofs.lemmas.List.{append_assoc, append-nil, take_all}
use Rattle.std.proofs.Math.Seq.{take-suc}
use native.Mathlib.Numerals.{unary_clauses}
use Rattle.std.specs.Prelude.{Contains}
use Rattle.fond_task.proofs.Lists.{Contains_numbered}
use Rattle.fond_task.specs.declared.rule.Pair.{Pair}
use Rattle.fond_task.specs.declared.rule.Rule.{Rule}
use Rattle.fond_draft.specs.Barring.{EachBarsMore}
use Rattle.fond_draft.specs.Drafts.{AreFitting, AreLeanRules, IsFitting}
use Rattle.fond_draft.proofs.Fitting.{fitting_more}
use Rattle.fond_draft.proofs.Lists.{read_at}
use Rattle.fond_draft.proofs.Sure.{lean_none}
use Rattle.fond_draft.proofs.draft.Draft.heed_fresh.Goals as goal

pub loop-at-preserved : goal.loop-at-preserved
loop-at-preserved c =
    let task = c.args.t.now in
    let inv = c.loop-at.invariant in
    let layers = c.loop-at.self.layers in
    let items = c.loop-at.self.fresh.items in
    let before = c.args.self.now.pairs in
    let own = c.index.result.now in
    let within : c.loop-at.at < length items = omega (arith, c.loop-at-test.true, c.len-at-end.ensures, ap (λ fresh. length fresh.items) inv.same) in
    let fits : IsFitting task layers own = inv.fresh own (Contains_numbered items c.loop-at.at own (read_at items c.loop-at.at own within c.index.ensures)) in
    let grown : take (c.loop-at.at + 1) items ≡ take c.loop-at.at items ++ c.in_ok-pair.pair ∷ [] =
    simp unary_clauses (take-suc items c.loop-at.at own within) ∙ ap (λ (p : Pair). take c.loop-at.at items ++ p ∷ []) (sym c.index.ensures ∙ sym c.in_ok-pair.ensures) in
    record {
      over = inv.over;
      sure = inv.sure;
      pairs = subst (λ (pairs : List Pair). AreFitting task layers pairs) (sym c.in_ok-push.ensures.ok)
          (fitting_more task layers c.loop-at.self.pairs c.in_ok-pair.pair inv.pairs (subst (λ (p : Pair). IsFitting task layers p) (sym c.in_ok-pair.ensures) fits));
      fresh = inv.fresh;
      rules = inv.rules;
      same = inv.same;
      moved = c.in_ok-push.ensures.ok ∙ ap (λ (pairs : List Pair). pairs ++ c.in_ok-pair.pair ∷ []) inv.moved
          ∙ append_assoc before (take c.loop-at.at items) (c.in_ok-pair.pair ∷ []) ∙ ap (λ (more : List Pair). before ++ more) (sym grown);
    }

pub returns-clause-moved : goal.returns-clause-moved
returns-clause-moved c =
    let inv = c.loop-at.invariant in
    let items = c.loop-at.self.fresh.items in
    let end : length items ≤ c.loop-at.at = omega (arith, c.loop-at-test.false, c.len-at-end.ensures, ap (λ fresh. length fresh.items) inv.same) in
    inv.moved ∙ ap (λ (more : List Pair). c.args.self.now.pairs ++ more) (take_all c.loop-at.at items end ∙ ap (λ fresh. fresh.items) inv.same)

pub returns-clause-none : goal.returns-clause-none
returns-clause-none c = c.clear.ensures.items

pub returns-clause-draft : goal.returns-clause-draft
returns-clause-draft c =
    let inv = c.loop-at.invariant in
    let task = c.args.t.now in
    let pairs = c.loop-at.self.pairs in
    let items = c.loop-at.self.fresh.items in
    let end : length items ≤ c.loop-at.at = omega (arith, c.loop-at-test.false, c.len-at-end.ensures, ap (λ fresh. length fresh.items) inv.same) in
    let moved : pairs ≡ c.args.self.now.pairs ++ c.args.self.now.fresh.items =
    inv.moved ∙ ap (λ (more : List Pair). c.args.self.now.pairs ++ more) (take_all c.loop-at.at items end ∙ ap (λ fresh. fresh.items) inv.same) in
    record {
      over = inv.over;
      sure = inv.sure;
      pairs = inv.pairs;
      fresh = λ pair has. absurd (omega (arith, (subst (λ (items : List Pair). Contains items pair) c.clear.ensures.items has).1));
      more = subst (EachBarsMore task) (sym moved ∙ sym (append-nil pairs) ∙ ap (λ (fresh : List Pair). pairs ++ fresh) (sym c.clear.ensures.items)) c.requires.more;
      rules = subst (λ (rules : List Rule). AreLeanRules task pairs rules) (sym inv.rules) (lean_none task pairs);
    }
