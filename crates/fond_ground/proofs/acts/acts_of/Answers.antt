use Rattle.std.proofs.Common.{◌≡◌, ◌∙◌, ◌+◌, ◌++◌, [], ℕ, List, drop, sym, ap, subst, arith}
use Rattle.std.specs.List.{list_all, AllZip}
use Rattle.std.proofs.lemmas.Grind.{common_steps}
use Rattle.std.proofs.lemmas.List.{append_assoc, append-nil}
use Rattle.fond_ast.specs.declared.task.LSchema.{LSchema}
use Rattle.fond_join.specs.Kept.{kept_args}
use Rattle.fond_task.specs.declared.task.Act.{Act}
use Rattle.fond_text.specs.declared.atom.GroundAction.{GroundAction}
use Rattle.fond_ground.specs.Effects.{is_numbered}
use Rattle.fond_ground.specs.Grounds.{kept_actions, IsActOf}
use Rattle.fond_ground.specs.Limits.{has_few, has_few_outcomes}
use Rattle.fond_ground.proofs.Actions.{mapped_at}
use Rattle.fond_ground.proofs.Kept.{actions_from, actions_next, actions_of}
use Rattle.fond_ground.proofs.Numbered.{all_get, kept_numbered}
use Rattle.fond_ground.proofs.Zips.{zip-append}
use Rattle.fond_ground.proofs.acts.acts_of.Goals as goal

pub put_acts-requires-clause-numbered : goal.put_acts-requires-clause-numbered
put_acts-requires-clause-numbered c =
    let task = c.args.table.now.facts.task.now in
    let schema = c.get.result.now in
    let kept = mapped_at (kept_args task) task.schemas c.args.lists.now c.loop-i.i schema c.index-lists-i.result c.requires.all c.get.ensures c.index-lists-i.is in
    ap (list_all (λ objects. is_numbered task objects schema.effect)) kept ∙ kept_numbered task c.loop-i.i schema c.get.ensures

pub put_acts-requires-clause-few : goal.put_acts-requires-clause-few
put_acts-requires-clause-few c =
    let task = c.args.table.now.facts.task.now in
    let schema = c.get.result.now in
    let kept = mapped_at (kept_args task) task.schemas c.args.lists.now c.loop-i.i schema c.index-lists-i.result c.requires.all c.get.ensures c.index-lists-i.is in
    ap (list_all (has_few schema.effect)) kept ∙ all_get (has_few_outcomes task) task.schemas c.loop-i.i schema c.requires.few c.get.ensures

pub loop-i-preserved : goal.loop-i-preserved
loop-i-preserved c =
    let task = c.args.table.now.facts.task.now in
    let schema = c.get.result.now in
    let i = c.loop-i.i in
    let kept = mapped_at (kept_args task) task.schemas c.args.lists.now i schema c.index-lists-i.result c.requires.all c.get.ensures c.index-lists-i.is in
    let before = c.loop-i.invariant in
    let added = c.in_ok-put_acts.ensures.acts in
    record {
      within = c.in_ok-put_acts.ensures.within before.within;
      acts = λ rest r.
          let here = subst (λ (lists : List (List ℕ)). AllZip (IsActOf task) (actions_of i lists) added.0) kept added.2 in
          let joined = zip-append (IsActOf task) (actions_of i (kept_args task schema)) added.0 (actions_from task (i + 1) (drop (i + 1) task.schemas)) rest here r in
          subst (λ (acts : List Act). AllZip (IsActOf task) (kept_actions task) acts) (sym (ap (λ list. list ++ rest) added.1 ∙ append_assoc c.loop-i.acts added.0 rest))
          (before.acts (added.0 ++ rest) (subst (λ (actions : List GroundAction). AllZip (IsActOf task) actions (added.0 ++ rest)) (sym (actions_next task task.schemas i schema c.get.ensures)) joined));
    }

pub returns-clause-acts : goal.returns-clause-acts
returns-clause-acts c =
    let task = c.args.table.now.facts.task.now in
    let none : drop c.loop-i.i task.schemas ≡ [] = grind (arith, common_steps) in
    subst (λ (acts : List Act). AllZip (IsActOf task) (kept_actions task) acts) (append-nil c.loop-i.acts)
    (c.loop-i.invariant.acts [] (subst (λ (left : List LSchema). AllZip (IsActOf task) (actions_from task c.loop-i.i left) []) (sym none) tt))
