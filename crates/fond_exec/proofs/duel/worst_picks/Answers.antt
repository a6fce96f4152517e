use Rattle.std.proofs.Common.{◌∙◌, ◌+◌, List, ap, subst, length}
use Rattle.std.proofs.lemmas.List.{length-append}
use Rattle.fond_task.specs.declared.rule.Rule.{Rule}
use Rattle.fond_task.specs.declared.task.Task.{Task}
use Rattle.fond_exec.specs.Picked.{IsWord}
use Rattle.fond_exec.proofs.Duelling.{picked_all, picked_more}
use Rattle.fond_exec.proofs.duel.worst_picks.Goals as goal

pub loop-preserved : goal.loop-preserved
loop-preserved c =
    let task = c.args.t.now in
    let rules = c.args.rules.now in
    let so_far = c.loop.invariant in
    let state = c.loop.run.state in
    let after = c.next_word.new.run.state in
    let word = c.next_word.result in
    let P : Task → Type 0 = λ t. IsWord t c.loop.run.rules state word after in
    let Q : List Rule → Type 0 = λ r. IsWord task r state word after in
    let is : IsWord task rules state word after = subst Q so_far.rules (subst P so_far.task c.next_word.ensures.word) in
    record {
      task = c.next_word.ensures.task ∙ so_far.task;
      rules = c.next_word.ensures.rules ∙ so_far.rules;
      long = ap length c.in_ok-push.ensures.items ∙ length-append c.loop.words.items _ ∙ ap (λ n. n + 1) so_far.long;
      so_far = picked_more task rules task.init c.loop.words.items c.push.new.self.items state word after c.in_ok-push.ensures.items is so_far.so_far;
    }

pub returns-clause-picks : goal.returns-clause-picks
returns-clause-picks c = picked_all c.args.t.now c.args.rules.now c.args.t.now.init c.loop.words.items c.loop.run.state c.loop.invariant.so_far
