use Rattle.std.proofs.Common.{◌≡◌, ◌∙◌, length, refl, slice_get, sym, ap, arith}
use Rattle.fond_task.proofs.Lists.{same_numbered}
use Rattle.fond_task.specs.declared.task.Act.{Act}
use Rattle.fond_task.specs.declared.task.Task.{Task}
use Rattle.fond_task.specs.Truth.{is_true}
use Rattle.fond_text.proofs.Adding.{adds_same}
use Rattle.fond_exec.specs.Traces.{step_line}
use Rattle.fond_exec.specs.declared.choice.Choice.TheVariants.{Chosen, Done, Stuck}
use Rattle.fond_exec.proofs.Chosen.{counted_outcomes}
use Rattle.fond_exec.proofs.Traced.{choice_of, taken_of, at_end, at_done, at_stuck, at_bad_outcome, went_on, none_left}
use Rattle.fond_exec.proofs.trace.put_steps.Goals as goal

pub returns-in-Done-clause-traced : goal.returns-in-Done-clause-traced
returns-in-Done-clause-traced g c =
    let pick = g.P.Picks.pick_of c.args.picks.now in
    let run = c.args.run.now in
    let state = c.loop-word.run.state in
    let so_far = c.loop-word.invariant in
    let is = choice_of pick run.task run.rules c.loop-word.run.task c.loop-word.run.rules state Done so_far.task so_far.rules c.in-Done.ensures in
    at_done pick run.task run.rules run.state c.args.words.now state c.loop-word.left.now c.args.text.now c.loop-word.text so_far.so_far state c.put_goal.new.text (is, refl) c.put_goal.ensures

pub returns-in-Stuck-clause-traced : goal.returns-in-Stuck-clause-traced
returns-in-Stuck-clause-traced g c =
    let pick = g.P.Picks.pick_of c.args.picks.now in
    let run = c.args.run.now in
    let state = c.loop-word.run.state in
    let so_far = c.loop-word.invariant in
    let is = choice_of pick run.task run.rules c.loop-word.run.task c.loop-word.run.rules state Stuck so_far.task so_far.rules c.in-Stuck.ensures in
    at_stuck pick run.task run.rules run.state c.args.words.now state c.loop-word.left.now c.args.text.now c.loop-word.text so_far.so_far c.in-Some.word.now c.in-Some.after.now c.in-Some.ensures.cases.0 state c.put_stuck.new.text
    (is.0, is.1, refl) c.put_stuck.ensures

pub pick-outcome-requires : goal.pick-outcome-requires
pick-outcome-requires g c =
    let own = c.in-Chosen.ensures.2 in
    let counted = counted_outcomes c.loop-word.run.task c.in-Chosen.act own.0 own.1.numbered in
    omega (arith, counted.0, own.2)

pub returns-then-outcome-count-clause-traced : goal.returns-then-outcome-count-clause-traced
returns-then-outcome-count-clause-traced g c =
    let pick = g.P.Picks.pick_of c.args.picks.now in
    let run = c.args.run.now in
    let state = c.loop-word.run.state in
    let so_far = c.loop-word.invariant in
    let is = choice_of pick run.task run.rules c.loop-word.run.task c.loop-word.run.rules state (Chosen c.in-Chosen.rule c.in-Chosen.act c.in-Chosen.count) so_far.task so_far.rules c.in-Chosen.ensures in
    at_bad_outcome pick run.task run.rules run.state c.args.words.now state c.loop-word.left.now c.args.text.now c.loop-word.text so_far.so_far c.in-Some.word.now c.in-Some.after.now c.in-Some.ensures.cases.0
    c.in-Chosen.count c.pick-outcome.result state c.put_outcome.new.text (is.0, (c.in-Chosen.act, is.2.0, is.2.1, is.2.2), omega arith, refl) c.pick-outcome.ensures c.put_outcome.ensures

pub loop-word-preserved : goal.loop-word-preserved
loop-word-preserved g c =
    let pick = g.P.Picks.pick_of c.args.picks.now in
    let run = c.args.run.now in
    let so_far = c.loop-word.invariant in
    let state = c.loop-word.run.state in
    let word = c.in-Some.word.now in
    let rule = c.in-Chosen.rule in
    let act = c.in-Chosen.act in
    let outcome = c.pick-outcome.result in
    let last = c.take.new.self.state in
    let own = c.in-Chosen.ensures.2 in
    let taken = taken_of pick run.task run.rules c.loop-word.run.task c.loop-word.run.rules state outcome rule act last so_far.task so_far.rules c.take.ensures.taken in
    let numbered : slice_get run.task.acts act ≡ slice_get c.loop-word.run.task.acts act = ap (λ (t : Task). slice_get t.acts act) (sym so_far.task) in
    let same : own.0 ≡ taken.act = same_numbered run.task.acts act own.0 taken.act (numbered ∙ own.1.numbered) taken.chosen.numbered in
    let picked : outcome ≡ pick (length taken.act.outcomes) word = c.pick-outcome.ensures ∙ ap (λ n. pick n word) (own.2 ∙ ap (λ (a : Act). length a.outcomes) same) in
    record {
      task = c.take.ensures.task ∙ so_far.task;
      rules = c.take.ensures.rules ∙ so_far.rules;
      so_far = went_on pick run.task run.rules run.state c.args.words.now state c.loop-word.left.now c.args.text.now c.loop-word.text so_far.so_far
          word c.in-Some.after.now c.in-Some.ensures.cases.0 rule act outcome last c.put_taken.new.text c.get.result.now taken picked
          (ap (λ (t : Task). slice_get t.acts act) c.requires ∙ c.get.ensures)
          (adds_same _ _ _ _ (ap (λ (t : Task). step_line t.labels rule c.get.result.now.ground outcome) (sym c.requires)) c.put_taken.ensures);
    }

pub returns-clause-traced : goal.returns-clause-traced
returns-clause-traced g c =
    let pick = g.P.Picks.pick_of c.args.picks.now in
    let run = c.args.run.now in
    let so_far = c.loop-word.invariant in
    let is = c.done.ensures ∙ ap (λ (t : Task). is_true c.loop-word.run.state t.goal) so_far.task in
    at_end pick run.task run.rules run.state c.args.words.now c.loop-word.run.state c.loop-word.left.now c.args.text.now c.loop-word.text so_far.so_far
    c.done.result c.put_end.new.text (none_left c.loop-word.left.now c.in_default.ensures.cases) is c.put_end.ensures
