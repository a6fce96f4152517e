use Rattle.std.proofs.Common.{◌≡◌, length}
use Rattle.fond_task.specs.declared.form.Kleene.TheVariants.{No}
use Rattle.fond_task.specs.Values.{value}
use Rattle.fond_task.specs.Layers.{Forces}
use Rattle.fond_layers.proofs.Tried.{AllBefore}
use Rattle.fond_layers.proofs.sure.first_escape.Given as goal

abbrev pub invariant-loop-number : goal.invariant-loop-number
invariant-loop-number l = record {
  long : length l.image ≡ length l.cube;
  held : AllBefore l.act-items (λ act. ¬ value l.cube act.pre ≡ No → Forces l.earlier l.layer l.cube act) l.number;
}
