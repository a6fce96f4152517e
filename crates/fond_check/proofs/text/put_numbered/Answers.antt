use Rattle.std.proofs.Common.{[], ap, arith, sym}
use Rattle.std.specs.Option.{option_map_or}
use Rattle.std.proofs.lemmas.Bool.Decides.{nat_tests}
use Rattle.std.proofs.lemmas.Option.{slice_get_past}
use Rattle.fond_task.specs.Texts.{action_text}
use Rattle.fond_task.specs.declared.task.Act.{Act}
use Rattle.fond_text.proofs.Adding.{adds_nothing, adds_same}
use Rattle.fond_check.proofs.text.put_numbered.Goals as goal

pub returns-else-act-len : goal.returns-else-act-len
returns-else-act-len c =
    let task = c.args.task.now in
    let none = slice_get_past task.acts c.args.act (grind (arith, nat_tests)) in
    adds_same _ _ _ _ (sym (ap (λ o. option_map_or (λ (act : Act). action_text task.labels act.ground) o []) none)) (adds_nothing _)
