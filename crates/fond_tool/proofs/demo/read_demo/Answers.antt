use Rattle.std.proofs.Common.{◌≡◌, IfOk, IfErr, subst}
use Rattle.fond_front.specs.Texts.{Texts}
use Rattle.fond_text.specs.Faults.{Refuses}
use Rattle.fond_commands.specs.Certified.{DescribeGround}
use Rattle.fond_tool.specs.Demos.{demo_texts}
use Rattle.fond_commands.specs.Tasks.{IsRefusal}
use Rattle.fond_tool.proofs.demo.read_demo.Goals as goal

pub returns-clause-read : goal.returns-clause-read
returns-clause-read c =
    let same : c.new-texts.result ≡ demo_texts c.args.size =
    rw (c.as_slice.ensures, c.as_slice-2.ensures, c.as_slice-3.ensures, c.in_ok-files.ensures.domain, c.in_ok-files.ensures.problem, c.in_ok-files.ensures.side, c.from.ensures) at c.new-texts.ensures in
    subst (λ (texts : Texts). IfOk c.read_files.result (λ files. DescribeGround texts files.task.value files.game.value)) same c.read_files.ensures.read

pub returns-clause-refused : goal.returns-clause-refused
returns-clause-refused c =
    let same : c.new-texts.result ≡ demo_texts c.args.size =
    rw (c.as_slice.ensures, c.as_slice-2.ensures, c.as_slice-3.ensures, c.in_ok-files.ensures.domain, c.in_ok-files.ensures.problem, c.in_ok-files.ensures.side, c.from.ensures) at c.new-texts.ensures in
    subst (λ (texts : Texts). IfErr c.read_files.result (Refuses (IsRefusal texts))) same c.read_files.ensures.refused
