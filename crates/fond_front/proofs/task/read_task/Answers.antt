use Rattle.std.proofs.lemmas.Result.{IfErr-weaker}
use Rattle.fond_front.specs.Tasks.{IsFirstFault, declarations_of}
use Rattle.fond_front.proofs.Tasks.{form_fault, handed_on, names_fault, task_read, text_fault}
use Rattle.fond_front.proofs.task.read_task.Goals as goal

pub returns-in_err-trees-clause-refused : goal.returns-in_err-trees-clause-refused
returns-in_err-trees-clause-refused c =
    let texts = c.args.texts.now in
    let error = c.in_err-trees.field-0.0 in
    handed_on _ error (IsFirstFault texts) c.from_residual.ensures.1 (text_fault texts error c.in_err-trees.ensures.refused)

pub returns-in_err-files-clause-refused : goal.returns-in_err-files-clause-refused
returns-in_err-files-clause-refused c =
    let texts = c.args.texts.now in
    let error = c.in_err-files.field-0.0 in
    handed_on _ error (IsFirstFault texts) c.from_residual-in_err-files.ensures.1 (form_fault texts c.in_ok-trees.trees c.in_ok-trees.ensures.read error c.in_err-files.ensures.refused)

pub returns-clause-read : goal.returns-clause-read
returns-clause-read c =
    task_read c.args.texts.now (declarations_of c.in_ok-files.files) (c.in_ok-files.ensures.read c.args.texts.now c.in_ok-trees.ensures.read) c.resolve.result c.resolve.ensures.clean c.resolve.ensures.resolved

pub returns-clause-refused : goal.returns-clause-refused
returns-clause-refused c =
    IfErr-weaker c.resolve.result _ _ (λ error refused. names_fault c.args.texts.now (declarations_of c.in_ok-files.files) (c.in_ok-files.ensures.read c.args.texts.now c.in_ok-trees.ensures.read) error refused) c.resolve.ensures.refused

pub declare-requires : goal.declare-requires
declare-requires c = (c.args.texts.now, c.in_ok-trees.ensures.read)
