use Rattle.fond_laws.proofs.OneTaskOfTexts.{texts_have_one_task_lem}
use Rattle.fond_laws.proofs.same.texts_have_one_task.Goals as goal

pub returns : goal.returns
returns c = texts_have_one_task_lem
