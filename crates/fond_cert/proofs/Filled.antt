-- What the values of a line make.
use Rattle.std.proofs.Common.{◌≡◌, Some, Result, Ok, Err, OnOk, ap, ◌∙◌}
use Rattle.fond_task.specs.declared.task.Task.{Task}
use Rattle.fond_form.specs.declared.table.LineKind.{LineKind}
use Rattle.fond_form.specs.Forms.{form}
use Rattle.fond_cert.specs.Drafts.{with_entry, grown}
use Rattle.fond_cert.specs.declared.due.Group.{Group}
use Rattle.fond_cert.specs.Filled.{Hold}
use Rattle.fond_cert.specs.Spellings.{Meanings, AreOfTask, Entry}
use Rattle.fond_cert.specs.declared.draft.Draft.{Draft}
use Rattle.fond_cert.specs.declared.values.LineValues.{LineValues}

pub same_some : {A : Type 0} (x y : A) → Some x ≡ Some y → x ≡ y
same_some x y e = cc

-- a draft is one to which this was added, which the values of a line made
pub grown_as : {T E X : Type 0} (taken : Group) (kind : LineKind) (made : Meanings (form kind) → X) (added : X → Draft) (before : Draft) → ((meanings : Meanings (form kind)) → added (made meanings) ≡ grown taken before kind meanings) →
    (r : Result T E) (values : LineValues) (after : Draft) (entry : X) → OnOk r (after ≡ added entry) →
    ((task : Task) (meanings : Meanings (form kind)) → AreOfTask task (form kind) meanings → Hold kind values meanings → entry ≡ made meanings) →
    OnOk r ((task : Task) (meanings : Meanings (form kind)) → AreOfTask task (form kind) meanings → Hold kind values meanings → after ≡ grown taken before kind meanings)
grown_as taken kind made added before same (Ok value) values after entry is each = λ task meanings of hold. is ∙ ap added (each task meanings of hold) ∙ same meanings
grown_as taken kind made added before same (Err error) values after entry is each = tt

-- a draft is one to which an entry was added, which the values of a line made
pub grown_by : {T E : Type 0} (taken group : Group) (kind : LineKind) (made : Meanings (form kind) → Entry group) (before : Draft) → ((meanings : Meanings (form kind)) → with_entry group before (made meanings) ≡ grown taken before kind meanings) →
    (r : Result T E) (values : LineValues) (after : Draft) (entry : Entry group) → OnOk r (after ≡ with_entry group before entry) →
    ((task : Task) (meanings : Meanings (form kind)) → AreOfTask task (form kind) meanings → Hold kind values meanings → entry ≡ made meanings) →
    OnOk r ((task : Task) (meanings : Meanings (form kind)) → AreOfTask task (form kind) meanings → Hold kind values meanings → after ≡ grown taken before kind meanings)
grown_by taken group kind made before same = grown_as taken kind made (with_entry group before) before same
