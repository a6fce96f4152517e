-- Actions by their texts.
use Rattle.std.proofs.Common.{◌≡◌, ℕ, ◌<◌, true, List, [], ◌∷◌, ◌++◌, Some, length, get_or, codes, sym, ap, ◌∙◌, append_assoc}
use Rattle.std.specs.List.{flat_map}
use Rattle.std.specs.Option.{option_map_or}
use Rattle.std.specs.Str.{bytes_eq}
use Rattle.std.proofs.lemmas.List.Quantifiers.{position-Some}
use Rattle.std.proofs.lemmas.Option.{slice_get-get_or}
use Rattle.std.proofs.lemmas.Slice.Eq.{bytes_eq-Decides}
use Rattle.fond_text.specs.declared.atom.GroundAction.{GroundAction}
use Rattle.fond_task.specs.declared.form.Form.TheVariants.{Truth}
use Rattle.fond_task.specs.declared.task.Act.{Act}
use Rattle.fond_task.specs.declared.task.Labels.{Labels}
use Rattle.fond_task.specs.declared.task.Task.{Task}
use Rattle.fond_task.specs.Numbers.{act_number}
use Rattle.fond_task.specs.Texts.{action_text, name_at}
use Rattle.fond_form.specs.Lines.{group_text}
use Rattle.fond_cert.specs.Spellings.{action_leaves, act_leaves}
use Rattle.fond_cert.proofs.CubeTexts.{spaced_names}

pub no_act : Act
no_act = record { ground = record { schema = 0; objects = [] }; pre = Truth true; unfair = true; outcomes = [] }

-- the text of an action is that of its leaves
pub leaves_text : (labels : Labels) (action : GroundAction) → action_text labels action ≡ group_text (action_leaves labels action)
leaves_text labels action =
    append_assoc (40 ∷ name_at labels.schemas action.schema) (flat_map (λ object. codes " " ++ name_at labels.objects object) action.objects) (codes ")")
    ∙ ap (λ t. 40 ∷ (name_at labels.schemas action.schema ++ (t ++ codes ")"))) (spaced_names labels action.objects)

-- the action of this number has this text
pub act_there : (task : Task) (text : List ℕ) (n : ℕ) → act_number task text ≡ Some n → (n < length task.acts) × (text ≡ group_text (act_leaves task n))
act_there task text n e =
    let found = position-Some (λ (a : Act). bytes_eq (action_text task.labels a.ground) text) task.acts n no_act e in
    let act = get_or task.acts n no_act in (
      found.0,
      sym ((bytes_eq-Decides (action_text task.labels act.ground) text).0 found.1) ∙ leaves_text task.labels act.ground
          ∙ ap (λ o. group_text (option_map_or (λ (a : Act). action_leaves task.labels a.ground) o [])) (sym (slice_get-get_or task.acts n no_act found.0)),
    )
