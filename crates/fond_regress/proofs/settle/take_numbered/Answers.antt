use Rattle.std.proofs.Common.{◌≡◌, ◌∙◌, ℕ, length, sym, subst}
use Rattle.std.specs.Prelude.{IsTrue}
use Rattle.std.proofs.lemmas.Option.{same_Some}
use Rattle.fond_task.specs.Within.{is_act_within}
use Rattle.fond_task.proofs.Found.{all_at}
use Rattle.fond_regress.specs.Stable.{DoesStay}
use Rattle.fond_regress.proofs.settle.take_numbered.Goals as goal

pub take_act-requires-clause-within : goal.take_act-requires-clause-within
take_act-requires-clause-within c =
    let task = c.args.t.now in
    let P : ℕ → Type 0 = λ n. IsTrue (is_act_within n c.get.result.now) in
    subst P (sym c.requires.over) (all_at (is_act_within (length task.atoms)) task.acts c.args.number c.get.result.now task.acts_within c.get.ensures)

pub returns : goal.returns
returns c =
    let told = c.take_act.ensures in
    record {
      same_length = told.same_length;
      weaker = told.weaker;
      around = λ around long stable lies. told.around around (long ∙ sym c.requires.over) lies (stable c.args.number c.get.result.now c.get.ensures);
      stays = λ none act has. subst (DoesStay c.take_act.new.cube) (same_Some c.get.result.now act (sym c.get.ensures ∙ has)) (told.stays none);
    }
