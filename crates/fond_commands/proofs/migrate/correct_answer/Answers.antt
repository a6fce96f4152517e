use Rattle.std.proofs.Common.{◌∙◌, ℕ, List, sym, ap, subst}
use Rattle.std.proofs.lemmas.Bool.{false≢true}
use Rattle.fond_commands.specs.Migrations.{AnswersMigrate}
use Rattle.fond_commands.specs.Replies.{Reply}
use Rattle.fond_commands.specs.declared.status.Ending.TheVariants.{Done}
use Rattle.fond_commands.proofs.migrate.correct_answer.Goals as goal

pub returns-then-is_to_cover : goal.returns-then-is_to_cover
returns-then-is_to_cover c =
    subst (AnswersMigrate c.args.text.now c.args.game.now c.args.cert) (sym c.new.ensures)
    (AnswersMigrate.covered c.in_ok-covered.covered.items c.requires.right (c.is_to_cover.ensures.0 c.if-is_to_cover.true) c.in_ok-covered.ensures)

pub returns : goal.returns
returns c =
    let reply : List ℕ → Reply = λ text. record { text = text; ending = Done } in
    subst (AnswersMigrate c.args.text.now c.args.game.now c.args.cert) (sym (c.new-2.ensures ∙ ap reply c.in_ok-from_slice.ensures.items))
    (AnswersMigrate.kept c.requires.right (λ to_cover. false≢true (sym c.if-is_to_cover.false ∙ c.is_to_cover.ensures.1 to_cover)))
