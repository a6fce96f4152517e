use Rattle.fond_form.proofs.Values.{match_more, no_long, is_long, no_shorts, are_shorts, no_targets, are_targets}
use Rattle.fond_form.proofs.value.value_of.Goals as goal

pub returns-in-Nothing : goal.returns-in-Nothing
returns-in-Nothing c = rw c.in-Nothing.is c.nothing.ensures

pub returns-in-Action : goal.returns-in-Action
returns-in-Action c = rw c.in-Action.is c.action.ensures

pub returns-in-Short : goal.returns-in-Short
returns-in-Short c = rw c.in-Short.is c.number.ensures

pub returns-in-Long : goal.returns-in-Long
returns-in-Long c = rw c.in-Long.is (match_more _ (no_long c.args.text.now) (λ parts. is_long c.args.text.now parts.0.now parts.1.now) c.number-in-Long.ensures)

pub returns-in-Target : goal.returns-in-Target
returns-in-Target c = rw c.in-Target.is c.target.ensures

pub returns-in-Shorts : goal.returns-in-Shorts
returns-in-Shorts c = rw c.in-Shorts.is (match_more _ (no_shorts c.args.text.now) (λ parts. are_shorts c.args.text.now parts.0.now parts.1.now) c.words.ensures)

pub returns-in-Targets : goal.returns-in-Targets
returns-in-Targets c = rw c.in-Targets.is (match_more _ (no_targets c.args.text.now) (λ parts. are_targets c.args.text.now parts.0.now parts.1.now) c.words-in-Targets.ensures)

pub returns-in-Literals : goal.returns-in-Literals
returns-in-Literals c = rw c.in-Literals.is c.literals.ensures
