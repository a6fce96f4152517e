use Rattle.std.proofs.Common.{◌++◌, ◌∙◌, arith}
use Rattle.fond_join.proofs.Local.{condition_alike}
use Rattle.fond_ground.proofs.Alike.{fixed_alike, known_value, not_true}
use Rattle.fond_ground.proofs.forms.is_alike.Goals as goal

pub returns-in-No : goal.returns-in-No
returns-in-No c = λ yes known env objects others start_is end_is same.
    let fixed = known_value c.fixed_value.result c.in-No.is in
    fixed_alike c.args.part.now (λ e. fixed (c.fixed_value.ensures ∙ e)) known (env ++ objects) (env ++ others)

pub returns-in-Unknown : goal.returns-in-Unknown
returns-in-Unknown c = λ yes known env objects others start_is end_is same.
    condition_alike known c.args.part.now env objects others same
    (λ number from below. c.has_variables.ensures (not_true c.has_variables.result yes) number (omega (arith, from, start_is)) (omega (arith, below, end_is)))
