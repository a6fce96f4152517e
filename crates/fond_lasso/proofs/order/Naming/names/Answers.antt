use Rattle.std.proofs.Common.{◌∙◌, List, ℕ, ◌++◌, ◌∷◌, [], get_or, take, sym, subst}
use Rattle.std.proofs.lemmas.List.{take_more}
use Rattle.fond_lasso.specs.Ordered.{AreNamed}
use Rattle.fond_lasso.proofs.Naming.{one_more}
use Rattle.fond_lasso.proofs.order.Naming.names.Goals as goal

pub loop-number-preserved : goal.loop-number-preserved
loop-number-preserved c =
    let numbers = c.args.numbers.now in
    let at = c.loop-number.number-index in
    let before = c.loop-number.invariant in
    let old = c.args.self.now.used.items in
    let new = c.name.new.self.used.items in
    let number = get_or numbers at 0 in
    let made = one_more old (take at numbers) c.loop-number.names.items c.loop-number.self.used.items number c.in_ok-name.field-0 new before.named c.in_ok-name.ensures.named in
    let P : List ℕ → Type 0 = λ xs. AreNamed old xs c.push.new.self.items new in
    let Q : List ℕ → Type 0 = λ xs. AreNamed old (take at numbers ++ number ∷ []) xs new in
    record {
      long = c.in_ok-name.ensures.long ∙ before.long;
      naming = c.in_ok-name.ensures.naming;
      named = subst P (sym (take_more numbers at 0 c.loop-number-test.true)) (subst Q (sym c.in_ok-push.ensures.items) made);
    }
