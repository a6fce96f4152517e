use Rattle.std.proofs.Common.{◌≡◌, ◌∙◌, ◌+◌, List, ℕ, ◌++◌, ◌∷◌, [], length, sym, subst, arith}
use Rattle.std.proofs.Math.ListN.{set}
use Rattle.fond_games.proofs.Trapped.{same_default}
use Rattle.fond_lasso.specs.Ordered.{IsNamed, IsNaming, entry}
use Rattle.fond_lasso.proofs.Naming.{few, named_before, named_next, naming_next}
use Rattle.fond_lasso.proofs.order.Naming.name.Goals as goal

pub returns-then-entry-gt0-clause-named : goal.returns-then-entry-gt0-clause-named
returns-then-entry-gt0-clause-named c =
    let table = c.args.self.now.table.items in
    let known = c.index-entry.result.now in
    let is : known ≡ entry table c.args.number = c.index-entry.ensures ∙ same_default table c.args.number known 0 c.requires.there in
    named_before table c.args.self.now.used.items c.requires.naming c.args.number known is c.if-entry-gt0.true

pub overflow_cast-name : goal.overflow_cast-name
overflow_cast-name c = let small = few c.args.self.now.table.items c.args.self.now.used.items c.requires.naming in omega (arith, small, c.requires.few, c.len-name.ensures)

pub overflow_add-name : goal.overflow_add-name
overflow_add-name c = let small = few c.args.self.now.table.items c.args.self.now.used.items c.requires.naming in omega (arith, small, c.requires.few, c.len-name.ensures)

pub returns-clause-naming : goal.returns-clause-naming
returns-clause-naming c =
    let table = c.args.self.now.table.items in
    let used = c.args.self.now.used.items in
    let number = c.args.number in
    let is : c.index-entry.result.now ≡ entry table number = c.index-entry.ensures ∙ same_default table number c.index-entry.result.now 0 c.requires.there in
    let none : entry table number ≡ 0 = omega (arith, is, c.if-entry-gt0.false) in
    let end : length used ≡ c.len-name.result = omega (arith, c.len-name.ensures) in
    let made = naming_next table used c.requires.naming number c.requires.there none in
    let P : List ℕ → Type 0 = λ xs. IsNaming (set table number (c.len-name.result + 1)) xs in
    subst P (sym c.in_ok-push.ensures.items) (subst (λ n. IsNaming (set table number (n + 1)) (used ++ number ∷ [])) end made)

pub returns-clause-named : goal.returns-clause-named
returns-clause-named c =
    let table = c.args.self.now.table.items in
    let used = c.args.self.now.used.items in
    let number = c.args.number in
    let is : c.index-entry.result.now ≡ entry table number = c.index-entry.ensures ∙ same_default table number c.index-entry.result.now 0 c.requires.there in
    let none : entry table number ≡ 0 = omega (arith, is, c.if-entry-gt0.false) in
    let end : length used ≡ c.len-name.result = omega (arith, c.len-name.ensures) in
    let made = named_next table used c.requires.naming number c.requires.there none in
    let P : List ℕ → Type 0 = λ xs. IsNamed used number c.len-name.result xs in
    subst P (sym c.in_ok-push.ensures.items) (subst (λ n. IsNamed used number n (used ++ number ∷ [])) end made)
