use Rattle.std.proofs.Common.{◌≡◌, ◌++◌, ◌∷◌, [], ◌∙◌, true, false, is_some, sym, ap, subst}
use Rattle.fond_store.specs.Texts.{number_beside}
use Rattle.fond_types.specs.Meanings.{IsNumbering, name_also}
use Rattle.fond_types.proofs.Numbering.{declared_there, declared_new, numbered_new}
use Rattle.fond_types.proofs.declare.declare.Goals as goal

pub returns-then-is_some-clause-named : goal.returns-then-is_some-clause-named
returns-then-is_some-clause-named c =
    let there : is_some (number_beside c.args.numbers.now c.args.name.now) ≡ true = cc in
    sym (declared_there c.args.numbers.now c.args.names.now c.requires.numbered c.args.name.now there)

pub returns-clause-named : goal.returns-clause-named
returns-clause-named c =
    let names = c.args.names.now in
    let none : is_some (number_beside c.args.numbers.now c.args.name.now) ≡ false = cc in
    c.in_ok-push.ensures.ok ∙ ap (λ name. names ++ name ∷ []) c.in_ok-copy.ensures.copy ∙ sym (declared_new c.args.numbers.now names c.requires.numbered c.args.name.now none)

pub returns-clause-numbered : goal.returns-clause-numbered
returns-clause-numbered c =
    let numbers = c.args.numbers.now in
    let names = c.args.names.now in
    let none : is_some (number_beside numbers c.args.name.now) ≡ false = cc in
    let named : c.push.new.self ≡ name_also names c.args.name.now = c.in_ok-push.ensures.ok ∙ ap (λ name. names ++ name ∷ []) c.in_ok-copy.ensures.copy ∙ sym (declared_new numbers names c.requires.numbered c.args.name.now none) in
    subst (λ some. IsNumbering c.insert_name.new.index some) (sym named) (numbered_new numbers names c.requires.numbered c.args.name.now none c.len.result c.insert_name.new.index c.len.ensures c.in_ok-insert_name.ensures)
