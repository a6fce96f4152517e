use Rattle.std.proofs.Common.{◌≡◌, ◌∷◌, [], ◌++◌, ◌∙◌, ap, sym, subst, length, IfSome, arith}
use Rattle.std.proofs.lemmas.Grind.{common_steps}
use Rattle.fond_ast.specs.Ranges.{is_among}
use Rattle.fond_store.specs.Texts.{InsertsText}
use Rattle.fond_join.specs.Rows.{AreNumbered, IsGrown, row_at}
use Rattle.fond_join.proofs.Rowed.{begun_numbered, begun_grown, begun_added}
use Rattle.fond_join.proofs.rows.begin.Goals as goal

pub returns-clause-numbered : goal.returns-clause-numbered
returns-clause-numbered c =
    let numbers = c.args.rows.now.numbers in
    let lists = c.args.rows.now.lists.items in
    let number : c.in_ok-number.number ≡ length lists = subst (λ found. IfSome found (λ same. same ≡ c.len.result)) c.in_ok-number.ensures.ok_part c.narrow.ensures ∙ (let n : c.len.result ≡ length lists = grind (arith, common_steps) in n) in
    let more = c.insert.new.self in
    let keyed = subst (λ key. InsertsText numbers key c.in_ok-number.number more) c.in_ok-from_slice.ensures.items c.in_ok-insert.ensures.ok in
    let grown = subst (λ n. InsertsText numbers c.args.key.now n more) number keyed in
    let longer = c.in_ok-push-2.ensures.items ∙ ap (λ list. lists ++ list ∷ []) (c.in_ok-push.ensures.ok ∙ ap (λ list. list ++ c.args.object ∷ []) c.new-list.ensures) in
    subst (AreNumbered more) (sym longer) (begun_numbered numbers lists c.args.key.now c.args.object c.requires.numbered more grown)

pub returns-clause-grown : goal.returns-clause-grown
returns-clause-grown c =
    let numbers = c.args.rows.now.numbers in
    let lists = c.args.rows.now.lists.items in
    let number : c.in_ok-number.number ≡ length lists = subst (λ found. IfSome found (λ same. same ≡ c.len.result)) c.in_ok-number.ensures.ok_part c.narrow.ensures ∙ (let n : c.len.result ≡ length lists = grind (arith, common_steps) in n) in
    let more = c.insert.new.self in
    let keyed = subst (λ key. InsertsText numbers key c.in_ok-number.number more) c.in_ok-from_slice.ensures.items c.in_ok-insert.ensures.ok in
    let grown = subst (λ n. InsertsText numbers c.args.key.now n more) number keyed in
    let longer = c.in_ok-push-2.ensures.items ∙ ap (λ list. lists ++ list ∷ []) (c.in_ok-push.ensures.ok ∙ ap (λ list. list ++ c.args.object ∷ []) c.new-list.ensures) in
    subst (IsGrown numbers lists more) (sym longer) (begun_grown numbers lists c.args.key.now c.args.object c.requires.numbered more grown)

pub returns-clause-added : goal.returns-clause-added
returns-clause-added c =
    let numbers = c.args.rows.now.numbers in
    let lists = c.args.rows.now.lists.items in
    let number : c.in_ok-number.number ≡ length lists = subst (λ found. IfSome found (λ same. same ≡ c.len.result)) c.in_ok-number.ensures.ok_part c.narrow.ensures ∙ (let n : c.len.result ≡ length lists = grind (arith, common_steps) in n) in
    let more = c.insert.new.self in
    let keyed = subst (λ key. InsertsText numbers key c.in_ok-number.number more) c.in_ok-from_slice.ensures.items c.in_ok-insert.ensures.ok in
    let grown = subst (λ n. InsertsText numbers c.args.key.now n more) number keyed in
    let longer = c.in_ok-push-2.ensures.items ∙ ap (λ list. lists ++ list ∷ []) (c.in_ok-push.ensures.ok ∙ ap (λ list. list ++ c.args.object ∷ []) c.new-list.ensures) in
    ap (λ longer. is_among (row_at more longer c.args.key.now) c.args.object) longer ∙ begun_added numbers lists c.args.key.now c.args.object c.requires.numbered more grown c.requires.none
