use Rattle.std.proofs.Common.{◌≡◌, ◌+◌, ◌*◌, ℕ, List, refl, sym, subst, arith}
use Rattle.fond_store.proofs.Firsts.{HasFirsts, has_all, has_more}
use Rattle.fond_store.specs.Texts.{InsertsText}
use Rattle.fond_kinds.specs.Kinds.{root, only_kind}
use Rattle.fond_kinds.specs.Tables.{type_names}
use Rattle.fond_kinds.proofs.Numbers.{name_at, kind_at, names_long}
use Rattle.fond_kinds.proofs.table.put_names.Goals as goal

pub loop-i-init : goal.loop-i-init
loop-i-init c =
    let names = type_names c.args.types.now in
    has_more (λ (name : List ℕ). name) names c.args.numbers.now c.put.new.numbers 0 root root refl refl c.in_ok-put.ensures (subst (λ items. HasFirsts (λ (name : List ℕ). name) names items 0) (sym c.requires.empty) (λ text. refl))

pub loop-i-preserved : goal.loop-i-preserved
loop-i-preserved c =
    let first : HasFirsts (λ (name : List ℕ). name) (type_names c.args.types.now) c.put-in-loop-i.new.numbers (2 * c.loop-i.i + 1 + 1) =
    has_more (λ (name : List ℕ). name) (type_names c.args.types.now) c.loop-i.numbers c.put-in-loop-i.new.numbers (2 * c.loop-i.i + 1) c.get-declared.result.now.name c.bytes.result.now
    (name_at c.args.types.now c.loop-i.i c.get-declared.result.now c.get-declared.ensures) c.bytes.ensures.value c.in_ok-put-2.ensures c.loop-i.invariant in
    let number : 2 * c.loop-i.i + 2 ≡ 2 * c.loop-i.i + 1 + 1 = omega arith in
    let next : 2 * c.loop-i.i + 1 + 1 + 1 ≡ 2 * (c.loop-i.i + 1) + 1 = omega arith in
    subst (λ z. HasFirsts (λ (name : List ℕ). name) (type_names c.args.types.now) c.put-in-loop-i-2.new.numbers z) next
    (has_more (λ (name : List ℕ). name) (type_names c.args.types.now) c.put-in-loop-i.new.numbers c.put-in-loop-i-2.new.numbers (2 * c.loop-i.i + 1 + 1) (only_kind c.get-declared.result.now) c.only_kind.result.now
    (kind_at c.args.types.now c.loop-i.i c.get-declared.result.now c.get-declared.ensures) c.only_kind.ensures (subst (λ n. InsertsText c.put-in-loop-i.new.numbers c.only_kind.result.now n c.put-in-loop-i-2.new.numbers) number c.in_ok-put-3.ensures) first)

pub returns : goal.returns
returns c = has_all (λ name. name) (type_names c.args.types.now) c.loop-i.numbers (2 * c.loop-i.i + 1) (omega (arith, names_long c.args.types.now)) c.loop-i.invariant
