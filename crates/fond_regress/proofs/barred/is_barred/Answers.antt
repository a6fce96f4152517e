use Rattle.std.proofs.Common.{◌≡◌, ◌<◌, ◌∙◌, ℕ, List, Some, length, get_or, slice_get, refl, sym, ap, subst, ⊎_elim, arith}
use Rattle.std.proofs.lemmas.Bool.{cases_lt, false≢true}
use Rattle.std.proofs.lemmas.Option.{same_Some, slice_get_within, slice_get-get_or}
use Rattle.fond_task.proofs.Lists.{Contains_numbered, number_of}
use Rattle.fond_task.specs.declared.rule.Pair.{Pair}
use Rattle.fond_regress.specs.Barred.{Bars}
use Rattle.fond_regress.proofs.barred.is_barred.Goals as goal

-- an item that was read is at its place
read_at : (pairs : List Pair) (i : ℕ) (pair : Pair) → i < length pairs → pair ≡ get_or pairs i pair → slice_get pairs i ≡ Some pair
read_at pairs i pair within is = slice_get-get_or pairs i pair within ∙ ap (λ other. Some other) (sym is)

pub loop-pair-init : goal.loop-pair-init
loop-pair-init c = λ number pair small. absurd (omega (arith, small))

pub bars-requires : goal.bars-requires
bars-requires c =
    let own = c.pair-item.result in
    c.requires own (Contains_numbered c.args.pairs.now c.loop-pair.pair-index own (read_at c.args.pairs.now c.loop-pair.pair-index own c.loop-pair-test.true c.pair-item.is))

pub returns-then-bars : goal.returns-then-bars
returns-then-bars c =
    let own = c.pair-item.result in
    let at = read_at c.args.pairs.now c.loop-pair.pair-index own c.loop-pair-test.true c.pair-item.is in
    (λ is. record { pair = own; one = Contains_numbered c.args.pairs.now c.loop-pair.pair-index own at; bars = c.bars.ensures.0 c.if-bars.true }, λ has. refl)

pub loop-pair-preserved : goal.loop-pair-preserved
loop-pair-preserved c = λ number pair small is bars. ⊎_elim
    (λ lt. c.loop-pair.invariant number pair lt is bars)
    (λ ge.
    let own = c.pair-item.result in
    let at = read_at c.args.pairs.now c.loop-pair.pair-index own c.loop-pair-test.true c.pair-item.is in
    let same_number : number ≡ c.loop-pair.pair-index = omega (arith, small, ge) in
    let same : pair ≡ own = same_Some pair own (sym is ∙ ap (slice_get c.args.pairs.now) same_number ∙ at) in
    false≢true (sym c.if-bars.false ∙ c.bars.ensures.1 (subst (λ (p : Pair). Bars p c.args.act c.args.state.now) same bars)))
    (cases_lt number c.loop-pair.pair-index)

pub returns : goal.returns
returns c = (
  λ never. absurd (false≢true never),
  λ has.
      let at = number_of c.args.pairs.now has.pair has.one in
      let within = slice_get_within c.args.pairs.now at.0 has.pair at.1 in
      absurd (c.loop-pair.invariant at.0 has.pair (omega (arith, within, c.loop-pair-test.false)) at.1 has.bars),
)
