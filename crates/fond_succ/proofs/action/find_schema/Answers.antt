use Rattle.std.proofs.Common.{◌≡◌, ◌<◌, true, sym, ◌∙◌, arith, length}
use Rattle.std.specs.Str.{bytes_eq}
use Rattle.std.proofs.lemmas.Option.{slice_get_within}
use Rattle.std.proofs.lemmas.Slice.Eq.{bytes_eq-Decides}
use Rattle.fond_succ.proofs.action.find_schema.Goals as goal

pub returns-then-eq-clause-found : goal.returns-then-eq-clause-found
returns-then-eq-clause-found c =
    let same : bytes_eq c.bytes.result.now c.args.name.now ≡ true = cc in
    (c.get.result.now, c.get.ensures, sym c.bytes.ensures.value ∙ (bytes_eq-Decides c.bytes.result.now c.args.name.now).0 same)

pub returns-clause-none : goal.returns-clause-none
returns-clause-none c = λ number schema at same.
    let within : number < length c.args.schemas.now = slice_get_within c.args.schemas.now number schema at in
    c.loop-i.invariant number schema (omega arith) at same
