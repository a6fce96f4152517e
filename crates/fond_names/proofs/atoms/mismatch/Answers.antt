use Rattle.std.proofs.Common.{slice_get, ap, ◌∙◌, arith}
use Rattle.std.specs.Option.{option_and_then}
use Rattle.fond_ast.specs.declared.files.Declared.{Declared}
use Rattle.std.proofs.lemmas.Bool.Decides.{nat_tests}
use Rattle.fond_names.specs.Files.{declarations_of}
use Rattle.fond_names.proofs.Among.{below_none, below_next}
use Rattle.fond_names.proofs.Mismatches.{IsMisfitAt, misfit_at, mismatch_all}
use Rattle.fond_names.proofs.atoms.mismatch.Goals as goal

pub loop-i-init : goal.loop-i-init
loop-i-init c = record {
  first = below_none (IsMisfitAt (declarations_of c.args.files.now) c.args.around.now c.args.predicate.now c.args.atom.now);
  told = c.requires.told;
}

pub misfit-requires-clause-parameter : goal.misfit-requires-clause-parameter
misfit-requires-clause-parameter c =
    ap (option_and_then (λ (predicate : Declared). slice_get predicate.parameters c.loop-i.i)) c.requires.named ∙ c.get-parameter.ensures

pub loop-i-preserved : goal.loop-i-preserved
loop-i-preserved c =
    let files = declarations_of c.args.files.now in
    let around = c.args.around.now in
    record {
      first = below_next (IsMisfitAt files around c.args.predicate.now c.args.atom.now) c.loop-i.i c.loop-i.first c.in_ok-found.found c.earlier-first.result c.loop-i.invariant.first
          (misfit_at files around c.args.predicate.now c.args.atom.now c.loop-i.i c.get-argument.result.now c.get-parameter.result.now c.in_ok-found.found c.get-argument.ensures c.get-parameter.ensures c.in_ok-found.ensures.first) c.earlier-first.ensures;
      told = c.in_ok-found.ensures.told;
    }

pub returns-clause-first : goal.returns-clause-first
returns-clause-first c =
    mismatch_all (declarations_of c.args.files.now) c.args.around.now c.args.predicate.now c.args.atom.now c.requires.named c.loop-i.i c.loop-i.first (grind (arith, nat_tests)) c.loop-i.invariant.first
