use Rattle.std.proofs.Common.{ap, ◌∙◌, ◌+◌, map, take}
use Rattle.fond_text.specs.Lists.{each_passes}
use Rattle.fond_types.specs.Meanings.{meanings}
use Rattle.fond_types.specs.Resolves.{is_term}
use Rattle.fond_types.specs.Sound.{is_known}
use Rattle.fond_names.proofs.Members.{all_got}
use Rattle.fond_types.proofs.Passing.{passes_next}
use Rattle.fond_types.proofs.terms.numbered_terms.Goals as goal

pub numbered_term-requires-clause-known : goal.numbered_term-requires-clause-known
numbered_term-requires-clause-known c =
    all_got (is_known c.args.context.now.files c.args.around.now) c.args.terms.now c.loop-i.i c.get.result.now c.get.ensures c.requires.known

pub loop-i-preserved : goal.loop-i-preserved
loop-i-preserved c =
    let test = is_term (meanings c.args.context.now.files) c.args.around.now in
    let terms = c.args.terms.now in
    ap (each_passes (map test (take (c.loop-i.i + 1) terms))) c.in_ok-push.ensures.ok
    ∙ passes_next test terms c.loop-i.i c.get.result.now c.loop-i.numbers c.numbered_term.result c.get.ensures c.loop-i.invariant c.numbered_term.ensures.resolved
