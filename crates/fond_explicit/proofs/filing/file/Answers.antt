use Rattle.std.proofs.Common.{◌≡◌, ◌<◌, ◌∷◌, ◌++◌, [], length, refl, sym, ap, ◌∙◌, arith}
use Rattle.std.proofs.lemmas.Option.{same_Some, slice_get-get_or}
use Rattle.fond_explicit.specs.Filings.{filed_under}
use Rattle.fond_explicit.proofs.Filed.{files_under}
use Rattle.fond_explicit.proofs.filing.file.Goals as goal

pub returns : goal.returns
returns c =
    let old = c.args.index.now in
    let number = c.args.number in
    let under = c.in-Some.under in
    let list = c.push-2.new.self in
    let within : under < length old.by_atom.items = omega (arith, c.if-under-len.false, c.len.ensures) in
    let was : c.index_mut.result.now ≡ filed_under old.by_atom.items under
    = c.index_mut.ensures.value ∙ same_Some _ _ (sym (slice_get-get_or old.by_atom.items under c.index_mut.result.now within) ∙ slice_get-get_or old.by_atom.items under [] within) in
    let more : list ≡ filed_under old.by_atom.items under ++ number ∷ [] = c.in_ok-push-3.ensures.ok ∙ ap (λ xs. xs ++ number ∷ []) was in
    files_under old _ c.args.atom under number list c.in-Some.is within more refl refl
