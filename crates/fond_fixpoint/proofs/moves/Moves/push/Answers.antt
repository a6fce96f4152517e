use Rattle.std.proofs.Common.{◌≡◌, ◌∷◌, [], ◌++◌, ◌+◌, map, length, arith, ap, ◌∙◌}
use Rattle.std.proofs.lemmas.List.{length-append}
use Rattle.fond_fixpoint.specs.declared.moves.Head.{Head}
use Rattle.fond_fixpoint.specs.Heads.{move_of}
use Rattle.fond_fixpoint.proofs.Pushed.{pushed}
use Rattle.fond_fixpoint.proofs.moves.Moves.push.Goals as goal

pub returns : goal.returns
returns c =
    let targets = c.self.inside.targets.items in
    let more = c.args.targets.now in
    let heads = c.self.inside.heads.items in
    let head : Head = record { source = c.args.source; act = c.args.act; begin = c.len-begin.result; end = c.len-2.result; unfair = c.args.unfair } in
    let longer : c.extend_from_slice.new.self.items ≡ targets ++ more = c.in_ok-extend_from_slice.ensures.items in
    let one_more : c.push.new.self.items ≡ heads ++ head ∷ [] = c.in_ok-push.ensures.items in
    let ends : c.len-2.result ≡ length targets + length more = omega (arith, ap length longer, length-append targets more, c.len-2.ensures) in
    ap (λ ts. map (move_of ts) c.push.new.self.items) longer ∙ ap (λ hs. map (move_of (targets ++ more)) hs) one_more
    ∙ pushed targets more heads head c.self.invariant.2 (omega (arith, c.len-begin.ensures)) ends ∙ ap (λ moves. moves ++ record { source = c.args.source; act = c.args.act; unfair = c.args.unfair; targets = more } ∷ []) c.self.view_is
