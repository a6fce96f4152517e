use Rattle.std.proofs.Common.{◌≡◌, ◌∙◌, ℕ, List, ap, sym}
use Rattle.std.specs.List.{fold}
use Rattle.std.specs.Hash as fed
use Rattle.fond_state.specs.Words.{packed}
use Rattle.fond_state.proofs.Packs.{words_packed}
use Rattle.fond_state.proofs.state.StateHash.hash.Goals as goal

pub returns : goal.returns
returns g c =
    let words = c.self.inside.words.items in
    let long = sym c.self.inside.words.ok.0 ∙ c.self.invariant.0 in
    let is : packed c.args.self.now ≡ words = ap packed (sym c.self.view_is) ∙ words_packed words c.self.inside.atoms c.self.invariant.1 c.self.invariant.2 long in
    let feed = λ (ws : List ℕ). fold g.H.Hasher.write c.args.state.now (fed.slice fed.u64 ws) in
    c.hash.ensures ∙ ap feed (c.as_slice.ensures.value ∙ sym is)
