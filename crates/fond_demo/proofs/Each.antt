-- Texts one after the other.
use Rattle.std.proofs.Common.{◌≡◌, ℕ, suc, ◌+◌, List, Option, sym, ap, arith}
use Rattle.fond_text.specs.Text.{Adds}
use Rattle.fond_text.proofs.Adding.{adds_same, adds_then}
use Rattle.fond_demo.specs.Demos.{for_each}

-- the text of one more number
pub one_more : (text : ℕ → List ℕ) (n : ℕ) (before now after : Option (List ℕ)) → Adds before now (for_each n text) → Adds now after (text n) → Adds before after (for_each (n + 1) text)
one_more text n before now after so_far put =
    let more : n + 1 ≡ suc n = omega arith in
    adds_same before after _ _ (ap (λ k. for_each k text) (sym more)) (adds_then before now after (for_each n text) (text n) so_far put)
