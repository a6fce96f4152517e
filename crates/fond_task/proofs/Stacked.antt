-- Lists of sure layers, with one more.
use Rattle.std.proofs.Common.{◌≡◌, List, [], ◌∷◌, ◌++◌, refl, sym, ap, ◌∙◌, subst, arith}
use Rattle.std.proofs.lemmas.List.{append_assoc, same_from_push, length-append}
use Rattle.std.specs.Prelude.{length}
use Rattle.fond_task.specs.declared.task.Task.{Task}
use Rattle.fond_task.specs.Layers.{CubeView, IsSureLayer, AreSureLayers}

-- a list with an element has a last one
last_of : {X : Type 0} (x : X) (xs : List X) → (front : List X) × (last : X) × (x ∷ xs ≡ front ++ last ∷ [])
last_of x [] = ([], x, refl)
last_of x (y ∷ ys) = let rest = last_of y ys in (x ∷ rest.0, rest.1, ap (λ zs. x ∷ zs) rest.2)

-- no layers are sure layers
pub AreSureLayers-none : (task : Task) → AreSureLayers task []
AreSureLayers-none task before layer behind split = absurd (omega (arith, ap length split, length-append before (layer ∷ behind)))

-- sure layers, followed by one that is sure above them, are sure layers
pub AreSureLayers-push : (task : Task) (layers : List (List CubeView)) (layer : List CubeView) → AreSureLayers task layers → IsSureLayer task layers layer → AreSureLayers task (layers ++ layer ∷ [])
AreSureLayers-push task layers layer sure more before one [] split =
    let parts = same_from_push layers before layer one split in
    subst (λ (l : List CubeView). IsSureLayer task before l) parts.1 (subst (λ (ls : List (List CubeView)). IsSureLayer task ls layer) parts.0 more)
AreSureLayers-push task layers layer sure more before one (next ∷ behind) split =
    let last = last_of next behind in
    let joined : layers ++ layer ∷ [] ≡ (before ++ one ∷ last.0) ++ last.1 ∷ [] = split ∙ ap (λ rest. before ++ one ∷ rest) last.2 ∙ sym (append_assoc before (one ∷ last.0) (last.1 ∷ [])) in
    sure before one last.0 (same_from_push layers (before ++ one ∷ last.0) layer last.1 joined).0
