-- Numbers in the order of their first use, part by part.
use Rattle.std.proofs.Common.{inl, inr, ℕ, ◌+◌, List, [], ◌∷◌, ◌++◌, Bool, length, sym, ap, ◌∙◌, subst, ⊎_elim}
use Rattle.std.specs.Prelude.{slice_get}
use Rattle.std.proofs.lemmas.List.{length-append}
use Rattle.std.proofs.lemmas.Option.{slice_get_within}
use Rattle.fond_games.specs.Renaming.{FirstUsed}
use Rattle.fond_store.specs.Stores.{Adds}

-- numbers that are used one part after the other
pub first_joined : (seen : ℕ) (xs : List ℕ) (mid : ℕ) (ys : List ℕ) (end : ℕ) → FirstUsed seen xs mid → FirstUsed mid ys end → FirstUsed seen (xs ++ ys) end
first_joined seen [] mid ys end is also = subst (λ n. FirstUsed n ys end) is also
first_joined seen (x ∷ xs) mid ys end is also = ⊎_elim
    (λ before. inl (before.0, first_joined seen xs mid ys end before.1 also))
    (λ next. inr (next.0, first_joined (seen + 1) xs mid ys end next.1 also))
    is

-- the number of a state that is added was used before, or is the next one
pub first_added : (old : List (List Bool)) (state : List Bool) (number : ℕ) (new : List (List Bool)) → Adds old state number new → FirstUsed (length old) (number ∷ []) (length new)
first_added old state number new adds = ⊎_elim
    (λ kept. inl (slice_get_within old number state (ap (λ (s : List (List Bool)). slice_get s number) (sym kept.1) ∙ adds.numbered), ap length kept.1))
    (λ last. inr (last.1, ap length last.2 ∙ length-append old (state ∷ [])))
    adds.kept_or_last
