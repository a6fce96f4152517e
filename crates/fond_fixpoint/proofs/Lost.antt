-- Tests of the targets of moves that do not win.
use Rattle.std.proofs.Common.{◌≡◌, ℕ, ◌<◌, List, [], ◌∷◌, Bool, true, false, refl, sym, ◌∙◌, ⊎_elim, inl, inr}
use Rattle.std.specs.Prelude.{◌⊎◌, ◌&&◌, ◌||◌}
use Rattle.std.specs.List.{list_all, list_any, AllByRecursion}
use Rattle.std.proofs.lemmas.Bool.{and_parts, and_from, and_cases, or_cases, or_left, or_right, or_parts, true≢false, cases_Bool}

module _ (won kept before here : ℕ → Bool) (nodes : ℕ)
    (fell : (node : ℕ) → node < nodes → kept node ≡ false → before node ≡ true)
    (stuck : (node : ℕ) → node < nodes → kept node ≡ true → won node ≡ false → here node ≡ true) where
  abbrev AreNodes : List ℕ → Type 0
  AreNodes = AllByRecursion (λ node. node < nodes)

  fallen_or_stuck : (node : ℕ) → node < nodes → won node ≡ false → (before node ≡ true) ⊎ (here node ≡ true)
  fallen_or_stuck node within none = ⊎_elim (λ is. inr (stuck node within is none)) (λ not. inl (fell node within not)) (cases_Bool (kept node))

  -- if some target of an unfair move is not won, some target has fallen before or is stuck
  pub unfair_lost : (targets : List ℕ) → AreNodes targets → list_all won targets ≡ false → (list_any before targets || list_any here targets) ≡ true
  unfair_lost [] within none = absurd (true≢false none)
  unfair_lost (node ∷ targets) within none = ⊎_elim
      (λ not. ⊎_elim
      (λ was. or_left (before node || list_any before targets) (here node || list_any here targets) (or_left (before node) _ was))
      (λ is. or_right (before node || list_any before targets) (here node || list_any here targets) (or_left (here node) _ is))
      (fallen_or_stuck node within.0 not))
      (λ rest. ⊎_elim
      (λ was. or_left (before node || list_any before targets) (here node || list_any here targets) (or_right (before node) _ was))
      (λ is. or_right (before node || list_any before targets) (here node || list_any here targets) (or_right (here node) _ is))
      (or_cases _ _ (unfair_lost targets within.1 rest)))
      (and_cases (won node) (list_all won targets) none)

  some_fell : (targets : List ℕ) → AreNodes targets → list_all kept targets ≡ false → list_any before targets ≡ true
  some_fell [] within none = absurd (true≢false none)
  some_fell (node ∷ targets) within none = ⊎_elim
      (λ not. or_left (before node) (list_any before targets) (fell node within.0 not))
      (λ rest. or_right (before node) (list_any before targets) (some_fell targets within.1 rest))
      (and_cases (kept node) (list_all kept targets) none)

  all_stuck : (targets : List ℕ) → AreNodes targets → list_all kept targets ≡ true → list_any won targets ≡ false → list_all here targets ≡ true
  all_stuck [] within all none = refl
  all_stuck (node ∷ targets) within all none =
      let keeps = and_parts (kept node) (list_all kept targets) all in
      let nones = or_parts (won node) (list_any won targets) none in
      and_from (here node) (list_all here targets) (stuck node within.0 keeps.0 nones.0) (all_stuck targets within.1 keeps.1 nones.1)

  -- if a fair move does not win, some target has fallen before or all are stuck
  pub fair_lost : (targets : List ℕ) → AreNodes targets → (list_all kept targets && list_any won targets) ≡ false → (list_any before targets || list_all here targets) ≡ true
  fair_lost targets within none = ⊎_elim
      (λ all. ⊎_elim
      (λ not. absurd (true≢false (sym all ∙ not)))
      (λ not. or_right (list_any before targets) (list_all here targets) (all_stuck targets within all not))
      (and_cases _ _ none))
      (λ not. or_left (list_any before targets) (list_all here targets) (some_fell targets within not))
      (cases_Bool (list_all kept targets))
