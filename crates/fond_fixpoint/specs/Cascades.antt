-- Nodes that fall since all moves out of them lead to nodes that fell before.
use Rattle.std.specs.Prelude.{◌≡◌, ◌⊎◌, ℕ, ◌+◌, ◌<◌, ◌≤◌, Bool, true, List, length, count_by}
use Rattle.std.specs.List.{list_any}
use Rattle.fond_fixpoint.specs.declared.fate.Fate.{Fate}
use Rattle.fond_fixpoint.specs.declared.fate.Fate.TheVariants.{Open, Fallen}
use Rattle.fond_fixpoint.specs.Moves.{Move, move_at}
use Rattle.fond_fixpoint.specs.Fates.{fate_of, fell_before, is_kept}

-- whether some target of a move fell before a round
abbrev pub is_ruined : ℕ → List Fate → Move → Bool
is_ruined round fates move = list_any (λ node. fell_before round (fate_of fates node)) move.targets

-- an open node fell in this round or later, and before another one
pub record FallsNow (first after : ℕ) (old new : Fate) : Type 0 where
  pub was : old ≡ Open
  pub round : ℕ
  pub now : new ≡ Fallen round
  pub late : first ≤ round
  pub early : round < after

-- a fate is as it was, or that of an open node that fell from one round to another
abbrev pub IsSettledMore : ℕ → ℕ → Fate → Fate → Type 0
IsSettledMore first after old new = (new ≡ old) ⊎ FallsNow first after old new

-- each move out of a node that fell in this round or later was ruined before the node fell
abbrev pub AreRuined : List Move → ℕ → List Fate → Type 0
AreRuined moves round fates = (number : ℕ) → number < length moves → (fell : ℕ) → fate_of fates (move_at moves number).source ≡ Fallen fell → round ≤ fell → is_ruined fell fates (move_at moves number) ≡ true

-- more open nodes fell from one round to another, each since all moves out of it were ruined
pub record IsCascade (moves : List Move) (round after : ℕ) (old new : List Fate) : Type 0 where
  pub whole : length new ≡ length old
  pub each : (node : ℕ) → node < length old → IsSettledMore round after (fate_of old node) (fate_of new node)
  pub ruined : AreRuined moves round new
  pub few : after + count_by is_kept new ≤ length old
  pub later : round ≤ after
