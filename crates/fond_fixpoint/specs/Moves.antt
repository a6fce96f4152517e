-- The moves of a graph.
use Rattle.std.specs.Prelude.{◌≡◌, ℕ, ◌<◌, List, [], Bool, false, length, slice_index_or}

-- a move: an action that is taken in a node, whether an opponent picks its outcome, and the nodes to which its outcomes lead
pub record Move : Type 0 where
  pub source : ℕ
  pub act : ℕ
  pub unfair : Bool
  pub targets : List ℕ

-- a move that stands for none
abbrev pub no_move : Move
no_move = record { source = 0; act = 0; unfair = false; targets = [] }

-- the move of a number
abbrev pub move_at : List Move → ℕ → Move
move_at moves number = slice_index_or moves number no_move

-- the move of a number is taken in this node, is as fair as this flag says, and leads to these nodes
pub record IsLike (moves : List Move) (number source : ℕ) (unfair : Bool) (targets : List ℕ) : Type 0 where
  pub there : number < length moves
  pub source_is : (move_at moves number).source ≡ source
  pub unfair_is : (move_at moves number).unfair ≡ unfair
  pub targets_are : (move_at moves number).targets ≡ targets
