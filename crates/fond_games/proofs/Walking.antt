-- Walks, and what follows what in a list.
use Rattle.std.proofs.Common.{inl, inr, ⊎_elim, ◌≡◌, ◌<◌, List, [], ◌∷◌, ◌++◌, Some, length, map, refl, sym, ap, ◌∙◌, subst, append_assoc, arith}
use Rattle.std.specs.Prelude.{◌⊎◌, Contains}
use Rattle.fond_state.specs.Games.{Game, Policy, Reach, start, onward}
use Rattle.fond_games.specs.Walks.{Walk, stay, leave, IsInReach, Follows}
use Rattle.fond_games.specs.Lassos.{Step}
use Rattle.fond_games.proofs.Lists.{Contains-none, Contains-here, Contains-later, Contains-cases, Contains-right}

module _ {S : Type 0} {Leads : S → S → Type 0} where
  pub join : (x : S) (one : List S) (y : S) (two : List S) (z : S) → Walk Leads x one y → Walk Leads y two z → Walk Leads x (one ++ two) z
  join x one y two z (stay s) more = more
  join x one y two z (leave s t u rest step walk) more = leave s t z (rest ++ two) step (join t rest u two z walk more)

  pub through : (x y z : S) → IsInReach Leads x y → IsInReach Leads y z → IsInReach Leads x z
  through x y z first second = (first.0 ++ second.0, join x first.0 y second.0 z first.1 second.1)

  pub one_step : (x y : S) → Leads x y → IsInReach Leads x y
  one_step x y step = (x ∷ [], leave x y y [] step (stay y))

  -- a walk begins with its first state, or has no step
  pub begins : (x : S) (states : List S) (y : S) → Walk Leads x states y → Contains states x ⊎ (x ≡ y)
  begins x states y (stay s) = inr refl
  begins x states y (leave s t u rest step walk) = inl (Contains-here s rest)

  -- a walk of at least one step leaves its first state
  pub turned : (x : S) (states : List S) (y : S) → Walk Leads x states y → 0 < length states → Contains states x
  turned x states y (stay s) some = absurd (omega (arith, some))
  turned x states y (leave s t u rest step walk) some = Contains-here s rest

  pub begins_with : (x : S) (states : List S) (y : S) → Walk Leads x states y → (rest : List S) × (states ++ y ∷ [] ≡ x ∷ rest)
  begins_with x states y (stay s) = ([], refl)
  begins_with x states y (leave s t u rest step walk) = (rest ++ u ∷ [], refl)

  -- a state that a walk leaves is in reach, and a step leads from it to a state of the walk
  pub passes : (x : S) (states : List S) (z : S) → Walk Leads x states z → (y : S) → Contains states y → IsInReach Leads x y × ((after : S) × Leads y after × (Contains states after ⊎ (after ≡ z)))
  passes x states z (stay s) y has = absurd (Contains-none y has)
  passes x states z (leave s t u rest step walk) y has = ⊎_elim
      (λ is. let P : S → Type 0 = λ v. IsInReach Leads s v × ((after : S) × Leads v after × (Contains (s ∷ rest) after ⊎ (after ≡ u))) in
      subst P is (([], stay s), (t, step, onto (begins t rest u walk))))
      (λ later. more (passes t rest u walk y later))
      (Contains-cases y s rest has)
    where
      onto : {v : S} → Contains rest v ⊎ (v ≡ u) → Contains (s ∷ rest) v ⊎ (v ≡ u)
      onto {v} (inl has) = inl (Contains-later v s rest has)
      onto {v} (inr is) = inr is

      more : IsInReach Leads t y × ((after : S) × Leads y after × (Contains rest after ⊎ (after ≡ u))) → IsInReach Leads s y × ((after : S) × Leads y after × (Contains (s ∷ rest) after ⊎ (after ≡ u)))
      more found = (through s t y (one_step s t step) found.0, (found.1.0, found.1.1, onto found.1.2))

-- a walk along a relation is one along each weaker relation, also of what a function gives
pub walk_map : {S T : Type 0} {Leads : S → S → Type 0} {Also : T → T → Type 0} (f : S → T) → ((x y : S) → Leads x y → Also (f x) (f y)) → (x : S) (states : List S) (y : S) → Walk Leads x states y → Walk Also (f x) (map f states) (f y)
walk_map f each x states y (stay s) = stay (f s)
walk_map f each x states y (leave s t u rest step walk) = leave (f s) (f t) (f u) (map f rest) (each s t step) (walk_map f each t rest u walk)

pub walk_same : {S : Type 0} {Leads Also : S → S → Type 0} → ((x y : S) → Leads x y → Also x y) → (x : S) (states : List S) (y : S) → Walk Leads x states y → Walk Also x states y
walk_same each x states y (stay s) = stay s
walk_same each x states y (leave s t u rest step walk) = leave s t u rest (each s t step) (walk_same each t rest u walk)

pub map_joined : {S T : Type 0} (f : S → T) (xs ys : List S) → map f (xs ++ ys) ≡ map f xs ++ map f ys
map_joined f [] ys = refl
map_joined f (x ∷ xs) ys = ap (λ zs. f x ∷ zs) (map_joined f xs ys)

pub follows_map : {S T : Type 0} (f : S → T) (xs : List S) (last a b : S) → Follows (xs ++ last ∷ []) a b → Follows (map f xs ++ f last ∷ []) (f a) (f b)
follows_map f xs last a b follows = record {
  before = map f follows.before;
  rest = map f follows.rest;
  split = sym (map_joined f xs (last ∷ [])) ∙ ap (map f) follows.split ∙ map_joined f follows.before (a ∷ b ∷ follows.rest);
}

module _ {S : Type 0} where
  pub follows_after : (x : S) (xs : List S) (a b : S) → Follows xs a b → Follows (x ∷ xs) a b
  follows_after x xs a b f = record { before = x ∷ f.before; rest = f.rest; split = ap (λ ys. x ∷ ys) f.split }

  pub follows_right : (xs ys : List S) (a b : S) → Follows ys a b → Follows (xs ++ ys) a b
  follows_right [] ys a b f = f
  follows_right (x ∷ xs) ys a b f = follows_after x (xs ++ ys) a b (follows_right xs ys a b f)

  pub follows_left : (xs ys : List S) (a b : S) → Follows xs a b → Follows (xs ++ ys) a b
  follows_left xs ys a b f = record { before = f.before; rest = f.rest ++ ys; split = ap (λ zs. zs ++ ys) f.split ∙ append_assoc f.before (a ∷ b ∷ f.rest) ys }

  pub follows_has : (xs : List S) (a b : S) → Follows xs a b → Contains xs b
  follows_has xs a b f = subst (λ zs. Contains zs b) (sym f.split) (Contains-right b f.before (a ∷ b ∷ f.rest) (Contains-later b a (b ∷ f.rest) (Contains-here b f.rest)))

module _ {S A : Type 0} (game : Game S A) (policy : Policy S A) where
  pub step_of : (state : S) (choice : A) (after : S) → ¬ game.IsGoal state → policy state ≡ Some choice → game.IsNext state choice after → Step game policy state after
  step_of state choice after open_ chosen next = record { open_ = open_; choice = choice; chosen = chosen; next = next }

  pub walk_to : (state : S) → Reach game policy state → IsInReach (Step game policy) game.first state
  walk_to state start = ([], stay game.first)
  walk_to state (onward s a t reached open_ chosen next) = through game.first s t (walk_to s reached) (one_step s t (step_of s a t open_ chosen next))

  pub reach_on : (x : S) (states : List S) (y : S) → Walk (Step game policy) x states y → Reach game policy x → Reach game policy y
  reach_on x states y (stay s) reached = reached
  reach_on x states y (leave s t u rest step walk) reached = reach_on t rest u walk (onward s step.choice t reached step.open_ step.chosen step.next)
