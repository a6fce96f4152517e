-- Cubes by their literals: those that a cube takes, keeps or loses.
use Rattle.std.proofs.Common.{◌≡◌, ℕ, zero, suc, ◌<◌, List, Bool, false, Some, None, length, replicate, set, refl, sym, ap, ◌∙◌, subst, ⊎_elim}
use Rattle.std.proofs.lemmas.Bool.{cases_eq}
use Rattle.std.proofs.lemmas.List.{get_or-map, get_or-set_same, get_or-set_other, length-set, length-map}
use Rattle.std.proofs.lemmas.Option.{none-some, same_Some}
use Rattle.fond_state.specs.Cubes.{LiesIn, CubeLiesIn, full_cube, literal_at}
use Rattle.fond_task.specs.Layers.{CubeView}
use Rattle.fond_rules.proofs.Literals.{literal_within}
use Rattle.fond_regress.specs.Taken.{TakesFrom}

-- a cube without literals lies around each cube
pub none_replicate : (n atom : ℕ) → literal_at (replicate n None) atom ≡ None
none_replicate zero atom = refl
none_replicate (suc n) zero = refl
none_replicate (suc n) (suc atom) = none_replicate n atom

pub lies_in_empty : (source : CubeView) (n : ℕ) → CubeLiesIn source (replicate n None)
lies_in_empty source n atom sign is = absurd (none-some sign (sym (none_replicate n atom) ∙ is))

-- a state lies in each cube of which it has the literals
pub lies_by_full : (state : List Bool) (cube : CubeView) → CubeLiesIn (full_cube state) cube → LiesIn state cube
lies_by_full state cube lies atom sign is =
    let has = lies atom sign is in
    let small : atom < length state = subst (λ n. atom < n) (length-map state (λ value. Some value)) (literal_within (full_cube state) atom sign has) in
    same_Some _ _ (sym (get_or-map (λ value. Some value) state atom false None small) ∙ has)

pub takes_none : (source before : CubeView) → TakesFrom source before before
takes_none source before = (refl, λ lies. lies)

pub takes_twice : (source one two three : CubeView) → TakesFrom source one two → TakesFrom source two three → TakesFrom source one three
takes_twice source one two three first second = (second.0 ∙ first.0, λ lies. second.1 (first.1 lies))

-- a literal of the source is put
pub takes_literal : (source before after : CubeView) (atom : ℕ) (sign : Bool) → literal_at source atom ≡ Some sign → length before ≡ length source → after ≡ set before atom (Some sign) → TakesFrom source before after
takes_literal source before after atom sign has long is = (
  ap length is ∙ length-set before atom (Some sign),
  λ lies k known at. ⊎_elim
      (λ same.
      let small : atom < length before = subst (λ n. atom < n) (sym long) (literal_within source atom sign has) in
      let here : literal_at after k ≡ Some sign = ap (λ c. literal_at c k) is ∙ ap (λ n. literal_at (set before atom (Some sign)) n) same ∙ get_or-set_same before atom (Some sign) None small in
      ap (literal_at source) same ∙ has ∙ sym here ∙ at)
      (λ other. lies k known (sym (ap (λ c. literal_at c k) is ∙ get_or-set_other before atom k (Some sign) None other) ∙ at))
      (cases_eq k atom),
)
