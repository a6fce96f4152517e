-- Literals that a cube has, loses and gets back.
use Rattle.std.proofs.Common.{◌≡◌, ℕ, ◌<◌, List, Bool, Option, Some, None, length, set, sym, ap, ◌∙◌, subst, ⊎_elim}
use Rattle.std.specs.Prelude.{slice_set}
use Rattle.std.proofs.lemmas.Bool.{cases_eq, cases_lt}
use Rattle.std.proofs.lemmas.List.{get_or-set_same, get_or-set_other, get_or_past, length-set, set-set, set-get_or}
use Rattle.std.proofs.lemmas.Option.{none-some}
use Rattle.fond_state.specs.Cubes.{CubeLiesIn, literal_at, without_literal}
use Rattle.fond_rules.specs.Leans.{NeedsLiteral}

-- an atom with a literal is one of the cube's
pub literal_within : (cube : List (Option Bool)) (atom : ℕ) (sign : Bool) → literal_at cube atom ≡ Some sign → atom < length cube
literal_within cube atom sign is = ⊎_elim (λ small. small) (λ past. absurd (none-some sign (sym (get_or_past cube atom None past) ∙ is))) (cases_lt atom (length cube))

-- a literal that was dropped and put back
pub put_back : (cube : List (Option Bool)) (atom : ℕ) (sign : Bool) → literal_at cube atom ≡ Some sign → slice_set (without_literal cube atom) atom (Some sign) ≡ cube
put_back cube atom sign is = set-set cube atom None (Some sign) ∙ ap (set cube atom) (sym is) ∙ set-get_or cube atom None

-- a cube whose literal of an atom was dropped has none of it
pub gone : (cube : List (Option Bool)) (atom : ℕ) (sign : Bool) → ¬ literal_at (without_literal cube atom) atom ≡ Some sign
gone cube atom sign is =
    let small : atom < length cube = subst (λ n. atom < n) (length-set cube atom None) (literal_within (without_literal cube atom) atom sign is) in
    none-some sign (sym (get_or-set_same cube atom None None small) ∙ is)

-- a cube that lies in another one still does if both lose the literal of an atom
pub lies_without : (cube other : List (Option Bool)) (atom : ℕ) → CubeLiesIn cube other → CubeLiesIn (without_literal cube atom) (without_literal other atom)
lies_without cube other atom lies k sign is = ⊎_elim
    (λ same. absurd (gone other k sign (ap (λ n. literal_at (without_literal other n) k) same ∙ is)))
    (λ differs. get_or-set_other cube atom k None None differs ∙ lies k sign (sym (get_or-set_other other atom k None None differs) ∙ is))
    (cases_eq k atom)

-- a cube lies in what is left of it
pub lies_in_rest : (cube : List (Option Bool)) (atom : ℕ) → CubeLiesIn cube (without_literal cube atom)
lies_in_rest cube atom k sign is = ⊎_elim
    (λ same. absurd (gone cube k sign (ap (λ n. literal_at (without_literal cube n) k) same ∙ is)))
    (λ differs. sym (get_or-set_other cube atom k None None differs) ∙ is)
    (cases_eq k atom)

-- a literal that is needed beside more literals is needed beside fewer, if what passes also passes with more literals
pub needs_still : (Passes : List (Option Bool) → Type 0) (cond fewer : List (Option Bool)) (atom : ℕ) →
    ((less more : List (Option Bool)) → length more ≡ length less → CubeLiesIn more less → Passes less → Passes more) →
    length cond ≡ length fewer → CubeLiesIn cond fewer → NeedsLiteral Passes cond atom → NeedsLiteral Passes fewer atom
needs_still Passes cond fewer atom grows long lies needs sign is passed =
    let same = length-set cond atom None ∙ long ∙ sym (length-set fewer atom None) in
    needs sign (lies atom sign is) (grows (without_literal fewer atom) (without_literal cond atom) same (lies_without cond fewer atom lies) passed)

-- each literal is needed if those of the cube's own atoms are
pub needed_each : (Passes : List (Option Bool) → Type 0) (cond : List (Option Bool)) → ((atom : ℕ) → atom < length cond → NeedsLiteral Passes cond atom) → (atom : ℕ) → NeedsLiteral Passes cond atom
needed_each Passes cond needed atom sign is = needed atom (literal_within cond atom sign is) sign is
