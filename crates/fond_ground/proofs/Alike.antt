-- Conditions that have the same value for all objects of some variables.
use Rattle.std.proofs.Common.{◌≡◌, ◌≢◌, ◌⊎◌, inl, inr, ℕ, ◌+◌, ◌∙◌, Bool, true, false, not, List, [], ◌∷◌, ◌++◌, length, map, refl, sym, ap, subst, true≢false, arith}
use Rattle.std.specs.Bool.{⊤}
use Rattle.std.specs.List.{flat_map, fold}
use Rattle.fond_text.specs.declared.atom.Atom.{Atom}
use Rattle.fond_ast.specs.declared.form.LCond.{LCond}
use Rattle.fond_ast.specs.Conditions.{tuples}
use Rattle.fond_task.specs.declared.form.Junction.{Junction}
use Rattle.fond_task.specs.declared.form.Kleene.{Kleene}
use Rattle.fond_task.specs.declared.form.Kleene.TheVariants.{No, Unknown, Yes}
use Rattle.fond_task.specs.Junctions.{joined}
use Rattle.fond_join.specs.Fixed.{fixed_value}
use Rattle.fond_join.specs.Values.{condition_value}
use Rattle.fond_join.proofs.FixedValues.{told_by_form}
use Rattle.fond_join.proofs.Joined.{joined_again}
use Rattle.fond_join.proofs.Sound.{Tells}

told_known : (a b : Kleene) → Tells false a b → a ≢ Unknown → a ≡ b
told_known a b (inl same) known = same
told_known a b (inr unknown) known = absurd (known unknown.0)

pub known_value : (v : Kleene) → (v ≡ No) ⊎ (v ≡ Yes) → v ≢ Unknown
known_value v (inl first) is = let never : No ≡ Unknown = sym first ∙ is in cc (never)
known_value v (inr second) is = let never : Yes ≡ Unknown = sym second ∙ is in cc (never)

-- a value that follows from the form of a condition is the same for all objects
pub fixed_alike : (part : LCond) → fixed_value [] part ≢ Unknown → (known : Atom → Kleene) (env other : List ℕ) → condition_value known env part ≡ condition_value known other part
fixed_alike part fixed known env other =
    sym (told_known _ _ (told_by_form [] known (λ predicate objects h. absurd (true≢false (sym h))) part env) fixed)
    ∙ told_known _ _ (told_by_form [] known (λ predicate objects h. absurd (true≢false (sym h))) part other) fixed

pub not_true : (b : Bool) → not b ≡ true → b ≡ false
not_true true h = absurd (true≢false (sym h))
not_true false h = refl

-- the lists of objects that are left have one object of each range
abbrev pub AreLong : ℕ → List (List ℕ) → Type 0
AreLong count [] = ⊤
AreLong count (objects ∷ rest) = (length objects ≡ count) × AreLong count rest

long_before : (count : ℕ) (xs ys : List (List ℕ)) → AreLong count xs → AreLong count ys → AreLong count (xs ++ ys)
long_before count [] ys h g = g
long_before count (x ∷ xs) ys h g = (h.0, long_before count xs ys h.1 g)

long_more : (count object : ℕ) (xs : List (List ℕ)) → AreLong count xs → AreLong (count + 1) (map (λ objects. object ∷ objects) xs)
long_more count object [] h = tt
long_more count object (x ∷ xs) h = ((let same = h.0 in omega (arith, same)), long_more count object xs h.1)

long_flat : (count : ℕ) (xs : List (List ℕ)) (range : List ℕ) → AreLong count xs → AreLong (count + 1) (flat_map (λ object. map (λ objects. object ∷ objects) xs) range)
long_flat count xs [] h = tt
long_flat count xs (object ∷ range) h = long_before (count + 1) (map (λ objects. object ∷ objects) xs) _ (long_more count object xs h) (long_flat count xs range h)

pub tuples_long : (ranges : List (List ℕ)) (count : ℕ) → length ranges ≡ count → AreLong count (tuples ranges)
tuples_long [] count long = (long, tt)
tuples_long (range ∷ ranges) count long =
    let more : length ranges + 1 ≡ count = omega (arith, long) in
    subst (λ n. AreLong n (tuples (range ∷ ranges))) more (long_flat (length ranges) (tuples ranges) range (tuples_long ranges (length ranges) refl))

alike_rest : (junction : Junction) (f : List ℕ → Kleene) (count : ℕ) (a v : Kleene) → ((objects : List ℕ) → length objects ≡ count → f objects ≡ v) → (xs : List (List ℕ)) → AreLong count xs
    → fold (joined junction) (joined junction a v) (map f xs) ≡ joined junction a v
alike_rest junction f count a v same [] long = refl
alike_rest junction f count a v same (x ∷ xs) long =
    ap (λ u. fold (joined junction) u (map f xs)) (ap (joined junction (joined junction a v)) (same x long.0) ∙ joined_again junction a v) ∙ alike_rest junction f count a v same xs long.1

-- if a part has the same value for all lists of objects, the first one decides
pub first_decides : (junction : Junction) (f : List ℕ → Kleene) (count : ℕ) (xs : List (List ℕ)) (x : List ℕ) (rest : List (List ℕ)) (v next w whole : Kleene) → xs ≡ x ∷ rest → AreLong count xs → next ≡ joined junction v w → w ≡ f x
    → ((objects others : List ℕ) → length objects ≡ count → length others ≡ count → f objects ≡ f others) → fold (joined junction) v (map f xs) ≡ whole → next ≡ whole
first_decides junction f count xs x rest v next w whole split long grown same alike before =
    let all = subst (AreLong count) split long in
    grown ∙ ap (joined junction v) same
    ∙ sym (alike_rest junction f count v (f x) (λ objects is. alike objects x is all.0) rest all.1)
    ∙ ap (λ list. fold (joined junction) v (map f list)) (sym split) ∙ before
