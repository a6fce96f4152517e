-- Conditions and effects that are within, by their outermost forms.
use Rattle.std.proofs.Common.{◌≡◌, ℕ, zero, suc, ◌+◌, ◌<◌, ◌&&◌, nat_lt, Some, slice_get, Bool, true, List, [], ◌∷◌, ◌++◌, map, drop, sum, length, get_or, refl, sym, ap, ◌∙◌, arith}
use Rattle.std.specs.List.{list_all, flat_map}
use Rattle.std.proofs.lemmas.List.Folds.{list_all-append}
use Rattle.fond_ast.specs.Ranges.{RangeList, is_rising, objects_of}
use Rattle.fond_ast.specs.Within.{are_ranges_within, is_condition_within, condition_within_step, is_effect_within, effect_within_step}
use Rattle.fond_ast.specs.declared.form.LCond.{LCond, out-LCond}
use Rattle.fond_ast.specs.declared.form.LCond.TheOpen as open_condition
use Rattle.fond_ast.specs.declared.form.LCond.TheFolds.{fold_out-LCond, map-LCond}
use Rattle.fond_ast.specs.declared.form.LEffect.{LEffect, out-LEffect}
use Rattle.fond_ast.specs.declared.form.LEffect.TheOpen as open_effect
use Rattle.fond_ast.specs.declared.form.LEffect.TheFolds.{fold_out-LEffect, map-LEffect}
use Rattle.fond_ast.specs.declared.names.Kind.{Kind}
use Rattle.fond_ast.specs.declared.names.TypedName.{TypedName}
use Rattle.fond_ast.specs.declared.task.LPredicate.{LPredicate}
use Rattle.fond_types.specs.Kept.{range_by}
use Rattle.fond_types.specs.Meanings.{meanings, ranges_around}
use Rattle.fond_names.specs.Names.{Declarations, objects_declared}
use Rattle.fond_types.specs.Resolves.{are_ranges}
use Rattle.fond_names.specs.Same.{kind_names}
use Rattle.fond_names.specs.Sites.{Scope, Site}
use Rattle.fond_types.specs.Sound.{is_sound, are_sound}
use Rattle.fond_types.proofs.AtomLemmas.{are_ranges_of}
use Rattle.std.proofs.lemmas.List.Sums.{sum_by-cons}
use Rattle.fond_names.proofs.Differs.{next_left}
use Rattle.fond_names.proofs.Members.{and_parts, and_both}
use Rattle.fond_types.proofs.RangeLemmas.{range_named}
use Rattle.fond_types.proofs.Subsets.{numbers_rise, numbers_below}

-- a condition is within if its outermost form is
pub condition_within_by : (count : ℕ) (predicates : List LPredicate) (condition : LCond) (layer : open_condition.LCond-F LCond) → out-LCond condition ≡ layer → (around : List (List ℕ)) →
    is_condition_within count predicates condition around ≡ condition_within_step count predicates (map-LCond LCond (List (List ℕ) → Bool) (is_condition_within count predicates) layer) around
condition_within_by count predicates condition layer is around =
    let both : is_condition_within count predicates condition ≡ condition_within_step count predicates (map-LCond LCond (List (List ℕ) → Bool) (is_condition_within count predicates) layer) =
    fold_out-LCond (List (List ℕ) → Bool) (condition_within_step count predicates) condition ∙ ap (λ x. condition_within_step count predicates (map-LCond LCond (List (List ℕ) → Bool) (is_condition_within count predicates) x)) is in
    λ i. both i around

pub effect_within_by : (count : ℕ) (predicates : List LPredicate) (effect : LEffect) (layer : open_effect.LEffect-F LEffect) → out-LEffect effect ≡ layer → (around : List (List ℕ)) →
    is_effect_within count predicates effect around ≡ effect_within_step count predicates (map-LEffect LEffect (List (List ℕ) → Bool) (is_effect_within count predicates) layer) around
effect_within_by count predicates effect layer is around =
    let both : is_effect_within count predicates effect ≡ effect_within_step count predicates (map-LEffect LEffect (List (List ℕ) → Bool) (is_effect_within count predicates) layer) =
    fold_out-LEffect (List (List ℕ) → Bool) (effect_within_step count predicates) effect ∙ ap (λ x. effect_within_step count predicates (map-LEffect LEffect (List (List ℕ) → Bool) (is_effect_within count predicates) x)) is in
    λ i. both i around

range_within : (files : Declarations) (kinds : List Kind) → (is_rising ((meanings files).range kinds) && list_all (λ object. nat_lt object (length (objects_declared files))) ((meanings files).range kinds)) ≡ true
range_within files kinds =
    ap (λ range. is_rising range && list_all (λ object. nat_lt object (length (objects_declared files))) range) (range_named files kinds)
    ∙ and_both (is_rising (range_by files (kind_names kinds))) _ (numbers_rise files.domain.kinds (kind_names kinds) 0 (objects_declared files)) (numbers_below files.domain.kinds (kind_names kinds) 0 (length (objects_declared files)) (objects_declared files) (omega arith))

-- the ranges of variables list objects in rising order
pub ranges_within : (files : Declarations) (names : List TypedName) (ranges : RangeList) → are_ranges (meanings files) names ranges ≡ true → are_ranges_within (length (objects_declared files)) ranges ≡ true
ranges_within files names ranges is =
    ap (list_all (λ range. is_rising range && list_all (λ object. nat_lt object (length (objects_declared files))) range)) (are_ranges_of files names ranges is) ∙ each names
  where
    each : (some : List TypedName) → list_all (λ range. is_rising range && list_all (λ object. nat_lt object (length (objects_declared files))) range) (map (λ (name : TypedName). (meanings files).range name.kinds) some) ≡ true
    each [] = refl
    each (name ∷ some) = and_both (is_rising ((meanings files).range name.kinds) && list_all (λ object. nat_lt object (length (objects_declared files))) ((meanings files).range name.kinds)) _ (range_within files name.kinds) (each some)

-- a quantifier is within if its part is within with its variables around it
pub quantifier_within : (files : Declarations) (around : Scope) (names : List TypedName) (ranges : RangeList) (test : List (List ℕ) → Bool) → are_ranges (meanings files) names ranges ≡ true →
    test (ranges_around (meanings files).range (names ∷ around)) ≡ true → (are_ranges_within (length (objects_declared files)) ranges && test (ranges_around (meanings files).range around ++ objects_of ranges)) ≡ true
quantifier_within files around names ranges test are within =
    and_both (are_ranges_within (length (objects_declared files)) ranges) _ (ranges_within files names ranges are)
    (ap (λ objects. test (ranges_around (meanings files).range around ++ objects)) (are_ranges_of files names ranges are) ∙ within)

-- the sites of each part are sound if those of all parts are
pub sound_parts : {A : Type 0} (files : Declarations) (of : A → Scope → List Site) (around : Scope) (parts : List A) → are_sound files (flat_map (λ part. part around) (map of parts)) ≡ true → list_all (λ part. are_sound files (of part around)) parts ≡ true
sound_parts files of around [] e = refl
sound_parts files of around (part ∷ parts) e =
    let both = and_parts (are_sound files (of part around)) (are_sound files (flat_map (λ some. some around) (map of parts))) (sym (list_all-append (is_sound files) (of part around) (flat_map (λ some. some around) (map of parts))) ∙ e) in
    and_both (are_sound files (of part around)) (list_all (λ some. are_sound files (of some around)) parts) both.0 (sound_parts files of around parts both.1)

pub map-map : {A B C : Type 0} (f : A → B) (g : B → C) (xs : List A) → map g (map f xs) ≡ map (λ x. g (f x)) xs
map-map f g [] = refl
map-map f g (x ∷ xs) = ap (λ ys. g (f x) ∷ ys) (map-map f g xs)

-- the next item, by the loop's reading
pub next_read : {X : Type 0} (xs : List X) (i : ℕ) (x : X) → i < length xs → x ≡ get_or xs i x → slice_get xs i ≡ Some x
next_read [] i x low is = absurd (omega (arith, low))
next_read (y ∷ xs) zero x low is = ap (λ one. Some one) (sym is)
next_read (y ∷ xs) (suc i) x low is = next_read xs i x (omega (arith, low)) is

-- a test that all items from an index on pass is passed by those after it
pub rest_passes : {X : Type 0} (p : X → Bool) (xs : List X) (i : ℕ) (x : X) → slice_get xs i ≡ Some x → list_all p (drop i xs) ≡ true → list_all p (drop (i + 1) xs) ≡ true
rest_passes p xs i x got all = (and_parts (p x) (list_all p (drop (i + 1) xs)) (sym (ap (list_all p) (next_left xs i x got)) ∙ all)).1

-- and by the one at that index
pub here_passes : {X : Type 0} (p : X → Bool) (xs : List X) (i : ℕ) (x : X) → slice_get xs i ≡ Some x → list_all p (drop i xs) ≡ true → p x ≡ true
here_passes p xs i x got all = (and_parts (p x) (list_all p (drop (i + 1) xs)) (sym (ap (list_all p) (next_left xs i x got)) ∙ all)).0

pub all_more : {N : Type 0} (p : N → Bool) (items : List N) (item : N) → list_all p items ≡ true → p item ≡ true → list_all p (items ++ item ∷ []) ≡ true
all_more p items item all one = list_all-append p items (item ∷ []) ∙ (λ i. all i && (one i && true))

-- counts of the items from an index on
pub sum_here : {A : Type 0} (count : A → ℕ) (xs : List A) (i : ℕ) (x : A) → slice_get xs i ≡ Some x → sum (map count (drop i xs)) ≡ count x + sum (map count (drop (i + 1) xs))
sum_here count xs i x got = ap (λ rest. sum (map count rest)) (next_left xs i x got) ∙ sum_by-cons (λ (n : ℕ). n) (count x) (map count (drop (i + 1) xs))

-- the sites of each item are sound if those of all items are
pub sound_flat : {A : Type 0} (files : Declarations) (of : A → List Site) (items : List A) → are_sound files (flat_map of items) ≡ true → list_all (λ item. are_sound files (of item)) items ≡ true
sound_flat files of [] e = refl
sound_flat files of (item ∷ items) e =
    let both = and_parts (are_sound files (of item)) (are_sound files (flat_map of items)) (sym (list_all-append (is_sound files) (of item) (flat_map of items)) ∙ e) in
    and_both (are_sound files (of item)) (list_all (λ one. are_sound files (of one)) items) both.0 (sound_flat files of items both.1)
