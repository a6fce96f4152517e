-- Lists of variables with the same types.
use Rattle.std.proofs.Common.{◌≡◌, ◌≢◌, ℕ, ◌+◌, ◌&&◌, ◌||◌, Bool, true, false, not, List, [], ◌∷◌, Some, length, drop, slice_get, refl, sym, ap, ◌∙◌, arith}
use Rattle.std.specs.Bool.{Decides}
use Rattle.std.specs.List.{AllZip, list_all}
use Rattle.std.specs.Str.{bytes_eq}
use Rattle.fond_ast.specs.declared.names.Kind.{Kind}
use Rattle.fond_ast.specs.declared.names.TypedName.{TypedName}
use Rattle.fond_names.specs.Faults.{HaveSameTypes}
use Rattle.fond_names.specs.Names.{is_among}
use Rattle.fond_names.specs.Same.{kind_names, are_same_kinds, are_same_types}
use Rattle.fond_names.proofs.Differs.{next_left, same_text}

and_parts : (a b : Bool) → (a && b) ≡ true → (a ≡ true) × (b ≡ true)
and_parts true b e = (refl, e)
and_parts false b e = cc

and_both : (a b : Bool) → a ≡ true → b ≡ true → (a && b) ≡ true
and_both a b h k = ap (λ c. c && b) h ∙ k

as_long : (ones others : List TypedName) → are_same_types ones others ≡ true → length ones ≡ length others
as_long [] [] e = refl
as_long [] (other ∷ others) e = cc
as_long (one ∷ ones) [] e = cc
as_long (one ∷ ones) (other ∷ others) e =
    let rest = as_long ones others (and_parts (are_same_kinds one.kinds other.kinds) (are_same_types ones others) e).1 in omega (arith, rest)

-- lists of other lengths do not have the same types
pub not_as_long : (ones others : List TypedName) → length ones ≢ length others → false ≡ are_same_types ones others
not_as_long ones others other = by (are_same_types ones others) refl
  where
    by : (b : Bool) → are_same_types ones others ≡ b → false ≡ b
    by true e = absurd (other (as_long ones others e))
    by false e = refl

-- lists have the same types from an index on if they do there and after it
pub same_at : (ones others : List TypedName) (i : ℕ) (one other : TypedName) → slice_get ones i ≡ Some one → slice_get others i ≡ Some other →
    are_same_types (drop i ones) (drop i others) ≡ (are_same_kinds one.kinds other.kinds && are_same_types (drop (i + 1) ones) (drop (i + 1) others))
same_at ones others i one other at there = λ k. are_same_types (next_left ones i one at k) (next_left others i other there k)

-- types place by place
pub same_types_decide : (ones others : List TypedName) → Decides (are_same_types ones others) (AllZip HaveSameTypes ones others)
same_types_decide [] [] = (λ e. tt, λ h. refl)
same_types_decide [] (other ∷ others) = (λ e. cc, λ h. absurd h)
same_types_decide (one ∷ ones) [] = (λ e. cc, λ h. absurd h)
same_types_decide (one ∷ ones) (other ∷ others) =
    let rest = same_types_decide ones others in (
      λ e. let both = and_parts (are_same_kinds one.kinds other.kinds) (are_same_types ones others) e in
          let own = and_parts (list_all (λ (kind : Kind). is_among (kind_names other.kinds) kind.name) one.kinds) (list_all (λ (kind : Kind). is_among (kind_names one.kinds) kind.name) other.kinds) both.0 in
          (own, rest.0 both.1),
      λ h. and_both (are_same_kinds one.kinds other.kinds) (are_same_types ones others) (and_both _ _ h.0.0 h.0.1) (rest.1 h.1),
    )

or_left : (a b : Bool) → a ≡ true → (true ≡ (b || a))
or_left true true e = refl
or_left true false e = refl
or_left false b e = cc

all_along : (good better : Kind → Bool) → ((kind : Kind) → good kind ≡ true → better kind ≡ true) → (kinds : List Kind) → list_all good kinds ≡ true → list_all better kinds ≡ true
all_along good better over [] e = refl
all_along good better over (kind ∷ kinds) e =
    let both = and_parts (good kind) (list_all good kinds) e in
    and_both (better kind) (list_all better kinds) (over kind both.0) (all_along good better over kinds both.1)

-- each of some types is one of them
all_among : (kinds : List Kind) → list_all (λ kind. is_among (kind_names kinds) kind.name) kinds ≡ true
all_among [] = refl
all_among (kind ∷ kinds) =
    and_both (is_among (kind_names (kind ∷ kinds)) kind.name) _ (ap (λ b. b || is_among (kind_names kinds) kind.name) (same_text kind.name))
    (all_along (λ (one : Kind). is_among (kind_names kinds) one.name) (λ (one : Kind). is_among (kind_names (kind ∷ kinds)) one.name) (λ one e. sym (or_left (is_among (kind_names kinds) one.name) (bytes_eq one.name kind.name) e)) kinds (all_among kinds))

-- a list has the same types as itself
pub same_as_itself : (names : List TypedName) → are_same_types names names ≡ true
same_as_itself [] = refl
same_as_itself (name ∷ names) =
    and_both (are_same_kinds name.kinds name.kinds) (are_same_types names names) (and_both _ _ (all_among name.kinds) (all_among name.kinds)) (same_as_itself names)

-- the contrary of a test
pub not_decides : (b : Bool) (P : Type 0) → Decides b P → Decides (not b) (¬ P)
not_decides true P h = (λ e. cc, λ n. absurd (n (h.0 refl)))
not_decides false P h = (λ e p. let other : false ≡ true = h.1 p in cc (other), λ n. refl)
