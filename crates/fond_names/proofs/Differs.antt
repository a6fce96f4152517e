-- Items whose first declaration differs from them.
use Rattle.std.proofs.Common.{◌≡◌, ◌≢◌, ℕ, ◌+◌, Bool, true, false, not, cond, List, ◌∷◌, ◌++◌, Option, Some, None, find, take, drop, slice_get, refl, sym, ap, ◌∙◌, subst, append_assoc}
use Rattle.std.specs.Bool.{Decides}
use Rattle.std.specs.Option.{option_or, option_map_or}
use Rattle.std.specs.Str.{bytes_eq}
use Rattle.std.specs.Cmp.Lexicographic.{bytes_decides}
use Rattle.std.proofs.lemmas.List.{at_drop_more, take-append-drop}
use Rattle.std.proofs.lemmas.List.Folds.{find-append}
use Rattle.std.proofs.lemmas.Option.{slice_get_within, get_or_from_slice_get}

-- the items from an index on are the one there and the rest
pub next_left : {X : Type 0} (xs : List X) (i : ℕ) (x : X) → slice_get xs i ≡ Some x → drop i xs ≡ x ∷ drop (i + 1) xs
next_left xs i x at =
    at_drop_more (λ rest. rest) xs i x (slice_get_within xs i x at) ∙ ap (λ y. y ∷ drop (i + 1) xs) (get_or_from_slice_get xs i x x at)

-- a list among others, cut at an index
pub cut_at : {X : Type 0} (before xs after : List X) (i : ℕ) (x : X) → slice_get xs i ≡ Some x → before ++ (xs ++ after) ≡ (before ++ take i xs) ++ (x ∷ (drop (i + 1) xs ++ after))
cut_at before xs after i x got =
    ap (λ all. before ++ (all ++ after)) (sym (take-append-drop i xs))
    ∙ ap (λ rest. before ++ ((take i xs ++ rest) ++ after)) (next_left xs i x got)
    ∙ ap (λ all. before ++ all) (append_assoc (take i xs) (x ∷ drop (i + 1) xs) after)
    ∙ sym (append_assoc before (take i xs) (x ∷ (drop (i + 1) xs ++ after)))

module _ {X : Type 0} (p : X → Bool) (before : List X) (x : X) (after : List X) (passes : p x ≡ true) (differ : X → X → Bool) (Differ : X → X → Type 0)
    (decides : (one other : X) → Decides (differ one other) (Differ one other)) (same : differ x x ≡ false) where
  whole : find p (before ++ (x ∷ after)) ≡ option_or (find p before) (Some x)
  whole = find-append p before (x ∷ after) ∙ ap (λ b. option_or (find p before) (cond b (Some x) (find p after))) passes

  differs : Option X → Bool
  differs first = option_map_or (λ one. differ one x) first false

  by : (found : Option X) → find p before ≡ found → Decides (option_map_or (λ one. differ one x) (option_or found (Some x)) false) ((first : X) × (find p before ≡ Some first) × Differ first x)
  by None none = (λ e. let other : false ≡ true = sym same ∙ e in absurd (cc (other)), λ h. let other : None ≡ Some h.0 = sym none ∙ h.1 in absurd (cc (other)))
  by (Some first) some = (
    λ e. (first, some, (decides first x).0 e),
    λ h. let other : Some first ≡ Some h.0 = sym some ∙ h.1 in let one : h.0 ≡ first = cc in (decides first x).1 (subst (λ (y : X). Differ y x) one h.2),
  )

  -- the first item of the whole list differs from this one if and only if an earlier one is there and differs
  pub differs_later : (all : List X) → all ≡ before ++ (x ∷ after) → Decides (option_map_or (λ one. differ one x) (find p all) false) ((first : X) × (find p before ≡ Some first) × Differ first x)
  differs_later all is =
      subst (λ (found : Option X). Decides (option_map_or (λ one. differ one x) found false) ((first : X) × (find p before ≡ Some first) × Differ first x)) (sym (ap (find p) is ∙ whole)) (by (find p before) refl)

-- texts differ if and only if their comparison fails
pub differ_decides : (one other : List ℕ) → Decides (not (bytes_eq one other)) (one ≢ other)
differ_decides one other = go (bytes_eq one other) (bytes_decides one other)
  where
    go : (b : Bool) → Decides b (one ≡ other) → Decides (not b) (one ≢ other)
    go true h = (λ e. cc, λ n. absurd (n (h.0 refl)))
    go false h = (λ e same. let other : false ≡ true = h.1 same in cc (other), λ n. refl)

pub same_text : (text : List ℕ) → bytes_eq text text ≡ true
same_text text = (bytes_decides text text).1 refl

-- texts that do not differ are the same
pub same_bytes : (one other : List ℕ) → false ≡ not (bytes_eq one other) → one ≡ other
same_bytes one other e = (bytes_decides one other).0 (go (bytes_eq one other) e)
  where
    go : (b : Bool) → false ≡ not b → b ≡ true
    go true h = refl
    go false h = cc
