-- Lists whose elements are replaced by what their index and they give.
use Rattle.std.proofs.Common.{◌≡◌, ℕ, ◌+◌, ◌<◌, ◌≤◌, List, [], ◌∷◌, length, map, get_or, refl, ap, ◌∙◌, arith}
use Rattle.std.specs.List.{enumerate_from}
use Rattle.std.proofs.lemmas.List.{length-map, get_or-map, get_or_past}
use Rattle.std.proofs.lemmas.List.FromFn.{length-enumerate_from, get_or-enumerate_from}
use Rattle.fond_task.specs.Steps.{by_index}

pub length-by_index : {A : Type 0} (change : ℕ → A → A) (xs : List A) → length (by_index change xs) ≡ length xs
length-by_index change xs = length-map (enumerate_from 0 xs) (λ item. change item.0 item.1) ∙ length-enumerate_from 0 xs

pub get_or-by_index : {A : Type 0} (change : ℕ → A → A) (xs : List A) (i : ℕ) (d : A) → i < length xs → get_or (by_index change xs) i d ≡ change i (get_or xs i d)
get_or-by_index {A} change xs i d within =
    let long : i < length (enumerate_from 0 xs) = omega (arith, length-enumerate_from 0 xs) in
    let mapped = get_or-map (λ (item : ℕ × A). change item.0 item.1) (enumerate_from 0 xs) i (0, d) d long in
    mapped ∙ ap (λ (item : ℕ × A). change item.0 item.1) (get_or-enumerate_from 0 xs i (0, d) within) ∙ ap (λ n. change n (get_or xs i d)) (omega arith)

pub by_index_past : {A : Type 0} (change : ℕ → A → A) (xs : List A) (i : ℕ) (d : A) → length xs ≤ i → get_or (by_index change xs) i d ≡ d
by_index_past change xs i d past = get_or_past (by_index change xs) i d (omega (arith, length-by_index change xs))

-- a change that a map carries over
pub map-by_index_from : {A B : Type 0} (over : A → B) (change : ℕ → A → A) (other : ℕ → B → B) → ((i : ℕ) (x : A) → other i (over x) ≡ over (change i x)) →
    (n : ℕ) (xs : List A) → map (λ (item : ℕ × B). other item.0 item.1) (enumerate_from n (map over xs)) ≡ map over (map (λ (item : ℕ × A). change item.0 item.1) (enumerate_from n xs))
map-by_index_from over change other each n [] = refl
map-by_index_from over change other each n (x ∷ xs) =
    let rest = map-by_index_from over change other each (n + 1) xs in
    rw (each n x, rest)
