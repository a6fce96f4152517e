-- Heads that occur at most once.
use Rattle.std.proofs.Common.{◌≡◌, ℕ, zero, suc, ◌<◌, ◌≤◌, ◌||◌, Bool, true, false, List, [], ◌∷◌, ◌++◌, filter, length, Option, Some, None, slice_index_or, refl, sym, ap, ◌∙◌, subst, arith, append_assoc, if◌then◌else◌, Contains}
use Rattle.std.specs.List.{list_any, filter_map}
use Rattle.std.specs.Str.{bytes_eq}
use Rattle.std.proofs.lemmas.Slice.Eq.{bytes_eq-Decides}
use Rattle.std.proofs.lemmas.List.Elements.{filter_map-append, Contains-append_left, Contains-append_right}
use Rattle.fond_text.specs.declared.place.Place.{Place}
use Rattle.fond_tree.specs.declared.tree.Tree.{Tree}
use Rattle.fond_tree.specs.Trees.{place_of}
use Rattle.fond_tree.specs.Words.{is_one_of, is_word}
use Rattle.fond_tree.specs.FormFaults.{Repeats}
use Rattle.std.proofs.lemmas.List.{length-append}
use Rattle.std.proofs.lemmas.List.Elements.{filter-append}
use Rattle.fond_tree.proofs.Again.{any_headed}

-- a word that a list contains is one of its words
pub contained : (words : List (List ℕ)) (word : List ℕ) → Contains words word → is_one_of words word ≡ true
contained words word found = from words found.0 found.1 found.2 where
  here : (same rest : Bool) → same ≡ true → (same || rest) ≡ true
  here true rest is = refl
  here false rest is = absurd (cc)

  there : (same rest : Bool) → rest ≡ true → (same || rest) ≡ true
  there true rest is = refl
  there false rest is = is

  from : (ws : List (List ℕ)) (k : ℕ) → k < length ws → slice_index_or ws k word ≡ word → list_any (bytes_eq word) ws ≡ true
  from [] k below is = absurd (omega arith)
  from (w ∷ ws) zero below is = here _ _ ((bytes_eq-Decides word w).1 (sym is))
  from (w ∷ ws) (suc k) below is = there _ _ (from ws k (omega arith) is)

-- if no head that may occur only once follows another one, each occurs at most once
module _ (heads : Tree → Option (List ℕ)) (single : List (List ℕ)) (trees : List Tree) (unrepeated : (place : Place) → ¬ Repeats heads single trees place) (word : List ℕ) (counts : Contains single word) where
  of_word : (tree : Tree) (head : Option (List ℕ)) → heads tree ≡ head → is_word word head ≡ true → heads tree ≡ Some word
  of_word tree None is same = absurd (cc)
  of_word tree (Some head) is same = is ∙ ap (λ h. Some h) ((bytes_eq-Decides head word).0 same)

  none_later : (before after : List Tree) → trees ≡ before ++ after → Contains (filter_map heads before) word → filter (λ t. is_word word (heads t)) after ≡ []
  none_later before [] split earlier = refl
  none_later before (t ∷ ts) split earlier =
      step (is_word word (heads t)) refl (none_later (before ++ t ∷ []) ts (split ∙ sym (append_assoc before (t ∷ []) ts)) seen) where
        seen : Contains (filter_map heads (before ++ t ∷ [])) word
        seen = let P : List (List ℕ) → Type 0 = λ ws. Contains ws word in subst P (sym (filter_map-append heads before (t ∷ []))) (Contains-append_left (filter_map heads before) (filter_map heads (t ∷ [])) word earlier)

        step : (b : Bool) → is_word word (heads t) ≡ b → filter (λ t. is_word word (heads t)) ts ≡ [] → (if b then t ∷ filter (λ t. is_word word (heads t)) ts else filter (λ t. is_word word (heads t)) ts) ≡ []
        step true is rest = absurd (unrepeated (place_of t) (record {
          before = before;
          item = t;
          after = ts;
          split = split;
          has = record { head = word; headed = of_word t (heads t) refl is; counts = contained single word counts; earlier = earlier; place_is = refl };
        }))
        step false is rest = rest

  one_from : (before after : List Tree) → trees ≡ before ++ after → length (filter (λ t. is_word word (heads t)) after) ≤ 1
  one_from before [] split = omega arith
  one_from before (t ∷ ts) split = step (is_word word (heads t)) refl (one_from (before ++ t ∷ []) ts again) where
    again : trees ≡ (before ++ t ∷ []) ++ ts
    again = split ∙ sym (append_assoc before (t ∷ []) ts)

    just : heads t ≡ Some word → filter_map heads (t ∷ []) ≡ word ∷ []
    just is = rw is refl

    seen : heads t ≡ Some word → Contains (filter_map heads (before ++ t ∷ [])) word
    seen is =
        let P : List (List ℕ) → Type 0 = λ ws. Contains ws word in
        subst P (sym (filter_map-append heads before (t ∷ []) ∙ ap (λ ws. filter_map heads before ++ ws) (just is))) (Contains-append_right (filter_map heads before) (word ∷ []) word (0, omega arith, refl))

    step : (b : Bool) → is_word word (heads t) ≡ b → length (filter (λ t. is_word word (heads t)) ts) ≤ 1 → length (if b then t ∷ filter (λ t. is_word word (heads t)) ts else filter (λ t. is_word word (heads t)) ts) ≤ 1
    step true is rest =
        let none : filter (λ t. is_word word (heads t)) ts ≡ [] = none_later (before ++ t ∷ []) ts again (seen (of_word t (heads t) refl is)) in
        let P : List Tree → Type 0 = λ xs. length (t ∷ xs) ≤ 1 in
        subst P (sym none) (omega arith)
    step false is rest = rest

  pub at_most_one : length (filter (λ t. is_word word (heads t)) trees) ≤ 1
  at_most_one = one_from [] trees refl

-- ---- a head that occurs again occurs twice

one_of_words : (words : List (List ℕ)) (word : List ℕ) → is_one_of words word ≡ true → Contains words word
one_of_words [] word is = absurd (cc)
one_of_words (w ∷ ws) word is = step (bytes_eq word w) refl (one_of_words ws word) is where
  step : (same : Bool) → bytes_eq word w ≡ same → (is_one_of ws word ≡ true → Contains ws word) → (same || is_one_of ws word) ≡ true → Contains (w ∷ ws) word
  step true h rest any = (0, omega arith, sym ((bytes_eq-Decides word w).0 h))
  step false h rest any = let later = rest any in (suc later.0, omega (arith, later.1), later.2)

some_pass : (test : Tree → Bool) (trees : List Tree) → list_any test trees ≡ true → 1 ≤ length (filter test trees)
some_pass test [] any = absurd (cc)
some_pass test (t ∷ ts) any = step (test t) (some_pass test ts) any where
  step : (b : Bool) → (list_any test ts ≡ true → 1 ≤ length (filter test ts)) → (b || list_any test ts) ≡ true → 1 ≤ length (if b then t ∷ filter test ts else filter test ts)
  step true rest any = omega arith
  step false rest any = rest any

pub repeats_twice : (heads : Tree → Option (List ℕ)) (single : List (List ℕ)) (trees : List Tree) (place : Place) → Repeats heads single trees place →
    (word : List ℕ) × Contains single word × (2 ≤ length (filter (λ t. is_word word (heads t)) trees))
repeats_twice heads single trees place r =
    let word = r.has.head in
    let test : Tree → Bool = λ t. is_word word (heads t) in
    let before = some_pass test r.before ((any_headed heads word r.before).1 r.has.earlier) in
    let here : test r.item ≡ true = ap (is_word word) r.has.headed ∙ (bytes_eq-Decides word word).1 refl in
    let item = some_pass test (r.item ∷ r.after) (ap (λ b. b || list_any test r.after) here) in
    let all = ap (λ ts. length (filter test ts)) r.split in
    let both = ap length (filter-append test r.before (r.item ∷ r.after)) in
    (word, one_of_words single word r.has.counts, omega (arith, all, both, length-append (filter test r.before) (filter test (r.item ∷ r.after)), before, item))
