-- The objects of terms, put one after the other as long as they are known.
use Rattle.std.proofs.Common.{◌≡◌, ◌∙◌, ℕ, ◌+◌, ◌<◌, ◌≤◌, List, [], ◌∷◌, ◌++◌, Option, Some, None, length, map, drop, get_or, refl, sym, ap}
use Rattle.std.specs.Prelude.{option_map}
use Rattle.std.proofs.lemmas.List.{append_assoc, append-nil, at_drop_all, at_drop_more}
use Rattle.fond_ast.specs.declared.form.LTerm.{LTerm}
use Rattle.fond_join.specs.Partial.{all_known, known_object}

module _ (env : List (Option ℕ)) (keys : List ℕ) where
  -- the objects so far, followed by those of these terms, if all of them are known
  abbrev after : List LTerm → Option (List ℕ)
  after terms = option_map (λ rest. keys ++ rest) (all_known (map (known_object env) terms))

  put_one : (now : List ℕ) (object : ℕ) (rest : Option (List ℕ)) → now ≡ keys ++ object ∷ [] → option_map (λ rest. now ++ rest) rest ≡ option_map (λ rest. keys ++ rest) (option_map (λ rest. object ∷ rest) rest)
  put_one now object None is = refl
  put_one now object (Some rest) is = ap (λ (list : List ℕ). Some (list ++ rest)) is ∙ ap (λ list. Some list) (append_assoc keys (object ∷ []) rest)

  -- the object of the next term is put at the end
  pub known_next : (around : List (Option ℕ)) → around ≡ env → (now : List ℕ) (terms : List LTerm) (i : ℕ) (other : LTerm) (object : ℕ) → i < length terms → Some object ≡ known_object around (get_or terms i other) → now ≡ keys ++ object ∷ []
      → option_map (λ rest. now ++ rest) (all_known (map (known_object env) (drop (i + 1) terms))) ≡ after (drop i terms)
  known_next around same now terms i other object within is put =
      let rest = map (known_object env) (drop (i + 1) terms) in
      put_one now object (all_known rest) put
      ∙ ap (λ known. option_map (λ rest. keys ++ rest) (all_known (known ∷ rest))) (is ∙ ap (λ at. known_object at (get_or terms i other)) same)
      ∙ sym (at_drop_more after terms i other within)

  -- the object of the next term is not known
  pub known_none : (around : List (Option ℕ)) → around ≡ env → (terms : List LTerm) (i : ℕ) (other : LTerm) → i < length terms → None ≡ known_object around (get_or terms i other) → after (drop i terms) ≡ None
  known_none around same terms i other within is =
      at_drop_more after terms i other within
      ∙ ap (λ known. option_map (λ rest. keys ++ rest) (all_known (known ∷ map (known_object env) (drop (i + 1) terms)))) (sym (is ∙ ap (λ at. known_object at (get_or terms i other)) same))

  -- no term is left
  pub known_end : (terms : List LTerm) (i : ℕ) → length terms ≤ i → after (drop i terms) ≡ Some keys
  known_end terms i past = at_drop_all after terms i past ∙ ap (λ list. Some list) (append-nil keys)
