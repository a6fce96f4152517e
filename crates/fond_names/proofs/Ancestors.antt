-- The test for subtypes decides which types are subtypes.
use Rattle.std.proofs.Common.{◌≡◌, ◌⊎◌, inl, inr, ℕ, zero, suc, ◌<◌, ◌≤◌, ◌||◌, Bool, true, false, not, cond, List, [], ◌∷◌, Option, Some, None, find, length, map, refl, sym, ap, ◌∙◌, subst, arith}
use Rattle.std.specs.Bool.{Decides}
use Rattle.std.specs.List.{list_any}
use Rattle.std.specs.Option.{option_map_or}
use Rattle.std.specs.Prelude.{option_map}
use Rattle.std.specs.Str.{bytes_eq}
use Rattle.std.specs.Cmp.Lexicographic.{bytes_decides, nat_list_eq_equiv}
use Rattle.fond_ast.specs.declared.names.TypedName.{TypedName}
use Rattle.fond_kinds.specs.Kinds.{root, only_kind, type_of, parent_of, declares, IsAncestor, parent, onward, IsSubtype}
use Rattle.fond_names.specs.Subtypes.{Links, link_of, other_links, is_above, climbed, links_of, is_subtype}
use Rattle.fond_names.proofs.Differs.{same_text}
use Rattle.fond_names.proofs.Members.{or_cases, or_left, or_right}

same_or_not : (b : Bool) → (b ≡ true) ⊎ (b ≡ false)
same_or_not true = inl refl
same_or_not false = inr refl

-- a text is reached from another one by links
data Climbs (links : Links) : List ℕ → List ℕ → Type 0 where
  once : (name above : List ℕ) → link_of links name ≡ Some above → Climbs links name above
  again : (name middle above : List ℕ) → link_of links name ≡ Some middle → Climbs links middle above → Climbs links name above

abbrev first_link : Links → List ℕ → Option (List ℕ × List ℕ)
first_link links name = find (λ link. bytes_eq link.0 name) links

module _ (x : List ℕ) where
  -- other texts keep their links
  kept : (links : Links) (a : List ℕ) → bytes_eq a x ≡ false → first_link (other_links links x) a ≡ first_link links a
  kept [] a other = refl
  kept (d ∷ links) a other = by (bytes_eq d.0 x) refl (kept links a other)
    where
      by : (b : Bool) → bytes_eq d.0 x ≡ b → first_link (other_links links x) a ≡ first_link links a → first_link (cond (not b) (d ∷ other_links links x) (other_links links x)) a ≡ cond (bytes_eq d.0 a) (Some d) (first_link links a)
      by true same later =
          let unlike : bytes_eq d.0 a ≡ false = ap (λ name. bytes_eq name a) ((bytes_decides d.0 x).0 same) ∙ nat_list_eq_equiv.symm x a ∙ other in
          later ∙ ap (λ b. cond b (Some d) (first_link links a)) (sym unlike)
      by false differs later = ap (λ rest. cond (bytes_eq d.0 a) (Some d) rest) later

  -- the text itself has no link among those of other texts
  gone : (links : Links) → first_link (other_links links x) x ≡ None
  gone [] = refl
  gone (d ∷ links) = by (bytes_eq d.0 x) refl (gone links)
    where
      by : (b : Bool) → bytes_eq d.0 x ≡ b → first_link (other_links links x) x ≡ None → first_link (cond (not b) (d ∷ other_links links x) (other_links links x)) x ≡ None
      by true same later = later
      by false differs later = ap (λ b. cond b (Some d) (first_link (other_links links x) x)) differs ∙ later

  not_longer : (links : Links) → length (other_links links x) ≤ length links
  not_longer [] = omega arith
  not_longer (d ∷ links) = by (bytes_eq d.0 x) (not_longer links)
    where
      by : (b : Bool) → length (other_links links x) ≤ length links → length (cond (not b) (d ∷ other_links links x) (other_links links x)) ≤ suc (length links)
      by true low = omega (arith, low)
      by false low = omega (arith, low)

  -- a linked text has fewer links of other texts beside it
  shorter : (links : Links) (first : List ℕ × List ℕ) → first_link links x ≡ Some first → length (other_links links x) < length links
  shorter [] first e = cc
  shorter (d ∷ links) first e = by (bytes_eq d.0 x) e (shorter links first)
    where
      by : (b : Bool) → cond b (Some d) (first_link links x) ≡ Some first → (first_link links x ≡ Some first → length (other_links links x) < length links) → length (cond (not b) (d ∷ other_links links x) (other_links links x)) < suc (length links)
      by true e later = let low = not_longer links in omega (arith, low)
      by false e later = let low = later e in omega (arith, low)

  -- the last step of a path that starts at this text
  record LastStep (links : Links) (above : List ℕ) : Type 0 where
    pub next : List ℕ
    pub is : link_of links x ≡ Some next
    pub rest : (next ≡ above) ⊎ Climbs (other_links links x) next above

  -- a path does not start at this text, or goes on from it for a last time
  cut_path : (links : Links) {a above : List ℕ} → Climbs links a above → Climbs (other_links links x) a above ⊎ LastStep links above
  cut_path links (once a above is) =
      elim (same_or_not (bytes_eq a x)) [
        | inl same ↦ inr (record { next = above; is = ap (link_of links) (sym ((bytes_decides a x).0 same)) ∙ is; rest = inl refl })
        | inr differs ↦ inl (once a above (ap (option_map (λ link. link.1)) (kept links a differs) ∙ is))
      ]
  cut_path links (again a middle above is later) =
      elim (cut_path links later) [
        | inr last ↦ inr last
        | inl path ↦
            elim (same_or_not (bytes_eq a x)) [
              | inl same ↦ inr (record { next = middle; is = ap (link_of links) (sym ((bytes_decides a x).0 same)) ∙ is; rest = inr path })
              | inr differs ↦ inl (again a middle above (ap (option_map (λ link. link.1)) (kept links a differs) ∙ is) path)
            ]
      ]

  found_among : (links : Links) (a above : List ℕ) → link_of (other_links links x) a ≡ Some above → link_of links a ≡ Some above
  found_among links a above is =
      elim (same_or_not (bytes_eq a x)) [
        | inl same ↦
            (let none : link_of (other_links links x) a ≡ None = ap (link_of (other_links links x)) ((bytes_decides a x).0 same) ∙ ap (option_map (λ link. link.1)) (gone links) in
            let other : None ≡ Some above = sym none ∙ is in absurd (cc (other)))
        | inr differs ↦ ap (option_map (λ link. link.1)) (sym (kept links a differs)) ∙ is
      ]

  -- a path by links of other texts is one by all
  widen_path : (links : Links) {a above : List ℕ} → Climbs (other_links links x) a above → Climbs links a above
  widen_path links (once a above is) = once a above (found_among links a above is)
  widen_path links (again a middle above is later) = again a middle above (found_among links a middle is) (widen_path links later)

-- what the test finds is reached
sound : (steps : ℕ) (links : Links) (name above : List ℕ) → is_above steps links name above ≡ true → Climbs links name above
sound zero links name above e = cc
sound (suc steps) links name above e = by (link_of links name) refl e (λ next. sound steps (other_links links name) next above)
  where
    by : (found : Option (List ℕ)) → link_of links name ≡ found → option_map_or (λ next. bytes_eq next above || is_above steps (other_links links name) next above) found false ≡ true →
        ((next : List ℕ) → is_above steps (other_links links name) next above ≡ true → Climbs (other_links links name) next above) → Climbs links name above
    by None none e deeper = cc
    by (Some next) is e deeper =
        elim (or_cases (bytes_eq next above) (is_above steps (other_links links name) next above) e) [
          | inl same ↦ once name above (is ∙ ap (λ x. Some x) ((bytes_decides next above).0 same))
          | inr later ↦ again name next above is (widen_path name links (deeper next later))
        ]

some_link : (links : Links) (name next : List ℕ) → link_of links name ≡ Some next → (first : List ℕ × List ℕ) × (first_link links name ≡ Some first)
some_link links name next is = by (first_link links name) refl is
  where
    by : (found : Option (List ℕ × List ℕ)) → first_link links name ≡ found → option_map (λ link. link.1) found ≡ Some next → (first : List ℕ × List ℕ) × (first_link links name ≡ Some first)
    by None none e = cc
    by (Some first) some e = (first, some)

no_start : (links : Links) (name above : List ℕ) → Climbs links name above → link_of links name ≡ None → ⊥
no_start links name above (once a b is) none = let other : None ≡ Some b = sym none ∙ is in cc (other)
no_start links name above (again a middle b is later) none = let other : None ≡ Some middle = sym none ∙ is in cc (other)

-- what is reached is found
complete : (steps : ℕ) (links : Links) (name above : List ℕ) → length links ≤ steps → Climbs links name above → is_above steps links name above ≡ true
complete zero [] name above fits path = absurd (no_start [] name above path refl)
complete zero (d ∷ links) name above fits path = absurd (omega (arith, fits))
complete (suc steps) links name above fits path =
    elim (cut_path name links path) [
      | inl other ↦ absurd (no_start (other_links links name) name above other (ap (option_map (λ link. link.1)) (gone name links)))
      | inr last ↦
          (let first = some_link links name last.next last.is in
          let fewer = shorter name links first.0 first.1 in
          let low : length (other_links links name) ≤ steps = omega (arith, fits, fewer) in
          ap (λ found. option_map_or (λ next. bytes_eq next above || is_above steps (other_links links name) next above) found false) last.is
          ∙ elim last.rest [
            | inl same ↦ or_left (bytes_eq last.next above) (is_above steps (other_links links name) last.next above) ((bytes_decides last.next above).1 same)
            | inr later ↦ or_right (bytes_eq last.next above) (is_above steps (other_links links name) last.next above) (complete steps (other_links links name) last.next above low later)
          ])
    ]

module _ (types : List TypedName) where
  -- a text among the keys is linked to its parent
  linked : (keys : List (List ℕ)) (name : List ℕ) → list_any (λ key. bytes_eq key name) keys ≡ true → link_of (map (λ other. (other, parent_of types other)) keys) name ≡ Some (parent_of types name)
  linked [] name e = cc
  linked (key ∷ keys) name e = by (bytes_eq key name) refl e (linked keys name)
    where
      by : (b : Bool) → bytes_eq key name ≡ b → (b || list_any (λ one. bytes_eq one name) keys) ≡ true → (list_any (λ one. bytes_eq one name) keys ≡ true → link_of (map (λ other. (other, parent_of types other)) keys) name ≡ Some (parent_of types name)) →
          option_map (λ link. link.1) (cond b (Some (key, parent_of types key)) (first_link (map (λ other. (other, parent_of types other)) keys) name)) ≡ Some (parent_of types name)
      by true same e later = ap (λ one. Some (parent_of types one)) ((bytes_decides key name).0 same)
      by false differs e later = later e

  -- a link leads to the parent
  leads : (keys : List (List ℕ)) (name above : List ℕ) → link_of (map (λ other. (other, parent_of types other)) keys) name ≡ Some above → parent_of types name ≡ above
  leads [] name above e = cc
  leads (key ∷ keys) name above e = by (bytes_eq key name) refl e (leads keys name above)
    where
      by : (b : Bool) → bytes_eq key name ≡ b → option_map (λ link. link.1) (cond b (Some (key, parent_of types key)) (first_link (map (λ other. (other, parent_of types other)) keys) name)) ≡ Some above →
          (link_of (map (λ other. (other, parent_of types other)) keys) name ≡ Some above → parent_of types name ≡ above) → parent_of types name ≡ above
      by true same e later = let one : parent_of types key ≡ above = cc in ap (parent_of types) (sym ((bytes_decides key name).0 same)) ∙ one
      by false differs e later = later e

  only_among : (declared : List TypedName) (name : List ℕ) (found : TypedName) → find (declares name) declared ≡ Some found → list_any (λ key. bytes_eq key (only_kind found)) (map only_kind declared) ≡ true
  only_among [] name found e = cc
  only_among (one ∷ declared) name found e = by (declares name one) e (only_among declared name found)
    where
      by : (b : Bool) → cond b (Some one) (find (declares name) declared) ≡ Some found → (find (declares name) declared ≡ Some found → list_any (λ key. bytes_eq key (only_kind found)) (map only_kind declared) ≡ true) →
          (bytes_eq (only_kind one) (only_kind found) || list_any (λ key. bytes_eq key (only_kind found)) (map only_kind declared)) ≡ true
      by true e later = let same : one ≡ found = cc in or_left (bytes_eq (only_kind one) (only_kind found)) (list_any (λ key. bytes_eq key (only_kind found)) (map only_kind declared)) (ap (λ (other : TypedName). bytes_eq (only_kind other) (only_kind found)) same ∙ same_text (only_kind found))
      by false e later = or_right (bytes_eq (only_kind one) (only_kind found)) (list_any (λ key. bytes_eq key (only_kind found)) (map only_kind declared)) (later e)

  module _ (start : List ℕ) where
    -- a parent is among the keys
    parent_among : (name : List ℕ) → list_any (λ key. bytes_eq key (parent_of types name)) (climbed types start) ≡ true
    parent_among name = by (type_of types name) refl
      where
        by : (found : Option TypedName) → type_of types name ≡ found → list_any (λ key. bytes_eq key (option_map_or only_kind (type_of types name) root)) (climbed types start) ≡ true
        by None none =
            ap (λ some. list_any (λ key. bytes_eq key (option_map_or only_kind some root)) (climbed types start)) none
            ∙ or_right (bytes_eq start root) (list_any (λ key. bytes_eq key root) (root ∷ map only_kind types)) (or_left (bytes_eq root root) (list_any (λ key. bytes_eq key root) (map only_kind types)) (same_text root))
        by (Some found) some =
            ap (λ one. list_any (λ key. bytes_eq key (option_map_or only_kind one root)) (climbed types start)) some
            ∙ or_right (bytes_eq start (only_kind found)) (list_any (λ key. bytes_eq key (only_kind found)) (root ∷ map only_kind types)) (or_right (bytes_eq root (only_kind found)) (list_any (λ key. bytes_eq key (only_kind found)) (map only_kind types)) (only_among types name found some))

    ancestor_climbs : {name above : List ℕ} → list_any (λ key. bytes_eq key name) (climbed types start) ≡ true → IsAncestor types name above → Climbs (links_of types start) name above
    ancestor_climbs among (parent name) = once name (parent_of types name) (linked (climbed types start) name among)
    ancestor_climbs among (onward name above later) = again name (parent_of types name) above (linked (climbed types start) name among) (ancestor_climbs (parent_among name) later)

    climbs_ancestor : {name above : List ℕ} → Climbs (links_of types start) name above → IsAncestor types name above
    climbs_ancestor (once name above is) = subst (λ (top : List ℕ). IsAncestor types name top) (leads (climbed types start) name above is) (parent name)
    climbs_ancestor (again name middle above is later) = onward name above (subst (λ (next : List ℕ). IsAncestor types next above) (sym (leads (climbed types start) name middle is)) (climbs_ancestor later))

-- the test decides
pub subtype_decides : (types : List TypedName) (name other : List ℕ) → Decides (is_subtype types name other) (IsSubtype types name other)
subtype_decides types name other = (to, from)
  where
    to : is_subtype types name other ≡ true → IsSubtype types name other
    to e =
        elim (or_cases (bytes_eq name other || is_above (length (links_of types name)) (links_of types name) name other) (bytes_eq other root) e) [
          | inr top ↦ inr (inr ((bytes_decides other root).0 top))
          | inl below ↦
              elim (or_cases (bytes_eq name other) (is_above (length (links_of types name)) (links_of types name) name other) below) [
                | inl same ↦ inl ((bytes_decides name other).0 same)
                | inr above ↦ inr (inl (climbs_ancestor types name (sound (length (links_of types name)) (links_of types name) name other above)))
              ]
        ]

    from : IsSubtype types name other → is_subtype types name other ≡ true
    from (inl same) = or_left (bytes_eq name other || is_above (length (links_of types name)) (links_of types name) name other) (bytes_eq other root) (or_left (bytes_eq name other) (is_above (length (links_of types name)) (links_of types name) name other) ((bytes_decides name other).1 same))
    from (inr (inl path)) =
        or_left (bytes_eq name other || is_above (length (links_of types name)) (links_of types name) name other) (bytes_eq other root)
        (or_right (bytes_eq name other) (is_above (length (links_of types name)) (links_of types name) name other)
        (complete (length (links_of types name)) (links_of types name) name other (omega arith) (ancestor_climbs types name (or_left (bytes_eq name name) (list_any (λ key. bytes_eq key name) (root ∷ map only_kind types)) (same_text name)) path)))
    from (inr (inr top)) = or_right (bytes_eq name other || is_above (length (links_of types name)) (links_of types name) name other) (bytes_eq other root) ((bytes_decides other root).1 top)
