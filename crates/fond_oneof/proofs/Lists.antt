-- How lists of lists are joined, each with each.
use Rattle.std.proofs.Common.{◌≡◌, ℕ, ◌+◌, ◌*◌, ◌<◌, ◌∙◌, length, get_or, take, drop, rules, List, [], ◌∷◌, ◌++◌, map, refl, sym, ap, arith}
use Rattle.std.specs.List.{flat_map}
use Rattle.std.proofs.lemmas.List.{map-append, append-nil, append_assoc, at_drop_more, same_lists, places, length-append, length-map}
use Rattle.std.proofs.lemmas.Grind.{flat_map-append}
use Rattle.fond_text.specs.Lists.{concatenations}
use Rattle.fond_oneof.specs.Shown.{pairs}

-- the items from one on are that one and those after it
pub drop_item : {X : Type 0} (xs : List X) (i : ℕ) (x : X) → i < length xs → x ≡ get_or xs i x → drop i xs ≡ x ∷ drop (i + 1) xs
drop_item xs i x within is = at_drop_more (λ rest. rest) xs i x within ∙ ap (λ y. y ∷ drop (i + 1) xs) (sym is)

pub map_map : {X Y Z : Type 0} (f : Y → Z) (g : X → Y) (xs : List X) → map f (map g xs) ≡ map (λ x. f (g x)) xs
map_map f g [] = refl
map_map f g (x ∷ xs) = ap (λ rest. f (g x) ∷ rest) (map_map f g xs)

pub map_same : {X Y : Type 0} (f g : X → Y) → ((x : X) → f x ≡ g x) → (xs : List X) → map f xs ≡ map g xs
map_same f g same [] = refl
map_same f g same (x ∷ xs) = λ i. same x i ∷ map_same f g same xs i

module _ {A : Type 0} where
  each_same : (lists : List (List A)) → map (λ more. [] ++ more) lists ≡ lists
  each_same [] = refl
  each_same (list ∷ lists) = ap (λ rest. list ∷ rest) (each_same lists)

  -- joining the empty list, before or after
  pub pairs-first : (lists : List (List A)) → pairs ([] ∷ []) lists ≡ lists
  pairs-first lists = append-nil _ ∙ each_same lists

  pub pairs-last : (lists : List (List A)) → pairs lists ([] ∷ []) ≡ lists
  pairs-last [] = refl
  pairs-last (list ∷ lists) = λ i. append-nil list i ∷ pairs-last lists i

  map-both : (a b : List A) (cs : List (List A)) → map (λ more. (a ++ b) ++ more) cs ≡ map (λ more. a ++ more) (map (λ more. b ++ more) cs)
  map-both a b [] = refl
  map-both a b (c ∷ cs) = λ i. append_assoc a b c i ∷ map-both a b cs i

  pairs-map : (a : List A) (bs cs : List (List A)) → pairs (map (λ more. a ++ more) bs) cs ≡ map (λ more. a ++ more) (pairs bs cs)
  pairs-map a [] cs = refl
  pairs-map a (b ∷ bs) cs = (λ i. map-both a b cs i ++ pairs-map a bs cs i) ∙ sym (map-append (λ more. a ++ more) (map (λ more. b ++ more) cs) (pairs bs cs))

  pub pairs-assoc : (xs bs cs : List (List A)) → pairs (pairs xs bs) cs ≡ pairs xs (pairs bs cs)
  pairs-assoc [] bs cs = refl
  pairs-assoc (a ∷ xs) bs cs = flat_map-append _ (map (λ more. a ++ more) bs) (pairs xs bs) ∙ (λ i. pairs-map a bs cs i ++ pairs-assoc xs bs cs i)

  -- joining one list
  pub pairs-one : (lists : List (List A)) (one : List A) → map (λ list. list ++ one) lists ≡ pairs lists (one ∷ [])
  pairs-one [] one = refl
  pairs-one (list ∷ lists) one = ap (λ rest. (list ++ one) ∷ rest) (pairs-one lists one)

  -- the number of joined lists is the product of the numbers
  pub length-pairs : (xs ys : List (List A)) → length (pairs xs ys) ≡ length xs * length ys
  length-pairs [] ys = omega arith
  length-pairs (x ∷ xs) ys =
      length-append (map (λ more. x ++ more) ys) (pairs xs ys) ∙ (λ i. length-map ys (λ more. x ++ more) i + length-pairs xs ys i) ∙ (let count : length (x ∷ xs) ≡ length xs + 1 = omega arith in grind arith)

module _ {A B : Type 0} (f : A → B) where
  map-before : (list : List A) (lists : List (List A)) → map (map f) (map (λ more. list ++ more) lists) ≡ map (λ more. map f list ++ more) (map (map f) lists)
  map-before list [] = refl
  map-before list (more ∷ lists) = λ i. map-append f list more i ∷ map-before list lists i

  pub map-pairs : (xs ys : List (List A)) → map (map f) (pairs xs ys) ≡ pairs (map (map f) xs) (map (map f) ys)
  map-pairs [] ys = refl
  map-pairs (x ∷ xs) ys = map-append (map f) (map (λ more. x ++ more) ys) (pairs xs ys) ∙ (λ i. map-before x ys i ++ map-pairs xs ys i)

  pub map-concatenations : {X : Type 0} (of : X → List (List A)) (xs : List X) → map (map f) (concatenations (map of xs)) ≡ concatenations (map (λ x. map (map f) (of x)) xs)
  map-concatenations of [] = refl
  map-concatenations of (x ∷ xs) = map-pairs (of x) (concatenations (map of xs)) ∙ ap (pairs (map (map f) (of x))) (map-concatenations of xs)

pub map-flat : {X A B : Type 0} (f : A → B) (of : X → List A) (xs : List X) → map f (flat_map (λ part. part) (map of xs)) ≡ flat_map (λ part. part) (map (λ x. map f (of x)) xs)
map-flat f of [] = refl
map-flat f of (x ∷ xs) = map-append f (of x) (flat_map (λ part. part) (map of xs)) ∙ ap (λ rest. map f (of x) ++ rest) (map-flat f of xs)

-- one more item of a loop that adds the image of each item
pub more_mapped : {X Y V : Type 0} (f : X → V) (rest : List Y → List V) (done next : List X) (items : List Y) (i : ℕ) (item : Y) (new : X) (whole : List V) → i < length items → item ≡ get_or items i item →
    next ≡ done ++ new ∷ [] → rest (item ∷ drop (i + 1) items) ≡ f new ∷ rest (drop (i + 1) items) → map f done ++ rest (drop i items) ≡ whole → map f next ++ rest (drop (i + 1) items) ≡ whole
more_mapped f rest done next items i item new whole within is grown step before =
    ap (λ all. map f all ++ rest (drop (i + 1) items)) grown
    ∙ ap (λ all. all ++ rest (drop (i + 1) items)) (map-append f done (new ∷ []))
    ∙ append_assoc (map f done) (f new ∷ []) (rest (drop (i + 1) items))
    ∙ ap (λ all. map f done ++ all) (sym (ap rest (drop_item items i item within is) ∙ step))
    ∙ before

pub written_back : {A : Type 0} (n : ℕ) (now before : List (List A)) → length now ≡ length before → n ≡ length before → take n (now ++ drop (length now) before) ≡ now
written_back n now before e s = same_lists _ _ (search (rules, places)) (λ k d h. grind (arith, places))

pub alone_at : {X : Type 0} (xs : List X) (x : X) → length xs ≡ 1 → x ≡ get_or xs 0 x → xs ≡ x ∷ []
alone_at [] x e h = absurd (omega arith)
alone_at (y ∷ []) x e h = ap (λ z. z ∷ []) (sym h)
alone_at (y ∷ z ∷ ys) x e h = absurd (omega arith)
