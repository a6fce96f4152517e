-- Trees whose head occurs a second time, one head after the other.
use Rattle.std.proofs.Common.{◌≡◌, ◌⊎◌, inl, inr, ℕ, zero, suc, ◌||◌, Bool, true, false, List, [], ◌∷◌, ◌++◌, Option, Some, None, refl, sym, ap, subst, ◌∙◌, arith}
use Rattle.std.proofs.Common.{append_assoc}
use Rattle.std.proofs.lemmas.List.Elements.{Contains-append_left, Contains-append_right, filter_map-append}
use Rattle.std.specs.Bool.{Decides}
use Rattle.std.specs.List.{Contains, filter_map, list_any, cons_option}
use Rattle.std.specs.Str.{bytes_eq}
use Rattle.std.proofs.Math.Bool.{or-true}
use Rattle.std.proofs.lemmas.Slice.Eq.{bytes_eq-Decides}
use Rattle.fond_text.specs.declared.place.Place.{Place}
use Rattle.fond_tree.specs.declared.tree.Tree.{Tree}
use Rattle.fond_tree.specs.Words.{is_one_of}
use Rattle.fond_tree.specs.Trees.{place_of}
use Rattle.fond_tree.specs.FormFaults.{Repeats}
use Rattle.fond_text.specs.declared.first.Found.{Found}
use Rattle.fond_text.specs.Firsts.{IsFirst, IsEarlier}
use Rattle.fond_tree.specs.Words.{is_word as is_word_leaf}
use Rattle.fond_text.proofs.Earliest.{IsFirstSoFar, all_found, first_with, first_along, first_of_both}

-- ---- an element of a list

contains_here : {X : Type 0} (x : X) (xs : List X) → Contains (x ∷ xs) x
contains_here x xs = (0, omega arith, refl)

contains_after : {X : Type 0} (y x : X) (xs : List X) → Contains xs x → Contains (y ∷ xs) x
contains_after y x xs (k, within, same) = (suc k, omega arith, same)

contains_cases : {X : Type 0} (y x : X) (xs : List X) → Contains (y ∷ xs) x → (y ≡ x) ⊎ Contains xs x
contains_cases y x xs (zero, within, same) = inl same
contains_cases y x xs (suc k, within, same) = inr (k, omega arith, same)

contains_none : {X : Type 0} (x : X) → ¬ Contains {X = X} [] x
contains_none x (k, within, same) = omega arith

-- a leaf that is a word
pub word_is : (head : List ℕ) (leaf : Option (List ℕ)) → is_word_leaf head leaf ≡ true → leaf ≡ Some head
word_is head None is = absurd (cc)
word_is head (Some leaf) is = ap (λ w. Some w) ((bytes_eq-Decides leaf head).0 is)

is_word : (head : List ℕ) (leaf : Option (List ℕ)) → leaf ≡ Some head → is_word_leaf head leaf ≡ true
is_word head leaf is = subst (λ (l : Option (List ℕ)). is_word_leaf head l ≡ true) (sym is) ((bytes_eq-Decides head head).1 refl)

pub or_cases : (a b : Bool) → (a || b) ≡ true → (a ≡ true) ⊎ (b ≡ true)
or_cases true b h = inl refl
or_cases false b h = inr h

one_of_itself : (head : List ℕ) → is_one_of (head ∷ []) head ≡ true
one_of_itself head = ap (λ b. b || false) ((bytes_eq-Decides head head).1 refl)

the_one : (word head : List ℕ) → is_one_of (head ∷ []) word ≡ true → word ≡ head
the_one word head h = elim (or_cases (bytes_eq word head) false h) [ inl same ↦ (bytes_eq-Decides word head).0 same | inr other ↦ absurd (cc) ]

one_is_of_more : (word head : List ℕ) (others : List (List ℕ)) → is_one_of (head ∷ []) word ≡ true → is_one_of (head ∷ others) word ≡ true
one_is_of_more word head others h = ap (λ b. b || is_one_of others word) ((bytes_eq-Decides word head).1 (the_one word head h))

module _ (heads : Tree → Option (List ℕ)) (head : List ℕ) where
  abbrev pub is_headed : Tree → Bool
  is_headed tree = is_word_leaf head (heads tree)

  -- a tree has this head, and one with it was seen or is before it
  abbrev pub Again : Bool → List Tree → Place → ℕ → Type 0
  Again seen [] place code = ⊥
  Again seen (tree ∷ trees) place code = ((seen ≡ true) × (is_headed tree ≡ true) × (place ≡ place_of tree) × (code ≡ 9)) ⊎ Again (seen || is_headed tree) trees place code

  -- ---- which heads occur in a list

  headed_here : (tree : Tree) (trees : List Tree) → heads tree ≡ Some head → Contains (filter_map heads (tree ∷ trees)) head
  headed_here tree trees is = rw is (contains_here head (filter_map heads trees))

  headed_after : (tree : Tree) (trees : List Tree) → Contains (filter_map heads trees) head → Contains (filter_map heads (tree ∷ trees)) head
  headed_after tree trees h =
      elim (heads tree) as (λ o. Contains (cons_option o (filter_map heads trees)) head) [ None ↦ h | Some other ↦ contains_after other head (filter_map heads trees) h ]

  option_cases : (o : Option (List ℕ)) (others : List (List ℕ)) → Contains (cons_option o others) head → (o ≡ Some head) ⊎ Contains others head
  option_cases None others h = inr h
  option_cases (Some other) others h = elim (contains_cases other head others h) [ inl same ↦ inl (ap (λ w. Some w) same) | inr after ↦ inr after ]

  headed_cases : (tree : Tree) (trees : List Tree) → Contains (filter_map heads (tree ∷ trees)) head → (heads tree ≡ Some head) ⊎ Contains (filter_map heads trees) head
  headed_cases tree trees h = option_cases (heads tree) (filter_map heads trees) h

  -- some tree has the head if a test finds one
  pub any_headed : (trees : List Tree) → Decides (list_any is_headed trees) (Contains (filter_map heads trees) head)
  any_headed [] = (λ h. absurd (cc), λ h. absurd (contains_none head h))
  any_headed (tree ∷ trees) = (
    λ h. elim (or_cases (is_headed tree) (list_any is_headed trees) h) [
      | inl here ↦ headed_here tree trees (word_is head (heads tree) here)
      | inr after ↦ headed_after tree trees ((any_headed trees).0 after)
    ],
    λ h. elim (headed_cases tree trees h) [
      | inl here ↦ ap (λ b. b || list_any is_headed trees) (is_word head (heads tree) here)
      | inr after ↦ ap (λ b. is_headed tree || b) ((any_headed trees).1 after) ∙ or-true (is_headed tree)
    ],
  )

  -- ---- a head that occurs again is repeated

  seen_more : (before : List Tree) (tree : Tree) (seen : Bool) → (seen ≡ true → Contains (filter_map heads before) head) →
      (seen || is_headed tree) ≡ true → Contains (filter_map heads (before ++ tree ∷ [])) head
  seen_more before tree seen was h =
      rw filter_map-append (
      elim (or_cases seen (is_headed tree) h) [
        | inl s ↦ Contains-append_left (filter_map heads before) (filter_map heads (tree ∷ [])) head (was s)
        | inr here ↦ Contains-append_right (filter_map heads before) (filter_map heads (tree ∷ [])) head (headed_here tree [] (word_is head (heads tree) here))
      ]
      )

  again_to : (before trees : List Tree) (seen : Bool) → (seen ≡ true → Contains (filter_map heads before) head) → (place : Place) (code : ℕ) →
      Again seen trees place code → Repeats heads (head ∷ []) (before ++ trees) place × (code ≡ 9)
  again_to before [] seen was place code h = absurd h
  again_to before (tree ∷ trees) seen was place code (inl (s, here, at, is)) = (
    record {
      before = before;
      item = tree;
      after = trees;
      split = refl;
      has = record { head = head; headed = word_is head (heads tree) here; counts = one_of_itself head; earlier = was s; place_is = at };
    },
    is,
  )
  again_to before (tree ∷ trees) seen was place code (inr h) =
      subst (λ (all : List Tree). Repeats heads (head ∷ []) all place × (code ≡ 9)) (append_assoc before (tree ∷ []) trees)
      (again_to (before ++ tree ∷ []) trees (seen || is_headed tree) (seen_more before tree seen was) place code h)

  again_from : (before : List Tree) (tree : Tree) (after : List Tree) (seen : Bool) → (seen ≡ true) ⊎ Contains (filter_map heads before) head → heads tree ≡ Some head →
      Again seen (before ++ tree ∷ after) (place_of tree) 9
  again_from [] tree after seen (inl s) headed = inl (s, is_word head (heads tree) headed, refl, refl)
  again_from [] tree after seen (inr c) headed = absurd (contains_none head c)
  again_from (other ∷ before) tree after seen (inl s) headed =
      inr (again_from before tree after (seen || is_headed other) (inl (ap (λ b. b || is_headed other) s)) headed)
  again_from (other ∷ before) tree after seen (inr c) headed =
      inr (
      elim (headed_cases other before c) [
        | inl here ↦ again_from before tree after (seen || is_headed other) (inl (ap (λ b. seen || b) (is_word head (heads other) here) ∙ or-true seen)) headed
        | inr later ↦ again_from before tree after (seen || is_headed other) (inr later) headed
      ]
      )

  repeats_from : (trees : List Tree) (place : Place) (code : ℕ) → Repeats heads (head ∷ []) trees place → code ≡ 9 → Again false trees place code
  repeats_from trees place code r nine =
      let same : r.has.head ≡ head = the_one r.has.head head r.has.counts in
      let again : Again false (r.before ++ r.item ∷ r.after) (place_of r.item) 9 =
      again_from r.before r.item r.after false (inr (subst (λ (h : List ℕ). Contains (filter_map heads r.before) h) same r.has.earlier)) (r.has.headed ∙ ap (λ h. Some h) same) in
      subst (λ (n : ℕ). Again false trees place n) (sym nine)
      (subst (λ (p : Place). Again false trees p 9) (sym r.has.place_is)
      (subst (λ (all : List Tree). Again false all (place_of r.item) 9) (sym r.split) again))

  -- what is found of the one head is the first that is repeated
  pub first_repeated : (trees : List Tree) (first : Option Found) → IsFirst (Again false trees) first → IsFirst (λ place code. Repeats heads (head ∷ []) trees place × (code ≡ 9)) first
  first_repeated trees first h =
      first_along (Again false trees) (λ place code. Repeats heads (head ∷ []) trees place × (code ≡ 9))
      (λ place code a. again_to [] trees false (λ f. absurd (cc)) place code a)
      (λ place code r. repeats_from trees place code r.0 r.1) first h

  -- if no tree is left, no head is repeated
  pub all_repeated : (trees left : List Tree) (seen : Bool) (first : Option Found) → left ≡ [] → IsFirstSoFar (Again false trees) (Again seen left) first →
      IsFirst (λ place code. Repeats heads (head ∷ []) trees place × (code ≡ 9)) first
  all_repeated trees left seen first ended h =
      first_repeated trees first
      (all_found (Again false trees) (Again seen left) first h (λ place code a. subst (λ (ts : List Tree). Again seen ts place code) ended a))

  -- one more tree was checked
  pub again_step : (stands : Place → ℕ → Type 0) (tree : Tree) (trees : List Tree) (seen headed seen_now : Bool) → headed ≡ is_headed tree → seen_now ≡ (seen || headed) →
      (before other first : Option Found) → IsFirstSoFar stands (Again seen (tree ∷ trees)) before →
      IsFirst (λ place code. (seen ≡ true) × (headed ≡ true) × (place ≡ place_of tree) × (code ≡ 9)) other → IsEarlier before other first → IsFirstSoFar stands (Again seen_now trees) first
  again_step stands tree trees seen headed seen_now same more before other first h here e =
      subst (λ (b : Bool). IsFirstSoFar stands (Again b trees) first) (sym (more ∙ ap (λ b. seen || b) same))
      (first_with stands (λ place code. (seen ≡ true) × (is_headed tree ≡ true) × (place ≡ place_of tree) × (code ≡ 9)) (Again (seen || is_headed tree) trees) before other first h
      (subst (λ (b : Bool). IsFirst (λ place code. (seen ≡ true) × (b ≡ true) × (place ≡ place_of tree) × (code ≡ 9)) other) same here) e)

-- ---- several heads

module _ (heads : Tree → Option (List ℕ)) (head : List ℕ) (others : List (List ℕ)) (trees : List Tree) where
  repeats_of : (some single : List (List ℕ)) (place : Place) (r : Repeats heads some trees place) → is_one_of single r.has.head ≡ true → Repeats heads single trees place
  repeats_of some single place r counts = record {
    before = r.before;
    item = r.item;
    after = r.after;
    split = r.split;
    has = record { head = r.has.head; headed = r.has.headed; counts = counts; earlier = r.has.earlier; place_is = r.has.place_is };
  }

  pub first_of_heads : (one other first : Option Found) → IsFirst (λ place code. Repeats heads (head ∷ []) trees place × (code ≡ 9)) one →
      IsFirst (λ place code. Repeats heads others trees place × (code ≡ 9)) other → IsEarlier one other first →
      IsFirst (λ place code. Repeats heads (head ∷ others) trees place × (code ≡ 9)) first
  first_of_heads one other first p q e =
      first_along
      (λ place code. (Repeats heads (head ∷ []) trees place × (code ≡ 9)) ⊎ (Repeats heads others trees place × (code ≡ 9)))
      (λ place code. Repeats heads (head ∷ others) trees place × (code ≡ 9))
      (λ place code h. elim h [
        | inl r ↦ (repeats_of (head ∷ []) (head ∷ others) place r.0 (one_is_of_more r.0.has.head head others r.0.has.counts), r.1)
        | inr r ↦ (repeats_of others (head ∷ others) place r.0 (ap (λ b. bytes_eq r.0.has.head head || b) r.0.has.counts ∙ or-true (bytes_eq r.0.has.head head)), r.1)
      ])
      (λ place code r. elim (or_cases (bytes_eq r.0.has.head head) (is_one_of others r.0.has.head) r.0.has.counts) [
        | inl here ↦ inl (repeats_of (head ∷ others) (head ∷ []) place r.0 (ap (λ b. b || false) here), r.1)
        | inr after ↦ inr (repeats_of (head ∷ others) others place r.0 after, r.1)
      ])
      first
      (first_of_both (λ place code. Repeats heads (head ∷ []) trees place × (code ≡ 9)) (λ place code. Repeats heads others trees place × (code ≡ 9)) one other first p q e)
