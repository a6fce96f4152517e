-- The rest after leaves and their closing parenthesis, and atoms and actions at the beginning of a text.
use Rattle.std.proofs.lemmas.Bool.{and_parts}
use Rattle.std.proofs.Common.{◌≡◌, ℕ, ◌≤◌, ◌-◌, ◌==◌, ◌&&◌, Bool, true, false, IsTrue, List, [], ◌∷◌, ◌++◌, All, length, take, if◌then◌else◌, refl, sym, ap, ◌∙◌, arith, append_assoc, length-append}
use Rattle.std.proofs.Math.Seq.{take-append_seam}
use Rattle.std.specs.Prelude.{Some, None}
use Rattle.std.specs.List.{list_all}
use Rattle.std.proofs.lemmas.List.Elements.{All-head, All-tail, All-cons, All-nil}
use borrow.Author.Tests.{eqb-true}
use Rattle.fond_form.specs.Lines.{is_plain_byte, IsPlainLeaf, IsGroup, spaced, group_text}
use Rattle.fond_form.specs.Parts.{IsGroupText, HasNoGroup, after_leaves}

over_leaf : (leaf more : List ℕ) → IsTrue (list_all is_plain_byte leaf) → after_leaves true (leaf ++ more) ≡ after_leaves true more
over_leaf [] more h = refl
over_leaf (b ∷ leaf) more h = let parts = and_parts (is_plain_byte b) (list_all is_plain_byte leaf) h in rw parts.0 (over_leaf leaf more parts.1)

over_first : (leaf more : List ℕ) → IsPlainLeaf leaf → after_leaves false (leaf ++ more) ≡ after_leaves true more
over_first [] more h = absurd (omega (arith, h.0))
over_first (b ∷ leaf) more h = let parts = and_parts (is_plain_byte b) (list_all is_plain_byte leaf) h.1 in rw parts.0 (over_leaf leaf more parts.1)

over_spaced : (leaves : List (List ℕ)) (rest : List ℕ) → All IsPlainLeaf leaves → after_leaves true (spaced leaves ++ (41 ∷ rest)) ≡ Some rest
over_spaced [] rest h = refl
over_spaced (leaf ∷ leaves) rest h =
    ap (λ t. after_leaves false t) (append_assoc leaf (spaced leaves) (41 ∷ rest))
    ∙ over_first leaf (spaced leaves ++ (41 ∷ rest)) (All-head IsPlainLeaf leaf leaves h)
    ∙ over_spaced leaves rest (All-tail IsPlainLeaf leaf leaves h)

-- the text of an atom or action, followed by a rest
pub group_apart : (leaf : List ℕ) (leaves : List (List ℕ)) (rest : List ℕ) → group_text (leaf ∷ leaves) ++ rest ≡ 40 ∷ (leaf ++ (spaced leaves ++ (41 ∷ rest)))
group_apart leaf leaves rest = ap (λ t. 40 ∷ t) (append_assoc leaf (spaced leaves ++ (41 ∷ [])) rest ∙ ap (λ t. leaf ++ t) (append_assoc (spaced leaves) (41 ∷ []) rest))

-- the rest after the parenthesis of an atom or action
pub group_reads : (leaves : List (List ℕ)) (inner rest : List ℕ) → IsGroup leaves → 40 ∷ inner ≡ group_text leaves ++ rest → after_leaves false inner ≡ Some rest
group_reads [] inner rest h e = absurd (omega (arith, h.0))
group_reads (leaf ∷ leaves) inner rest h e =
    let same : inner ≡ leaf ++ (spaced leaves ++ (41 ∷ rest)) = let f = e ∙ group_apart leaf leaves rest in cc in
    ap (λ t. after_leaves false t) same
    ∙ over_first leaf (spaced leaves ++ (41 ∷ rest)) (All-head IsPlainLeaf leaf leaves h.1)
    ∙ over_spaced leaves rest (All-tail IsPlainLeaf leaf leaves h.1)

-- the text before a closing parenthesis: the rest of an open leaf or a leaf, and more leaves
abbrev Stands : Bool → List ℕ → List ℕ → Type 0
Stands true text rest =
    (leaf : List ℕ) × (leaves : List (List ℕ)) × IsTrue (list_all is_plain_byte leaf) × All IsPlainLeaf leaves × (text ≡ leaf ++ (spaced leaves ++ (41 ∷ rest)))
Stands false text rest =
    (leaf : List ℕ) × (leaves : List (List ℕ)) × IsPlainLeaf leaf × All IsPlainLeaf leaves × (text ≡ leaf ++ (spaced leaves ++ (41 ∷ rest)))

with_byte : (v : Bool) (b : ℕ) (text rest : List ℕ) → is_plain_byte b ≡ true → Stands true text rest → Stands v (b ∷ text) rest
with_byte true b text rest p h = (b ∷ h.0, h.1, rw p h.2, h.3, ap (λ t. b ∷ t) h.4)
with_byte false b text rest p h = (b ∷ h.0, h.1, (omega arith, rw p h.2), h.3, ap (λ t. b ∷ t) h.4)

with_space : (b : ℕ) (text rest : List ℕ) → b ≡ 32 → Stands false text rest → Stands true (b ∷ text) rest
with_space b text rest e h = (
  [],
  h.0 ∷ h.1,
  refl,
  All-cons IsPlainLeaf h.0 h.1 h.2 h.3,
  rw e (ap (λ t. 32 ∷ t) (h.4 ∙ sym (append_assoc h.0 (spaced h.1) (41 ∷ rest)))),
)

stands_by : (v p s c : Bool) (b : ℕ) (text rest : List ℕ) → is_plain_byte b ≡ p → (b == 32) ≡ s → (b == 41) ≡ c →
    (after_leaves true text ≡ Some rest → Stands true text rest) → (after_leaves false text ≡ Some rest → Stands false text rest) →
    (if p then after_leaves true text else if v && s then after_leaves false text else if v && c then Some text else None) ≡ Some rest → Stands v (b ∷ text) rest
stands_by v true s c b text rest ep es ec f g e = with_byte v b text rest ep (f e)
stands_by true false true c b text rest ep es ec f g e = with_space b text rest (eqb-true b 32 es) (g e)
stands_by true false false true b text rest ep es ec f g e =
    let same : text ≡ rest = cc in
    let is : b ≡ 41 = eqb-true b 41 ec in
    ([], [], refl, All-nil IsPlainLeaf, rw (is, same) refl)
stands_by true false false false b text rest ep es ec f g e = absurd (cc)
stands_by false false s c b text rest ep es ec f g e = absurd (cc)

stands : (v : Bool) (text rest : List ℕ) → after_leaves v text ≡ Some rest → Stands v text rest
stands v [] rest e = absurd (cc)
stands v (b ∷ text) rest e = stands_by v (is_plain_byte b) (b == 32) (b == 41) b text rest refl refl refl (stands true text rest) (stands false text rest) e

-- a text begins with no atom or action if no leaves end after its parenthesis
pub no_group : (text inner : List ℕ) → text ≡ 40 ∷ inner → after_leaves false inner ≡ None → HasNoGroup text
no_group text inner e none leaves rest h f = let some = group_reads leaves inner rest h (sym e ∙ f) in absurd (cc)

pub some_group : (text inner rest : List ℕ) → text ≡ 40 ∷ inner → after_leaves false inner ≡ Some rest → (leaves : List (List ℕ)) × IsGroup leaves × (text ≡ group_text leaves ++ rest)
some_group text inner rest e some =
    let h = stands false inner rest some in
    (h.0 ∷ h.1, (omega arith, All-cons IsPlainLeaf h.0 h.1 h.2 h.3), e ∙ ap (λ t. 40 ∷ t) h.4 ∙ sym (group_apart h.0 h.1 rest))

-- what is cut off before the rest
pub front_of : (text front rest : List ℕ) → text ≡ front ++ rest → take (length text - length rest) text ≡ front
front_of text front rest e =
    let n : length text - length rest ≡ length front = omega (arith, ap length e, length-append front rest) in
    rw n (rw e (take-append_seam front rest))

pub found_group : (text inner rest : List ℕ) → text ≡ 40 ∷ inner → after_leaves false inner ≡ Some rest →
    IsGroupText (take (length text - length rest) text) × (text ≡ take (length text - length rest) text ++ rest)
found_group text inner rest e some =
    let h = some_group text inner rest e some in
    let front = front_of text (group_text h.0) rest h.2 in
    ((h.0, h.1, front), rw front h.2)

pub rest_within : (text inner rest : List ℕ) → text ≡ 40 ∷ inner → after_leaves false inner ≡ Some rest → length rest ≤ length text
rest_within text inner rest e some = let h = some_group text inner rest e some in omega (arith, ap length h.2, length-append (group_text h.0) rest)

-- equal texts that begin with an atom or action have the same one and the same rest
pub same_rest : (a b : List (List ℕ)) (s t : List ℕ) → IsGroup a → IsGroup b → group_text a ++ s ≡ group_text b ++ t → s ≡ t
same_rest [] b s t h k e = absurd (omega (arith, h.0))
same_rest (leaf ∷ leaves) b s t h k e =
    let inner = leaf ++ (spaced leaves ++ (41 ∷ s)) in
    let one = group_reads (leaf ∷ leaves) inner s h (sym (group_apart leaf leaves s)) in
    let two = group_reads b inner t k (sym (group_apart leaf leaves s) ∙ e) in
    cc
