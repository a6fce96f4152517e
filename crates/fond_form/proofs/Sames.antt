-- Values of one text are the same, up to where they end.
use Rattle.std.proofs.Common.{◌≡◌, ℕ, List, [], ◌∷◌, ◌++◌, All, true, false, IsTrue, refl, sym, ap, ◌∙◌, arith, append_assoc}
use Rattle.std.specs.Prelude.{⊤}
use Rattle.std.specs.List.{flat_map, list_all}
use Rattle.std.proofs.lemmas.Bool.{and_parts}
use Rattle.std.proofs.lemmas.List.{append-nil}
use Rattle.std.proofs.lemmas.List.Elements.{All-head, All-tail}
use Rattle.fond_form.specs.Lines.{is_plain_byte, IsPlainLeaf, IsGroup, spaced, group_text, is_number, is_target, WrittenLiteral, AreProper, literal_text}
use Rattle.fond_form.specs.Forms.{Value, IsProperValue, value_text}
use Rattle.fond_form.specs.Cutting.{Ends}
use Rattle.fond_form.specs.declared.table.Sort.{Sort}
use Rattle.fond_form.specs.declared.table.Sort.TheVariants.{Nothing, Action, Short, Long, Target, Shorts, Targets, Literals}
use Rattle.fond_form.proofs.Literals.{same_sign, literal_apart, same_head, same_tail, after_sign, after_space}
use Rattle.fond_form.proofs.Cuts.{same_word, number_no_space, target_no_space}
use Rattle.fond_form.proofs.Groups.{group_apart}
use Rattle.fond_form.proofs.Longest.{longest}

-- a text is empty, or begins with a byte that no leaf has
abbrev EndsLeaf : List ℕ → Type 0
EndsLeaf [] = ⊤
EndsLeaf (b ∷ rest) = is_plain_byte b ≡ false

-- a text has one first leaf
same_leaf : (a b s t : List ℕ) → IsTrue (list_all is_plain_byte a) → IsTrue (list_all is_plain_byte b) → EndsLeaf s → EndsLeaf t → a ++ s ≡ b ++ t → (a ≡ b) × (s ≡ t)
same_leaf [] [] s t h k i j e = (refl, e)
same_leaf [] (y ∷ b) [] t h k i j e = absurd (cc)
same_leaf [] (y ∷ b) (x ∷ s) t h k i j e =
    let yes : is_plain_byte y ≡ true = (and_parts (is_plain_byte y) (list_all is_plain_byte b) k).0 in
    let clash : true ≡ false = sym yes ∙ ap is_plain_byte (sym (same_head x y s (b ++ t) e)) ∙ i in
    absurd (cc)
same_leaf (x ∷ a) [] s [] h k i j e = absurd (cc)
same_leaf (x ∷ a) [] s (y ∷ t) h k i j e =
    let yes : is_plain_byte x ≡ true = (and_parts (is_plain_byte x) (list_all is_plain_byte a) h).0 in
    let clash : true ≡ false = sym yes ∙ ap is_plain_byte (same_head x y (a ++ s) t e) ∙ j in
    absurd (cc)
same_leaf (x ∷ a) (y ∷ b) s t h k i j e =
    let more = same_leaf a b s t (and_parts (is_plain_byte x) (list_all is_plain_byte a) h).1 (and_parts (is_plain_byte y) (list_all is_plain_byte b) k).1 i j (same_tail x y (a ++ s) (b ++ t) e) in
    let first = same_head x y (a ++ s) (b ++ t) e in
    ((λ n. first n ∷ more.0 n), more.1)

ends_leaf : (leaves : List (List ℕ)) (rest : List ℕ) → EndsLeaf (spaced leaves ++ (41 ∷ rest))
ends_leaf [] rest = refl
ends_leaf (leaf ∷ leaves) rest = refl

first_leaf : (x y : List ℕ) (a b : List (List ℕ)) (s t : List ℕ) → IsPlainLeaf x → IsPlainLeaf y → x ++ (spaced a ++ (41 ∷ s)) ≡ y ++ (spaced b ++ (41 ∷ t)) →
    (x ≡ y) × (spaced a ++ (41 ∷ s) ≡ spaced b ++ (41 ∷ t))
first_leaf x y a b s t h k e = same_leaf x y (spaced a ++ (41 ∷ s)) (spaced b ++ (41 ∷ t)) h.1 k.1 (ends_leaf a s) (ends_leaf b t) e

same_leaves : (a b : List (List ℕ)) (s t : List ℕ) → All IsPlainLeaf a → All IsPlainLeaf b → spaced a ++ (41 ∷ s) ≡ spaced b ++ (41 ∷ t) → (a ≡ b) × (s ≡ t)
same_leaves [] [] s t h k e = (refl, same_tail 41 41 s t e)
same_leaves [] (y ∷ b) s t h k e = let f = same_head 41 32 s _ e in absurd (omega (arith, f))
same_leaves (x ∷ a) [] s t h k e = let f = same_head 32 41 _ t e in absurd (omega (arith, f))
same_leaves (x ∷ a) (y ∷ b) s t h k e =
    let first = first_leaf x y a b s t (All-head IsPlainLeaf x a h) (All-head IsPlainLeaf y b k)
    (sym (append_assoc x (spaced a) (41 ∷ s)) ∙ same_tail 32 32 _ _ e ∙ append_assoc y (spaced b) (41 ∷ t)) in
    let more = same_leaves a b s t (All-tail IsPlainLeaf x a h) (All-tail IsPlainLeaf y b k) first.1 in
    ((λ n. first.0 n ∷ more.0 n), more.1)

-- equal texts that begin with an atom or action have the same one and the same rest
pub same_group : (a b : List (List ℕ)) (s t : List ℕ) → IsGroup a → IsGroup b → group_text a ++ s ≡ group_text b ++ t → (a ≡ b) × (s ≡ t)
same_group [] b s t h k e = absurd (omega (arith, h.0))
same_group (x ∷ a) [] s t h k e = absurd (omega (arith, k.0))
same_group (x ∷ a) (y ∷ b) s t h k e =
    let first = first_leaf x y a b s t (All-head IsPlainLeaf x a h.1) (All-head IsPlainLeaf y b k.1) (same_tail 40 40 _ _ (sym (group_apart x a s) ∙ e ∙ group_apart y b t)) in
    let more = same_leaves a b s t (All-tail IsPlainLeaf x a h.1) (All-tail IsPlainLeaf y b k.1) first.1 in
    ((λ n. first.0 n ∷ more.0 n), more.1)

same_literals : (l m : List WrittenLiteral) → AreProper l → AreProper m → flat_map literal_text l ≡ flat_map literal_text m → l ≡ m
same_literals [] [] h k e = refl
same_literals [] (y ∷ m) h k e = absurd (cc)
same_literals (x ∷ l) [] h k e = absurd (cc)
same_literals (x ∷ l) (y ∷ m) h k e =
    let P = λ (literal : WrittenLiteral). IsGroup literal.leaves in
    let inner = after_space _ _ (sym (literal_apart x (flat_map literal_text l)) ∙ e ∙ literal_apart y (flat_map literal_text m)) in
    let sign = same_sign x.sign y.sign _ _ inner in
    let atom = same_group x.leaves y.leaves (flat_map literal_text l) (flat_map literal_text m) (All-head P x l h) (All-head P y m k) (after_sign x.sign y.sign _ _ inner) in
    let more = same_literals l m (All-tail P x l h) (All-tail P y m k) atom.1 in
    λ n. record { sign = sign n; leaves = atom.0 n } ∷ more n

to_end : (text rest : List ℕ) → rest ≡ [] → text ++ rest ≡ text
to_end text rest e = ap (λ t. text ++ t) e ∙ append-nil text

-- texts that begin with values of one sort, each up to where it ends, have the same value and the same rest
pub same_value : (sort : Sort) (v w : Value sort) (s t : List ℕ) → IsProperValue sort v → IsProperValue sort w → Ends sort s → Ends sort t → value_text sort v ++ s ≡ value_text sort w ++ t → (v ≡ w) × (s ≡ t)
same_value Nothing v w s t h k i j e = (refl, e)
same_value Action v w s t h k i j e = same_group v w s t h k e
same_value Short v w s t h k i j e = same_word v w s t (number_no_space v h) (number_no_space w k) i j e
same_value Long v w s t h k i j e = same_word v w s t (number_no_space v h) (number_no_space w k) i j e
same_value Target v w s t h k i j e = same_word v w s t (target_no_space v h) (target_no_space w k) i j e
same_value Shorts v w s t h k i j e = longest is_number number_no_space v w s t h.1 k.1 i.1 j.1 i.0 j.0 e
same_value Targets v w s t h k i j e = longest is_target target_no_space v w s t h.1 k.1 i.1 j.1 i.0 j.0 e
same_value Literals v w s t h k i j e = (same_literals v w h k (sym (to_end _ s i) ∙ e ∙ to_end _ t j), i ∙ sym j)
