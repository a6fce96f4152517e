-- The tokens and faults of some texts, worked out by hand and computed from the definitions.
use Rattle.std.proofs.Common.{◌≡◌, ℕ, ◌<◌, true, false, List, [], ◌∷◌, refl, sym, inl, inr, arith}
use Rattle.std.specs.Prelude.{codes}
use Rattle.std.proofs.lemmas.Bool.{true≢false}
use Rattle.fond_text.specs.declared.place.Place.{Place}
use Rattle.fond_tree.specs.Faults.{OneTree, Forest, AreRight, IsTextFault}
use Rattle.fond_tree.specs.Marks.{Mark, marks, tokens, tokens_of}
use Rattle.fond_tree.specs.Tokens.{Opens, Closes, Names, Stray}
use Rattle.fond_tree.proofs.Right.{AllMayStand, right_join, right_empty, empty_open}

abbrev at : ℕ → ℕ → Place
at line column = record { line = line; column = column }

-- a comment runs to the line feed, capitals are lowered, and columns count from 1
comment : tokens (codes "(Ab;x)\n c") ≡ Opens (at 1 1) ∷ Names (at 1 2) (codes "ab") ∷ Names (at 2 2) (codes "c") ∷ []
comment = refl

-- a leaf ends at a parenthesis, and a byte past 126 is stray
stray : tokens (97 ∷ 41 ∷ 127 ∷ 98 ∷ []) ≡ Names (at 1 1) (97 ∷ []) ∷ Closes ∷ Stray ∷ Names (at 1 4) (98 ∷ []) ∷ []
stray = refl

-- a node in a node, and a node of nothing
nested : tokens (codes "(a () (b))") ≡
    Opens (at 1 1) ∷ Names (at 1 2) (codes "a") ∷ Opens (at 1 4) ∷ Closes ∷ Opens (at 1 7) ∷ Names (at 1 8) (codes "b") ∷ Closes ∷ Closes ∷ []
nested = refl

-- a leaf alone, after a blank
leaf_alone : tokens (codes "\tx") ≡ Names (at 1 2) (codes "x") ∷ []
leaf_alone = refl

-- a carriage return ends no comment and no line, and a comment may end with the text
comment_only : tokens (codes "; a\r(b)") ≡ []
comment_only = refl

empty : tokens [] ≡ []
empty = refl

-- a mark has the place of its first byte, in a closing parenthesis and a stray byte too
marked_text : marks (97 ∷ 10 ∷ 41 ∷ 127 ∷ []) ≡
    record { at = at 1 1; token = Names (at 1 1) (97 ∷ []) } ∷ record { at = at 2 1; token = Closes } ∷ record { at = at 2 2; token = Stray } ∷ []
marked_text = refl

right_front : (front : List Mark) → AllMayStand false 0 (tokens_of front) → AreRight OneTree front
right_front front may = right_join OneTree [] front false 0 (right_empty OneTree) (empty_open OneTree) may

first : {n : ℕ} → false ≡ true → 0 < n
first e = absurd (true≢false (sym e))

-- a stray byte inside a leaf is the fault, whatever follows it
stray_byte : IsTextFault OneTree (97 ∷ 127 ∷ 41 ∷ []) (at 1 2) 2
stray_byte = inr (
  omega arith,
  inl (record {
    before = record { at = at 1 1; token = Names (at 1 1) (97 ∷ []) } ∷ [];
    item = record { at = at 1 2; token = Stray };
    after = record { at = at 1 3; token = Closes } ∷ [];
    split = refl;
    has = (right_front _ (first, tt), refl, refl);
  }),
)

-- a leaf is a whole tree, and nothing may be opened after it
after_leaf : IsTextFault OneTree (codes "a(") (at 1 2) 4
after_leaf = inr (
  omega arith,
  inl (record {
    before = record { at = at 1 1; token = Names (at 1 1) (97 ∷ []) } ∷ [];
    item = record { at = at 1 2; token = Opens (at 1 2) };
    after = [];
    split = refl;
    has = (right_front _ (first, tt), inl ((λ e. cc, refl), refl), refl);
  }),
)

-- a parenthesis is open at the end, which follows the line feed
unclosed : IsTextFault OneTree (40 ∷ 97 ∷ 10 ∷ []) (at 2 1) 3
unclosed = inr (
  omega arith,
  inr (record {
    right = right_front _ ((first, omega arith), ((λ e. omega arith), tt));
    unfinished = inl (omega arith, refl);
    place_is = refl;
  }),
)

-- a comment is no token
no_token : IsTextFault OneTree (codes "; a") (at 1 4) 6
no_token = inr (omega arith, inr (record { right = right_empty OneTree; unfinished = inr (refl, refl); place_is = refl }))

-- in a forest, nothing is open after a leaf, so nothing can be closed
unopened : IsTextFault Forest (codes "a)") (at 1 2) 4
unopened = inr (
  omega arith,
  inl (record {
    before = record { at = at 1 1; token = Names (at 1 1) (97 ∷ []) } ∷ [];
    item = record { at = at 1 2; token = Closes };
    after = [];
    split = refl;
    has = (right_join Forest [] _ false 0 (right_empty Forest) (empty_open Forest) (first, tt), (omega arith, refl), refl);
  }),
)
