-- The schemas of the sections that are actions.
use Rattle.std.proofs.Common.{◌≡◌, ℕ, ◌+◌, ◌<◌, Bool, true, false, List, [], ◌∷◌, ◌++◌, drop, get_or, length, refl, sym, ap, subst, ◌∙◌, append_assoc, append-nil, if◌then◌else◌}
use Rattle.std.specs.List.{AllByRecursion}
use Rattle.std.proofs.lemmas.List.Elements.{filter-append}
use Rattle.fond_tree.specs.declared.tree.Tree.{Tree}
use Rattle.fond_ast.specs.declared.files.Schema.{Schema}
use Rattle.fond_tree.specs.declared.role.Role.TheVariants as role
use Rattle.fond_tree.specs.FormFaults.{Fits}
use Rattle.fond_tree.specs.Words.{has_head}
use Rattle.fond_reader.specs.Files.{headed, IsSchemaOf, AreSchemasOf}
use Rattle.fond_reader.proofs.Through.{left_at}

-- one more tree at the end, which is read as one more schema
are_schemas_more : (trees : List Tree) (schemas : List Schema) (tree : Tree) (schema : Schema) → AreSchemasOf trees schemas → IsSchemaOf tree schema → AreSchemasOf (trees ++ tree ∷ []) (schemas ++ schema ∷ [])
are_schemas_more [] [] tree schema all one = (one, tt)
are_schemas_more [] (s ∷ ss) tree schema all one = absurd all
are_schemas_more (t ∷ ts) [] tree schema all one = absurd all
are_schemas_more (t ∷ ts) (s ∷ ss) tree schema all one = (all.0, are_schemas_more ts ss tree schema all.1 one)

module _ (word : List ℕ) where
  -- the schemas of the first sections were read, and the sections that are left fit
  pub record SchemasSoFar (all left : List Tree) (schemas : List Schema) : Type 0 where
    pub front : List Tree
    pub split : all ≡ front ++ left
    pub read : AreSchemasOf (headed word front) schemas
    pub fit : AllByRecursion (Fits role.DomainSection) left

  pub none_read : (all : List Tree) (schemas : List Schema) → schemas ≡ [] → AllByRecursion (Fits role.DomainSection) all → SchemasSoFar all all schemas
  none_read all schemas none fit = record { front = []; split = refl; read = subst (AreSchemasOf []) (sym none) tt; fit = fit }

  pub all_read : (all left : List Tree) (schemas : List Schema) → left ≡ [] → SchemasSoFar all left schemas → AreSchemasOf (headed word all) schemas
  all_read all left schemas none so_far =
      subst (λ trees. AreSchemasOf (headed word trees) schemas) (sym (so_far.split ∙ ap (λ ts. so_far.front ++ ts) none ∙ append-nil so_far.front)) so_far.read

  module _ (all : List Tree) (i : ℕ) (section : Tree) (below : i < length all) (at : section ≡ get_or all i section) where
    pub section_fits : (schemas : List Schema) → SchemasSoFar all (drop i all) schemas → Fits role.DomainSection section
    section_fits schemas so_far = (subst (AllByRecursion (Fits role.DomainSection)) (left_at all i section below at) so_far.fit).0

    along : (front : List Tree) → all ≡ front ++ drop i all → all ≡ (front ++ section ∷ []) ++ drop (i + 1) all
    along front split = split ∙ ap (λ ts. front ++ ts) (left_at all i section below at) ∙ sym (append_assoc front (section ∷ []) (drop (i + 1) all))

    with_one : (front : List Tree) (b : Bool) → has_head word section ≡ b → headed word (front ++ section ∷ []) ≡ headed word front ++ (if b then section ∷ [] else [])
    with_one front b has = filter-append (has_head word) front (section ∷ []) ∙ ap (λ h. headed word front ++ (if h then section ∷ [] else [])) has

    -- an action is read as one more schema
    pub one_more_read : (schemas more : List Schema) (schema : Schema) → more ≡ schemas ++ schema ∷ [] → has_head word section ≡ true → SchemasSoFar all (drop i all) schemas → IsSchemaOf section schema →
        SchemasSoFar all (drop (i + 1) all) more
    one_more_read schemas more schema grown has so_far one = record {
      front = so_far.front ++ section ∷ [];
      split = along so_far.front so_far.split;
      read =
          subst (AreSchemasOf (headed word (so_far.front ++ section ∷ []))) (sym grown)
          (subst (λ trees. AreSchemasOf trees (schemas ++ schema ∷ [])) (sym (with_one so_far.front true has)) (are_schemas_more (headed word so_far.front) schemas section schema so_far.read one));
      fit = (subst (AllByRecursion (Fits role.DomainSection)) (left_at all i section below at) so_far.fit).1;
    }

    -- another section is passed over
    pub passed_over : (schemas more : List Schema) → more ≡ schemas → has_head word section ≡ false → SchemasSoFar all (drop i all) schemas → SchemasSoFar all (drop (i + 1) all) more
    passed_over schemas more same has so_far = record {
      front = so_far.front ++ section ∷ [];
      split = along so_far.front so_far.split;
      read =
          subst (AreSchemasOf (headed word (so_far.front ++ section ∷ []))) (sym same)
          (subst (λ trees. AreSchemasOf trees schemas) (sym (with_one so_far.front false has ∙ append-nil (headed word so_far.front))) so_far.read);
      fit = (subst (AllByRecursion (Fits role.DomainSection)) (left_at all i section below at) so_far.fit).1;
    }
