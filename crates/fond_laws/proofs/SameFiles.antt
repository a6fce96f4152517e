-- Files that are the same have the same faults of names, and trees that are alike the same faults of form.
use Rattle.std.proofs.Common.{◌≡◌, ◌⊎◌, inl, inr, ℕ, ◌∙◌, Bool, true, false, List, [], ◌∷◌, ◌++◌, Contains, Some, if◌then◌else◌, find, length, map, refl, sym, ap, subst}
use Rattle.std.specs.List.{AllZip}
use Rattle.std.specs.Str.{bytes_eq}
use Rattle.std.proofs.lemmas.Bool.{cond-true, cond-false}
use Rattle.std.proofs.lemmas.Option.{none-some, same_Some}
use Rattle.fond_text.specs.declared.place.FileKind.{FileKind}
use Rattle.fond_text.specs.declared.place.FileKind.TheVariants as kind
use Rattle.fond_text.specs.declared.place.Place.{Place}
use Rattle.fond_ast.specs.declared.files.Declared.{Declared}
use Rattle.fond_ast.specs.declared.files.Pattern.{Pattern}
use Rattle.fond_ast.specs.declared.files.Schema.{Schema}
use Rattle.fond_ast.specs.declared.files.Side.{Side}
use Rattle.fond_ast.specs.declared.names.ReadAtom.{ReadAtom}
use Rattle.fond_ast.specs.declared.names.Term.{Term}
use Rattle.fond_ast.specs.declared.names.TypedName.{TypedName}
use Rattle.fond_kinds.specs.Faults.{StandsInKinds}
use Rattle.fond_kinds.specs.Kinds.{are_types, Fit}
use Rattle.fond_tree.specs.Alike.{IsAlike}
use Rattle.fond_tree.specs.declared.tree.Tree.{Tree}
use Rattle.fond_tree.specs.FormFaults.{StandsInDomain, StandsInProblem}
use Rattle.fond_tree.specs.declared.role.Role.TheVariants.{Atom, DomainFile, ProblemFile}
use Rattle.fond_names.specs.Faults.{declaration_of, HasMismatch, HasUnknownObject, HasUnknownType, HasWrongCount, IsRepeatedObject, IsRepeatedPredicate, IsRepeatedSchema, IsUnknownSchema, IsUnknownTerm, OccursAmong, OccursAt, StandsInNames}
use Rattle.fond_names.specs.Names.{Declarations, first_of, is_among, predicate_of, schema_leaves, schema_names}
use Rattle.fond_names.specs.Sites.{Scope, Site, variable_of, AnAtom, AnEquality, AList, domain_sites, problem_sites}
use Rattle.fond_reader.specs.Sides.{StandsInSide}
use Rattle.fond_laws.specs.Read.{AreSameFiles, IsSameWritten}
use Rattle.fond_laws.proofs.OneReading.{nodes_alike}
use Rattle.fond_laws.proofs.OneReadingAlike.{AreAlikeTrees}
use Rattle.fond_laws.proofs.SameForms.{same_form}
use Rattle.fond_laws.proofs.SameLists.{zip-has, zip-images, zip-somewhere}
use Rattle.fond_laws.proofs.SameSites.{same_domain_sites, same_problem_sites}

-- schemas that are the same have the same names
same_names : (schemas others : List Schema) → AllZip IsSameWritten schemas others → map (λ schema. schema.name) schemas ≡ map (λ schema. schema.name) others
same_names = zip-images IsSameWritten (λ schema. schema.name) (λ schema. schema.name) (λ schema other same. same.named)

-- the first schema of a name is the same
same_schema_of : (name : List ℕ) (schemas others : List Schema) → AllZip IsSameWritten schemas others → (schema : Schema) → find (λ one. bytes_eq one.name name) schemas ≡ Some schema →
    (twin : Schema) × (find (λ one. bytes_eq one.name name) others ≡ Some twin) × IsSameWritten schema twin
same_schema_of name [] [] same schema is = absurd (none-some schema is)
same_schema_of name [] (other ∷ others) same schema is = absurd same
same_schema_of name (one ∷ schemas) [] same schema is = absurd same
same_schema_of name (one ∷ schemas) (other ∷ others) same schema is = from (bytes_eq one.name name) refl (same_schema_of name schemas others same.1 schema)
  where
    from : (b : Bool) → bytes_eq one.name name ≡ b →
        (find (λ one. bytes_eq one.name name) schemas ≡ Some schema → (twin : Schema) × (find (λ one. bytes_eq one.name name) others ≡ Some twin) × IsSameWritten schema twin) →
        (twin : Schema) × (find (λ one. bytes_eq one.name name) (other ∷ others) ≡ Some twin) × IsSameWritten schema twin
    from true e later =
        let alike : bytes_eq other.name name ≡ true = ap (λ n. bytes_eq n name) (sym same.0.named) ∙ e in
        let it : one ≡ schema = same_Some one schema (sym (cond-true _ _ _ e) ∙ is) in
        (other, cond-true _ _ _ alike, subst (λ (some : Schema). IsSameWritten some other) it same.0)
    from false e later =
        let alike : bytes_eq other.name name ≡ false = ap (λ n. bytes_eq n name) (sym same.0.named) ∙ e in
        let rest = later (sym (cond-false _ _ _ e) ∙ is) in
        (rest.0, cond-false _ _ _ alike ∙ rest.1, rest.2)

module _ (files others : Declarations) (same : AreSameFiles files others) where
  -- a name of a predicate is declared alike
  same_predicate : (name : List ℕ) → predicate_of files.domain name ≡ predicate_of others.domain name
  same_predicate name = ap (find (λ declared. bytes_eq declared.name name)) same.domain.predicates

  -- a term is declared alike
  same_declaration : (around : Scope) (term : Term) → declaration_of files around term ≡ declaration_of others around term
  same_declaration around term =
      λ i. if term.variable then variable_of around term.name else first_of (same.domain.constants i ++ same.problem.objects i) term.name

  -- an argument that does not fit does not fit in the other files
  mismatch : (around : Scope) (atom : ReadAtom) (place : Place) (code : ℕ) → HasMismatch files around atom place code → HasMismatch others around atom place code
  mismatch around atom place code is = record {
    predicate = is.predicate;
    named = sym (same_predicate atom.name) ∙ is.named;
    at = is.at;
    argument = is.argument;
    has_argument = is.has_argument;
    parameter = is.parameter;
    has_parameter = is.has_parameter;
    declared = is.declared;
    known = sym (same_declaration around is.argument) ∙ is.known;
    has_types = subst (λ (types : List TypedName). are_types types is.declared.kinds ≡ true) same.domain.kinds is.has_types;
    parameter_has_types = subst (λ (types : List TypedName). are_types types is.parameter.kinds ≡ true) same.domain.kinds is.parameter_has_types;
    misfit = subst (λ (types : List TypedName). ¬ Fit types is.declared.kinds is.parameter.kinds) same.domain.kinds is.misfit;
    place_is = is.place_is;
    coded = is.coded;
  }

  -- a term that is unknown is unknown in the other files
  unknown_term : (around : Scope) (term : Term) (place : Place) (code : ℕ) → IsUnknownTerm files around term place code → IsUnknownTerm others around term place code
  unknown_term around term place code is = (sym (same_declaration around term) ∙ is.0, is.1, is.2)

  -- a fault of names at a site is one in the other files
  at_site : (place : Place) (code : ℕ) (site : Site) → OccursAt files place code site → OccursAt others place code site
  at_site place code (AnAtom around atom) (inl is) = inl (sym (same_predicate atom.name) ∙ is.0, is.1, is.2)
  at_site place code (AnAtom around atom) (inr (inl is)) = inr (inl (is.0, sym (same_predicate atom.name) ∙ is.1, is.2, is.3, is.4))
  at_site place code (AnAtom around atom) (inr (inr (inl is))) = inr (inr (inl (mismatch around atom place code is)))
  at_site place code (AnAtom around atom) (inr (inr (inr is))) = inr (inr (inr (is.0, is.1, unknown_term around is.0 place code is.2)))
  at_site place code (AnEquality around term other) (inl is) = inl (unknown_term around term place code is)
  at_site place code (AnEquality around term other) (inr is) = inr (unknown_term around other place code is)
  at_site place code (AList names) (inl is) = inl (subst (λ (types : List TypedName). HasUnknownType types names place code) same.domain.kinds is)
  at_site place code (AList names) (inr is) = inr is

  -- a fault of names at some of the sites is one in the other files
  among_sites : (sites more : List Site) (place : Place) (code : ℕ) → sites ≡ more → OccursAmong files sites place code → OccursAmong others more place code
  among_sites sites more place code e is = (is.0, subst (λ (some : List Site). Contains some is.0) e is.1, at_site place code is.0 is.2)

  -- a type that is not declared is not declared in the other files
  unknown_type : (names more : List TypedName) (place : Place) (code : ℕ) → names ≡ more → HasUnknownType files.domain.kinds names place code → HasUnknownType others.domain.kinds more place code
  unknown_type names more place code e is = subst (λ (some : List TypedName). HasUnknownType others.domain.kinds some place code) e (subst (λ (types : List TypedName). HasUnknownType types names place code) same.domain.kinds is)

  -- a schema that has the name of an earlier one is the same as such a schema of the other files
  repeated_schema : (place : Place) (code : ℕ) → IsRepeatedSchema files.domain.schemas place code → IsRepeatedSchema others.domain.schemas place code
  repeated_schema place code is = (
    zip-somewhere IsSameWritten
        (λ before schema. (is_among (map (λ other. other.name) before) schema.name ≡ true) × (place ≡ schema.place))
        (λ before schema. (is_among (map (λ other. other.name) before) schema.name ≡ true) × (place ≡ schema.place))
        (λ before front schema twin alike also has. (sym (λ i. is_among (same_names before front alike i) (also.named i)) ∙ has.0, has.1 ∙ also.place))
        files.domain.schemas others.domain.schemas same.domain.schemas is.0,
    is.1,
  )

  -- a fault in the terms of a pattern is one in the other files
  faulty_pattern : (pattern : Pattern) (place : Place) (code : ℕ) → HasWrongCount files.domain pattern place code ⊎ HasUnknownObject files pattern place code → HasWrongCount others.domain pattern place code ⊎ HasUnknownObject others pattern place code
  faulty_pattern pattern place code (inl is) =
      let twin = same_schema_of pattern.schema.name files.domain.schemas others.domain.schemas same.domain.schemas is.0 is.1 in
      inl (twin.0, twin.1, (λ counted. is.2 (counted ∙ ap length (sym twin.2.parameters))), is.3, is.4)
  faulty_pattern pattern place code (inr is) =
      inr (is.0, is.1, is.2, sym (λ i. first_of (same.domain.constants i ++ same.problem.objects i) is.0.name) ∙ is.3, is.4, is.5)

  -- a fault of names in one of the files is one in the other files
  names_faults : (file : FileKind) (place : Place) (code : ℕ) → StandsInNames files file place code → StandsInNames others file place code
  names_faults kind.Domain place code (inl is) = inl (subst (λ (types : List TypedName). StandsInKinds types place code) same.domain.kinds is)
  names_faults kind.Domain place code (inr (inl is)) = inr (inl (unknown_type files.domain.constants others.domain.constants place code same.domain.constants is))
  names_faults kind.Domain place code (inr (inr (inl is))) = inr (inr (inl (subst (λ (objects : List TypedName). IsRepeatedObject [] objects place code) same.domain.constants is)))
  names_faults kind.Domain place code (inr (inr (inr (inl is)))) =
      inr (inr (inr (inl (is.0, subst (λ (predicates : List Declared). Contains predicates is.0) same.domain.predicates is.1, subst (λ (types : List TypedName). HasUnknownType types is.0.parameters place code) same.domain.kinds is.2))))
  names_faults kind.Domain place code (inr (inr (inr (inr (inl is))))) = inr (inr (inr (inr (inl (subst (λ (predicates : List Declared). IsRepeatedPredicate predicates place code) same.domain.predicates is)))))
  names_faults kind.Domain place code (inr (inr (inr (inr (inr (inl is)))))) = inr (inr (inr (inr (inr (inl (repeated_schema place code is))))))
  names_faults kind.Domain place code (inr (inr (inr (inr (inr (inr is)))))) =
      inr (inr (inr (inr (inr (inr (among_sites (domain_sites files.domain) (domain_sites others.domain) place code (same_domain_sites files.domain others.domain same.domain) is))))))
  names_faults kind.Problem place code (inl is) = inl (unknown_type files.problem.objects others.problem.objects place code same.problem.objects is)
  names_faults kind.Problem place code (inr (inl is)) =
      inr (inl (subst (λ (objects : List TypedName). IsRepeatedObject others.domain.constants objects place code) same.problem.objects
      (subst (λ (earlier : List TypedName). IsRepeatedObject earlier files.problem.objects place code) same.domain.constants is)))
  names_faults kind.Problem place code (inr (inr is)) = inr (inr (among_sites (problem_sites files.problem) (problem_sites others.problem) place code (same_problem_sites files.problem others.problem same.problem) is))
  names_faults kind.Side place code (inl is) =
      inl (subst (λ (side : Side). IsUnknownSchema (schema_names others.domain) (schema_leaves side) place code) same.side
      (subst (λ (names : List (List ℕ)). IsUnknownSchema names (schema_leaves files.side) place code) (same_names files.domain.schemas others.domain.schemas same.domain.schemas) is))
  names_faults kind.Side place code (inr is) = inr (is.0, subst (λ (side : Side). Contains side.patterns is.0) same.side is.1, faulty_pattern is.0 place code is.2)

-- files that are the same have the same faults of names
pub same_names_faults : (files others : Declarations) → AreSameFiles files others → (file : FileKind) (place : Place) (code : ℕ) → StandsInNames files file place code → StandsInNames others file place code
same_names_faults = names_faults

-- domains and problems that are alike have the same faults of form
pub same_form_faults : (tree alike : Tree) → IsAlike tree alike → (place : Place) (code : ℕ) → (StandsInDomain tree place code → StandsInDomain alike place code) × (StandsInProblem tree place code → StandsInProblem alike place code)
same_form_faults tree alike like place code = (same_form DomainFile tree alike like place code, same_form ProblemFile tree alike like place code)

-- side lists of trees that are alike have the same faults of form
pub same_side_faults : (trees others : List Tree) → AreAlikeTrees trees others → (place : Place) (code : ℕ) → StandsInSide trees place code → StandsInSide others place code
same_side_faults trees others like place code is =
    let twin = zip-has IsAlike _ _ (nodes_alike trees others like) is.0 is.1 in
    (twin.0, twin.1, same_form Atom is.0 twin.0 twin.2 place code is.2)
