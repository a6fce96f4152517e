use Rattle.std.proofs.Common.{◌≡◌, ◌≢◌, ℕ, List, Bool, true, false, not, Some, None, take, sym, ap, ◌∙◌, refl}
use Rattle.std.specs.Str.{bytes_eq}
use Rattle.std.specs.Cmp.Lexicographic.{bytes_decides}
use Rattle.fond_kinds.specs.Kinds.{only_kind, type_of}
use Rattle.fond_kinds.specs.Tables.{IsChangeAt}
use Rattle.fond_kinds.proofs.Changes.{earlier_first, none_earlier}
use Rattle.fond_kinds.proofs.fault.differs.Goals as goal

pub returns-then-first-i : goal.returns-then-first-i
returns-then-first-i c = (
  (λ off. cc),
  λ change.
      let none = none_earlier c.args.table.now.types.now c.args.i c.args.declared.now c.requires.there c.requires.on c.args.first c.requires.first c.if-first-i.true in
      let (empty, some) = change in let (first, found, other) = some in
      let clash : None ≡ Some first = sym none ∙ found in cc,
)

-- whether texts differ
differ : (a b : List ℕ) → not (bytes_eq a b) ≡ true → a ≢ b
differ a b on same = let both : bytes_eq a b ≡ true = (bytes_decides a b).1 same in let off : false ≡ true = ap not (sym both) ∙ on in cc

differs : (a b : List ℕ) → a ≢ b → not (bytes_eq a b) ≡ true
differs a b other = by (bytes_eq a b) refl
  where
    by : (x : Bool) → bytes_eq a b ≡ x → not x ≡ true
    by true on = absurd (other ((bytes_decides a b).0 on))
    by false off = refl

pub returns : goal.returns
returns c =
    let first = earlier_first c.args.table.now.types.now c.args.i c.args.declared.now c.requires.there c.requires.on c.args.first c.requires.first c.if-first-i.false ∙ c.get.ensures in
    let test : c.ne.result ≡ not (bytes_eq (only_kind c.get.result.now) (only_kind c.args.declared.now)) =
    c.ne.ensures ∙ ap (λ z. not (bytes_eq z c.only_kind-2.result.now)) c.only_kind.ensures ∙ ap (λ z. not (bytes_eq (only_kind c.get.result.now) z)) c.only_kind-2.ensures in
    ((λ on. (c.requires.on, (c.get.result.now, first, differ (only_kind c.get.result.now) (only_kind c.args.declared.now) (sym test ∙ on)))), λ change. by change first test)
  where
    by : IsChangeAt c.args.table.now.types.now c.args.i c.args.declared.now → type_of (take c.args.i c.args.table.now.types.now) c.args.declared.now.name ≡ Some c.get.result.now
        → c.ne.result ≡ not (bytes_eq (only_kind c.get.result.now) (only_kind c.args.declared.now)) → c.ne.result ≡ true
    by (on, some) first test =
        let (other, found, differ) = some in
        let both : Some c.get.result.now ≡ Some other = sym first ∙ found in
        let same : c.get.result.now ≡ other = cc in
        test ∙ differs (only_kind c.get.result.now) (only_kind c.args.declared.now) (λ equal. differ (ap only_kind (sym same) ∙ equal))
