use Rattle.std.proofs.Common.{◌≡◌, ◌++◌, ◌∷◌, [], List, take, sym, ap, ◌∙◌}
use Rattle.std.proofs.lemmas.List.{map-append}
use Rattle.fond_ast.specs.declared.names.Kind.{Kind}
use Rattle.fond_names.specs.Same.{kind_names}
use Rattle.fond_names.proofs.Among.{next_taken}
use Rattle.fond_names.proofs.Differs.{same_bytes}
use Rattle.fond_types.proofs.ranges.are_names_of.Goals as goal

pub loop-i-preserved : goal.loop-i-preserved
loop-i-preserved c =
    let names = c.args.names.now in
    let kinds = c.args.kinds.now in
    let i = c.loop-i.i in
    let kind = c.get-in-loop-i.result.now in
    let own : c.get.result.now ≡ kind.name =
    sym c.bytes.ensures.value ∙ same_bytes c.bytes.result.now c.bytes-in-loop-i.result.now c.if-ne.ensures ∙ c.bytes-in-loop-i.ensures.value in
    record {
      same = next_taken names i c.get.result.now c.get.ensures ∙ (λ k. c.loop-i.invariant.same k ++ own k ∷ [])
          ∙ sym (map-append (λ (one : Kind). one.name) (take i kinds) (kind ∷ [])) ∙ ap (λ (some : List Kind). kind_names some) (sym (next_taken kinds i kind c.get-in-loop-i.ensures));
      long = c.loop-i.invariant.long;
    }
