use Rattle.std.proofs.Common.{◌≡◌, ◌&&◌, true, Some, sym, ap, ◌∙◌}
use Rattle.std.proofs.lemmas.Bool.Decides.{same_from_decides}
use Rattle.fond_kinds.specs.Kinds.{is_type}
use Rattle.fond_kinds.specs.Tables.{number_of}
use Rattle.fond_names.specs.Subtypes.{is_subtype}
use Rattle.fond_names.proofs.Ancestors.{subtype_decides}
use Rattle.fond_names.proofs.types.is_below.Goals as goal

pub returns-in-Some-Some : goal.returns-in-Some-Some
returns-in-Some-Some c =
    let types = c.args.types.now.types.now in
    let name = c.args.name.now in
    let other = c.args.other.now in
    let one : Some c.in-Some-Some.number ≡ number_of types name = c.in-Some-Some.ensures.numbered ∙ ap (number_of types) c.bytes.ensures.value in
    let two : Some c.in-Some-Some.above ≡ number_of types other = c.in-Some-Some.ensures'.numbered ∙ ap (number_of types) c.bytes-2.ensures.value in
    let first : true ≡ is_type types name = c.in-Some-Some.ensures.known ∙ ap (is_type types) c.bytes.ensures.value in
    let second : true ≡ is_type types other = c.in-Some-Some.ensures'.known ∙ ap (is_type types) c.bytes-2.ensures.value in
    let known : true ≡ (is_type types name && is_type types other) = λ i. first i && second i in
    same_from_decides c.is_subtype.result (is_subtype types name other) (c.is_subtype.ensures name other (sym one) (sym two)) (subtype_decides types name other)
    ∙ ap (λ b. b && is_subtype types name other) known
