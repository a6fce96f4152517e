use Rattle.std.proofs.Common.{◌≡◌, not, nat_eq, length, sym}
use Rattle.fond_names.proofs.PatternFaults.{count_if_told}
use Rattle.fond_names.proofs.patterns.wrong_count.Goals as goal

pub returns-in-Some : goal.returns-in-Some
returns-in-Some c =
    let pattern = c.args.pattern.now in
    let schema = c.in-Some.schema.now in
    let wrong = not (nat_eq c.len.result c.len-in-Some.result) in
    let told : wrong ≡ not (nat_eq (length pattern.terms) (length schema.parameters)) = λ i. not (nat_eq (c.len.ensures i) (c.len-in-Some.ensures i)) in
    count_if_told c.args.files.now.domain.now pattern schema (sym c.in-Some.ensures) wrong told c.found_if.result c.found_if.ensures
