use Rattle.fond_text.proofs.Adding.{adds_same, adds_then}
use Rattle.fond_commands.proofs.rejection.put_fault.Goals as goal

pub returns : goal.returns
returns c =
    let two = adds_then _ _ _ _ _ c.add.ensures (adds_same _ _ _ _ c.file_word.ensures c.add-2.ensures) in
    let four = adds_then _ _ _ _ _ (adds_then _ _ _ _ _ two c.add-3.ensures) c.add_number.ensures in
    let six = adds_then _ _ _ _ _ (adds_then _ _ _ _ _ four c.add-4.ensures) c.add_number-2.ensures in
    adds_then _ _ _ _ _ (adds_then _ _ _ _ _ six c.add-5.ensures) c.add_number-3.ensures
