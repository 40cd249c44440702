use Rattle.std.proofs.Common.{refl}
use Rattle.gated_line.proofs.Lines.{line_new, line_admit, line_count}
use Rattle.cases.proofs.run.line_case.Goals as goal

pub returns : goal.returns
returns c =
    let n = c.new-line.ensures in
    let l0 = line_new n.width n.places n.lines in
    let l1 = line_admit 0 7 l0 c.admit.ensures refl refl refl in
    let l2 = line_admit 1 7 l1 c.admit-2.ensures refl refl refl in
    let l3 = line_admit 2 7 l2 c.admit-3.ensures refl refl refl in
    let a = line_count 0 l3 c.count-first.ensures in
    let b = line_count 1 l3 c.count-second.ensures in
    let d = line_count 2 l3 c.count-third.ensures in
    rw (a, b, d)
