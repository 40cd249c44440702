use Rattle.std.proofs.Common.{refl}
use Rattle.orders.specs.Counting.{most, every}
use Rattle.gated_line.proofs.Sim.{sim_new, sim_below, sim_gate, sim_moved, sim_covered, sim_out, sim_count_below, sim_count_gate}
use Rattle.cases.proofs.run.covered_case.Goals as goal

pub returns : goal.returns
unfolding most every
returns c =
    let s0 = sim_new c.gated_line-gate.ensures.empty refl in
    let s1 = sim_below s0 refl 0 5 c.admit.ensures refl refl refl refl in
    let s2 = sim_below s1 refl 1 6 c.admit-2.ensures refl refl refl refl in
    let s3 = sim_gate s2 refl 2 9 c.admit-3.ensures refl refl refl refl in
    let a3 = sim_covered s3 refl 2 refl refl refl c.covered-covered.ensures in
    let b3 = sim_count_gate s3 refl 2 refl refl refl c.count-count.ensures in
    let s4 = sim_moved s3 refl c.pass.ensures 2 refl refl refl refl refl refl refl in
    let a4 = sim_out s4 refl 2 refl c.in_gate-in_gate_after.ensures in
    let b4 = sim_count_below s4 refl 2 refl c.count-count_after.ensures in
    rw (a3, b3, a4, b4)
