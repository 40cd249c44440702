use Rattle.std.proofs.Common.{refl}
use Rattle.orders.specs.Counting.{most}
use Rattle.gated_line.proofs.Sim.{sim_new, sim_below, sim_gate, sim_moved, sim_none, sim_holder, sim_out, sim_count_below, sim_count_gate}
use Rattle.cases.proofs.run.gate_case.Goals as goal

pub returns : goal.returns
unfolding most
returns c =
    let s0 = sim_new c.gated_line-gate.ensures.empty refl in
    let s1 = sim_below s0 refl 0 30 c.admit.ensures refl refl refl refl in
    let s2 = sim_below s1 refl 1 20 c.admit-2.ensures refl refl refl refl in
    let s3 = sim_gate s2 refl 2 10 c.admit-3.ensures refl refl refl refl in
    let a3 = sim_count_gate s3 refl 2 refl refl refl c.count-told_two.ensures in
    let s4 = sim_gate s3 refl 3 5 c.admit-4.ensures refl refl refl refl in
    let a4 = sim_count_gate s4 refl 3 refl refl refl c.count-told_three.ensures in
    let s5 = sim_moved s4 refl c.pass.ensures 3 refl refl refl refl refl refl refl in
    let a5 = sim_holder s5 refl c.holder-first_holder.ensures in
    let b5 = sim_out s5 refl 3 refl c.in_gate-three_in_gate.ensures in
    let c5 = sim_count_below s5 refl 3 refl c.count-count_three.ensures in
    let d5 = sim_count_gate s5 refl 2 refl refl refl c.count-count_two.ensures in
    let s6 = sim_moved s5 refl c.pass-2.ensures 2 refl refl refl refl refl refl refl in
    let a6 = sim_holder s6 refl c.holder-second_holder.ensures in
    let b6 = sim_out s6 refl 2 refl c.in_gate-two_in_gate.ensures in
    let c6 = sim_count_below s6 refl 2 refl c.count-count_two_below.ensures in
    let s7 = sim_none s6 refl c.pass-3.ensures refl in
    let a7 = sim_holder s7 refl c.holder-third_holder.ensures in
    rw (a3, a4, a5, b5, c5, d5, a6, b6, c6, a7)
