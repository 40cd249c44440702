-- What the small cases come to
use Rattle.std.specs.Prelude.{true, false, Some, Ok, Err}
use Rattle.runs.specs.declared.refusal.Refusal.TheVariants.{DoesNotRun}
use Rattle.cases.specs.declared.table.LineCase.{LineCase}
use Rattle.cases.specs.declared.table.GateCase.{GateCase}
use Rattle.cases.specs.declared.table.CoveredCase.{CoveredCase}
use Rattle.cases.specs.declared.table.KeyCase.{KeyCase}
use Rattle.cases.specs.declared.table.ReleaseCase.{ReleaseCase}
use Rattle.cases.specs.declared.table.SmallCases.{SmallCases}

-- first-come counts places in line
abbrev pub line_table : LineCase
line_table = record { first = Some 0; second = Some 1; third = Some 2 }

-- at codes 30, 20, 10, 5 tasks 2 and 3 wait in the gate with count 3 each; task 3 goes below first
abbrev pub gate_table : GateCase
gate_table = record {
  told_two = Some 3;
  told_three = Some 3;
  first_holder = Some 1;
  three_in_gate = false;
  count_three = Some 1;
  count_two = Some 2;
  second_holder = Some 3;
  two_in_gate = false;
  count_two_below = Some 1;
  third_holder = Some 2;
}

-- at codes 5, 6 and 9 task 2 is covered and counts 1; one pass later it stands below and counts 1
abbrev pub covered_table : CoveredCase
covered_table = record { covered = true; count = Some 1; in_gate_after = false; count_after = Some 1 }

-- the greatest due tick, and the codes on either side of the edge between two bands
abbrev pub key_table : KeyCase
key_table = record { last_due = Some 8589934590; last_normal = Some 511; first_background = Some 512 }

-- task 0 is told 0 and holds; once task 1, due sooner, has the only core, task 0 cannot release
abbrev pub release_table : ReleaseCase
release_table = record { first_arrival = Ok tt; told = Ok 0; second_arrival = Ok tt; release = Err DoesNotRun; release_number = Some 7 }

-- all of them
abbrev pub the_table : SmallCases
the_table = record { line = line_table; gate = gate_table; covered = covered_table; key = key_table; release = release_table }
