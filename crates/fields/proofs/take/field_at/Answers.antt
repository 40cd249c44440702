use Rattle.std.proofs.Common.{true, false, sym, arith}
use Rattle.field_names.specs.Names.{name_text}
use Rattle.field_names.proofs.Afters.{after_whole}
use Rattle.fields.proofs.Takes.{taken}
use Rattle.fields.proofs.take.field_at.Goals as goal

pub slice_bounds-name-count : goal.slice_bounds-name-count
slice_bounds-name-count c = omega (arith, after_whole (name_text c.args.wanted) c.part_at-part.result.now c.in_ok-value.value.now (sym c.in_ok-value.ensures))

pub returns-then-is_number : goal.returns-then-is_number
returns-then-is_number c = taken c.args.line.now c.args.at c.args.wanted c.part_at-part.result.now c.part_at-part.ensures c.in_ok-value.value.now true c.in_ok-value.ensures c.if-is_number.ensures

pub returns-else-is_number : goal.returns-else-is_number
returns-else-is_number c = taken c.args.line.now c.args.at c.args.wanted c.part_at-part.result.now c.part_at-part.ensures c.in_ok-value.value.now false c.in_ok-value.ensures c.if-is_number.ensures
