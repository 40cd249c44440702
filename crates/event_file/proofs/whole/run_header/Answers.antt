use Rattle.gated_line.specs.GatedLine.{line_order, gated_order}
use Rattle.fields.specs.Cutting.{lines}
use Rattle.event_text.specs.declared.heading.OrderWord.TheVariants.{Fifo, Gate}
use Rattle.event_file.specs.Files.{Keyed, Chosen}
use Rattle.event_file.proofs.Choosing.{made_into, by_order, new_line}
use Rattle.event_file.proofs.whole.run_header.Goals as goal

pub returns-in-Fifo : goal.returns-in-Fifo
returns-in-Fifo c =
    let h = c.args.header in
    let s = c.new.result in
    let ls = lines c.args.rest.now in
    by_order h.order Fifo h.key h.cores h.tasks h.resources ls c.run_over.result c.in-Fifo.is
    (made_into (Keyed line_order h.key h.cores h.tasks h.resources s ls) (Chosen Fifo h.key h.cores h.tasks h.resources ls) c.run_over.result (λ rep p. (s, new_line h.cores s c.new.ensures.width c.new.ensures.places c.new.ensures.lines, p)) c.run_over.ensures)

pub returns-in-Gate : goal.returns-in-Gate
returns-in-Gate c =
    let h = c.args.header in
    let s = c.gated_line.result in
    let ls = lines c.args.rest.now in
    by_order h.order Gate h.key h.cores h.tasks h.resources ls c.run_over-in-Gate.result c.in-Gate.is
    (made_into (Keyed gated_order h.key h.cores h.tasks h.resources s ls) (Chosen Gate h.key h.cores h.tasks h.resources ls) c.run_over-in-Gate.result (λ rep p. (s, c.gated_line.ensures.empty, p)) c.run_over-in-Gate.ensures)
