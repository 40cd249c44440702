use Rattle.std.proofs.Common.{◌≡◌, ◌+◌, ◌<◌, length, drop, rules, arith}
use Rattle.std.proofs.lemmas.Grind.{common_steps}
use Rattle.event_text.proofs.Lined.{first_line}
use Rattle.event_text.proofs.lines.cut_line.Goals as goal

pub returns : goal.returns
returns c =
    let rest : c.unwrap_or.result.now ≡ drop (c.place_of-end.result + 1) c.args.bytes.now = grind (arith, common_steps) in
    let some : 0 < length c.args.bytes.now = search rules in
    rw rest (first_line c.args.bytes.now c.place_of-end.result c.place_of-end.ensures.place some)
